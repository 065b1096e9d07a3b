-- The rows of a board's critical links: bit q of row p is set exactly where one leads from p to q, and turned round.
-- Assumes nothing.
use mathlib.Core.Path.{◌≡◌, sym, ap, ◌∙◌}
use mathlib.Core.Bool.{Bool}
use mathlib.Core.List.{List}
use Prim.Native.Nat.{ℕ, ◌≤◌, min}
use lib.ListN.{length, get_or}
use lib.Seq.{ext_get_or}
use Rattle.base.proofs.Cases.{finished}
use Rattle.marks.specs.Marks.{Exactly}
use Rattle.marks.proofs.Bits.{exactly_once}
use Rattle.board.specs.declared.Board.{Board}
use Rattle.budget.specs.declared.Budget.{Budget}
use Rattle.board.specs.Board.{link_at}
use Rattle.kin.specs.declared.Rows.{Rows}
use Rattle.kin.specs.Critical.{criticalb, Critical, CriticalRows}
use Rattle.marks.proofs.Rows.{Entry, marks_room, marks_fit, mark_entry, entry_mark}
use Rattle.kin.specs.Steps.{rows_up_to}
use Rattle.kin.proofs.CriticalLaws.{Meets, critical_meets, critical_at_lem, at_critical}

-- ---- rows of the same marks are the same
rows_same : (R : ℕ → ℕ → Type 0) (a c : List ℕ) → length a ≡ 64 → length c ≡ 64 → ((p : ℕ) → Exactly (R p) (get_or a p 0)) → ((p : ℕ) → Exactly (R p) (get_or c p 0)) → a ≡ c
rows_same R a c ra rc ea ec = ext_get_or 0 a c (ra ∙ sym rc) (λ p h. exactly_once (R p) (get_or a p 0) (get_or c p 0) (ea p) (ec p))

pub rows_once : (b : Board) (held : Budget) (t u : Rows) → CriticalRows b held t → CriticalRows b held u → t ≡ u
rows_once b held t u x y =
    let down : t.down ≡ u.down = rows_same (λ p q. Critical b held p q) t.down u.down x.down_room y.down_room x.down y.down in
    let up : t.up ≡ u.up = rows_same (λ q p. Critical b held p q) t.up u.up x.up_room y.up_room x.up y.up in
    ap (λ (r : List ℕ). record { down = r; up = t.up }) down ∙ ap (λ (r : List ℕ). record { down = u.down; up = r }) up

-- ---- the rows of a board
module _ (b : Board) (held : Budget) where
  abbrev passes : ℕ → Bool
  passes l = criticalb held (link_at b l)

  abbrev first : ℕ → ℕ
  first l = (link_at b l).from

  abbrev second : ℕ → ℕ
  second l = (link_at b l).to

  abbrev all : ℕ
  all = min b.links 256

  down_is : (p : ℕ) → Exactly (λ q. Critical b held p q) (get_or (rows_up_to b held all).down p 0)
  unfolding rows_up_to
  down_is p = record {
    fits = marks_fit passes first second all p;
    marked = λ q h. let e : Entry passes first second all p q = mark_entry passes first second all p q h in record { link = e.link; from = e.leaves; to = e.enters; critical = critical_at_lem b held e.link e.here e.passes };
    all = λ q c.
        let at = at_critical b held c.link c.critical in
        let m : Meets held (link_at b c.link) = critical_meets held (link_at b c.link) at.1 in
        rw (← c.from, ← c.to) (entry_mark passes first second all c.link at.0 at.1 m.from_in m.to_in);
  }

  up_is : (q : ℕ) → Exactly (λ p. Critical b held p q) (get_or (rows_up_to b held all).up q 0)
  unfolding rows_up_to
  up_is q = record {
    fits = marks_fit passes second first all q;
    marked = λ p h. let e : Entry passes second first all q p = mark_entry passes second first all q p h in record { link = e.link; from = e.enters; to = e.leaves; critical = critical_at_lem b held e.link e.here e.passes };
    all = λ p c.
        let at = at_critical b held c.link c.critical in
        let m : Meets held (link_at b c.link) = critical_meets held (link_at b c.link) at.1 in
        rw (← c.from, ← c.to) (entry_mark passes second first all c.link at.0 at.1 m.to_in m.from_in);
  }

  pub rows_critical : CriticalRows b held (rows_up_to b held all)
  unfolding rows_up_to
  rows_critical =
      record { down = down_is; up = up_is; down_room = marks_room passes first second all; up_room = marks_room passes second first all }

  pub rows_done : (t : Rows) (k n : ℕ) → n ≡ min b.links 256 → k ≤ n → n ≤ k → t ≡ rows_up_to b held k → CriticalRows b held t
  rows_done t k n e l h is = let done : t ≡ rows_up_to b held n = finished (rows_up_to b held) l h is in rw (done, e) rows_critical
