-- The ways through the functions of this crate, in plain values; the two steps' are in `Turns`.
-- Assumes nothing.
use mathlib.Core.Path.{◌≡◌, refl, sym, ◌∙◌}
use mathlib.Core.Bool.{Bool, true, false}
use mathlib.Core.List.{List}
use Prim.Native.Nat.{ℕ, ◌+◌, ◌≤◌, ◌<◌, min}
use native.Mathlib.Numerals.{add-one}
use lib.Dec.{eqb}
use lib.ListN.{get_or, replicate}
use borrow.Author.Tests.{lt-ltb, le-ltb}
use Rattle.base.specs.Pick.{pick}
use Rattle.base.proofs.Cases.{finished}
use Rattle.curve.specs.declared.Ticks.{Ticks}
use Rattle.curve.specs.Rows.{ticks_at}
use Rattle.marks.specs.Marks.{has_of, union_of}
use Rattle.board.specs.declared.Link.{Link}
use Rattle.board.specs.declared.Board.{Board}
use Rattle.budget.specs.declared.Budget.{Budget}
use Rattle.board.specs.Board.{link_at, delay_of}
use Rattle.kin.specs.declared.Rows.{Rows}
use Rattle.kin.specs.Critical.{criticalb, critical_at}
use Rattle.marks.specs.Rows.{no_rows, with_mark, marks_up_to}
use Rattle.kin.specs.Steps.{rows_up_to, joined_of, gathered_up_to, gathered_of}

-- ---- `critical`
module _ (held : Budget) (l : Link) where
  pub from_past : 64 ≤ l.from → false ≡ criticalb held l
  unfolding criticalb pick
  from_past h = rw (le-ltb l.from 64 h)

  pub to_past : l.from < 64 → 64 ≤ l.to → false ≡ criticalb held l
  unfolding criticalb pick
  to_past h g = rw (lt-ltb l.from 64 h, le-ltb l.to 64 g)

  critical_by : l.from < 64 → l.to < 64 → criticalb held l ≡ eqb (ticks_at held.end l.from + delay_of l) (ticks_at held.start l.to)
  unfolding criticalb pick
  critical_by h g = rw (lt-ltb l.from 64 h, lt-ltb l.to 64 g)

  pub compared : (w : Ticks) (t : Bool) → l.from < 64 → l.to < 64 → w.0 ≡ delay_of l
      → t ≡ eqb (ticks_at held.end l.from + w.0) (ticks_at held.start l.to) → t ≡ criticalb held l
  compared w t h g e is = is ∙ rw e (sym (critical_by h g))

-- ---- `link_is_critical`
module _ (b : Board) (held : Budget) (n l : ℕ) (links : n ≡ min b.links 256) where
  pub no_such_link : n ≤ l → false ≡ critical_at b held l
  unfolding critical_at pick
  no_such_link h = rw (← links, le-ltb l n h)

  pub such_link : (t : Bool) → l < n → t ≡ criticalb held (link_at b l) → t ≡ critical_at b held l
  unfolding critical_at pick
  such_link t h is = rw (← links, lt-ltb l n h) is

-- ---- `critical_rows`
module _ (b : Board) (held : Budget) where
  pub rows_none : record { down = replicate 64 0; up = replicate 64 0 } ≡ rows_up_to b held 0
  unfolding rows_up_to marks_up_to no_rows
  rows_none = refl

  module _ (t : Rows) (add : Bool) (k : ℕ) (is : t ≡ rows_up_to b held k) (tests : add ≡ criticalb held (link_at b k)) where
    pub rows_more : (d u : List ℕ) → add ≡ true → d ≡ with_mark t.down (link_at b k).from (link_at b k).to
        → u ≡ with_mark t.up (link_at b k).to (link_at b k).from → record { down = d; up = u } ≡ rows_up_to b held (k + 1)
    unfolding rows_up_to marks_up_to pick
    rows_more d u e ed eu = rw (add-one, ← tests, e, ed, eu, is)

    pub rows_kept : add ≡ false → t ≡ rows_up_to b held (k + 1)
    unfolding rows_up_to marks_up_to pick
    rows_kept e = rw (add-one, ← tests, e) is

-- ---- `joined`, `gathered`
module _ (set seen k row : ℕ) (h : Bool) (is : h ≡ has_of seen k) where
  pub joined_put : (r : ℕ) → h ≡ true → r ≡ union_of set row → r ≡ joined_of set seen k row
  unfolding joined_of pick
  joined_put r e u = rw (← is, e) u

  pub joined_kept : h ≡ false → set ≡ joined_of set seen k row
  unfolding joined_of pick
  joined_kept e = rw (← is, e)

module _ (rows : List ℕ) (seen set : ℕ) where
  pub gathered_none : set ≡ gathered_up_to rows seen set 0
  unfolding gathered_up_to
  gathered_none = refl

  pub gathered_more : (s r k : ℕ) → s ≡ gathered_up_to rows seen set k → r ≡ joined_of s seen k (get_or rows k 0) → r ≡ gathered_up_to rows seen set (k + 1)
  unfolding gathered_up_to
  gathered_more s r k is er = rw (add-one, ← is) er

  pub gathered_done : (s k : ℕ) → k ≤ 64 → 64 ≤ k → s ≡ gathered_up_to rows seen set k → s ≡ gathered_of rows seen set
  unfolding gathered_of
  gathered_done s k l h is = finished (gathered_up_to rows seen set) l h is
