-- What it is to be critical, in 01's words: a link of the board whose first part's end, and what the link takes, is the start of its second part.
-- Assumes nothing.
use mathlib.Core.Path.{◌≡◌}
use mathlib.Core.Bool.{true}
use Prim.Native.Nat.{ℕ, ◌+◌, ◌<◌, min}
use native.Mathlib.Omega.{arith}
use borrow.Author.Tests.{lt-ltb, ltb-true, eq-eqb, eqb-true}
use Rattle.base.specs.Pick.{pick}
use Rattle.curve.specs.Rows.{ticks_at}
use Rattle.board.specs.declared.Link.{Link}
use Rattle.board.specs.declared.Board.{Board}
use Rattle.budget.specs.declared.Budget.{Budget}
use Rattle.board.specs.Board.{link_at, Linked, WellFormed, delay_of}
use Rattle.board.proofs.LinkLaws.{both_hold}
use Rattle.kin.specs.Critical.{criticalb, critical_at, Critical}

module _ (held : Budget) (l : Link) where
  -- a critical link joins parts below 64, and the times meet
  pub record Meets : Type 0 where
    pub from_in : l.from < 64
    pub to_in : l.to < 64
    pub meets : ticks_at held.end l.from + delay_of l ≡ ticks_at held.start l.to

  pub critical_meets : criticalb held l ≡ true → Meets
  unfolding criticalb
  critical_meets h =
      let from = both_hold _ _ h in
      let to = both_hold _ _ from.1 in
      record { from_in = ltb-true _ _ from.0; to_in = ltb-true _ _ to.0; meets = eqb-true _ _ to.1 }

  pub meets_critical : Meets → criticalb held l ≡ true
  unfolding criticalb pick
  meets_critical m = rw (lt-ltb _ _ m.from_in, lt-ltb _ _ m.to_in, eq-eqb _ _ m.meets)

module _ (b : Board) (held : Budget) where
  pub critical_at_lem : (l : ℕ) → l < min b.links 256 → criticalb held (link_at b l) ≡ true → critical_at b held l ≡ true
  unfolding critical_at pick
  critical_at_lem l h is = rw (lt-ltb _ _ h) is

  pub at_critical : (l : ℕ) → critical_at b held l ≡ true → (l < min b.links 256) × (criticalb held (link_at b l) ≡ true)
  unfolding critical_at
  at_critical l h = let both = both_hold _ _ h in (ltb-true _ _ both.0, both.1)

  -- "the end of its first part equals the start of its second"
  pub critical_linked : (p q : ℕ) → Critical b held p q → Linked b p q
  critical_linked p q c = record { link = c.link; here = omega (arith, (at_critical c.link c.critical).0); from = c.from; to = c.to }

  pub critical_ends : (p q : ℕ) (c : Critical b held p q) → ticks_at held.end p + delay_of (link_at b c.link) ≡ ticks_at held.start q
  critical_ends p q c =
      rw (← c.from, ← c.to) (critical_meets held (link_at b c.link) (at_critical c.link c.critical).1).meets

  pub linked_critical : WellFormed b → (p q : ℕ) (l : Linked b p q) → ticks_at held.end p + delay_of (link_at b l.link) ≡ ticks_at held.start q → Critical b held p q
  linked_critical ok p q l meets =
      let m : Meets held (link_at b l.link) = record {
        from_in = omega (arith, ok.from_in l.link l.here, ok.parts_to);
        to_in = omega (arith, ok.to_in l.link l.here, ok.parts_to);
        meets = rw (l.from, l.to) meets;
      } in
      record { link = l.link; from = l.from; to = l.to; critical = critical_at_lem l.link (omega (arith, l.here, ok.links_to)) (meets_critical held (link_at b l.link) m) }

  -- a critical link of a well formed board joins its parts
  pub critical_in : WellFormed b → (p q : ℕ) → Critical b held p q → (p < b.parts) × (q < b.parts)
  critical_in ok p q c =
      let l : Linked b p q = critical_linked p q c in
      (omega (arith, ok.from_in l.link l.here, l.from), omega (arith, ok.to_in l.link l.here, l.to))
