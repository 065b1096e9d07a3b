-- What the derived tests and orders of ticks say of their numbers.
-- Assumes nothing.
use Rattle.std.proofs.Common.{◌≡◌, ℕ, ◌<◌, ◌≤◌, min, max, Bool, true, false, cond, List, eqb, eqb-true, eq-eqb, ap, sym, ◌∙◌, arith}
use Rattle.std.specs.Ordering.{nat_cmp, is_lt, is_le, ord_max, ord_min, MatchOrdering}
use Rattle.std.specs.declared.cmp.Ordering.{Ordering}
use Rattle.std.specs.declared.cmp.Ordering.TheVariants.{Less, Equal, Greater}
use Rattle.std.specs.Cmp.{ranks}
use lib.Pointwise.{pointwise, pointwise_decides}
use Rattle.curve.specs.declared.Ticks.{Ticks}
use Rattle.curve.proofs.RowLaws.{ticks}

module _ (a b : ℕ) where
  by_less : (r : Ordering) → MatchOrdering r (a < b) (a ≡ b) (b < a) → is_lt r ≡ true → a < b
  by_less Less h is = h
  by_less Equal h is = cc
  by_less Greater h is = cc

  by_not_less : (r : Ordering) → MatchOrdering r (a < b) (a ≡ b) (b < a) → is_lt r ≡ false → b ≤ a
  by_not_less Less h is = cc
  by_not_less Equal h is = omega arith
  by_not_less Greater h is = omega arith

  by_le : (r : Ordering) → MatchOrdering r (a < b) (a ≡ b) (b < a) → is_le r ≡ true → a ≤ b
  by_le Less h is = omega arith
  by_le Equal h is = omega arith
  by_le Greater h is = cc

  by_not_le : (r : Ordering) → MatchOrdering r (a < b) (a ≡ b) (b < a) → is_le r ≡ false → b < a
  by_not_le Less h is = cc
  by_not_le Equal h is = cc
  by_not_le Greater h is = h

  module _ (r : Bool) where
    pub lt_from : r ≡ is_lt (nat_cmp a b) → r ≡ true → a < b
    lt_from is t = by_less (nat_cmp a b) (ranks a b) (sym is ∙ t)

    pub le_from_not_lt : r ≡ is_lt (nat_cmp a b) → r ≡ false → b ≤ a
    le_from_not_lt is t = by_not_less (nat_cmp a b) (ranks a b) (sym is ∙ t)

    pub le_from : r ≡ is_le (nat_cmp a b) → r ≡ true → a ≤ b
    le_from is t = by_le (nat_cmp a b) (ranks a b) (sym is ∙ t)

    pub lt_from_not_le : r ≡ is_le (nat_cmp a b) → r ≡ false → b < a
    lt_from_not_le is t = by_not_le (nat_cmp a b) (ranks a b) (sym is ∙ t)

-- the derived test of two rows
abbrev pub ticks_eq : Ticks → Ticks → Bool
ticks_eq a b = eqb a.0 b.0

ticks_decided : (a b : Ticks) → (ticks_eq a b ≡ true → a ≡ b) × (a ≡ b → ticks_eq a b ≡ true)
ticks_decided a b = (λ e. ap ticks (eqb-true a.0 b.0 e), λ e. eq-eqb a.0 b.0 (ap (λ (t : Ticks). t.0) e))

pub rows_same : (xs ys : List Ticks) (t : Bool) → t ≡ pointwise ticks_eq xs ys → t ≡ true → xs ≡ ys
rows_same xs ys t is same = (pointwise_decides ticks_decided xs ys).0 (sym is ∙ same)

-- how the derived order compares them
abbrev pub ticks_cmp : Ticks → Ticks → Ordering
ticks_cmp a b = nat_cmp a.0 b.0

-- the greater and the lesser of two counts of ticks
module _ (a b : Ticks) where
  greater_by : (r : Ordering) → MatchOrdering r (b.0 < a.0) (b.0 ≡ a.0) (a.0 < b.0) → (cond (is_lt r) a b).0 ≡ max a.0 b.0
  greater_by Less h = omega arith
  greater_by Equal h = omega arith
  greater_by Greater h = omega arith

  lesser_by : (r : Ordering) → MatchOrdering r (b.0 < a.0) (b.0 ≡ a.0) (a.0 < b.0) → (cond (is_lt r) b a).0 ≡ min a.0 b.0
  lesser_by Less h = omega arith
  lesser_by Equal h = omega arith
  lesser_by Greater h = omega arith

  -- what `max` and `min` give
  module _ (v : Ticks) where
    pub max_of : v ≡ ord_max ticks_cmp a b → v.0 ≡ max a.0 b.0
    max_of is = ap (λ (t : Ticks). t.0) is ∙ greater_by (nat_cmp b.0 a.0) (ranks b.0 a.0)

    pub min_of : v ≡ ord_min ticks_cmp a b → v.0 ≡ min a.0 b.0
    min_of is = ap (λ (t : Ticks). t.0) is ∙ lesser_by (nat_cmp b.0 a.0) (ranks b.0 a.0)
