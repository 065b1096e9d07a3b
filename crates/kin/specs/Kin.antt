-- 01, Questions: "Parent and child sets (document 002)". `Leads r q` says that a critical link leads from part r to part q.
-- The idea: to turn about until neither grows is to find the least pair of sets that no turn makes grow. `KinOf` says this of the sets, and
-- not how they are found; there is one such pair (`kin_once`).
-- Assumes nothing.
use Rattle.std.specs.Prelude.{◌≡◌, ℕ, ◌^◌, ◌<◌}
use Rattle.marks.specs.Marks.{bit}
use Rattle.kin.specs.declared.Kin.{Kin}

-- every mark of a is a mark of b
abbrev pub Within : ℕ → ℕ → Type 0
Within a b = (n : ℕ) → bit a n ≡ 1 → bit b n ≡ 1

-- sets of parents and children that no turn makes grow. A first part of 64 or more is in no set.
pub record Closed (Leads : ℕ → ℕ → Type 0) (first parents children : ℕ) : Type 0 where
  -- "begin with the part asked for as parent"; "The first part stays a parent."
  pub begin : first < 64 → bit parents first ≡ 1
  -- "children are all that critical links lead to from the parents"
  pub child : (r q : ℕ) → bit parents r ≡ 1 → Leads r q → bit children q ≡ 1
  -- "then parents are all that have a critical link to those children"
  pub parent : (r q : ℕ) → bit children q ≡ 1 → Leads r q → bit parents r ≡ 1

-- "turn about until neither grows": the least of these, sets of 64 marks
pub record KinOf (Leads : ℕ → ℕ → Type 0) (first : ℕ) (k : Kin) : Type 0 where
  pub parents_fit : k.parents < 2 ^ 64
  pub children_fit : k.children < 2 ^ 64
  pub closed : Closed Leads first k.parents k.children
  pub least_parents : (s t : ℕ) → Closed Leads first s t → Within k.parents s
  pub least_children : (s t : ℕ) → Closed Leads first s t → Within k.children t
