-- What times draw and what they save make up what all parts draw at their fastest.
-- Assumes nothing.
use mathlib.Core.Path.{◌≡◌, sym, ◌∙◌}
use Prim.Native.Nat.{ℕ, ◌+◌, ◌*◌, ◌-◌, ◌≤◌, ◌<◌}
use native.Mathlib.Omega.{arith}
use Rattle.theory.specs.Sum.{sum}
use Rattle.theory.specs.Saving.{saves}
use Rattle.theory.specs.Graph.{Graph, Times, Lawful, saved, total}
use Rattle.theory.proofs.SumLaws.{sum_add, sum_ext, sum_le, sum_const}
use Rattle.theory.proofs.SavingLaws.{saves_most}

module _ (G : Graph) (o : Lawful G) where
  open G use {parts, ticks, saving, power}

  pub total_saved : (τ : Times) → total G τ + saved G τ ≡ sum parts power
  unfolding total saved
  total_saved τ =
      sym (sum_add parts (λ p. power p - saves (saving p) (τ.used p)) (λ p. saves (saving p) (τ.used p)))
      ∙ sum_ext parts (λ p h. omega (arith, o.affords p h, saves_most (saving p) (ticks p) (o.past p h) (τ.used p)))

  -- nothing saves more than all ticks
  pub saved_most : (τ : Times) → saved G τ ≤ sum parts (λ p. saves (saving p) (ticks p))
  unfolding saved
  saved_most τ = sum_le parts (λ p h. saves_most (saving p) (ticks p) (o.past p h) (τ.used p))

  -- "Its total is .. at most": nothing draws more than all parts at their fastest
  pub total_most : (b : ℕ) → ((p : ℕ) → p < parts → power p ≤ b) → (τ : Times) → total G τ ≤ b * parts
  total_most b most τ = omega (arith, total_saved τ, sum_le parts {f = power} {g = λ p. b} most, sum_const parts b)
