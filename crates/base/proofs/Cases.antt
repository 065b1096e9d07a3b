-- Cases of numbers and of choices, and the end of a loop that counts.
-- Assumes nothing.
use mathlib.Core.Path.{◌≡◌, ap, ◌∙◌}
use mathlib.Core.Logic.{◌⊎◌, inl, inr}
use mathlib.Core.Bool.{Bool, true, false}
use Prim.Native.Nat.{ℕ, ◌≤◌, ◌<◌}
use native.Mathlib.Omega.{arith}
use native.Mathlib.Nat.{le_antisymm}
use native.Mathlib.Decide.{dec_lt, ℕ_discrete}
use Rattle.base.specs.Pick.{pick}

pub lt_or_le : (a b : ℕ) → (a < b) ⊎ (b ≤ a)
lt_or_le a b = elim (dec_lt a b) [ yes h ↦ inl h | no h ↦ inr (omega arith) ]

pub eq_or_ne : (a b : ℕ) → (a ≡ b) ⊎ (a ≡ b → ⊥)
eq_or_ne a b = elim (ℕ_discrete a b) [ yes h ↦ inl h | no h ↦ inr h ]

-- what holds of both holds of the one picked
pub pick_elim {ℓ} : {A : Type ℓ} (P : A → Type 0) (t : Bool) (a b : A) → P a → P b → P (pick t a b)
unfolding pick
pick_elim P true a b pa pb = pa
pick_elim P false a b pa pb = pb

-- a loop that counted to its end
pub finished : {A : Type 0} (u : ℕ → A) {x : A} {k n : ℕ} → k ≤ n → n ≤ k → x ≡ u k → x ≡ u n
finished u l h is = is ∙ ap u (le_antisymm l h)
