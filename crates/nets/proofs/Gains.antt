-- What ticks of an arc save: runs of length 0 change nothing, and an arc that has no others saves nothing.
-- Assumes nothing.
use mathlib.Core.Path.{◌≡◌, refl, sym, ◌∙◌}
use mathlib.Core.List.{List}
use Prim.Native.Nat.{ℕ, zero, suc, ◌≤◌, ◌<◌}
use native.Mathlib.Omega.{arith}
use native.Mathlib.Decide.{dec_lt, ℕ_discrete}
use borrow.Author.Tests.{lt-ltb, le-ltb}
use lib.ListN.{length, get_or-eq_default}
use Rattle.theory.specs.Sum.{sum}
use Rattle.theory.specs.Saving.{tick, before}
use Rattle.theory.proofs.RunLaws.{tick_past, tick_falls}
use Rattle.theory.proofs.SumLaws.{sum_zero, sum_ext}
use Rattle.nets.specs.Network.{length_at, saving_at, gain_of, Bends}

module _ (length saving : ℕ → ℕ) where
  tick_empty : (r j : ℕ) → length r ≡ 0 → tick length saving (suc r) j ≡ tick length saving r j
  unfolding tick sum
  tick_empty r j e =
      elim (dec_lt j (before length saving r)) [
        | yes l ↦ rw (lt-ltb j (before length saving r) l)
        | no l ↦
            let a : before length saving r ≤ j = omega arith in
            let b : before length saving (suc r) ≤ j = omega arith in
            rw (le-ltb j (before length saving r) a, le-ltb j (before length saving (suc r)) b) (sym (tick_past length saving r j a))
      ]

  -- runs of length 0 after the first r change nothing
  pub tick_blank : (r k : ℕ) → r ≤ k → ((i : ℕ) → r ≤ i → i < k → length i ≡ 0) → (j : ℕ) → tick length saving k j ≡ tick length saving r j
  tick_blank r zero l h j = let e : r ≡ zero = omega arith in rw e refl
  tick_blank r (suc k) l h j =
      elim (ℕ_discrete r (suc k)) [
        | yes e ↦ rw e refl
        | no d ↦ tick_empty k j (h k (omega arith) (omega arith)) ∙ tick_blank r k (omega arith) (λ i a b. h i a (omega arith)) j
      ]

module _ (lengths savings : List ℕ) (a : ℕ) where
  pub gain_none : ((i : ℕ) → i < 4 → length_at lengths a i ≡ 0) → (j : ℕ) → gain_of lengths savings a j ≡ 0
  unfolding gain_of tick
  gain_none h j = tick_blank (length_at lengths a) (saving_at savings a) 0 4 (omega arith) (λ i l k. h i k) j

  -- past the four runs nothing is saved
  pub gain_past : (j : ℕ) → sum 4 (length_at lengths a) ≤ j → gain_of lengths savings a j ≡ 0
  unfolding gain_of
  gain_past j h = tick_past (length_at lengths a) (saving_at savings a) 4 j h

  -- arcs from 64 on have no runs
  pub flat : length lengths ≡ 256 → 64 ≤ a → sum 4 (length_at lengths a) ≡ 0
  flat e h = sum_ext 4 (λ i l. get_or-eq_default lengths 0 (omega (arith, e))) ∙ sum_zero 4

  -- no tick saves more than one before it
  pub gain_falls : (base : ℕ) → length lengths ≡ 256 → Bends base lengths savings a → (i j : ℕ) → i ≤ j → gain_of lengths savings a j ≤ gain_of lengths savings a i
  unfolding gain_of
  gain_falls base e c i j l =
      elim (dec_lt a 64) [
        | yes h ↦ tick_falls (length_at lengths a) (saving_at savings a) 4 (c.falls h) i j l
        | no h ↦ omega (arith, gain_past j (omega (arith, flat e (omega arith))))
      ]
