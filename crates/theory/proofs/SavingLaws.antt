-- Laws of a part's savings. Where a load x suits t ticks, t is a best choice at the price x, and x suits every other best choice too.
-- None of that asks that savings fall from tick to tick: falling makes the two ticks next to t enough to look at (`suits_next_to`).
-- Assumes nothing.
use mathlib.Core.Path.{◌≡◌, ap}
use Prim.Native.Nat.{ℕ, zero, suc, pred, min, ◌+◌, ◌*◌, ◌≤◌, ◌<◌}
use native.Mathlib.Decide.{ℕ_discrete, dec_le, dec_lt}
use native.Mathlib.Omega.{arith}
use Rattle.theory.specs.Sum.{sum}
use Rattle.theory.specs.Saving.{Suits, Falling, saves}
use Rattle.theory.proofs.SumLaws.{sum_const, sum_mono, below_suc}

-- sums of two functions that are in order from low up to high
span_le : (low high : ℕ) {f g : ℕ → ℕ} → low ≤ high → ((j : ℕ) → low ≤ j → j < high → f j ≤ g j) → sum high f + sum low g ≤ sum high g + sum low f
unfolding sum
span_le low zero l h = let e : low ≡ 0 = omega arith in rw e (omega arith)
span_le low (suc high) l h =
    elim (ℕ_discrete low (suc high)) [
      | yes e ↦ rw e (omega arith)
      | no d ↦ omega (arith, span_le low high (omega arith) (λ j a b. h j a (omega arith)), h high (omega arith) (omega arith))
    ]

-- and equal there, if the sums are in order the other way too
span_eq :
    (low high : ℕ) {f g : ℕ → ℕ} → low ≤ high → ((j : ℕ) → low ≤ j → j < high → f j ≤ g j) →
    sum high g + sum low f ≤ sum high f + sum low g → (j : ℕ) → low ≤ j → j < high → f j ≡ g j
unfolding sum
span_eq low zero l h e j a b = omega arith
span_eq low (suc high) {f} {g} l h e j a b =
    let h' : (j : ℕ) → low ≤ j → j < high → f j ≤ g j = λ j a b. h j a (omega arith) in
    let le : sum high f + sum low g ≤ sum high g + sum low f = span_le low high (omega arith) h' in
    let last : f high ≤ g high = h high (omega arith) (omega arith) in
    below_suc {P = λ j. low ≤ j → f j ≡ g j}
    (λ j b a. span_eq low high (omega arith) h' (omega arith) j a b)
    (λ a. omega arith)
    j b a

module _ {g : ℕ → ℕ} {t x : ℕ} (s : Suits g t x) where
  -- at price x, t ticks are a best choice
  pub best : (u : ℕ) → saves g u + x * t ≤ saves g t + x * u
  best u =
      elim (dec_le t u) [
        | yes l ↦ omega (arith, sum_const t x, sum_const u x, span_le t u {f = g} {g = λ i. x} l (λ j a b. omega (arith, s.unused j a)))
        | no l ↦ omega (arith, sum_const t x, sum_const u x, span_le u t {f = λ i. x} {g = g} (omega arith) (λ j a b. s.used j b))
      ]

  -- and the price suits every other best choice
  pub best_eq : (u : ℕ) → saves g t + x * u ≤ saves g u + x * t → Suits g u x
  best_eq u e =
      let above : t ≤ u → (j : ℕ) → t ≤ j → j < u → g j ≡ x =
      λ l. span_eq t u {f = g} {g = λ i. x} l (λ j a b. s.unused j a) (omega (arith, sum_const t x, sum_const u x)) in
      let below : u ≤ t → (j : ℕ) → u ≤ j → j < t → x ≡ g j =
      λ l. span_eq u t {f = λ i. x} {g = g} l (λ j a b. s.used j b) (omega (arith, sum_const t x, sum_const u x)) in
      record {
        used = λ j l. elim (dec_le t j) [ yes a ↦ omega (arith, above (omega arith) j a l) | no a ↦ s.used j (omega arith) ];
        unused = λ j l. elim (dec_le t j) [ yes a ↦ s.unused j a | no a ↦ omega (arith, below (omega arith) j l (omega arith)) ];
      }

-- where savings never rise, it is enough that the last tick used saves at least x, and the next one at most x.
-- No tick is the last one used where t is 0: there nothing bounds x from above.
pub suits_next_to : {g : ℕ → ℕ} {t x : ℕ} → Falling g → ((j : ℕ) → suc j ≡ t → x ≤ g j) → g t ≤ x → Suits g t x
suits_next_to {g} {t} {x} falls last next = record {
  used = λ j l. omega (arith, last (pred t) (omega arith), falls j (pred t) (omega arith));
  unused = λ j l. omega (arith, falls t j l);
}

-- fewer ticks, or more, while the ticks between save x each
pub suits_fewer : {g : ℕ → ℕ} {t x : ℕ} → Falling g → Suits g t x → (u : ℕ) → u ≤ t → (u < t → g u ≤ x) → Suits g u x
suits_fewer {g} {t} {x} falls s u l h = record {
  used = λ j k. s.used j (omega arith);
  unused = λ j k. elim (dec_lt j t) [ yes a ↦ omega (arith, h (omega arith), falls u j k) | no a ↦ s.unused j (omega arith) ];
}

pub suits_more : {g : ℕ → ℕ} {t x : ℕ} → Falling g → Suits g t x → (u : ℕ) → t ≤ u → ((j : ℕ) → t ≤ j → suc j ≡ u → x ≤ g j) → Suits g u x
suits_more {g} {t} {x} falls s u l h = record {
  used = λ j k.
      elim (dec_lt j t) [
        | yes a ↦ s.used j a
        | no a ↦ omega (arith, h (pred u) (omega arith) (omega arith), falls j (pred u) (omega arith))
      ];
  unused = λ j k. s.unused j (omega arith);
}

-- ticks that save nothing, all those from k on, may be left out
pub saves_min : (g : ℕ → ℕ) (k : ℕ) → ((j : ℕ) → k ≤ j → g j ≡ 0) → (t : ℕ) → saves g (min t k) ≡ saves g t
unfolding sum
saves_min g k past zero = let e : min zero k ≡ zero = omega arith in ap (saves g) e
saves_min g k past (suc t) =
    elim (dec_le (suc t) k) [
      | yes l ↦ let e : min (suc t) k ≡ suc t = omega arith in ap (saves g) e
      | no l ↦ let e : min (suc t) k ≡ min t k = omega arith in omega (arith, ap (saves g) e, saves_min g k past t, past t (omega arith))
    ]

-- and all ticks together save no more than the first k
pub saves_most : (g : ℕ → ℕ) (k : ℕ) → ((j : ℕ) → k ≤ j → g j ≡ 0) → (t : ℕ) → saves g t ≤ saves g k
saves_most g k past t = omega (arith, saves_min g k past t, sum_mono g (min t k) k (omega arith))
