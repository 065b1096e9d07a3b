-- How many marks a set has, and its lowest mark.
-- Assumes nothing.
use mathlib.Core.Logic.{⊎_elim}
use mathlib.Core.Path.{◌≡◌, refl, ◌∙◌}
use Prim.Native.Nat.{ℕ, zero, suc, ◌/◌, ◌%◌, ◌^◌, ◌≤◌, ◌<◌}
use native.Mathlib.Omega.{arith}
use native.Mathlib.Nat.{pow-suc}
use lib.Count.{ones, ones_step, ones-le, count_trailing_zeros, under}
use borrow.Author.Tests.{eq-eqb, ne_eqb}
use Rattle.std.specs.Prelude.{Some, None}
use Rattle.base.specs.Pick.{pick}
use Rattle.base.proofs.Cases.{eq_or_ne}
use Rattle.marks.specs.Marks.{bit, insert_of, lowest_of}
use Rattle.marks.proofs.Bits.{bit_zero, bit_suc, mark_below, insert_same, insert_other}

-- "the number of parts marked" is at most 64
pub ones_to : (s : ℕ) → s < 2 ^ 64 → ones s ≤ 64
ones_to s h = ones-le 64 s h

pub ones_none : ones 0 ≡ 0
unfolding ones
ones_none = refl

-- ---- a set within another has no more marks
ones_within_below : (k a b : ℕ) → a < 2 ^ k → ((n : ℕ) → bit a n ≤ bit b n) → ones a ≤ ones b
ones_within_below zero a b ha h = let e : a ≡ 0 = omega arith in rw (e, ones_none) (omega arith)
ones_within_below (suc k) a b ha h =
    omega (
      arith,
      ones_step a,
      ones_step b,
      bit_zero a,
      bit_zero b,
      h 0,
      ones_within_below k (a / 2) (b / 2) (omega (arith, pow-suc 2 k)) (λ n. omega (arith, bit_suc a n, bit_suc b n, h (suc n))),
    )

pub ones_within : (a b : ℕ) → a < 2 ^ 64 → ((n : ℕ) → bit a n ≤ bit b n) → ones a ≤ ones b
ones_within a b ha h = ones_within_below 64 a b ha h

-- and fewer where it lacks one
ones_less_below : (k m a b : ℕ) → a < 2 ^ k → ((n : ℕ) → bit a n ≤ bit b n) → bit a m < bit b m → ones a < ones b
ones_less_below k zero a b ha h lacks =
    omega (
      arith,
      ones_step a,
      ones_step b,
      bit_zero a,
      bit_zero b,
      ones_within_below k (a / 2) (b / 2) (omega arith) (λ n. omega (arith, bit_suc a n, bit_suc b n, h (suc n))),
    )
ones_less_below k (suc m) a b ha h lacks =
    omega (
      arith,
      ones_step a,
      ones_step b,
      bit_zero a,
      bit_zero b,
      h 0,
      ones_less_below
          k
          m
          (a / 2)
          (b / 2)
          (omega arith)
          (λ n. omega (arith, bit_suc a n, bit_suc b n, h (suc n)))
          (omega (arith, bit_suc a m, bit_suc b m)),
    )

pub ones_less : (a b m : ℕ) → a < 2 ^ 64 → ((n : ℕ) → bit a n ≤ bit b n) → bit a m < bit b m → ones a < ones b
ones_less a b m ha h lacks = ones_less_below 64 m a b ha h lacks

-- a new mark makes the set larger
pub ones_insert : (s n : ℕ) → s < 2 ^ 64 → n < 64 → bit s n ≡ 0 → ones s < ones (insert_of s n)
ones_insert s n f h new =
    ones_less
    s
    (insert_of s n)
    n
    f
    (λ m. ⊎_elim (λ e. rw (← e) (omega (arith, insert_same s n h))) (λ ne. omega (arith, insert_other s n m ne)) (eq_or_ne n m))
    (omega (arith, insert_same s n h))

-- ---- the lowest mark
low_is : (s t d : ℕ) → 0 < s → (0 < s / 2 → bit (s / 2) t ≡ 1) → s % 2 ≡ d → bit s (under d t) ≡ 1
low_is s t zero p ih e = bit_suc s t ∙ ih (omega arith)
low_is s t (suc d) p ih e = bit_zero s ∙ omega arith

lowest_is_below : (k s : ℕ) → 0 < s → s < 2 ^ k → bit s (count_trailing_zeros k s) ≡ 1
unfolding count_trailing_zeros
lowest_is_below zero s p h = absurd (omega arith)
lowest_is_below (suc k) s p h = low_is s (count_trailing_zeros k (s / 2)) (s % 2) p (λ q. lowest_is_below k (s / 2) q (omega (arith, pow-suc 2 k))) refl

low_none : (s t d n : ℕ) → ((m : ℕ) → m < t → bit (s / 2) m ≡ 0) → s % 2 ≡ d → n < under d t → bit s n ≡ 0
low_none s t zero zero ih e h = bit_zero s ∙ e
low_none s t zero (suc n) ih e h = bit_suc s n ∙ ih n (omega arith)
low_none s t (suc d) n ih e h = absurd (omega arith)

lowest_none_below : (k s n : ℕ) → n < count_trailing_zeros k s → bit s n ≡ 0
unfolding count_trailing_zeros
lowest_none_below zero s n h = absurd (omega arith)
lowest_none_below (suc k) s n h = low_none s (count_trailing_zeros k (s / 2)) (s % 2) n (lowest_none_below k (s / 2)) refl h

under_le : (d t k : ℕ) → t ≤ k → under d t ≤ suc k
under_le zero t k h = omega arith
under_le (suc d) t k h = omega arith

lowest_to_below : (k s : ℕ) → count_trailing_zeros k s ≤ k
unfolding count_trailing_zeros
lowest_to_below zero s = omega arith
lowest_to_below (suc k) s = under_le (s % 2) (count_trailing_zeros k (s / 2)) k (lowest_to_below k (s / 2))

-- it is a mark, and no mark is below it
module _ (s p : ℕ) (is : lowest_of s ≡ Some p) where
  low : p ≡ count_trailing_zeros 64 s
  unfolding lowest_of pick
  low = ⊎_elim (λ e. cc (rw (eq-eqb s 0 e) at is)) (λ ne. cc (rw (ne_eqb s 0 ne) at is)) (eq_or_ne s 0)

  some : s ≡ 0 → ⊥
  unfolding lowest_of pick
  some e = cc (rw (eq-eqb s 0 e) at is)

  pub lowest_is : s < 2 ^ 64 → bit s p ≡ 1
  lowest_is f = rw low (lowest_is_below 64 s (let ne : s ≡ 0 → ⊥ = some in omega arith) f)

  pub lowest_none : (n : ℕ) → n < p → bit s n ≡ 0
  lowest_none n h = lowest_none_below 64 s n (omega (arith, low))

  pub lowest_below : s < 2 ^ 64 → p < 64
  lowest_below f = mark_below s p f (lowest_is f)

-- where there is none the set is empty
pub lowest_past : (s : ℕ) → lowest_of s ≡ None → s ≡ 0
unfolding lowest_of pick
lowest_past s is = ⊎_elim (λ e. e) (λ ne. cc (rw (ne_eqb s 0 ne) at is)) (eq_or_ne s 0)

-- and a set that is not has one
pub lowest_some : (s : ℕ) → (s ≡ 0 → ⊥) → lowest_of s ≡ Some (count_trailing_zeros 64 s)
unfolding lowest_of pick
lowest_some s ne = rw (ne_eqb s 0 ne)

pub low_to : (s : ℕ) → count_trailing_zeros 64 s ≤ 64
low_to s = lowest_to_below 64 s
