-- What is in a set: bits go by halves, and each function's set has the bits that its name says.
-- Assumes nothing.
use mathlib.Core.Logic.{◌≢◌, ◌⊎◌, inl, inr, ⊎_elim}
use mathlib.Core.Path.{◌≡◌, refl, sym, ap, ◌∙◌}
use Prim.Native.Nat.{ℕ, zero, suc, ◌-◌, ◌/◌, ◌%◌, ◌^◌, ◌≤◌, ◌<◌, max}
use native.Mathlib.Omega.{arith}
use native.Mathlib.Nat.{pow-suc, div-one}
use native.Mathlib.Numerals.{one-add}
use lib.Pow.{shr-shr, pow-lt}
use lib.Bits.{bit_or, bit_xor, differ, or_shr, or_step, or_lt, xor_shr, xor_step, xor_lt}
use lib.Dec.{lit<}
use borrow.Author.Tests.{lt-ltb, le-ltb}
use Rattle.base.specs.Pick.{pick}
use Rattle.base.proofs.Cases.{lt_or_le, eq_or_ne}
use Rattle.marks.specs.Marks.{bit, union_of, without_of, one_of, insert_of, remove_of, Exactly}

-- ---- bits go by halves
pub bit_zero : (s : ℕ) → bit s 0 ≡ s % 2
unfolding bit
bit_zero s = ap (λ (x : ℕ). x % 2) (div-one s)

pub bit_suc : (s n : ℕ) → bit s (suc n) ≡ bit (s / 2) n
unfolding bit
bit_suc s n = sym (ap (λ (x : ℕ). x % 2) (shr-shr s 1 n ∙ ap (λ (x : ℕ). s / 2 ^ x) (one-add n)))

pub bit_lt : (s n : ℕ) → bit s n < 2
unfolding bit
bit_lt s n = omega arith

-- a part is in a set or not
pub bit_or_not : (s n : ℕ) → (bit s n ≡ 1) ⊎ (bit s n ≡ 0)
bit_or_not s n = ⊎_elim (λ h. inl h) (λ h. inr (omega (arith, bit_lt s n))) (eq_or_ne (bit s n) 1)

-- nothing is in the set 0
pub bit_none : (n : ℕ) → bit 0 n ≡ 0
bit_none zero = bit_zero 0
bit_none (suc n) = bit_suc 0 n ∙ bit_none n

pub some_bit : (s n : ℕ) → bit s n ≡ 1 → s ≡ 0 → ⊥
some_bit s n h e = let z : bit s n ≡ 0 = rw e (bit_none n) in omega arith

-- a number below 2 ^ k has no bit from k on
pub bit_past : (k s n : ℕ) → s < 2 ^ k → k ≤ n → bit s n ≡ 0
bit_past zero s n h l = let e : s ≡ 0 = omega arith in rw e (bit_none n)
bit_past (suc k) s zero h l = absurd (omega arith)
bit_past (suc k) s (suc n) h l = bit_suc s n ∙ bit_past k (s / 2) n (omega (arith, pow-suc 2 k)) (omega arith)

-- a mark of a set of 64 is below 64
pub mark_below : (s n : ℕ) → s < 2 ^ 64 → bit s n ≡ 1 → n < 64
mark_below s n f h = ⊎_elim (λ l. l) (λ l. absurd (omega (arith, bit_past 64 s n f l))) (lt_or_le n 64)

-- ---- two sets
pub bit_or_lem : (a b n : ℕ) → bit (bit_or a b) n ≡ max (bit a n) (bit b n)
unfolding bit
bit_or_lem a b n = ap (λ (x : ℕ). x % 2) (or_shr a b n) ∙ ap (λ (x : ℕ). x % 2) (or_step (a / 2 ^ n) (b / 2 ^ n)) ∙ omega arith

pub bit_union : (a b n : ℕ) → bit (union_of a b) n ≡ max (bit a n) (bit b n)
unfolding union_of
bit_union a b n = bit_or_lem a b n

pub differ_lt : (x y : ℕ) → x < 2 → y < 2 → differ x y < 2
differ_lt zero zero h l = lit< tt
differ_lt zero (suc zero) h l = lit< tt
differ_lt (suc zero) zero h l = lit< tt
differ_lt (suc zero) (suc zero) h l = lit< tt
differ_lt zero (suc (suc y)) h l = absurd (omega arith)
differ_lt (suc zero) (suc (suc y)) h l = absurd (omega arith)
differ_lt (suc (suc x)) y h l = absurd (omega arith)

pub bit_xor_lem : (a b n : ℕ) → bit (bit_xor a b) n ≡ differ (bit a n) (bit b n)
unfolding bit
bit_xor_lem a b n =
    ap (λ (x : ℕ). x % 2) (xor_shr a b n) ∙ ap (λ (x : ℕ). x % 2) (xor_step (a / 2 ^ n) (b / 2 ^ n))
    ∙ omega (arith, differ_lt (a / 2 ^ n % 2) (b / 2 ^ n % 2) (omega arith) (omega arith))

-- what is in a and b, by the two values of each
differ_max : (x y : ℕ) → x < 2 → y < 2 → differ (max x y) y ≡ x - y
differ_max zero zero h l = refl
differ_max zero (suc zero) h l = refl
differ_max (suc zero) zero h l = refl
differ_max (suc zero) (suc zero) h l = refl
differ_max zero (suc (suc y)) h l = absurd (omega arith)
differ_max (suc zero) (suc (suc y)) h l = absurd (omega arith)
differ_max (suc (suc x)) y h l = absurd (omega arith)

-- n is in a without b where it is in a and not in b
pub bit_without : (a b n : ℕ) → bit (without_of a b) n ≡ bit a n - bit b n
unfolding without_of
bit_without a b n =
    bit_xor_lem (bit_or a b) b n ∙ ap (λ (x : ℕ). differ x (bit b n)) (bit_or_lem a b n) ∙ differ_max (bit a n) (bit b n) (bit_lt a n) (bit_lt b n)

pub union_fits : (a b : ℕ) → a < 2 ^ 64 → b < 2 ^ 64 → union_of a b < 2 ^ 64
unfolding union_of
union_fits a b h l = or_lt 64 a b h l

pub without_fits : (a b : ℕ) → a < 2 ^ 64 → b < 2 ^ 64 → without_of a b < 2 ^ 64
unfolding without_of
without_fits a b h l = xor_lt 64 (bit_or a b) b (or_lt 64 a b h l) l

-- ---- one mark
pow_half : (m : ℕ) → 2 ^ suc m / 2 ≡ 2 ^ m
pow_half m = omega (arith, pow-suc 2 m)

pow_even : (m : ℕ) → 2 ^ suc m % 2 ≡ 0
pow_even m = omega (arith, pow-suc 2 m)

bit_pow_same : (n : ℕ) → bit (2 ^ n) n ≡ 1
bit_pow_same zero = bit_zero 1
bit_pow_same (suc n) = bit_suc (2 ^ suc n) n ∙ ap (λ (x : ℕ). bit x n) (pow_half n) ∙ bit_pow_same n

bit_pow_other : (m n : ℕ) → m ≢ n → bit (2 ^ m) n ≡ 0
bit_pow_other zero zero ne = absurd (ne refl)
bit_pow_other zero (suc n) ne = bit_suc 1 n ∙ bit_none n
bit_pow_other (suc m) zero ne = bit_zero (2 ^ suc m) ∙ pow_even m
bit_pow_other (suc m) (suc n) ne = bit_suc (2 ^ suc m) n ∙ ap (λ (x : ℕ). bit x n) (pow_half m) ∙ bit_pow_other m n (λ e. ne (ap suc e))

pub one_is : (n : ℕ) → n < 64 → one_of n ≡ 2 ^ n
unfolding one_of pick
one_is n h = rw (lt-ltb n 64 h)

pub one_past : (n : ℕ) → 64 ≤ n → one_of n ≡ 0
unfolding one_of pick
one_past n h = rw (le-ltb n 64 h)

pub bit_one_same : (n : ℕ) → n < 64 → bit (one_of n) n ≡ 1
bit_one_same n h = rw (one_is n h) (bit_pow_same n)

pub bit_one_other : (m n : ℕ) → m ≢ n → bit (one_of m) n ≡ 0
bit_one_other m n ne = ⊎_elim (λ h. rw (one_is m h) (bit_pow_other m n ne)) (λ h. rw (one_past m h) (bit_none n)) (lt_or_le m 64)

pub one_fits : (n : ℕ) → one_of n < 2 ^ 64
one_fits n = ⊎_elim (λ h. rw (one_is n h) (pow-lt h)) (λ h. rw (one_past n h) (lit< tt)) (lt_or_le n 64)

pub insert_same : (s n : ℕ) → n < 64 → bit (insert_of s n) n ≡ 1
unfolding insert_of
insert_same s n h = bit_union s (one_of n) n ∙ omega (arith, bit_one_same n h, bit_lt s n)

pub insert_other : (s m n : ℕ) → m ≢ n → bit (insert_of s m) n ≡ bit s n
unfolding insert_of
insert_other s m n ne = bit_union s (one_of m) n ∙ omega (arith, bit_one_other m n ne)

-- what was in the set is in it still
pub insert_keeps : (s m n : ℕ) → bit s n ≡ 1 → bit (insert_of s m) n ≡ 1
unfolding insert_of
insert_keeps s m n h = bit_union s (one_of m) n ∙ omega (arith, bit_lt (one_of m) n)

pub insert_fits : (s n : ℕ) → s < 2 ^ 64 → insert_of s n < 2 ^ 64
unfolding insert_of
insert_fits s n h = union_fits s (one_of n) h (one_fits n)

pub remove_same : (s n : ℕ) → n < 64 → bit (remove_of s n) n ≡ 0
unfolding remove_of
remove_same s n h = bit_without s (one_of n) n ∙ omega (arith, bit_one_same n h, bit_lt s n)

pub remove_other : (s m n : ℕ) → m ≢ n → bit (remove_of s m) n ≡ bit s n
unfolding remove_of
remove_other s m n ne = bit_without s (one_of m) n ∙ omega (arith, bit_one_other m n ne)

pub remove_fits : (s n : ℕ) → s < 2 ^ 64 → remove_of s n < 2 ^ 64
unfolding remove_of
remove_fits s n h = without_fits s (one_of n) h (one_fits n)

-- ---- sets with the same marks are one number
same_bits_below : (k a b : ℕ) → a < 2 ^ k → b < 2 ^ k → ((n : ℕ) → bit a n ≡ bit b n) → a ≡ b
same_bits_below zero a b ha hb h = omega arith
same_bits_below (suc k) a b ha hb h =
    let e : a / 2 ≡ b / 2 = same_bits_below k (a / 2) (b / 2) (omega (arith, pow-suc 2 k)) (omega (arith, pow-suc 2 k)) (λ n. sym (bit_suc a n) ∙ h (suc n) ∙ bit_suc b n) in
    let m : a % 2 ≡ b % 2 = sym (bit_zero a) ∙ h 0 ∙ bit_zero b in
    omega arith

pub same_bits : (a b : ℕ) → a < 2 ^ 64 → b < 2 ^ 64 → ((n : ℕ) → bit a n ≡ bit b n) → a ≡ b
same_bits a b ha hb h = same_bits_below 64 a b ha hb h

-- so where each holds the other's marks
pub same_marks : (a b : ℕ) → a < 2 ^ 64 → b < 2 ^ 64 → ((n : ℕ) → bit a n ≡ 1 → bit b n ≡ 1) → ((n : ℕ) → bit b n ≡ 1 → bit a n ≡ 1) → a ≡ b
same_marks a b ha hb to from =
    same_bits a b ha hb
    (λ n. ⊎_elim (λ h. h ∙ sym (to n h)) (λ h. ⊎_elim (λ g. absurd (omega (arith, from n g))) (λ g. h ∙ sym g) (bit_or_not b n)) (bit_or_not a n))

-- there is one set of exactly the parts of which R holds
pub exactly_once : (R : ℕ → Type 0) (a b : ℕ) → Exactly R a → Exactly R b → a ≡ b
exactly_once R a b x y = same_marks a b x.fits y.fits (λ n h. y.all n (x.marked n h)) (λ n h. x.all n (y.marked n h))
