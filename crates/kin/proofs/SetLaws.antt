-- A set within another: they are one, or the other has more marks.
-- Assumes nothing.
use mathlib.Core.Path.{◌≡◌, sym, ◌∙◌}
use mathlib.Core.Logic.{⊎_elim}
use Prim.Native.Nat.{ℕ, ◌-◌, ◌^◌, ◌<◌}
use native.Mathlib.Omega.{arith}
use lib.Count.{ones, count_trailing_zeros}
use Rattle.base.proofs.Cases.{eq_or_ne}
use Rattle.marks.specs.Marks.{bit, one_of, without_of}
use Rattle.marks.proofs.Bits.{bit_lt, bit_none, bit_or_not, bit_one_other, bit_without, without_fits, same_marks}
use Rattle.marks.proofs.Counts.{ones_less, lowest_is, lowest_some}
use Rattle.kin.specs.Kin.{Within}

-- nothing is in the set 0, and p alone in the set of p
pub none_in : (n : ℕ) → bit 0 n ≡ 1 → ⊥
none_in n h = omega (arith, bit_none n)

pub one_in : (p n : ℕ) → bit (one_of p) n ≡ 1 → p ≡ n
one_in p n h = ⊎_elim (λ e. e) (λ ne. absurd (omega (arith, bit_one_other p n ne))) (eq_or_ne p n)

-- a set with a mark that the other lacks
pub within_more : (a b : ℕ) → a < 2 ^ 64 → b < 2 ^ 64 → Within a b → (b ≡ a → ⊥) → ones a < ones b
within_more a b fa fb in_b ne =
    let rest = without_of b a in
    let some : rest ≡ 0 → ⊥ = λ e. ne (same_marks b a fb fa (λ n h. ⊎_elim (λ g. g) (λ g. absurd (none_in n (rw (← e) (bit_without b a n ∙ omega arith)))) (bit_or_not a n)) in_b) in
    let m = count_trailing_zeros 64 rest in
    let lacks : bit b m - bit a m ≡ 1 = sym (bit_without b a m) ∙ lowest_is rest m (lowest_some rest some) (without_fits b a fb fa) in
    ones_less a b m fa
    (λ n. ⊎_elim (λ h. omega (arith, in_b n h)) (λ h. omega (arith, h)) (bit_or_not a n))
    (omega (arith, lacks, bit_lt b m))
