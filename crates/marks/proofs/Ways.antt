-- The ways through the functions on marks, in plain values.
-- Assumes nothing.
use mathlib.Core.Path.{◌≡◌, refl, sym, ◌∙◌}
use mathlib.Core.Bool.{false}
use Prim.Native.Nat.{ℕ, ◌*◌, ◌/◌, ◌%◌, ◌^◌, ◌≤◌, ◌<◌}
use native.Mathlib.Omega.{arith}
use mir.Syntax.{w64}
use mir.Val.{Fits}
use lib.Pow.{shl_exact}
use lib.Bits.{bit_or, bit_xor}
use lib.Count.{count_trailing_zeros}
use lib.Dec.{eqb}
use borrow.Author.Tests.{ne_eqb}
use Rattle.std.specs.Prelude.{Some, None}
use Rattle.base.specs.Pick.{pick}
use Rattle.marks.specs.Marks.{bit, has_of, union_of, without_of, one_of, insert_of, lowest_of}
use Rattle.marks.proofs.Bits.{bit_past, one_is, one_past}
use Rattle.marks.proofs.Counts.{lowest_some, lowest_below, low_to}

pub asked : (s n : ℕ) → eqb (s / 2 ^ n % 2) 1 ≡ has_of s n
unfolding has_of bit
asked s n = refl

pub asked_past : (s n : ℕ) → s < 2 ^ 64 → 64 ≤ n → false ≡ has_of s n
unfolding has_of
asked_past s n f h = sym (ne_eqb (bit s n) 1 (λ e. omega (arith, bit_past 64 s n f h)))

-- what the shift leaves
pub shifted : (n : ℕ) → n < 64 → 1 * 2 ^ n % 2 ^ 64 ≡ one_of n
shifted n h = shl_exact {a = 1} 1 n 64 (omega arith) (omega arith) ∙ omega (arith, one_is n h)

pub none : (n : ℕ) → 64 ≤ n → 0 ≡ one_of n
none n h = sym (one_past n h)

pub joined : (a b : ℕ) → bit_or a b ≡ union_of a b
unfolding union_of
joined a b = refl

pub cut : (a b : ℕ) → bit_xor (bit_or a b) b ≡ without_of a b
unfolding without_of
cut a b = refl

pub put : (s n o r : ℕ) → o ≡ one_of n → r ≡ union_of s o → r ≡ insert_of s n
unfolding insert_of
put s n o r e is = rw (← e) is

module _ (s : ℕ) where
  pub low_none : s ≡ 0 → None ≡ lowest_of s
  unfolding lowest_of pick
  low_none e = rw e

  pub low_some : (s ≡ 0 → ⊥) → Some (count_trailing_zeros 64 s) ≡ lowest_of s
  low_some ne = sym (lowest_some s ne)

  pub low_small : (s ≡ 0 → ⊥) → s < 2 ^ 64 → count_trailing_zeros 64 s < 64
  low_small ne f = lowest_below s _ (lowest_some s ne) f

  pub low_fits : Fits w64 (count_trailing_zeros 64 s)
  low_fits = record { fits = omega (arith, low_to s) }
