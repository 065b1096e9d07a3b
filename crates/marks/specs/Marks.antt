-- 01, Questions about a held board: "a set of 64 marks, bit n for part n". Part n is in the set s where `bit s n ≡ 1`.
-- Assumes nothing.
use Rattle.std.specs.Prelude.{◌≡◌, Bool, ℕ, ◌/◌, ◌%◌, ◌^◌, ◌<◌, eqb, ltb, Option, Some, None}
use Rattle.std.specs.Int.Bits.{bit_or, bit_xor}
use Rattle.std.specs.Int.Count.{count_trailing_zeros}
use Rattle.base.specs.Pick.{pick}

-- bit n of a set: 1 where n is in it, else 0
unfoldable pub bit : ℕ → ℕ → ℕ
bit s n = s / 2 ^ n % 2

unfoldable pub has_of : ℕ → ℕ → Bool
has_of s n = eqb (bit s n) 1

-- the marks of either set
unfoldable pub union_of : ℕ → ℕ → ℕ
union_of a b = bit_or a b

-- the marks of a that are not in b
unfoldable pub without_of : ℕ → ℕ → ℕ
without_of a b = bit_xor (bit_or a b) b

-- the set of n alone; 64 and above are no marks
unfoldable pub one_of : ℕ → ℕ
one_of n = pick (ltb n 64) (2 ^ n) 0

unfoldable pub insert_of : ℕ → ℕ → ℕ
insert_of s n = union_of s (one_of n)

unfoldable pub remove_of : ℕ → ℕ → ℕ
remove_of s n = without_of s (one_of n)

-- "trailing zeros the next part": the lowest mark, where there is one
unfoldable pub lowest_of : ℕ → Option ℕ
lowest_of s = pick (eqb s 0) None (Some (count_trailing_zeros 64 s))

-- the set of 64 marks that has the parts of which R holds, and no other
pub record Exactly (R : ℕ → Type 0) (set : ℕ) : Type 0 where
  pub fits : set < 2 ^ 64
  pub marked : (n : ℕ) → bit set n ≡ 1 → R n
  pub all : (n : ℕ) → R n → bit set n ≡ 1
