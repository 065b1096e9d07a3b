-- What comes to stand on a page: one byte, and a text after a text.
-- Assumes nothing.
use mathlib.Core.Path.{◌≡◌, refl, ap, ◌∙◌}
use mathlib.Core.List.{List, [], ◌∷◌, ◌++◌}
use Prim.Native.Nat.{ℕ, suc, ◌+◌, ◌-◌, ◌/◌, ◌%◌, ◌^◌, ◌≤◌, ◌<◌}
use native.Mathlib.Omega.{arith}
use native.Mathlib.Numerals.{add-one}
use lib.ListN.{length, get_or, set, take}
use lib.Seq.{sets}
use Rattle.std.proofs.Common.{inl, inr}
use Rattle.std.proofs.Math.Nat.{pow-le-pow_right}
use Rattle.std.proofs.lemmas.Bool.{cases_lt}
use Rattle.std.proofs.lemmas.List.{take_more}
use borrow.Author.Tests.{lt-ltb, le-ltb}
use Rattle.io.specs.Digits.{hex_digit_ascii, last_digits, IsDigitCount}
use Rattle.base.specs.Pick.{pick}
use Rattle.console.specs.Page.{spot_of, text_on, text_end, hex_of}

-- ---- where the next byte goes
pub full_spot : (at : ℕ) → 65536 ≤ at → 0 ≡ spot_of at
unfolding spot_of pick
full_spot at full = rw (le-ltb at 65536 full)

pub room_spot : (at : ℕ) → at < 65536 → at ≡ spot_of at
unfolding spot_of pick
room_spot at room = rw (lt-ltb at 65536 room)

-- ---- one byte; nothing; a text after a text
pub byte_end : (at byte : ℕ) → text_end at (byte ∷ []) ≡ spot_of at + 1
unfolding text_end
byte_end at byte = refl

pub byte_on : (page : List ℕ) (at byte : ℕ) → text_on page at (byte ∷ []) ≡ set page (spot_of at) byte
unfolding text_on
byte_on page at byte = refl

pub none_end : (at : ℕ) → text_end at [] ≡ at
unfolding text_end
none_end at = refl

pub none_on : (page : List ℕ) (at : ℕ) → text_on page at [] ≡ page
unfolding text_on
none_on page at = refl

pub both_end : (x y : List ℕ) (at : ℕ) → text_end at (x ++ y) ≡ text_end (text_end at x) y
unfolding text_end
both_end [] y at = refl
both_end (byte ∷ rest) y at = both_end rest y (spot_of at + 1)

pub both_on : (x y page : List ℕ) (at : ℕ) → text_on page at (x ++ y) ≡ text_on (text_on page at x) (text_end at x) y
unfolding text_on text_end
both_on [] y page at = refl
both_on (byte ∷ rest) y page at = both_on rest y (set page (spot_of at) byte) (spot_of at + 1)

-- ---- where there is room for a text, it comes to stand on the page byte after byte
pub end_fits : (word : List ℕ) (at : ℕ) → at + length word ≤ 65536 → text_end at word ≡ at + length word
unfolding text_end
end_fits [] at room = omega arith
end_fits (byte ∷ rest) at room =
    let here : at < 65536 = omega arith in
    rw (← room_spot at here) (end_fits rest (at + 1) (omega arith) ∙ omega arith)

pub text_fits : (word page : List ℕ) (at : ℕ) → at + length word ≤ 65536 → text_on page at word ≡ sets page at word
unfolding text_on
text_fits [] page at room = refl
text_fits (byte ∷ rest) page at room =
    let here : at < 65536 = omega arith in
    rw (← room_spot at here, add-one) (text_fits rest (set page at byte) (suc at) (omega arith))

-- ---- two digits more for the byte at i
hex_both : (xs ys : List ℕ) → hex_of (xs ++ ys) ≡ hex_of xs ++ hex_of ys
unfolding hex_of
hex_both [] ys = refl
hex_both (x ∷ xs) ys = ap (λ l. hex_digit_ascii (x / 16) ∷ hex_digit_ascii (x % 16) ∷ l) (hex_both xs ys)

pub hex_next :
    (bytes : List ℕ) (i : ℕ) → i < length bytes →
    hex_of (take (i + 1) bytes) ≡ hex_of (take i bytes) ++ (hex_digit_ascii (get_or bytes i 0 / 16) ∷ hex_digit_ascii (get_or bytes i 0 % 16) ∷ [])
unfolding hex_of
hex_next bytes i more = ap hex_of (take_more bytes i 0 more) ∙ hex_both (take i bytes) (get_or bytes i 0 ∷ [])

-- ---- `hex_byte`: a byte has two digits
two_digits : (byte k : ℕ) → byte < 256 → IsDigitCount 16 2 byte k → k ≡ 2
two_digits byte k small fewest = elim (cases_lt 2 k) [
  | inl more ↦
      let fit : 2 ≤ k - 1 = omega arith in
      let large : 16 ^ 2 ≤ 16 ^ (k - 1) = pow-le-pow_right {n = 16} (omega arith) fit in
      absurd (omega (arith, large, fewest.2 more, small))
  | inr most ↦ omega (arith, fewest.0, most)
]

pub byte_digits :
    (byte k : ℕ) (d : List ℕ) → byte < 256 → IsDigitCount 16 2 byte k → take k d ≡ last_digits 16 k byte →
    take k d ≡ hex_digit_ascii (byte / 16) ∷ hex_digit_ascii (byte % 16) ∷ []
byte_digits byte k d small fewest spelled =
    let two : k ≡ 2 = two_digits byte k small fewest in
    let high : byte / 16 < 16 = omega arith in
    let rest : byte / 16 % 16 ≡ byte / 16 = omega arith in
    spelled ∙ rw two (rw rest refl)
