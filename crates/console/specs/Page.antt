-- A page of 65,536 bytes, filled byte by byte. The subtle point: past the last byte it is begun anew at 0, when all that stood on it has been
-- written out; so text of any length can be put on it from any place.
-- Assumes nothing.
use Rattle.std.specs.Prelude.{List, [], ◌∷◌, ℕ, ◌+◌, ◌/◌, ◌%◌, ltb, set}
use Rattle.io.specs.Digits.{hex_digit_ascii}
use Rattle.base.specs.Pick.{pick}

-- where the next byte goes on a page that is filled up to `at`
unfoldable pub spot_of : ℕ → ℕ
spot_of at = pick (ltb at 65536) at 0

-- what the page holds after a text
unfoldable pub text_on : List ℕ → ℕ → List ℕ → List ℕ
text_on page at [] = page
text_on page at (byte ∷ rest) = text_on (set page (spot_of at) byte) (spot_of at + 1) rest

-- how far it is then filled
unfoldable pub text_end : ℕ → List ℕ → ℕ
text_end at [] = at
text_end at (byte ∷ rest) = text_end (spot_of at + 1) rest

-- bytes as hex digits, two for each: `0` to `9`, then `a` to `f`
unfoldable pub hex_of : List ℕ → List ℕ
hex_of [] = []
hex_of (byte ∷ rest) = hex_digit_ascii (byte / 16) ∷ hex_digit_ascii (byte % 16) ∷ hex_of rest
