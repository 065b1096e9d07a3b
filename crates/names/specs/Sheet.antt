-- 01, Questions: "A name sheet is text, line n for part n, lines parted by byte 10. A label is 1 to 16 bytes from 33 to 126."
-- Assumes nothing.
use Rattle.std.specs.Prelude.{ℕ, zero, suc, ◌-◌, List, [], ◌∷◌, Bool, false, length, leb, eqb, Ok}
use Rattle.std.specs.List.{list_all}
use Rattle.base.specs.Pick.{pick}
use Rattle.refusal.specs.Refusal.{Answer, refusal}

-- the line that a text begins with: the bytes before its first byte 10
unfoldable pub first_line : List ℕ → List ℕ
first_line [] = []
first_line (x ∷ r) = pick (eqb x 10) [] (x ∷ first_line r)

-- what follows the first byte 10; nothing where there is none
unfoldable pub past_line : List ℕ → List ℕ
past_line [] = []
past_line (x ∷ r) = pick (eqb x 10) r (past_line r)

-- the text from line n on
unfoldable pub from_line : List ℕ → ℕ → List ℕ
from_line s zero = s
from_line s (suc n) = from_line (past_line s) n

-- line n; a sheet without it has nothing there
unfoldable pub line_of : List ℕ → ℕ → List ℕ
line_of s n = first_line (from_line s n)

-- "bytes from 33 to 126"
unfoldable pub plain : ℕ → Bool
plain x = pick (leb 33 x) (leb x 126) false

-- "1 to 16 bytes"
unfoldable pub good_label : List ℕ → Bool
good_label l = pick (leb 1 (length l)) (pick (leb (length l) 16) (list_all plain l) false) false

-- the whole line where it is a good label, else "an empty stretch"
unfoldable pub label_of : List ℕ → ℕ → List ℕ
label_of s n = pick (good_label (line_of s n)) (line_of s n) []

-- "The label is handed back as that stretch of the caller's sheet": where the stretch begins
unfoldable pub label_place : List ℕ → ℕ → ℕ
label_place s n = pick (good_label (line_of s n)) (length s - length (from_line s n)) 0

-- 20: "sheet has no such line or no good label there", place 0; exactly where the stretch is empty (`label_refused`)
unfoldable pub label_answer : List ℕ → ℕ → Answer Unit
label_answer s n = pick (good_label (line_of s n)) (Ok tt) (refusal 20 0)
