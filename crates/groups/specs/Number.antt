-- 01, Files: "A number is unsigned, in groups of seven bits, lowest group first, high bit set on all but the last (ULEB128 of the DWARF
-- standard)". 02, Req 02: "a number may have four groups, still in shortest form". What reading one finds, and the form of one.
-- The subtle point is the order of refusals 1 and 2: once the last group that a number may have promises another, it is 2, whether or not
-- the input ends there.
-- Assumes nothing.
use Rattle.std.specs.Prelude.{ℕ, zero, suc, ◌+◌, ◌*◌, ◌/◌, ◌%◌, ◌^◌, List, [], ◌∷◌, length, get_or, Bool, true, ltb, leb, eqb}
use Rattle.std.proofs.lemmas.List.Edits.{sets}
use Rattle.base.specs.Pick.{pick}
use Rattle.refusal.specs.Refusal.{refusal}
use Rattle.groups.specs.Parse.{Parse, got}

-- 02, Req 02: "a number may have four groups"
abbrev pub groups : ℕ
groups = 4

-- the least number that has no form: 268,435,456
abbrev pub limit : ℕ
limit = 128 ^ groups

-- "shortest form only": a group of zero ends a number only where it is the first, as the form of 0
unfoldable pub shortest_end : ℕ → ℕ → ℕ → Bool
shortest_end first at g = pick (eqb at first) true (ltb 0 g)

-- With the bytes s, of a number that begins at `first`: `left` groups may still come, the next at `at`; a unit of it is worth `scale`,
-- and the groups before it are worth `sum`.
unfoldable pub groups_from : ℕ → List ℕ → ℕ → ℕ → ℕ → ℕ → Parse ℕ
groups_from zero s first at scale sum = refusal 2 first  -- the last group allowed promised another
groups_from (suc left) s first at scale sum =
    let g = get_or s at 0 in
    let sum' = sum + g % 128 * scale in
    pick (ltb at (length s))
    (pick (ltb g 128)
    (pick (shortest_end first at g) (got sum' (at + 1)) (refusal 2 first))
    (groups_from left s first (at + 1) (scale * 128) sum'))
    (refusal 1 (length s))  -- the input ends within the number

-- the number at a place of the bytes s
unfoldable pub number_at : List ℕ → ℕ → Parse ℕ
number_at s at = groups_from groups s at at 1 0

-- the form of a number in at most `left` groups
unfoldable pub encode_in : ℕ → ℕ → List ℕ
encode_in zero n = []
encode_in (suc left) n = pick (ltb n 128) (n ∷ []) ((n % 128 + 128) ∷ encode_in left (n / 128))

-- the form of a number; one that needs more groups has none, and no bytes stand for it
unfoldable pub encode : ℕ → List ℕ
encode n = pick (ltb n limit) (encode_in groups n) []

-- Writing a number at a place of a buffer: its form stands there and the next place is past it; without room nothing is done.
unfoldable pub fits : List ℕ → ℕ → ℕ → Bool
fits buf at n = leb (at + length (encode n)) (length buf)

unfoldable pub written : List ℕ → ℕ → ℕ → List ℕ
written buf at n = pick (fits buf at n) (sets buf at (encode n)) buf

unfoldable pub written_to : List ℕ → ℕ → ℕ → ℕ
written_to buf at n = pick (fits buf at n) (at + length (encode n)) at
