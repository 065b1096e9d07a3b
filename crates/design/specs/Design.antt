-- 01, Files: "A design file: version 1; deadline; part count; for each part fastest, power, run count, and length then saving for each run;
-- link count; for each link from and to. Nothing follows." It is read in this order, and `and_then` has the first fault win; loops and slow
-- paths (9 and 10) are found after all of it.
-- Assumes nothing.
use Rattle.std.specs.Prelude.{ℕ, zero, suc, ◌-◌, Bool, true, false, List, ◌++◌, ltb, eqb, length, get_or, set, Option, Some, None, Ok, Err}
use Rattle.base.specs.Pick.{pick}
use Rattle.refusal.specs.Refusal.{Answer, refusal}
use Rattle.curve.specs.declared.Curve.{Curve}
use Rattle.groups.specs.Number.{number_at, encode}
use Rattle.groups.specs.Parse.{Parse, got}
use Rattle.fields.specs.Parse.{and_then, repeat, field_at}
use Rattle.fields.specs.Writing.{in_row}
use Rattle.fields.specs.CurveFile.{curve_from, curve_bytes}
use Rattle.fields.specs.LinkFile.{link_bytes}
use Rattle.board.specs.declared.Rule.{Rule}
use Rattle.board.specs.declared.Link.{Link}
use Rattle.board.specs.declared.Board.{Board}
use Rattle.board.specs.Board.{plain_link, no_link, curve_at, link_at}
use Rattle.board.specs.Tests.{blank_curves, blank_links, below_of}

-- "version not 1", place 0
unfoldable pub version_at : List ℕ → Parse ℕ
version_at s = and_then (number_at s 0) (λ v next. pick (eqb v 1) (got v next) (refusal 3 0))

-- what is read next is put in place i of a row
unfoldable pub in_place : {A : Type 0} → (ℕ → List A → ℕ → Parse A) → ℕ → List A → ℕ → Parse (List A)
in_place read i row at = and_then (read i row at) (λ a next. got (set row i a) next)

-- a part is read as its curve, whatever came before it
unfoldable pub part_from : List ℕ → ℕ → List Curve → ℕ → Parse Curve
part_from s p before at = curve_from s at

-- so many parts
unfoldable pub parts_from : List ℕ → ℕ → ℕ → Parse (List Curve)
parts_from s parts at = repeat (in_place (part_from s)) blank_curves at parts

-- above the one before; the first link has none before it
abbrev pub past : Option Link → Link → Bool
past None link = true
past (Some before) link = below_of before link

-- "self-link; in a file also link not above the one before"
unfoldable pub above : Option Link → Link → Bool
above before link = pick (eqb link.from link.to) false (past before link)

-- a link of a board of so many parts: "A link end must be below the part count, else 4"; "7 once both ends are read", at from's first byte
unfoldable pub link_from : List ℕ → ℕ → Option Link → ℕ → Parse Link
link_from s parts before at =
    and_then (field_at s 0 (parts - 1) at) (λ from at₁.
    and_then (field_at s 0 (parts - 1) at₁) (λ to at₂.
    pick (above before (plain_link from to)) (got (plain_link from to) at₂) (refusal 7 at)))

-- the link before place l of a row
abbrev pub before_of : ℕ → List Link → Option Link
before_of zero row = None
before_of (suc l) row = Some (get_or row l no_link)

-- a link after those in the row before it
abbrev pub link_in : List ℕ → ℕ → ℕ → List Link → ℕ → Parse Link
link_in s parts l row at = link_from s parts (before_of l row) at

-- so many links
unfoldable pub links_from : List ℕ → ℕ → ℕ → ℕ → Parse (List Link)
links_from s parts links at = repeat (in_place (link_in s parts)) blank_links at links

-- "bytes after the design", place: "first of them"
unfoldable pub whole_at : List ℕ → Board → ℕ → Parse Board
whole_at s b at = pick (ltb at (length s)) (refusal 8 at) (got b at)

abbrev pub board_of : Rule → ℕ → ℕ → List Curve → ℕ → List Link → Board
board_of rule deadline parts curve links link = record {
  rule = rule;
  deadline = record { 0 = deadline };
  parts = parts;
  curve = curve;
  links = links;
  link = link;
}

-- link count and links, and nothing more
unfoldable pub linked_from : List ℕ → Rule → ℕ → ℕ → List Curve → ℕ → Parse Board
linked_from s rule deadline parts curve at =
    and_then (field_at s 0 256 at) (λ links at₁.
    and_then (links_from s parts links at₁) (λ link at₂.
    whole_at s (board_of rule deadline parts curve links link) at₂))

-- parts and all that follows
unfoldable pub body_from : List ℕ → Rule → ℕ → ℕ → ℕ → Parse Board
body_from s rule deadline parts at = and_then (parts_from s parts at) (linked_from s rule deadline parts)

-- deadline, part count and all that follows
unfoldable pub head_from : List ℕ → Rule → ℕ → Parse Board
head_from s rule at =
    and_then (field_at s 1 4095 at) (λ deadline at₁.
    and_then (field_at s 1 64 at₁) (λ parts at₂.
    body_from s rule deadline parts at₂))

-- the board that a file describes under a rule, or the first of refusals 1 to 8 with its place
unfoldable pub design_of : Rule → List ℕ → Parse Board
design_of rule s = and_then (version_at s) (λ version at. head_from s rule at)

-- what the reader hands back: the board, or the first fault
abbrev pub design_read : Parse Board → Answer Board
design_read (Ok r) = Ok r.value
design_read (Err e) = Err e

-- ---- the file of a board
unfoldable pub parts_bytes : Board → ℕ → List ℕ
parts_bytes b k = in_row (λ p. curve_bytes (curve_at b p)) k

unfoldable pub links_bytes : Board → ℕ → List ℕ
links_bytes b k = in_row (λ l. link_bytes (link_at b l)) k

unfoldable pub linked_bytes : Board → List ℕ
linked_bytes b = encode b.links ++ links_bytes b b.links

unfoldable pub body_bytes : Board → List ℕ
body_bytes b = parts_bytes b b.parts ++ linked_bytes b

unfoldable pub head_bytes : Board → List ℕ
head_bytes b = encode b.deadline.0 ++ (encode b.parts ++ body_bytes b)

unfoldable pub file_of : Board → List ℕ
file_of b = encode 1 ++ head_bytes b
