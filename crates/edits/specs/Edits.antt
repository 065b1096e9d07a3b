-- 01, Files: "1: deadline. 2: from, to, a link to add. 3: from, to, a link to remove. 4: part, then a whole new curve." What a board is after each.
-- The subtle point: links stay in ascending order, so a link is put in at its place and not at the end (proofs/LinkEdits says what changed).
-- Assumes nothing.
use Rattle.std.specs.Prelude.{Bool, true, false, not, List, ℕ, zero, suc, ◌+◌, ◌-◌, ltb, leb, eqb, get_or, set}
use Rattle.base.specs.Pick.{pick}
use Rattle.theory.specs.Sum.{sum}
use Rattle.curve.specs.declared.Ticks.{Ticks}
use Rattle.curve.specs.declared.Curve.{Curve}
use Rattle.board.specs.declared.Link.{Link}
use Rattle.board.specs.declared.Board.{Board}
use Rattle.board.specs.Board.{plain_link, link_at, no_link}
use Rattle.board.specs.Tests.{below_of}

-- how many of the first n links stand before x
unfoldable pub count_before : Board → Link → ℕ → ℕ
count_before b x n = sum n (λ l. pick (below_of (link_at b l) x) 1 0)

-- how many links stand before x: its place, if it is there
unfoldable pub place_of : Board → Link → ℕ
place_of b x = pick (leb b.links 256) (count_before b x b.links) 0

-- a test passes at some number below n
unfoldable pub some : ℕ → (ℕ → Bool) → Bool
some zero p = false
some (suc n) p = pick (p n) true (some n p)

unfoldable pub same_ends : Link → Link → Bool
same_ends a x = pick (eqb a.from x.from) (eqb a.to x.to) false

-- a link is there: some link has these ends
unfoldable pub has_link_of : Board → Link → Bool
has_link_of b x = pick (leb b.links 256) (some b.links (λ l. same_ends (link_at b l) x)) false

-- a row whose first n places hold f of their number, and the others what they held
unfoldable pub filled : List Link → (ℕ → Link) → ℕ → List Link
filled old f zero = old
filled old f (suc n) = set (filled old f n) n (f n)

-- x put in at a place, the links from there on moved up by one
unfoldable pub inserted_at : List Link → ℕ → Link → ℕ → Link
inserted_at old at x k = pick (ltb k at) (get_or old k no_link) (pick (eqb k at) x (get_or old (k - 1) no_link))

unfoldable pub inserted_of : List Link → ℕ → Link → List Link
inserted_of old at x = filled old (inserted_at old at x) 256

-- the link at a place taken out, those after it moved down by one
unfoldable pub removed_at : List Link → ℕ → ℕ → Link
removed_at old at k = pick (ltb k at) (get_or old k no_link) (get_or old (k + 1) no_link)

unfoldable pub removed_of : List Link → ℕ → List Link
removed_of old at = filled old (removed_at old at) 256

-- there is room for a link, and it is not there already
unfoldable pub addable : Board → Link → Bool
addable b x = pick (ltb b.links 256) (not (has_link_of b x)) false

-- "1: deadline"
unfoldable pub with_deadline_of : Board → Ticks → Board
with_deadline_of b d = record { rule = b.rule; deadline = d; parts = b.parts; curve = b.curve; links = b.links; link = b.link }

-- "4: part, then a whole new curve"
unfoldable pub with_curve_of : Board → ℕ → Curve → Board
with_curve_of b p c = record {
  rule = b.rule;
  deadline = b.deadline;
  parts = b.parts;
  curve = pick (ltb p b.parts) (set b.curve p c) b.curve;
  links = b.links;
  link = b.link;
}

-- "2: from, to, a link to add", without a delay
unfoldable pub with_link_of : Board → ℕ → ℕ → Board
with_link_of b from to = record {
  rule = b.rule;
  deadline = b.deadline;
  parts = b.parts;
  curve = b.curve;
  links = pick (addable b (plain_link from to)) (b.links + 1) b.links;
  link = pick (addable b (plain_link from to)) (inserted_of b.link (place_of b (plain_link from to)) (plain_link from to)) b.link;
}

-- "3: from, to, a link to remove"
unfoldable pub without_link_of : Board → ℕ → ℕ → Board
without_link_of b from to = record {
  rule = b.rule;
  deadline = b.deadline;
  parts = b.parts;
  curve = b.curve;
  links = pick (has_link_of b (plain_link from to)) (b.links - 1) b.links;
  link = pick (has_link_of b (plain_link from to)) (removed_of b.link (place_of b (plain_link from to))) b.link;
}
