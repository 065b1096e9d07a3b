-- The longest file there may be (`file_size_le`) is the file of some board: 64 parts and 256 links, every number at its greatest size.
-- Assumes nothing.
use mathlib.Core.Path.{◌≡◌, refl, ap, ◌∙◌}
use mathlib.Core.List.{List, [], ◌∷◌, ◌++◌}
use Prim.Native.Nat.{ℕ, zero, suc, ◌+◌, ◌*◌, ◌/◌, ◌%◌, ◌<◌}
use native.Mathlib.Omega.{arith}
use lib.ListN.{length, get_or, replicate, length-append, length-replicate, get_or-replicate}
use Rattle.base.specs.Pick.{pick}
use Rattle.groups.specs.Number.{groups, encode_in, encode}
use Rattle.groups.proofs.Forms.{size_1}
use Rattle.theory.specs.Sum.{sum}
use Rattle.curve.specs.declared.Curve.{Curve}
use Rattle.curve.specs.Curve.{power_max, length_at, saving_at, savings_of, Good}
use Rattle.curve.specs.Tests.{every, blankb, rangedb, placeb, goodb}
use Rattle.curve.proofs.GoodLaws.{goodb_good}
use Rattle.fields.specs.Writing.{in_row}
use Rattle.fields.specs.CurveFile.{runs_bytes, curve_bytes}
use Rattle.board.specs.declared.Rule.TheVariants.{A}
use Rattle.board.specs.declared.Link.{Link}
use Rattle.board.specs.declared.Board.{Board}
use Rattle.board.specs.Board.{no_curve, no_link, curve_at, link_at, delay_of, WellFormed}
use Rattle.fields.specs.LinkFile.{link_bytes}
use Rattle.design.specs.Design.{parts_bytes, links_bytes, linked_bytes, body_bytes, head_bytes, file_of}
use Rattle.design_cases.specs.Boards.{run, link}

-- bytes in a row, each of one size
row_of : (bytes : ℕ → List ℕ) (each k : ℕ) → ((i : ℕ) → i < k → length (bytes i) ≡ each) → length (in_row bytes k) ≡ each * k
unfolding in_row
row_of bytes each zero is = omega arith
row_of bytes each (suc k) is =
    omega (arith, length-append (in_row bytes k) (bytes k), row_of bytes each k (λ i h. is i (omega arith)), is k (omega arith))

-- ---- a curve of the greatest size
unfoldable long : Curve
long = record {
  fastest = record { 0 = 1023 };
  power = record { 0 = power_max };
  count = 4;
  runs = run 255 1000 ∷ run 255 999 ∷ run 255 998 ∷ run 255 997 ∷ [];
}

long_good : Good long
unfolding long goodb every placeb rangedb blankb length_at saving_at savings_of sum pick
long_good = goodb_good long refl

long_size : length (curve_bytes long) ≡ 19 + groups
unfolding long curve_bytes runs_bytes in_row encode encode_in pick
long_size = refl

-- ---- links from parts 0 to 7 to parts 32 to 63, in ascending order
abbrev link_of : ℕ → Link
link_of l = link (l / 32) (32 + l % 32)

unfoldable links_from : ℕ → ℕ → List Link
links_from zero l = []
links_from (suc n) l = link_of l ∷ links_from n (suc l)

links_long : (n l : ℕ) → length (links_from n l) ≡ n
unfolding links_from
links_long zero l = refl
links_long (suc n) l = ap suc (links_long n (suc l))

links_at : (n l i : ℕ) → i < n → get_or (links_from n l) i no_link ≡ link_of (l + i)
unfolding links_from
links_at zero l i h = absurd (omega arith)
links_at (suc n) l zero h = ap link_of (omega arith)
links_at (suc n) l (suc i) h = links_at n (suc l) i (omega arith) ∙ ap link_of (omega arith)

-- ---- the board, whatever lists hold its curves and links
module _ (cs : List Curve) (ls : List Link) (many : length cs ≡ 64) (curves : (p : ℕ) → p < 64 → get_or cs p no_curve ≡ long) (most : length ls ≡ 256) (links : (l : ℕ) → l < 256 → get_or ls l no_link ≡ link_of l) where
  abbrev longest : Board
  longest = record { rule = A; deadline = record { 0 = 4095 }; parts = 64; curve = cs; links = 256; link = ls }

  formed : WellFormed longest
  unfolding delay_of
  formed = record {
    deadline_from = omega arith;
    deadline_to = omega arith;
    parts_from = omega arith;
    parts_to = omega arith;
    curves = λ p h. rw (curves p h) long_good;
    links_to = omega arith;
    from_in = λ l h. rw (links l h) (omega arith);
    to_in = λ l h. rw (links l h) (omega arith);
    apart = λ l h. rw (links l h) (λ e. omega arith);
    plain = λ l h. rw (links l h) refl;
    ascends = λ l h. rw (links l (omega arith), links (suc l) h) (omega arith);
    blank_curves = λ p h k. absurd (omega arith);
    blank_links = λ l h k. absurd (omega arith);
    curve_room = many;
    link_room = most;
  }

  parts_long : length (parts_bytes longest 64) ≡ (19 + groups) * 64
  unfolding parts_bytes
  parts_long = row_of (λ p. curve_bytes (curve_at longest p)) (19 + groups) 64 (λ p h. rw (curves p h) long_size)

  link_long : (l : ℕ) → l < 256 → length (link_bytes (link_at longest l)) ≡ 2
  link_long l h =
      rw (links l h) (omega (arith, length-append (encode (l / 32)) (encode (32 + l % 32)), size_1 (l / 32) (omega arith), size_1 (32 + l % 32) (omega arith)))

  row_long : length (links_bytes longest 256) ≡ 2 * 256
  unfolding links_bytes
  row_long = row_of (λ l. link_bytes (link_at longest l)) 2 256 link_long

  -- version, deadline, part count and link count
  ends_long : length (encode 1) + length (encode 4095) + length (encode 64) + length (encode 256) ≡ 6
  unfolding encode encode_in pick
  ends_long = refl

  file_long : length (file_of longest) ≡ 1990
  unfolding file_of head_bytes body_bytes linked_bytes
  file_long =
      let c = parts_bytes longest 64 in
      let r = links_bytes longest 256 in
      omega (
        arith,
        length-append (encode 1) (encode 4095 ++ (encode 64 ++ (c ++ (encode 256 ++ r)))),
        length-append (encode 4095) (encode 64 ++ (c ++ (encode 256 ++ r))),
        length-append (encode 64) (c ++ (encode 256 ++ r)),
        length-append c (encode 256 ++ r),
        length-append (encode 256) r,
        ends_long,
        parts_long,
        row_long,
      )

-- 64 such curves, and 256 such links
every_curve : (p : ℕ) → p < 64 → get_or (replicate 64 long) p no_curve ≡ long
every_curve p h = get_or-replicate 64 p long no_curve h

every_link : (l : ℕ) → l < 256 → get_or (links_from 256 0) l no_link ≡ link_of l
every_link l h = links_at 256 0 l h ∙ ap link_of (omega arith)

-- "The longest design file is 1,990 bytes": some board has it
pub longest_file : (b : Board) × WellFormed b × (length (file_of b) ≡ 1990)
longest_file =
    let cs = replicate 64 long in
    let ls = links_from 256 0 in
    let many = length-replicate 64 long in
    let most = links_long 256 0 in (
      longest cs ls many every_curve most every_link,
      formed cs ls many every_curve most every_link,
      file_long cs ls many every_curve most every_link,
    )
