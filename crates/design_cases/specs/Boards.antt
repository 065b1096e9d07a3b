-- 01, Boards to try: boards K and D, and their files.
-- Assumes nothing.
use Rattle.std.specs.Prelude.{ℕ, List, [], ◌∷◌, replicate}
use Rattle.curve.specs.declared.Run.{Run}
use Rattle.curve.specs.declared.Curve.{Curve}
use Rattle.curve.specs.Curve.{no_run}
use Rattle.board.specs.declared.Rule.TheVariants.{A}
use Rattle.board.specs.declared.Link.{Link}
use Rattle.board.specs.declared.Board.{Board}
use Rattle.board.specs.Board.{plain_link, no_link, blank_curve}

-- a run as 01 writes it: length at saving
abbrev pub run : ℕ → ℕ → Run
run ticks saving = record { length = record { 0 = ticks }; saving = record { 0 = saving } }

abbrev pub link : ℕ → ℕ → Link
link from to = plain_link from to

-- a curve of one run and of two
abbrev pub one_run : ℕ → ℕ → Run → Curve
one_run fastest power a = record { fastest = record { 0 = fastest }; power = record { 0 = power }; count = 1; runs = a ∷ no_run ∷ no_run ∷ no_run ∷ [] }

abbrev pub two_runs : ℕ → ℕ → Run → Run → Curve
two_runs fastest power a b = record { fastest = record { 0 = fastest }; power = record { 0 = power }; count = 2; runs = a ∷ b ∷ no_run ∷ no_run ∷ [] }

-- "Board K, deadline 10, links 0 to 1, 0 to 3, 1 to 2. Part 0: 2; 100; 2 at 20, 1 at 5. Part 1: 3; 90; 3 at 12. Part 2: 1; 50; 2 at 12.
-- Part 3: 4; 40; 1 at 6, 1 at 2."
unfoldable pub K : Board
K = record {
  rule = A;
  deadline = record { 0 = 10 };
  parts = 4;
  curve = two_runs 2 100 (run 2 20) (run 1 5) ∷ one_run 3 90 (run 3 12) ∷ one_run 1 50 (run 2 12) ∷ two_runs 4 40 (run 1 6) (run 1 2) ∷ replicate 60 blank_curve;
  links = 3;
  link = link 0 1 ∷ link 0 3 ∷ link 1 2 ∷ replicate 253 no_link;
}

-- "Its file, hex: 01 0A 04 02 64 02 02 14 01 05 03 5A 01 03 0C 01 32 01 02 0C 04 28 02 01 06 01 02 03 00 01 00 03 01 02"
unfoldable pub file_K : List ℕ
file_K =
    1 ∷ 10 ∷ 4 ∷
    2 ∷ 100 ∷ 2 ∷ 2 ∷ 20 ∷ 1 ∷ 5 ∷
    3 ∷ 90 ∷ 1 ∷ 3 ∷ 12 ∷
    1 ∷ 50 ∷ 1 ∷ 2 ∷ 12 ∷
    4 ∷ 40 ∷ 2 ∷ 1 ∷ 6 ∷ 1 ∷ 2 ∷
    3 ∷ 0 ∷ 1 ∷ 0 ∷ 3 ∷ 1 ∷ 2 ∷ []

-- "Board D, deadline 3, links 0 to 1 and 0 to 2, all curves fastest 1, power 10, one run of 1; saving 5 for part 0, 3 for the others."
unfoldable pub D : Board
D = record {
  rule = A;
  deadline = record { 0 = 3 };
  parts = 3;
  curve = one_run 1 10 (run 1 5) ∷ one_run 1 10 (run 1 3) ∷ one_run 1 10 (run 1 3) ∷ replicate 61 blank_curve;
  links = 2;
  link = link 0 1 ∷ link 0 2 ∷ replicate 254 no_link;
}

unfoldable pub file_D : List ℕ
file_D =
    1 ∷ 3 ∷ 3 ∷
    1 ∷ 10 ∷ 1 ∷ 1 ∷ 5 ∷
    1 ∷ 10 ∷ 1 ∷ 1 ∷ 3 ∷
    1 ∷ 10 ∷ 1 ∷ 1 ∷ 3 ∷
    2 ∷ 0 ∷ 1 ∷ 0 ∷ 2 ∷ []
