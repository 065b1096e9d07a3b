-- 01, Boards to try: boards K and D and those of a single part, as 01 writes them.
-- Assumes nothing.
use Rattle.std.specs.Prelude.{List, [], ◌∷◌, ◌++◌, ℕ, ◌-◌, length, replicate}
use Rattle.curve.specs.declared.Run.{Run}
use Rattle.curve.specs.declared.Curve.{Curve}
use Rattle.curve.specs.Curve.{no_run}
use Rattle.board.specs.declared.Rule.TheVariants.{A}
use Rattle.board.specs.declared.Link.{Link}
use Rattle.board.specs.declared.Board.{Board}
use Rattle.board.specs.Board.{plain_link, no_link, blank_curve}

-- "runs as length at saving"
abbrev pub run : ℕ → ℕ → Run
run ticks saving = record { length = record { 0 = ticks }; saving = record { 0 = saving } }

-- "fastest; power; runs"; places past the last run are blank
unfoldable pub curve : ℕ → ℕ → List Run → Curve
curve fastest power runs = record {
  fastest = record { 0 = fastest };
  power = record { 0 = power };
  count = length runs;
  runs = runs ++ replicate (4 - length runs) no_run;
}

abbrev pub link : ℕ → ℕ → Link
link from to = plain_link from to

-- "deadline, links, curves"; places past the last part and link are blank
unfoldable pub board : ℕ → List Link → List Curve → Board
board deadline links curves = record {
  rule = A;
  deadline = record { 0 = deadline };
  parts = length curves;
  curve = curves ++ replicate (64 - length curves) blank_curve;
  links = length links;
  link = links ++ replicate (256 - length links) no_link;
}

-- "Curves (fastest; power; runs as length at saving): part 0: 2; 100; 2 at 20, 1 at 5. Part 1: 3; 90; 3 at 12. Part 2: 1; 50; 2 at 12. Part 3: 4;
-- 40; 1 at 6, 1 at 2."
abbrev pub curves_K : List Curve
curves_K =
    curve 2 100 (run 2 20 ∷ run 1 5 ∷ [])
    ∷ curve 3 90 (run 3 12 ∷ [])
    ∷ curve 1 50 (run 2 12 ∷ [])
    ∷ curve 4 40 (run 1 6 ∷ run 1 2 ∷ [])
    ∷ []

-- "Board K, deadline 10, links 0 to 1, 0 to 3, 1 to 2."
unfoldable pub K : Board
K = board 10 (link 0 1 ∷ link 0 3 ∷ link 1 2 ∷ []) curves_K

-- "Its file, hex": 01 0A 04, then 02 64 02 02 14 01 05, 03 5A 01 03 0C, 01 32 01 02 0C and 04 28 02 01 06 01 02, then 03 00 01 00 03 01 02
unfoldable pub file_K : List ℕ
file_K =
    1 ∷ 10 ∷ 4 ∷
    2 ∷ 100 ∷ 2 ∷ 2 ∷ 20 ∷ 1 ∷ 5 ∷
    3 ∷ 90 ∷ 1 ∷ 3 ∷ 12 ∷
    1 ∷ 50 ∷ 1 ∷ 2 ∷ 12 ∷
    4 ∷ 40 ∷ 2 ∷ 1 ∷ 6 ∷ 1 ∷ 2 ∷
    3 ∷ 0 ∷ 1 ∷ 0 ∷ 3 ∷ 1 ∷ 2 ∷ []

-- "Board D, deadline 3, links 0 to 1 and 0 to 2, all curves fastest 1, power 10, one run of 1; saving 5 for part 0, 3 for the others." Case (4) has
-- saving 6 at part 0
unfoldable pub D : ℕ → Board
D saving =
    board 3 (link 0 1 ∷ link 0 2 ∷ [])
    (curve 1 10 (run 1 saving ∷ []) ∷ curve 1 10 (run 1 3 ∷ []) ∷ curve 1 10 (run 1 3 ∷ []) ∷ [])

-- D's file, as 01 says that a file is written
unfoldable pub file_D : List ℕ
file_D =
    1 ∷ 3 ∷ 3 ∷
    1 ∷ 10 ∷ 1 ∷ 1 ∷ 5 ∷
    1 ∷ 10 ∷ 1 ∷ 1 ∷ 3 ∷
    1 ∷ 10 ∷ 1 ∷ 1 ∷ 3 ∷
    2 ∷ 0 ∷ 1 ∷ 0 ∷ 2 ∷ []

-- "One part, fastest 1, power 0, no runs, deadline 1"
unfoldable pub flat : Board
flat = board 1 [] (curve 1 0 [] ∷ [])

unfoldable pub file_flat : List ℕ
file_flat = 1 ∷ 1 ∷ 1 ∷ 1 ∷ 0 ∷ 0 ∷ 0 ∷ []

-- "One part, fastest 5, power 255, a run of 255 at 1", and a deadline
unfoldable pub long : ℕ → Board
long deadline = board deadline [] (curve 5 255 (run 255 1 ∷ []) ∷ [])

-- with deadline 4,095
unfoldable pub file_long : List ℕ
file_long = 1 ∷ 255 ∷ 31 ∷ 1 ∷ 5 ∷ 255 ∷ 1 ∷ 1 ∷ 255 ∷ 1 ∷ 1 ∷ 0 ∷ []
