-- What the functions of this crate give: an empty board, and the tests that decide whether a board is well formed (proofs/TestLaws says that they do).
-- Assumes nothing.
use Rattle.std.specs.Prelude.{Bool, true, false, ◌&&◌, List, ℕ, ◌-◌, ltb, leb, eqb, replicate}
use lib.Pointwise.{pointwise}
use Rattle.base.specs.Pick.{pick}
pub use Rattle.base.specs.Decides.{Decides}
use Rattle.curve.specs.Tests.{every, goodb}
use Rattle.curve.specs.declared.Ticks.{Ticks}
use Rattle.curve.specs.declared.Run.{Run}
use Rattle.curve.specs.declared.Curve.{Curve}
use Rattle.board.specs.declared.Rule.TheVariants.{A}
use Rattle.board.specs.declared.Link.{Link}
use Rattle.board.specs.declared.Board.{Board}
use Rattle.board.specs.Board.{no_link, blank_curve, link_at, curve_at}

unfoldable pub blank_links : List Link
blank_links = replicate 256 no_link

unfoldable pub blank_curves : List Curve
blank_curves = replicate 64 blank_curve

-- rule A, no links, and every curve blank
unfoldable pub empty_of : Ticks → ℕ → Board
empty_of deadline parts = record { rule = A; deadline = deadline; parts = parts; curve = blank_curves; links = 0; link = blank_links }

-- "in ascending order of from, then to": a stands before x
unfoldable pub below_of : Link → Link → Bool
below_of a x = pick (ltb a.from x.from) true (pick (ltb x.from a.from) false (ltb a.to x.to))

-- link l, which is x, joins two parts, has no delay and stands above the one before it
unfoldable pub link_held : ℕ → ℕ → Link → Link → Bool
link_held parts l before x =
    pick (leb parts x.from) false (
    pick (leb parts x.to) false (
    pick (eqb x.from x.to) false (
    pick (ltb 0 x.delay.0) false (
    pick (eqb l 0) true (below_of before x)))))

-- two links, two runs and two curves are the same
abbrev pub same_link : Link → Link → Bool
same_link a x = eqb a.from x.from && (eqb a.to x.to && eqb a.delay.0 x.delay.0)

abbrev pub same_run : Run → Run → Bool
same_run a x = eqb a.length.0 x.length.0 && eqb a.saving.0 x.saving.0

abbrev pub same_curve : Curve → Curve → Bool
same_curve a x = eqb a.fastest.0 x.fastest.0 && (eqb a.power.0 x.power.0 && (eqb a.count x.count && pointwise same_run a.runs x.runs))

unfoldable pub link_good : ℕ → ℕ → ℕ → Link → Link → Bool
link_good parts links l before x = pick (ltb l links) (link_held parts l before x) (same_link x no_link)

unfoldable pub link_test : Board → ℕ → Bool
link_test b l = link_good b.parts b.links l (link_at b (l - 1)) (link_at b l)

unfoldable pub links_test : Board → Bool
links_test b = every 256 (link_test b)

unfoldable pub curve_good : ℕ → ℕ → Curve → Bool
curve_good parts p c = pick (ltb p parts) (goodb c) (same_curve c blank_curve)

unfoldable pub curve_test : Board → ℕ → Bool
curve_test b p = curve_good b.parts p (curve_at b p)

unfoldable pub curves_test : Board → Bool
curves_test b = every 64 (curve_test b)
