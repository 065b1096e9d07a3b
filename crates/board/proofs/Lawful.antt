-- A well formed board is lawful mathematics: links join parts, a part takes time, savings fall and are afforded. And what `view` shows of it.
-- Assumes nothing.
use Prim.Native.Nat.{ℕ, ◌≤◌, ◌<◌}
use native.Mathlib.Omega.{arith}
use Rattle.theory.specs.Graph.{Lawful}
use Rattle.curve.proofs.CurveLaws.{saving_past, saving_falls, affords_saves}
use Rattle.board.specs.declared.Board.{Board}
use Rattle.board.specs.Board.{WellFormed, view, curve_at, link_at, delay_of}

pub lawful : (b : Board) → WellFormed b → Lawful (view b)
unfolding view
lawful b w = record {
  from_in = w.from_in;
  to_in = w.to_in;
  takes = λ p h. (w.curves p h).fastest_from;
  past = λ p h j l. saving_past (curve_at b p) j l;
  falls = λ p h. saving_falls (curve_at b p) (w.curves p h);
  affords = λ p h. affords_saves (curve_at b p) (w.curves p h);
}

-- no link takes more than 255 ticks
module _ (b : Board) (w : WellFormed b) (l : ℕ) (h : l < b.links) where
  pub delay_to : delay_of (link_at b l) ≤ 255
  delay_to = omega (arith, w.plain l h)

  pub wire_to : (view b).wire l ≤ 255
  unfolding view
  wire_to = delay_to
