-- What a board as a whole is refused for, with the path that is shown.
-- Assumes nothing.
use Rattle.std.specs.Prelude.{ℕ, List, [], Ok}
use Rattle.refusal.specs.Refusal.{Answer, refusal}
use Rattle.board.specs.declared.Board.{Board}
use Rattle.board.specs.Leads.{LoopFree}
use Rattle.cone.specs.Cone.{LowestOnLoop}
use Rattle.slow.specs.Slow.{InTime, SlowPath}

-- "After the last link come 8, 9, 10": what a well-formed board is refused for, with the path that is shown, or that nothing is
pub data Verdict (b : Board) : Answer Unit → List ℕ → Type 0 where
  looped : {p : ℕ} → LowestOnLoop b p → Verdict b (refusal 9 p) []
  slow : {ticks : ℕ} {path : List ℕ} → LoopFree b → SlowPath b ticks path → Verdict b (refusal 10 ticks) path
  fine : LoopFree b → InTime b → Verdict b (Ok tt) []
