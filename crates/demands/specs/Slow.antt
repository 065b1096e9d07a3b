-- The words of demand 2: "A well-formed, loop-free board is refused for time exactly when some path at its fastest is too slow, and that path is
-- shown."
-- Assumes nothing.
use Rattle.std.specs.Prelude.{◌≡◌, List, ℕ}
use Rattle.refusal.specs.Refusal.{Answer, refusal}
use Rattle.board.specs.declared.Board.{Board}
use Rattle.board.specs.Board.{view}
use Rattle.slow.specs.declared.Trail.{Trail}
use Rattle.slow.specs.Slow.{PathTo, SlowPath, TooSlow}
use Rattle.slow.specs.Walk.{trail_of}

-- refusal 10 is given, and the path shown is a path of the board that takes more ticks than the usable deadline has: the one that 01 fixes
pub record SlowShown (b : Board) (answer : Answer Unit) (shown : Trail) : Type 0 where
  pub path : List ℕ
  pub ticks : ℕ
  pub fixed : SlowPath b ticks path
  pub is : PathTo (view b) fixed.part path ticks
  pub answered : answer ≡ refusal 10 ticks
  pub listed : shown ≡ trail_of path

-- refused by 10 exactly when some path is too slow
pub record TimeRefusal (b : Board) (answer : Answer Unit) (shown : Trail) : Type 0 where
  pub given : TooSlow b → SlowShown b answer shown
  pub only : (place : ℕ) → answer ≡ refusal 10 place → SlowShown b answer shown
