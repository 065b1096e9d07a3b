-- What a board comes to that a load or an order would hold: "After the last link come 8, 9, 10"; "last 10".
-- Assumes nothing.
use Rattle.std.specs.Prelude.{◌≡◌, List, ℕ, Ok, Err}
use Rattle.refusal.specs.declared.Refusal.{Refusal}
use Rattle.refusal.specs.Refusal.{Answer}
use Rattle.board.specs.declared.Board.{Board}
use Rattle.slow.specs.declared.Trail.{Trail}
use Rattle.slow.specs.Walk.{trail_of}
use Rattle.solver.specs.Verdict.{Verdict}
use Rattle.desk.specs.declared.Desk.{Desk}
use Rattle.desk.specs.Held.{Holding}

-- the desk d becomes d': 9 or 10 refuses the board b and the desk stays, or b is held with its budget
pub record BoardJudged (b : Board) (d : Desk) (answer : Answer Unit) (path : Trail) (d' : Desk) : Type 0 where
  pub shown : List ℕ
  pub verdict : Verdict b answer shown
  pub listed : path ≡ trail_of shown
  pub stays : (e : Refusal) → answer ≡ Err e → d' ≡ d
  pub holding : answer ≡ Ok tt → Holding d'
  pub board : (done : answer ≡ Ok tt) → (holding done).held.board ≡ b
