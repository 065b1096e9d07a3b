-- The words of demand 2: "A load is accepted, and holds the board that its file describes, exactly when no listed refusal applies."
-- Assumes nothing.
use Rattle.std.specs.Prelude.{◌≡◌, List, ℕ}
use Rattle.std.specs.Prelude.{Ok}
use Rattle.board.specs.declared.Rule.{Rule}
use Rattle.board.specs.declared.Board.{Board}
use Rattle.board.specs.Board.{rule_number}
use Rattle.groups.specs.Parse.{got}
use Rattle.design.specs.Design.{design_of}
use Rattle.desk.specs.declared.Loaded.{Loaded}
use Rattle.desk.specs.Held.{Holding}
use Rattle.desk.specs.Load.{no_tally}
use Rattle.demands.specs.Boards.{Plannable}

-- refusals 1 to 8 do not apply: the file describes a board, under the rule that is named
pub record Describes (named : Rule) (s : List ℕ) (b : Board) : Type 0 where
  pub size : ℕ
  pub read : design_of named s ≡ got b size

-- the load is accepted and holds that board
pub record Accepted (b : Board) (r : Loaded) : Type 0 where
  pub done : r.answer ≡ Ok tt
  pub holding : Holding r.desk
  pub board : holding.held.board ≡ b
  pub tally : r.tally ≡ no_tally

-- what an accepted load came from
pub record Came (rule : ℕ) (s : List ℕ) (r : Loaded) : Type 0 where
  pub named : Rule
  pub numbered : rule ≡ rule_number named
  pub of : Board
  pub file : Describes named s of
  pub plannable : Plannable of
  pub so : Accepted of r
