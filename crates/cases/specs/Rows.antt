-- The rows of the table: what is done and asked, and each answer in full, with 01's numbers.
-- Assumes nothing.
use Rattle.std.specs.Prelude.{List, ℕ}
use Rattle.board.specs.declared.Board.{Board}

-- what is asked of a board that is held, or done with it, and the answer
pub data Step : Type 0 where
  -- the budget that is held: delays, ends, total
  holds : (delays ends : List ℕ) (total : ℕ) → Step
  -- another allowed budget "cost the same and arrive later": delays, ends, total
  also : (delays ends : List ℕ) (total : ℕ) → Step
  -- the power of a part at a delay, or its refusal
  costs : (part delay power : ℕ) → Step
  costs_not : (part delay number place : ℕ) → Step
  -- the sets of a part, and the number of parts marked
  upstream : (part set count : ℕ) → Step
  downstream : (part set count : ℕ) → Step
  kin : (part parents children : ℕ) → Step
  -- an order by its bytes, that is made; or its refusal, which leaves the desk as it was
  order : (bytes : List ℕ) → Step
  order_not : (bytes : List ℕ) (number place : ℕ) (path : List ℕ) → Step
  -- orders counted since the load
  tally : (taken refused : ℕ) → Step

pub data Case : Type 0 where
  -- a board's file
  file : (b : Board) (bytes : List ℕ) → Case
  -- the file of a board is loaded, and then these steps are taken
  board : (b : Board) (steps : List Step) → Case
  -- the file of a board is refused
  board_not : (b : Board) (number place : ℕ) (path : List ℕ) → Case
  -- the number that bytes are, or its refusal
  number : (bytes : List ℕ) (value : ℕ) → Case
  number_not : (bytes : List ℕ) (number place : ℕ) → Case
  -- a case of two
  both : Case → Case → Case
