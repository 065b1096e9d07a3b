-- Paths of links. A loop is a path from a part to itself.
-- Assumes nothing.
use Rattle.std.specs.Prelude.{◌≡◌, ℕ, ◌<◌}
use Rattle.board.specs.declared.Board.{Board}
use Rattle.board.specs.Board.{Linked}

-- a path of one link or more leads from part p to part q
pub data Leads (b : Board) : ℕ → ℕ → Type 0 where
  one : {p q : ℕ} → Linked b p q → Leads b p q
  more : {p q r : ℕ} → Linked b p q → Leads b q r → Leads b p r

-- a path leads from p to q, or they are the same part
pub data Reach (b : Board) (p q : ℕ) : Type 0 where
  here : p ≡ q → Reach b p q
  by : Leads b p q → Reach b p q

-- "no loop"
pub record LoopFree (b : Board) : Type 0 where
  pub none : (p : ℕ) → p < b.parts → Leads b p p → ⊥
