-- Lowering the times of the labelled nodes.
-- Assumes nothing.
use Rattle.std.specs.Prelude.{◌≡◌, List, ℕ, ◌≤◌, ◌<◌, length}
use Rattle.theory.specs.Sum.{cells}
use Rattle.nets.specs.Steps.{Moved}

-- the times of the first n nodes have moved, and the others not yet
pub record Shifted (room : List ℕ) (d n : ℕ) (t t' : List ℕ) : Type 0 where
  pub moved : (v : ℕ) → v < n → Moved (cells t v) (cells room v) d (cells t' v)
  pub rest : (v : ℕ) → n ≤ v → cells t' v ≡ cells t v
  pub long : length t' ≡ 130
