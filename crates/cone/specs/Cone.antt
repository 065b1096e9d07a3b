-- What is upstream and downstream of a part, and where a board has a loop.
-- The idea: the links are turned into 64 rows of marks, one for each part, and a sweep from a set visits each part that it comes to once.
-- What `Sweeps.antt` computes in this way is proved to be what this file says (`downstream_is`, `upstream_is`, `lowest_loop_is`).
-- Assumes nothing.
use Rattle.std.specs.Prelude.{ℕ, ◌<◌, Option, Some, None}
use Rattle.marks.specs.Marks.{Exactly}
use Rattle.board.specs.declared.Board.{Board}
use Rattle.board.specs.Leads.{Leads, Reach, LoopFree}

-- 01, Questions: "Upstream and downstream of a part: a set of 64 marks, bit n for part n, the part itself included". Any number may be asked for: one
-- that is no part has itself alone, and one that no mark is for has none.
abbrev pub Downstream : Board → ℕ → ℕ → Type 0
Downstream b p set = Exactly (λ q. (q < 64) × Reach b p q) set

abbrev pub Upstream : Board → ℕ → ℕ → Type 0
Upstream b p set = Exactly (λ q. (q < 64) × Reach b q p) set

-- refusal 9's place: "lowest part on a loop"
pub record LowestOnLoop (b : Board) (p : ℕ) : Type 0 where
  pub on : Leads b p p
  pub lowest : (q : ℕ) → q < p → Leads b q q → ⊥

-- what is said of a board's loops: the lowest part on one, or that there is none
abbrev pub LoopSaid : Board → Option ℕ → Type 0
LoopSaid b (Some p) = LowestOnLoop b p
LoopSaid b None = LoopFree b
