-- What is held.
-- Assumes nothing.
use Rattle.std.specs.Prelude.{◌≡◌, Option, Some, None, Ok, Err}
use Rattle.refusal.specs.Refusal.{Answer, refusal}
use Rattle.board.specs.declared.Board.{Board}
use Rattle.board.specs.Board.{WellFormed}
use Rattle.board.specs.Leads.{LoopFree}
use Rattle.budget.specs.declared.Budget.{Budget}
use Rattle.budget.specs.Budget.{Holds}
use Rattle.desk.specs.declared.Held.{Held}
use Rattle.desk.specs.declared.Desk.{Desk}

-- a board with the budget that is its own: well formed, without a loop, within time
pub record Kept (b : Board) (r : Budget) : Type 0 where
  pub formed : WellFormed b
  pub free : LoopFree b
  pub holds : Holds b r

-- "A held board is one that an accepted load gave, changed since by orders alone": what every such desk has
pub record Holding (d : Desk) : Type 0 where
  pub held : Held
  pub is : d.held ≡ Some held
  pub kept : Kept held.board held.budget

-- a desk that holds nothing, or what it should
pub data Standing (d : Desk) : Type 0 where
  empty : d.held ≡ None → Standing d
  holding : Holding d → Standing d

-- the first refusal wins: what comes next is asked where nothing was refused
infixl 10 ◌>>=◌
abbrev pub ◌>>=◌ : {A B : Type 0} → Answer A → (A → Answer B) → Answer B
(Ok a) >>= next = next a
(Err e) >>= next = Err e

-- of what is held, or else of nothing
abbrev pub where_held : {A : Type 0} → Option Held → A → (Held → A) → A
where_held None nothing of = nothing
where_held (Some h) nothing of = of h

-- what is held, or 11: "no board held", place 0
abbrev pub held_in : Desk → Answer Held
held_in d = where_held d.held (refusal 11 0) Ok
