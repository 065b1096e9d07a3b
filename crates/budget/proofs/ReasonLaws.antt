-- A reason proves an allowed budget cheapest, whoever gave it.
-- Assumes nothing.
use Prim.Native.Nat.{ℕ, ◌≤◌}
use native.Mathlib.Omega.{arith}
use mathlib.Core.List.{List}
use Rattle.theory.specs.Sum.{cells}
use Rattle.theory.proofs.TimedLaws.{budget_feasible}
use Rattle.theory.proofs.Duality.{cheapest_total}
use Rattle.nets.specs.Wired.{flow_of}
use Rattle.board.specs.declared.Board.{Board}
use Rattle.board.specs.Board.{WellFormed, view}
use Rattle.board.proofs.Lawful.{lawful}
use Rattle.budget.specs.declared.Budget.{Budget}
use Rattle.budget.specs.Budget.{Allowed}
use Rattle.budget.specs.Reason.{Reason}
use Rattle.budget.proofs.BudgetLaws.{allowed_budget, allowed_total}

pub reason_cheapest : (b : Board) → WellFormed b → (r : Budget) → Allowed b r → (flow : List ℕ) → Reason b r flow → (r' : Budget) → Allowed b r' →
    r.total.0 ≤ r'.total.0
reason_cheapest b ok r a flow why r' a' =
    let o = lawful b ok in
    let f = budget_feasible (view b) o (allowed_budget b ok r a) in
    let f' = budget_feasible (view b) o (allowed_budget b ok r' a') in
    omega (
      arith,
      allowed_total b ok r a,
      allowed_total b ok r' a',
      cheapest_total (view b) o (flow_of (view b) (cells flow)) why.conserves f why.slack f',
    )
