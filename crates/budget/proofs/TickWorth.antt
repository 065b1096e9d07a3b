-- 02, Req 13: "over all usable deadlines at which a given board is possible, the least total never rises as the deadline grows, and each further
-- tick saves no more than the tick before it did." A board is possible at T where it holds a budget there; its total is the least (`HoldsAt`).
-- The subtle point: T is a usable deadline, and any number. Over deadlines as written it is false where some ticks are guard (Req 06).
-- Assumes nothing.
use Prim.Native.Nat.{ℕ, suc, ◌-◌, ◌≤◌}
use native.Mathlib.Omega.{arith}
use Rattle.theory.proofs.TickWorth.{held_later, held_falls, held_saves_less}
use Rattle.board.specs.declared.Board.{Board}
use Rattle.board.specs.Board.{WellFormed, view}
use Rattle.board.proofs.Lawful.{lawful}
use Rattle.budget.specs.declared.Budget.{Budget}
use Rattle.budget.specs.Budget.{HoldsAt}
use Rattle.budget.specs.Made.{value_of}
use Rattle.budget.proofs.BudgetLaws.{allowed_total, holds_held, value_holds}

module _ (b : Board) (ok : WellFormed b) where
  -- a board that is possible at a deadline is possible at every later one
  pub possible_later : {T T' : ℕ} (r : Budget) → HoldsAt b T r → T ≤ T' → (r' : Budget) × HoldsAt b T' r'
  possible_later r h l =
      let k = held_later (view b) (lawful b ok) l (holds_held b ok r h) in
      (value_of b k.0, value_holds b ok k.0 k.1)

  -- "the least total never rises as the deadline grows"
  pub total_never_rises : {T T' : ℕ} (r r' : Budget) → HoldsAt b T r → HoldsAt b T' r' → T ≤ T' → r'.total.0 ≤ r.total.0
  total_never_rises r r' h h' l =
      omega (
        arith,
        held_falls (view b) (lawful b ok) l (holds_held b ok r h) (holds_held b ok r' h'),
        allowed_total b ok r h.allowed,
        allowed_total b ok r' h'.allowed,
      )

  -- "each further tick saves no more than the tick before it did": neither difference is cut off at 0, since the total never rises
  pub next_tick_saves_no_more : {T : ℕ} (r₀ r₁ r₂ : Budget) → HoldsAt b T r₀ → HoldsAt b (suc T) r₁ → HoldsAt b (suc (suc T)) r₂ →
      r₁.total.0 - r₂.total.0 ≤ r₀.total.0 - r₁.total.0
  next_tick_saves_no_more r₀ r₁ r₂ h₀ h₁ h₂ =
      rw (allowed_total b ok r₀ h₀.allowed, allowed_total b ok r₁ h₁.allowed, allowed_total b ok r₂ h₂.allowed)
      (held_saves_less (view b) (lawful b ok) (holds_held b ok r₀ h₀) (holds_held b ok r₁ h₁) (holds_held b ok r₂ h₂))
