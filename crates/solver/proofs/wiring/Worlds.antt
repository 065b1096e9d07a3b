-- The network of a board that can be solved is a world: what the main loop takes for granted holds of it.
-- Assumes nothing.
use Rattle.std.proofs.Common.{ℕ, ◌<◌, ◌≤◌, arith}
use Rattle.theory.proofs.SumLaws.{sum_le, sum_const}
use Rattle.theory.specs.Budget.{Timed}
use Rattle.theory.proofs.ValueBounds.{tops}
use Rattle.theory.proofs.TimedLaws.{fastest_budget, budget_feasible}
use Rattle.curve.proofs.CurveLaws.{saving_to}
use Rattle.board.specs.declared.Board.{Board}
use Rattle.board.specs.Board.{WellFormed, view, curve_at, usable}
use Rattle.board.proofs.Lawful.{lawful}
use Rattle.nets.specs.Network.{Network}
use Rattle.nets.specs.Flow.{World}
use Rattle.nets.specs.Wired.{Wired}
use Rattle.nets.proofs.Worlds.{wired_world}

module _ (b : Board) (ok : WellFormed b) where
  -- "a saving of 1 to 1,000 microwatts for each tick", and 64 parts
  pub tops_few : tops (view b) ≤ 64000
  unfolding tops view
  tops_few =
      omega (
        arith,
        ok.parts_to,
        sum_le b.parts {f = λ p. (view b).saving p 0} {g = λ p. 1000} (λ p h. saving_to (curve_at b p) (ok.curves p h) 0),
        sum_const b.parts 1000,
      )

  -- where all parts at their fastest keep the usable deadline
  pub board_world : (N : Network) → Wired (view b) N → {s e : ℕ → ℕ} → Timed (view b) (view b).fastest s e → ((p : ℕ) → p < b.parts → e p ≤ usable b) →
      World N (usable b)
  unfolding view
  board_world N w t ends =
      wired_world (view b) (lawful b ok) N w (budget_feasible (view b) (lawful b ok) (fastest_budget (view b) t ends)) tops_few
