-- The budget with given starts and ends, whatever they are, and its times as the mathematics has them.
-- Assumes nothing.
use Rattle.std.specs.Prelude.{List, ℕ, min, ◌-◌, Ok, Err}
use Rattle.base.specs.Table.{table}
use Rattle.refusal.specs.Refusal.{Answer}
use Rattle.theory.specs.Sum.{sum}
use Rattle.theory.specs.Graph.{Times}
use Rattle.curve.specs.declared.Ticks.{Ticks}
use Rattle.curve.specs.declared.Microwatts.{Microwatts}
use Rattle.curve.specs.declared.Curve.{Curve}
use Rattle.curve.specs.Answers.{power_at_of}
use Rattle.curve.specs.Rows.{no_ticks, no_power, ticks_at, power_at, ticks_row, powers_row}
use Rattle.board.specs.declared.Board.{Board}
use Rattle.board.specs.Board.{curve_at, view}
use Rattle.budget.specs.declared.Budget.{Budget}

-- what a part draws at a delay: nothing at one that its curve does not have
abbrev drawn : Answer Microwatts → ℕ
drawn (Ok p) = p.0
drawn (Err e) = 0

unfoldable pub drawn_of : Curve → ℕ → ℕ
drawn_of c d = drawn (power_at_of c d)

-- the first n parts' delays, each part's power and the first n powers together
unfoldable pub delays_of : ℕ → List Ticks → List Ticks → List Ticks
delays_of n start end = ticks_row n (λ p. ticks_at end p - ticks_at start p)

unfoldable pub powers_of : Board → List Ticks → List Microwatts
powers_of b delay = powers_row b.parts (λ p. drawn_of (curve_at b p) (ticks_at delay p))

unfoldable pub total_of : ℕ → List Microwatts → ℕ
total_of n power = sum n (power_at power)

-- a count of parts is cut to the places there are
unfoldable pub budget_of : Board → List Ticks → List Ticks → Budget
budget_of b start end =
    let delay = delays_of b.parts start end in
    record {
      start = start;
      delay = delay;
      end = end;
      power = powers_of b delay;
      total = record { 0 = total_of (min b.parts 64) (powers_of b delay) };
    }

-- no budget
unfoldable pub no_budget : Budget
no_budget = record {
  start = table 64 (λ p. no_ticks);
  delay = table 64 (λ p. no_ticks);
  end = table 64 (λ p. no_ticks);
  power = table 64 (λ p. no_power);
  total = record { 0 = 0 };
}

-- a budget's times, with ticks counted from the fastest delay
unfoldable pub times_in : Board → Budget → Times
times_in b r = record { start = ticks_at r.start; end = ticks_at r.end; used = λ p. ticks_at r.delay p - (view b).fastest p }

-- a budget of the mathematics as a value
unfoldable pub value_of : Board → Times → Budget
value_of b τ = budget_of b (ticks_row b.parts τ.start) (ticks_row b.parts τ.end)
