-- `slow::slow_path` meets its contract.
-- Assumes nothing.
use Rattle.slow.proofs.SlowWays.{last_place, in_time, too_slow}
use Rattle.times.proofs.Loops.{scaled}
use borrow.Author.Rules.{rules}
use Rattle.slow.proofs.slow_path.Goals as goal

pub offset_bounds-e-last : goal.offset_bounds-e-last
offset_bounds-e-last c = search (scaled, last_place, rules)

pub bounds-e-last : goal.bounds-e-last
bounds-e-last c = search (scaled, last_place, rules)

pub returns-then-ticks-limit : goal.returns-then-ticks-limit
returns-then-ticks-limit c = search (in_time)

pub returns : goal.returns
returns c = search (too_slow)
