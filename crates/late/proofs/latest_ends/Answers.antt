-- `late::latest_ends` meets its contract.
-- Assumes nothing.
use Rattle.std.proofs.Common.{rules, tests}
use Rattle.board.specs.Board.{no_link}
use Rattle.late.specs.Late.{Turned}
use Rattle.late.proofs.LateLaws.{late_returns}
use Rattle.late.proofs.latest_ends.Goals as goal

pub returns : goal.returns
returns c =
    let back : Turned c.args.b.link c.map-back.result =
    record { each = λ l h. let called = (c.map-back.ensures.items.at l no_link no_link h).2 in search (rules, tests) } in
    late_returns _ _ _ back _ c.times_by-s.ensures _ c.usable_deadline.ensures _ _ c.min.ensures c.left.ensures
