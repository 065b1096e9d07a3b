use Rattle.groups.proofs.Writing.{stays_next, stays_holds, stays_without_form, stays_too_short, stays_too_late, has_form, has_room, went, wrote}
use Rattle.groups.proofs.write_number.Goals as goal

pub returns-then-k-eq0 : goal.returns-then-k-eq0
returns-then-k-eq0 c = search (stays_next, stays_holds, stays_without_form)

pub returns-then-buf-k : goal.returns-then-buf-k
returns-then-buf-k c = search (stays_next, stays_holds, stays_too_short)

pub returns-then-buf-k-2 : goal.returns-then-buf-k-2
returns-then-buf-k-2 c = search (stays_next, stays_holds, stays_too_late)

pub put-requires : goal.put-requires
put-requires c = search (has_form, has_room)

pub returns : goal.returns
returns c = search (went, wrote)
