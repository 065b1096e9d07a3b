use Rattle.groups.proofs.Forms.{rest_below}
use Rattle.groups.proofs.Writing.{room, wrote_last, wrote_more, ends_last, ends_more, long_still}
use Rattle.groups.proofs.put.Goals as goal

pub bounds-buf-next : goal.bounds-buf-next
bounds-buf-next c = search room

pub loop-rest-preserved : goal.loop-rest-preserved
loop-rest-preserved c = (search wrote_more, search ends_more, search rest_below, search long_still)

pub bounds-buf-next-2 : goal.bounds-buf-next-2
bounds-buf-next-2 c = search room

pub returns : goal.returns
returns c = search (ends_last, wrote_last)
