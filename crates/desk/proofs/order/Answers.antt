use Rattle.desk.proofs.Ordering.{unread_countable, read_orderly}
use Rattle.desk.proofs.order.Goals as goal

pub refuse-requires : goal.refuse-requires
refuse-requires c = search (unread_countable, c.in-Err.ensures)

pub made-requires : goal.made-requires
made-requires c = search (read_orderly, c.in-Ok.ensures)
