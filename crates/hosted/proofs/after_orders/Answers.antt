use Rattle.hosted.proofs.Ways.{order_last, order_over, order_more}
use Rattle.hosted.proofs.after_orders.Goals as goal

pub returns-then-o-eq0 : goal.returns-then-o-eq0
returns-then-o-eq0 c = search (order_last)

pub returns-then-rest-o : goal.returns-then-rest-o
returns-then-rest-o c = search (order_over)

pub loop-rest-preserved : goal.loop-rest-preserved
loop-rest-preserved c = search (order_more)
