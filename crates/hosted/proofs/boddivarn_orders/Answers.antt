use Rattle.hosted.proofs.Ways.{orders_of}
use Rattle.hosted.proofs.boddivarn_orders.Goals as goal

pub returns : goal.returns
returns c = search (orders_of)
