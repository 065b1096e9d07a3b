use Rattle.orders.proofs.Writers.{new_curve_wrote}
use Rattle.orders.proofs.write_new_curve.Goals as goal

pub returns : goal.returns
returns c = search (new_curve_wrote)
