-- `curve::Run::saved` meets its contract.
-- Assumes nothing.
use Rattle.curve.proofs.Ways.{product_fits}
use Rattle.curve.proofs.Run.saved.Goals as goal

pub overflow_mul-result : goal.overflow_mul-result
overflow_mul-result c = search (product_fits)
