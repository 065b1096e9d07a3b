-- `curve::less_saved` meets its contract.
-- Assumes nothing.
use Rattle.curve.proofs.Ways.{product_fits}
use Rattle.curve.proofs.less_saved.Goals as goal

pub overflow_mul-saved : goal.overflow_mul-saved
overflow_mul-saved c = search (product_fits)
