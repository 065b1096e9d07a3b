use Rattle.design_write.proofs.Ways.{too_short, file_written}
use Rattle.design_write.proofs.write_design.Goals as goal

pub returns-then-buf-needed : goal.returns-then-buf-needed
returns-then-buf-needed c = search (too_short)

pub returns : goal.returns
returns c = search (file_written)
