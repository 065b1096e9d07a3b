use Rattle.design_write.proofs.Ways.{file_counted}
use Rattle.design_write.proofs.file_size.Goals as goal

pub returns : goal.returns
returns c = search (file_counted)
