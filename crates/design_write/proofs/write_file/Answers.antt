use Rattle.design_write.proofs.Ways.{file_filled}
use Rattle.design_write.proofs.write_file.Goals as goal

pub returns : goal.returns
returns c = search file_filled
