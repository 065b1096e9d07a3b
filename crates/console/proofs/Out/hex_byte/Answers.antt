-- `console::Out::hex_byte` meets its contract.
-- Assumes nothing.
use Rattle.console.proofs.OutputLaws.{put_as}
use Rattle.console.proofs.PageLaws.{byte_digits}
use Rattle.console.proofs.Out.hex_byte.Goals as goal

pub returns : goal.returns
returns g c = search (put_as, byte_digits)
