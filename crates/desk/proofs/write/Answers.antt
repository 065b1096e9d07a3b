use Rattle.desk.proofs.Writing.{write_none, write_file}
use Rattle.desk.proofs.write.Goals as goal

pub returns-in_err-held : goal.returns-in_err-held
returns-in_err-held c = search (write_none, c.in_err-held.ensures)

pub returns : goal.returns
returns c = search (write_file, c.in_ok-held.ensures)
