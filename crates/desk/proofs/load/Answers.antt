use Rattle.desk.proofs.Judging.{load_done, load_turned}
use Rattle.desk.proofs.load.Goals as goal

pub returns-in-Ok : goal.returns-in-Ok
returns-in-Ok c = search (load_done, c.in-Ok.ensures)

pub returns-in-Err : goal.returns-in-Err
returns-in-Err c = search (load_turned, c.in-Err.ensures)
