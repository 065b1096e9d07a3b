use Rattle.fields.proofs.CurveWriting.{curve_unwritten}
use Rattle.fields.proofs.CurveForm.write.Goals as goal

pub returns-then-self-gt-RUNS_MAX : goal.returns-then-self-gt-RUNS_MAX
returns-then-self-gt-RUNS_MAX c = search curve_unwritten
