use Rattle.fields.proofs.CurveWriting.{curve_uncounted, curve_counted}
use borrow.Author.Rules.{rules}
use Rattle.fields.proofs.curve_size.Goals as goal

pub returns-then-c-gt-RUNS_MAX : goal.returns-then-c-gt-RUNS_MAX
returns-then-c-gt-RUNS_MAX c = (search (curve_uncounted), search rules)

pub returns : goal.returns
returns c = (search curve_counted, search rules)
