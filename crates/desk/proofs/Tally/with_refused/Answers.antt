use Rattle.desk.proofs.Ordering.{not_counted, one_counted}
use Rattle.desk.proofs.Tally.with_refused.Goals as goal

pub returns-then-not-is_counted : goal.returns-then-not-is_counted
returns-then-not-is_counted c = search (not_counted)

pub returns : goal.returns
returns c = search (one_counted)
