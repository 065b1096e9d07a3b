use borrow.Author.Rules.{rules}
use Rattle.names.proofs.SheetLaws.{line_within, line_taken}
use Rattle.names.proofs.line_end.Goals as goal

pub returns : goal.returns
returns c = (search rules, search line_within, search line_taken)
