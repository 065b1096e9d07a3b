use Rattle.names.proofs.SheetLaws.{no_label, a_label}
use Rattle.names.proofs.label_answer.Goals as goal

pub returns-then-is_empty : goal.returns-then-is_empty
returns-then-is_empty c = search no_label

pub returns : goal.returns
returns c = search a_label
