-- `edits::with_curve` meets its contract.
-- Assumes nothing.
use Rattle.edits.proofs.Ways.{no_part, no_place, new_curve}
use Rattle.board.proofs.Steps.{length_mapped}
use borrow.Author.Rules.{rules}
use Rattle.edits.proofs.with_curve.Goals as goal

pub returns-then-b-part : goal.returns-then-b-part
returns-then-b-part c = search (no_part, no_place)

pub returns-then-part-ge64 : goal.returns-then-part-ge64
returns-then-part-ge64 c = no_place _ _ _ (search (length_mapped)) (search rules) (search rules)

pub returns : goal.returns
returns c = search (new_curve)
