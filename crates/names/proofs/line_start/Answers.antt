use borrow.Author.Rules.{rules}
use Rattle.names.proofs.SheetLaws.{line_here, line_over, line_passed, line_goes_on}
use Rattle.names.proofs.line_start.Goals.{then-sheet-at-eq-LINE_END, else-sheet-at-eq-LINE_END}
use Rattle.names.proofs.line_start.Goals as goal

pub returns-then-left-eq0 : goal.returns-then-left-eq0
returns-then-left-eq0 c = (search rules, search line_here)

pub loop-at-preserved : goal.loop-at-preserved
loop-at-preserved c = elim c.if-sheet-at-eq-LINE_END.branch [
  | then-sheet-at-eq-LINE_END w ↦ search line_passed
  | else-sheet-at-eq-LINE_END w ↦ search line_goes_on
]

pub returns : goal.returns
returns c = (search rules, search line_over)
