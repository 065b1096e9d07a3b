-- `kin::critical_rows` meets its contract.
-- Assumes nothing.
use mathlib.Core.Path.{◌∙◌}
use Rattle.kin.proofs.Ways.{rows_none, rows_more, rows_kept}
use Rattle.kin.proofs.RowLaws.{rows_done}
use Rattle.kin.proofs.critical_rows.Goals as goal
use Rattle.kin.proofs.critical_rows.Goals.{then-critical, else-critical}

pub loop-k-init : goal.loop-k-init
loop-k-init c = search (rows_none)

pub loop-k-preserved : goal.loop-k-preserved
loop-k-preserved c =
    elim c.if-critical.branch [ then-critical w ↦ w.t-is ∙ search (rows_more) | else-critical w ↦ w.t-is ∙ search (rows_kept) ]

pub returns : goal.returns
returns c = search (rows_done)
