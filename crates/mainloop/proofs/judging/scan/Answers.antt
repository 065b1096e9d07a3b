-- `judging::scan` meets its contract.
-- Assumes nothing.
use Rattle.mainloop.proofs.judging.Scanning.{scan_begins, scan_here, scan_bends, scan_calm, scan_found, scan_more, scan_ends}
use Rattle.mainloop.proofs.judging.scan.Goals as goal

pub loop-a-init : goal.loop-a-init
loop-a-init c = search (scan_begins)

pub arc_at-requires : goal.arc_at-requires
arc_at-requires c = search (scan_here)

pub judge-requires : goal.judge-requires
judge-requires c = record { bends_in = search (scan_bends); calm = search (scan_calm) }

pub returns-in-Label : goal.returns-in-Label
returns-in-Label c = search (scan_found)

pub loop-a-preserved : goal.loop-a-preserved
loop-a-preserved c = search (scan_more)

pub returns : goal.returns
returns c = search (scan_ends)
