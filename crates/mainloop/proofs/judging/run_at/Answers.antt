-- `judging::run_at` meets its contract.
-- Assumes nothing.
use Rattle.mainloop.proofs.judging.Judging.{run_begins, run_flat, run_past, run_fits, run_more, run_found}
use borrow.Author.Rules.{rules}
use Rattle.mainloop.proofs.judging.run_at.Goals as goal

pub returns-then-a-ge64 : goal.returns-then-a-ge64
returns-then-a-ge64 c = search (run_flat)

pub loop-i-init : goal.loop-i-init
loop-i-init c = (search (run_begins), search rules)

pub overflow_add-end : goal.overflow_add-end
overflow_add-end c = search (run_fits)

pub returns-then-j-end : goal.returns-then-j-end
returns-then-j-end c = search (run_found)

pub loop-i-preserved : goal.loop-i-preserved
loop-i-preserved c = (search (run_more), search rules)

pub returns : goal.returns
returns c = search (run_past)
