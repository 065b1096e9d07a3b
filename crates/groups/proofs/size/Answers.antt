use native.Mathlib.Omega.{arith}
use Rattle.groups.proofs.Forms.{no_form, counted, counted_more, count_fits, rest_below}
use Rattle.groups.proofs.size.Goals as goal

pub returns-then-n-ge-LIMIT : goal.returns-then-n-ge-LIMIT
returns-then-n-ge-LIMIT c = no_form _ (omega arith)

pub overflow_add-count : goal.overflow_add-count
overflow_add-count c = search count_fits

pub loop-above-preserved : goal.loop-above-preserved
loop-above-preserved c = (search counted_more, search rest_below)

pub overflow_add-result : goal.overflow_add-result
overflow_add-result c = search count_fits

pub returns : goal.returns
returns c = search counted
