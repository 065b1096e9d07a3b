use Rattle.hosted.proofs.Ways.{none_yet, once_more, all_asked}
use Rattle.hosted.proofs.last_of.Goals as goal

pub loop-k-init : goal.loop-k-init
loop-k-init g c = none_yet

pub loop-k-preserved : goal.loop-k-preserved
loop-k-preserved g c = search (once_more)

pub returns : goal.returns
returns g c = search (all_asked)
