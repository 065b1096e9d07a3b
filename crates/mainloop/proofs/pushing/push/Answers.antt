-- `pushing::push` meets its contract.
-- Assumes nothing.
use Rattle.mainloop.proofs.pushing.Pushing.{push_carriable, push_less, push_more}
use Rattle.mainloop.proofs.pushing.push.Goals as goal

pub carry-v-requires : goal.carry-v-requires
carry-v-requires c = search (push_carriable)

pub loop-v-smaller : goal.loop-v-smaller
loop-v-smaller c = search (push_less)

pub loop-v-preserved : goal.loop-v-preserved
loop-v-preserved c = search (push_more)
