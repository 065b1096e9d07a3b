-- `opposite` meets its contract.
-- Assumes nothing.
use Rattle.lasting.specs.Turned.{opposite_of}
use Rattle.base.proofs.Tests.{tests}
use Rattle.base.specs.Pick.{pick}
use Rattle.lasting.proofs.opposite.Goals as goal

pub returns-then-v-lt64 : goal.returns-then-v-lt64
unfolding opposite_of pick
returns-then-v-lt64 c = search tests

pub returns-then-v-lt128 : goal.returns-then-v-lt128
unfolding opposite_of pick
returns-then-v-lt128 c = search tests

pub returns-then-v-lt129 : goal.returns-then-v-lt129
unfolding opposite_of pick
returns-then-v-lt129 c = search tests

pub returns : goal.returns
unfolding opposite_of pick
returns c = search tests
