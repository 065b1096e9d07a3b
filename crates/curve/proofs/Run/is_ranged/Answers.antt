-- `curve::Run::is_ranged` meets its contract.
-- Assumes nothing.
use Rattle.std.proofs.Common.{inl, inr}
use Rattle.base.specs.Pick.{pick}
use Rattle.base.proofs.Tests.{tests}
use Rattle.curve.specs.Tests.{rangedb}
use Rattle.curve.proofs.Run.is_ranged.Goals as goal

pub returns-then-self-ge-SAVING_MIN : goal.returns-then-self-ge-SAVING_MIN
unfolding rangedb pick
returns-then-self-ge-SAVING_MIN c = search tests

pub returns-else-self-ge-SAVING_MIN : goal.returns-else-self-ge-SAVING_MIN
unfolding rangedb pick
returns-else-self-ge-SAVING_MIN c =
    elim c.if-self-ge-SAVING_MIN.either [ inl h ↦ search tests | inr h ↦ elim h [ inl k ↦ search tests | inr k ↦ search tests ] ]
