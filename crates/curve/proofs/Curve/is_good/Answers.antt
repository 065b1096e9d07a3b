-- `curve::Curve::is_good` meets its contract.
-- Assumes nothing.
use Rattle.base.specs.Pick.{pick}
use Rattle.base.proofs.Tests.{tests}
use Rattle.curve.specs.Tests.{goodb}
use Rattle.curve.proofs.GoodLaws.{goodb_decides}
use Rattle.curve.proofs.Ways.{bad_place, good_places}
use Rattle.curve.proofs.Curve.is_good.Goals as goal

pub returns-then-self-lt-FASTEST_MIN : goal.returns-then-self-lt-FASTEST_MIN
unfolding goodb pick
returns-then-self-lt-FASTEST_MIN c = goodb_decides _ _ (search tests)

pub returns-then-self-gt-FASTEST_MAX : goal.returns-then-self-gt-FASTEST_MAX
unfolding goodb pick
returns-then-self-gt-FASTEST_MAX c = goodb_decides _ _ (search tests)

pub returns-then-self-gt-POWER_MAX : goal.returns-then-self-gt-POWER_MAX
unfolding goodb pick
returns-then-self-gt-POWER_MAX c = goodb_decides _ _ (search tests)

pub returns-then-self-gt-RUNS_MAX : goal.returns-then-self-gt-RUNS_MAX
unfolding goodb pick
returns-then-self-gt-RUNS_MAX c = goodb_decides _ _ (search tests)

pub returns-then-not-places_are_good : goal.returns-then-not-places_are_good
returns-then-not-places_are_good c = goodb_decides _ _ (search (bad_place))

pub returns : goal.returns
returns c = goodb_decides _ _ (search (good_places))
