-- `curve::Curve::places_are_good` meets its contract. The loop: the first k places passed the test.
-- Assumes nothing.
use Rattle.curve.proofs.GoodLaws.{every_none, every_more}
use Rattle.curve.proofs.Ways.{place_fails, places_hold}
use Rattle.curve.proofs.Curve.places_are_good.Goals as goal

pub loop-k-init : goal.loop-k-init
loop-k-init c = every_none _

pub returns-then-not-place_is_good : goal.returns-then-not-place_is_good
returns-then-not-place_is_good c = search (place_fails)

pub loop-k-preserved : goal.loop-k-preserved
loop-k-preserved c = search (every_more)

pub returns : goal.returns
returns c = search (places_hold)
