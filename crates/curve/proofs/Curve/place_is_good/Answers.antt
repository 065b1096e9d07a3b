-- `curve::Curve::place_is_good` meets its contract.
-- Assumes nothing.
use Rattle.curve.proofs.Ways.{place_blank_way, place_unranged, place_first, place_later}
use Rattle.curve.proofs.Curve.place_is_good.Goals as goal

pub returns-then-self-k : goal.returns-then-self-k
returns-then-self-k c = search (place_blank_way)

pub returns-then-not-is_ranged : goal.returns-then-not-is_ranged
returns-then-not-is_ranged c = search (place_blank_way, place_unranged)

pub returns-then-k-eq0 : goal.returns-then-k-eq0
returns-then-k-eq0 c = search (place_blank_way, place_first)

pub returns : goal.returns
returns c = search (place_blank_way, place_later)
