-- `raising::decide` meets its contract.
-- Assumes nothing.
use Rattle.deciding.proofs.raising.Raising.{start_within, decide_ends}
use Rattle.deciding.proofs.raising.decide.Goals as goal

pub raise-requires-clause-within : goal.raise-requires-clause-within
raise-requires-clause-within c = search (start_within, c.fill.ensures.after (λ y e. e))

pub returns : goal.returns
returns c = search (decide_ends, c.fill.ensures.after (λ y e. e))
