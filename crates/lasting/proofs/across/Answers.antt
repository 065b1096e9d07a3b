-- `across` meets its contract.
-- Assumes nothing.
use borrow.Author.Rules.{rules}
use Rattle.lasting.proofs.across.Goals as goal

pub returns : goal.returns
returns c = record { side = λ a h. let k = c.map.ensures.items.at a 0 0 h in search (k.2, rules) }
