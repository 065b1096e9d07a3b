-- `budget::no_budget` meets its contract.
-- Assumes nothing.
use Rattle.base.proofs.TableLaws.{all_table}
use Rattle.budget.proofs.Making.{none_made}
use Rattle.budget.proofs.no_budget.Goals as goal

pub returns : goal.returns
returns c = search (none_made, all_table)
