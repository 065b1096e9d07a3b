-- `edits::has_link` meets its contract.
-- Assumes nothing.
use Rattle.std.proofs.Common.{◌&&◌, eqb, take, rules, tests}
use Rattle.std.proofs.lemmas.Iterator.{YieldsList-from_slice}
use Rattle.std.proofs.lemmas.Iterator.Search.{any_from_yields_List}
use Rattle.board.specs.declared.Link.{Link}
use Rattle.edits.proofs.Ways.{too_many_links, looked_all}
use Rattle.edits.proofs.has_link.Goals as goal

pub returns-then-n-gt256 : goal.returns-then-n-gt256
returns-then-n-gt256 c = search (too_many_links)

pub returns : goal.returns
returns c =
    let found = any_from_yields_List (λ (l : Link). eqb l.from c.args.from && eqb l.to c.args.to) _ _ c.any.result c.any.ensures.ran (YieldsList-from_slice (take c.args.b.links c.args.b.link) cc) (λ x b q k. search (rules, tests)) in
    search (looked_all, found)
