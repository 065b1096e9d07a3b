use mathlib.Core.Path.{sym}
use Rattle.fields.proofs.ParseLaws.{field_got}
use Rattle.design.proofs.read_design.Goals as goal

pub read_parts-requires : goal.read_parts-requires
read_parts-requires c = (field_got _ _ _ _ _ _ (sym c.in_ok-parts.ensures)).to

pub read_links-requires : goal.read_links-requires
read_links-requires c =
    let parts = field_got _ _ _ _ _ _ (sym c.in_ok-parts.ensures) in
    let links = field_got _ _ _ _ _ _ (sym c.in_ok-count.ensures) in
    (parts.from, parts.to, links.to)
