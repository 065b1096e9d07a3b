use mathlib.Core.Path.{refl, sym, ap, ◌∙◌}
use native.Mathlib.Omega.{arith}
use native.Mathlib.Numerals.{add-one}
use Rattle.std.specs.Prelude.{Some}
use lib.ListN.{length-set}
use lib.Seq.{get_or-set_same}
use borrow.Author.Rules.{rules}
use Rattle.board.specs.Board.{no_link}
use Rattle.board.specs.Tests.{blank_links}
use Rattle.fields.specs.Parse.{repeat}
use Rattle.design.specs.Design.{link_in, links_from}
use Rattle.design.proofs.Rows.{row_on, row_fault, row_ended}
use Rattle.design.proofs.read_links.Goals as goal

pub loop-l-init : goal.loop-l-init
unfolding repeat blank_links
loop-l-init c = (rw c.no_links-link.ensures, refl, rw c.no_links-link.ensures)

pub returns-in_err-read : goal.returns-in_err-read
unfolding links_from
returns-in_err-read c =
    let reads = rw c.loop-l.invariant.1 at c.in_err-read.ensures in
    let stops = row_fault (link_in c.args.s.now c.args.parts) blank_links c.args.at c.loop-l.l _ _ c.loop-l.invariant.0 _ c.args.links (sym reads) (search rules) in
    rw stops (search rules)

pub loop-l-preserved : goal.loop-l-preserved
loop-l-preserved c =
    let reads = rw c.loop-l.invariant.1 at c.in_ok-read.ensures in
    let long = c.loop-l.invariant.2 in (
      row_on (link_in c.args.s.now c.args.parts) blank_links c.args.at c.loop-l.l _ _ c.loop-l.invariant.0 _ _ (sym reads),
      rw add-one (ap Some (sym (get_or-set_same c.loop-l.link c.loop-l.l c.in_ok-read.read.value no_link (omega arith)))),
      length-set c.loop-l.link c.loop-l.l c.in_ok-read.read.value ∙ long,
    )

pub returns : goal.returns
unfolding links_from
returns c = sym (row_ended (link_in c.args.s.now c.args.parts) blank_links c.args.at c.loop-l.l _ _ c.loop-l.invariant.0 c.args.links (search rules) (search rules))
