-- `console::Out::put` meets its contract.
-- Assumes nothing.
use Rattle.std.proofs.Common.{refl, rules}
use Rattle.console.proofs.OutputLaws.{Room, room_same, room_made, put_byte}
use Rattle.console.proofs.Out.put.Goals as goal
use Rattle.console.proofs.Out.put.Goals.{then-self-eq-PAGE, else-self-eq-PAGE}

pub returns : goal.returns
returns g c =
    let old = c.args.self.now in
    let mid = c.if-self-eq-PAGE.self in
    let made : Room g.W.Write.contents old mid = elim c.if-self-eq-PAGE.branch [
      | then-self-eq-PAGE w ↦ rw w.self-is (search (rules, room_made))
      | else-self-eq-PAGE w ↦ room_same g.W.Write.contents _ _ (search rules) w.self-is
    ] in
    put_byte g.W.Write.contents old mid _ c.args.byte made (search rules) refl refl refl (search rules)
