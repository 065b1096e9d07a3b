-- An order that no refusal but 9 and 10 meets changes one place of the board as it orders.
-- Assumes nothing.
use Rattle.board.specs.declared.Board.{Board}
use Rattle.board.specs.Board.{WellFormed}
use Rattle.edits.proofs.PlainEdits.{with_deadline_changed, with_curve_changed}
use Rattle.edits.proofs.LinkEdits.{with_link_added, without_link_removed}
use Rattle.orders.specs.declared.Order.{Order}
use Rattle.orders.specs.declared.Order.TheVariants.{Deadline, AddLink, RemoveLink, NewCurve}
use Rattle.desk.specs.Order.{changed_of}
use Rattle.desk.proofs.Tried.{Fits}
use Rattle.demands.specs.Orders.{ChangesOnly}

pub changed_only : (b : Board) → WellFormed b → (o : Order) → Fits b o → ChangesOnly b (changed_of b o) o
unfolding changed_of
changed_only b w (Deadline d) f = with_deadline_changed b d
changed_only b w (AddLink from to) f = with_link_added b w from to f
changed_only b w (RemoveLink from to) f = without_link_removed b w from to f
changed_only b w (NewCurve part c) f = with_curve_changed b w part c f
