-- "A held board is one that an accepted load gave, changed since by orders alone": the desks and tallies that can come to be.
-- Assumes nothing.
use Rattle.std.specs.Prelude.{◌≡◌, List, [], ◌∷◌, ℕ, ◌+◌}
use Rattle.base.specs.Pick.{pick}
use Rattle.refusal.specs.Refusal.{Answer}
use Rattle.std.specs.Prelude.{Ok, Err}
use Rattle.desk.specs.declared.Tally.{Tally}
use Rattle.desk.specs.declared.Desk.{Desk}
use Rattle.desk.specs.declared.Loaded.{Loaded}
use Rattle.desk.specs.declared.Ordered.{Ordered}
use Rattle.desk.specs.Load.{LoadSaid}
use Rattle.desk.specs.Order.{OrderSaid, counts}

-- a board that is held, whatever tally each call was lent
pub data Reached : Desk → Type 0 where
  loaded : {d : Desk} {rule : ℕ} {s : List ℕ} {t : Tally} {r : Loaded} → LoadSaid d rule s t r → r.answer ≡ Ok tt → Reached r.desk
  ordered : {d : Desk} {s : List ℕ} {t : Tally} {r : Ordered} → Reached d → OrderSaid d s t r → Reached r.desk

-- "Where nobody else writes to it": each order is lent the tally that the call before it left. With the answers to the orders since the load, the
-- last one first
pub data Counting : Desk → Tally → List (Answer Unit) → Type 0 where
  since : {d : Desk} {rule : ℕ} {s : List ℕ} {t : Tally} {r : Loaded} → LoadSaid d rule s t r → r.answer ≡ Ok tt → Counting r.desk r.tally []
  after :
      {d : Desk} {t : Tally} {answers : List (Answer Unit)} {s : List ℕ} {r : Ordered} → Counting d t answers → OrderSaid d s t r →
      Counting r.desk r.tally (r.answer ∷ answers)

-- "the tally counts an order refused by 7, 9, 10, 13, 14, 15 or 17", and every order that is made
abbrev pub taken_by : Answer Unit → ℕ
taken_by (Ok done) = 1
taken_by (Err e) = 0

abbrev pub refused_by : Answer Unit → ℕ
refused_by (Ok done) = 0
refused_by (Err e) = pick (counts e.why) 1 0

unfoldable pub taken_in : List (Answer Unit) → ℕ
taken_in [] = 0
taken_in (a ∷ answers) = taken_in answers + taken_by a

unfoldable pub refused_in : List (Answer Unit) → ℕ
refused_in [] = 0
refused_in (a ∷ answers) = refused_in answers + refused_by a

-- "the sum is the number of counted orders since the load"
pub record Tallied (t : Tally) (answers : List (Answer Unit)) : Type 0 where
  pub taken : t.taken ≡ taken_in answers
  pub refused : t.refused ≡ refused_in answers
