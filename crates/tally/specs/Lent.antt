-- 01, Files: "A tally of orders taken and refused is lent to each order and counted up where it stands. A load is lent it too .."
-- Assumes nothing.
use Rattle.std.specs.Prelude.{◌≡◌, List, ℕ}
use Rattle.desk.specs.declared.Tally.{Tally}
use Rattle.desk.specs.declared.Desk.{Desk}
use Rattle.desk.specs.declared.Loaded.{Loaded}
use Rattle.desk.specs.declared.Ordered.{Ordered}
use Rattle.tally.specs.declared.SessionEnd.{SessionEnd}
use Rattle.desk.specs.Empty.{empty_desk}
use Rattle.desk.specs.Load.{no_tally, LoadSaid}
use Rattle.desk.specs.Order.{OrderGiven}

-- a load that found the tally t and left t': "when accepted, sets both counts to zero"
pub record LentLoad (d : Desk) (rule : ℕ) (s : List ℕ) (t : Tally) (r : Loaded) (t' : Tally) : Type 0 where
  pub said : LoadSaid d rule s t r
  pub left : t' ≡ r.tally

-- an order that found the tally t and left t': "counted up where it stands"
pub record LentOrder (d : Desk) (s : List ℕ) (t : Tally) (r : Ordered) (t' : Tally) : Type 0 where
  pub given : OrderGiven d s t r
  pub counted : t' ≡ r.tally

-- a load and two orders, each lent the tally that the one before left; the load is under rule A, whose number is 0
pub record SessionSaid (file first second : List ℕ) (r : SessionEnd) : Type 0 where
  pub load : Loaded
  pub order : Ordered
  pub loaded : LoadSaid empty_desk 0 file no_tally load
  pub ordered : OrderGiven load.desk first load.tally order
  pub ordered_again : OrderGiven order.desk second order.tally r.last
  pub left : r.tally ≡ r.last.tally
