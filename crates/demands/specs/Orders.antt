-- The words of demand 3: the place of an order, an order that is made, and one that tightens.
-- The subtle point: each phrase of "tightens" speaks of its own kind of order, and an order that removes a link never tightens.
-- Assumes nothing.
use Rattle.std.specs.Prelude.{◌≡◌, ◌≢◌, List, ℕ, ◌≤◌}
use Rattle.std.specs.Prelude.{Ok}
use Rattle.board.specs.declared.Board.{Board}
use Rattle.board.specs.Board.{curve_at}
use Rattle.edits.specs.Changes.{DeadlineChanged, LinkAdded, LinkRemoved, CurveChanged}
use Rattle.groups.specs.Parse.{got}
use Rattle.orders.specs.declared.Order.TheVariants.{Deadline, AddLink, RemoveLink, NewCurve}
use Rattle.orders.specs.declared.Order.{Order}
use Rattle.orders.specs.Order.{order_of}
use Rattle.desk.specs.declared.Tally.{Tally}
use Rattle.desk.specs.declared.Desk.{Desk}
use Rattle.desk.specs.declared.Held.{Held}
use Rattle.desk.specs.declared.Ordered.{Ordered}
use Rattle.desk.specs.Order.{changed_of, tried_of, OrderSaid}
use Rattle.demands.specs.Same.{SameEnd}
use Rattle.demands.specs.Boards.{Plannable}

-- "Places are the deadline, each link by its ends, each part's curve."
pub data Place : Type 0 where
  the_deadline : Place
  the_link : ℕ → ℕ → Place
  the_curve : ℕ → Place

abbrev pub place_of : Order → Place
place_of (Deadline d) = the_deadline
place_of (AddLink from to) = the_link from to
place_of (RemoveLink from to) = the_link from to
place_of (NewCurve part c) = the_curve part

-- "Two orders at different places"
abbrev pub Apart : Order → Order → Type 0
Apart o o' = place_of o ≢ place_of o'

-- "exactly its one place changes": what the board b is to b' after the order
abbrev pub ChangesOnly : Board → Board → Order → Type 0
ChangesOnly b b' (Deadline d) = DeadlineChanged b b' d
ChangesOnly b b' (AddLink from to) = LinkAdded b b' from to
ChangesOnly b b' (RemoveLink from to) = LinkRemoved b b' from to
ChangesOnly b b' (NewCurve part c) = CurveChanged b b' part c

-- "An order tightens if it adds a link, does not raise the deadline, or replaces a curve by one whose fastest delay is no less."
abbrev pub Tightens : Board → Order → Type 0
Tightens b (Deadline d) = d.0 ≤ b.deadline.0
Tightens b (AddLink from to) = Unit
Tightens b (RemoveLink from to) = ⊥
Tightens b (NewCurve part c) = (curve_at b part).fastest.0 ≤ c.fastest.0

-- the bytes s are the order o
pub record Reads (s : List ℕ) (o : Order) : Type 0 where
  pub took : ℕ
  pub read : order_of s ≡ got o took

-- an order that is made
pub record Makes (d : Desk) (s : List ℕ) (t : Tally) (r : Ordered) : Type 0 where
  pub said : OrderSaid d s t r
  pub done : r.answer ≡ Ok tt

-- "no listed refusal applies": none of 11, 18, 17, 7, 13, 14 and 15, and of the board as it would be neither 9 nor 10
pub record Allows (d : Desk) (t : Tally) (o : Order) : Type 0 where
  pub held : Held
  pub tried : tried_of d t o ≡ Ok held
  pub plannable : Plannable (changed_of held.board o)

-- no listed refusal applies to the bytes s: neither in reading them, which finds an order, nor in trying it
pub record MayBeMade (d : Desk) (t : Tally) (s : List ℕ) : Type 0 where
  pub order : Order
  pub reads : Reads s order
  pub allows : Allows d t order

-- the other way is accepted too, and ends alike
pub record OtherWay (r₁₂ r₂ r₂₁ : Ordered) : Type 0 where
  pub first : r₂.answer ≡ Ok tt
  pub second : r₂₁.answer ≡ Ok tt
  pub end : SameEnd r₁₂ r₂₁
