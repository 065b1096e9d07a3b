-- Demand 3: "An order is made exactly when no listed refusal applies, and changes its one place and nothing else."
-- Assumes nothing.
use Rattle.std.specs.Prelude.{◌≡◌, Bool, List, [], ◌∷◌, ℕ, ◌+◌, ltb, leb, eqb, Ok, Err}
use Rattle.base.specs.Pick.{pick}
use Rattle.refusal.specs.declared.Why.{Why}
use Rattle.refusal.specs.declared.Refusal.{Refusal}
use Rattle.refusal.specs.Refusal.{number_of, Answer, refusal, among}
use Rattle.board.specs.declared.Board.{Board}
use Rattle.board.specs.Board.{plain_link}
use Rattle.edits.specs.Edits.{has_link_of, with_deadline_of, with_curve_of, with_link_of, without_link_of}
use Rattle.slow.specs.Walk.{trail_of}
use Rattle.groups.specs.Parse.{Parse}
use Rattle.orders.specs.declared.Order.{Order}
use Rattle.orders.specs.declared.Order.TheVariants.{Deadline, AddLink, RemoveLink, NewCurve}
use Rattle.orders.specs.Order.{order_of}
use Rattle.desk.specs.declared.Tally.{Tally}
use Rattle.desk.specs.declared.Held.{Held}
use Rattle.desk.specs.declared.Desk.{Desk}
use Rattle.desk.specs.declared.Ordered.{Ordered}
use Rattle.desk.specs.Held.{Standing, ◌>>=◌, held_in}
use Rattle.desk.specs.Judged.{BoardJudged}

-- "exactly its one place changes": the board with the change made
unfoldable pub changed_of : Board → Order → Board
changed_of b (Deadline d) = with_deadline_of b d
changed_of b (AddLink from to) = with_link_of b from to
changed_of b (RemoveLink from to) = without_link_of b from to
changed_of b (NewCurve part c) = with_curve_of b part c

-- 17: "no such part on the board", place: "the part asked for"
abbrev pub part_on : Board → ℕ → Answer Unit
part_on b p = pick (ltb p b.parts) (Ok tt) (refusal 17 p)

-- "17 (from before to), then for a link to add 7, 13, 15, 9; for one to remove 14": all but 9, which is judged with 10
abbrev pub place_tried : Board → Order → Answer Unit
place_tried b (Deadline d) = Ok tt
place_tried b (AddLink from to) = do
  here ← part_on b from
  there ← part_on b to
  pick (eqb from to)
      (refusal 7 0)
      (pick (has_link_of b (plain_link from to)) (refusal 13 0) (pick (leb 256 b.links) (refusal 15 0) (Ok tt)))
place_tried b (RemoveLink from to) = do
  here ← part_on b from
  there ← part_on b to
  pick (has_link_of b (plain_link from to)) (Ok tt) (refusal 14 0)
place_tried b (NewCurve part c) = part_on b part

-- 18: "tally's sum is 65,535 or more"
abbrev pub room_in : Tally → Answer Unit
room_in t = pick (leb 65535 (t.taken + t.refused)) (refusal 18 0) (Ok tt)

-- "and then tried: 11, 18, 17 ..": what is held, on which the order is tried
unfoldable pub tried_of : Desk → Tally → Order → Answer Held
tried_of d t o = do
  held ← held_in d
  room ← room_in t
  place ← place_tried held.board o
  Ok held

-- "the tally counts an order refused by 7, 9, 10, 13, 14, 15 or 17"
abbrev pub counted : ℕ → Bool
counted number = among number (7 ∷ 9 ∷ 10 ∷ 13 ∷ 14 ∷ 15 ∷ 17 ∷ [])

abbrev pub counts : Why → Bool
counts why = counted (number_of why)

abbrev pub one_taken : Tally → Tally
one_taken t = record { taken = t.taken + 1; refused = t.refused }

abbrev pub one_refused : Tally → Tally
one_refused t = record { taken = t.taken; refused = t.refused + 1 }

unfoldable pub refused_tally : Why → Tally → Tally
refused_tally why t = pick (counts why) (one_refused t) t

abbrev pub tally_ordered : Answer Unit → Tally → Tally
tally_ordered (Ok done) t = one_taken t
tally_ordered (Err e) t = refused_tally e.why t

-- a refused order changes the tally at most
abbrev pub order_refused : Refusal → ℕ → List ℕ → Desk → Tally → Ordered
order_refused e took path d t = record {
  answer = Err e;
  took = took;
  path = trail_of path;
  desk = d;
  tally = refused_tally e.why t;
}

-- the order was read, and no refusal but 9 and 10 is left: what the board as it would be comes to
pub record OrderJudged (b : Board) (d : Desk) (t : Tally) (took : ℕ) (r : Ordered) : Type 0 where
  pub judged : BoardJudged b d r.answer r.path r.desk
  pub took_is : r.took ≡ took
  pub tally : r.tally ≡ tally_ordered r.answer t

abbrev pub OrderTried : Answer Held → Desk → Tally → Order → ℕ → Ordered → Type 0
OrderTried (Err e) d t o took r = r ≡ order_refused e took [] d t
OrderTried (Ok held) d t o took r = OrderJudged (changed_of held.board o) d t took r

-- "An order is read alone .. and then tried". One that cannot be read takes no bytes and is not counted
abbrev pub OrderParsed : Parse Order → Desk → Tally → Ordered → Type 0
OrderParsed (Err e) d t r = r ≡ order_refused e 0 [] d t
OrderParsed (Ok read) d t r = OrderTried (tried_of d t read.value) d t read.value read.next r

pub record OrderSaid (d : Desk) (s : List ℕ) (t : Tally) (r : Ordered) : Type 0 where
  pub parsed : OrderParsed (order_of s) d t r

-- what is promised of an order: all of that on a desk that stands, and on any desk that a refusal changes the tally at most
pub record OrderGiven (d : Desk) (s : List ℕ) (t : Tally) (r : Ordered) : Type 0 where
  pub said : Standing d → OrderSaid d s t r
  pub stays : (e : Refusal) → r.answer ≡ Err e → (r.desk ≡ d) × (r.tally ≡ refused_tally e.why t)
