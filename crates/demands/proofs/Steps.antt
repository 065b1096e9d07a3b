-- What is known after an order that was made, and when an order is made.
-- Assumes nothing.
use mathlib.Core.Path.{◌≡◌, refl, sym, ap, subst, ◌∙◌}
use mathlib.Core.Logic.{◌↔◌}
use mathlib.Core.List.{List}
use Prim.Native.Nat.{ℕ}
use Rattle.refusal.specs.Refusal.{Answer}
use Rattle.std.specs.Prelude.{Ok, Err}
use Rattle.board.specs.declared.Board.{Board}
use Rattle.budget.specs.declared.Budget as value
use Rattle.budget.specs.Made.{times_in}
use Rattle.budget.proofs.BudgetLaws.{allowed_budget}
use Rattle.groups.specs.Parse.{Parse}
use Rattle.orders.specs.declared.Order.{Order}
use Rattle.orders.specs.Order.{order_of}
use Rattle.desk.specs.declared.Tally.{Tally}
use Rattle.desk.specs.declared.Desk.{Desk}
use Rattle.desk.specs.declared.Ordered.{Ordered}
use Rattle.desk.specs.declared.Held.{Held}
use Rattle.desk.specs.Held.{Kept, Holding}
use Rattle.desk.specs.Order.{changed_of, tried_of, one_taken, tally_ordered, OrderJudged, OrderTried, OrderParsed, OrderSaid}
use Rattle.demands.specs.Boards.{Plannable}
use Rattle.demands.specs.Orders.{Reads, Makes, Allows, MayBeMade, ChangesOnly}
use Rattle.solver.proofs.VerdictLaws.{verdict_done}
use Rattle.desk.proofs.Tried.{never, some_same, Passed, tried_passed, passed_tried, tried_fits, Fits}
use Rattle.demands.proofs.Tried.{changed_only}

-- a board that is held with its budget
pub kept_plannable : (b : Board) (r : value.Budget) → Kept b r → Plannable b
kept_plannable b r kept = record {
  formed = kept.formed;
  free = kept.free;
  times = times_in b r;
  budget = allowed_budget b kept.formed r kept.holds.allowed;
}

-- an order that was made
pub record Stepped (d : Desk) (t : Tally) (o : Order) (r : Ordered) : Type 0 where
  pub held : Held
  pub passed : Passed d t o held
  pub holding : Holding r.desk
  pub board : holding.held.board ≡ changed_of held.board o
  pub tally : r.tally ≡ one_taken t

module _ (d : Desk) (t : Tally) (o : Order) (r : Ordered) where
  tried_stepped : (a : Answer Held) (took : ℕ) → tried_of d t o ≡ a → r.answer ≡ Ok tt → OrderTried a d t o took r → Stepped d t o r
  tried_stepped (Err x) took e done is = never (sym (ap (λ (x : Ordered). x.answer) is) ∙ done)
  tried_stepped (Ok h) took e done j = record {
    held = h;
    passed = tried_passed d t o h e;
    holding = j.judged.holding done;
    board = j.judged.board done;
    tally = j.tally ∙ ap (λ (a : Answer Unit). tally_ordered a t) done;
  }

  module _ (s : List ℕ) (reads : Reads s o) where
    tried : OrderSaid d s t r → OrderTried (tried_of d t o) d t o reads.took r
    tried said = subst (λ (p : Parse Order). OrderParsed p d t r) reads.read said.parsed

    pub makes_stepped : Makes d s t r → Stepped d t o r
    makes_stepped m = tried_stepped (tried_of d t o) reads.took refl m.done (tried m.said)

    judged_done : (b : Board) (took : ℕ) → Plannable b → OrderJudged b d t took r → r.answer ≡ Ok tt
    judged_done b took ok j = verdict_done b ok.formed ok.free ok.budget j.judged.verdict

    -- an order is made where nothing stands against it
    pub said_makes : (h : Held) → Passed d t o h → Plannable (changed_of h.board o) → OrderSaid d s t r → Makes d s t r
    said_makes h passed ok said =
        let j : OrderTried (Ok h) d t o reads.took r = subst (λ (a : Answer Held). OrderTried a d t o reads.took r) (passed_tried d t o h passed) (tried said) in
        record { said = said; done = judged_done (changed_of h.board o) reads.took ok j }

  -- demand 3: an order that is made "changes its one place and nothing else"
  -- what it was tried on is what is held
  pub stepped_held : (h : Holding d) (so : Stepped d t o r) → so.held ≡ h.held
  stepped_held h so = some_same (sym so.passed.held ∙ h.is)

  pub stepped_fits : (h : Holding d) → Stepped d t o r → Fits h.held.board o
  stepped_fits h so = tried_fits h.held.board h.kept.formed o (rw (stepped_held h so) at so.passed.place)

  pub stepped_board : (h : Holding d) (so : Stepped d t o r) → so.holding.held.board ≡ changed_of h.held.board o
  stepped_board h so = so.board ∙ ap (λ (x : Held). changed_of x.board o) (stepped_held h so)

  pub stepped_only : (h : Holding d) (so : Stepped d t o r) → ChangesOnly h.held.board so.holding.held.board o
  stepped_only h so = rw (stepped_board h so) (changed_only h.held.board h.kept.formed o (stepped_fits h so))

-- demand 3: "An order is made exactly when no listed refusal applies, and changes its one place and nothing else."
module _ (d : Desk) (t : Tally) (s : List ℕ) (o : Order) (reads : Reads s o) (r : Ordered) (said : OrderSaid d s t r) where
  pub order_made : Allows d t o → Makes d s t r
  order_made may = said_makes d t o r s reads may.held (tried_passed d t o may.held may.tried) may.plannable said

  pub made_allows : r.answer ≡ Ok tt → Allows d t o
  made_allows done =
      let so = makes_stepped d t o r s reads (record { said = said; done = done }) in
      record {
        held = so.held;
        tried = passed_tried d t o so.held so.passed;
        plannable = rw so.board at (kept_plannable so.holding.held.board so.holding.held.budget so.holding.kept);
      }

  pub made_changes_only : (h : Holding d) → r.answer ≡ Ok tt → (h' : Holding r.desk) × ChangesOnly h.held.board h'.held.board o
  made_changes_only h done =
      let so = makes_stepped d t o r s reads (record { said = said; done = done }) in
      (so.holding, stepped_only d t o r h so)

-- what cannot be read is never made
module _ (d : Desk) (t : Tally) (s : List ℕ) (r : Ordered) where
  parsed_read : (p : Parse Order) → order_of s ≡ p → OrderParsed p d t r → r.answer ≡ Ok tt → (o : Order) × Reads s o
  parsed_read (Err x) e is done = never (sym (ap (λ (x : Ordered). x.answer) is) ∙ done)
  parsed_read (Ok x) e j done = (x.value, record { took = x.next; read = e })

  made_may : OrderSaid d s t r → r.answer ≡ Ok tt → MayBeMade d t s
  made_may said done =
      let read = parsed_read (order_of s) refl said.parsed done in
      record { order = read.0; reads = read.1; allows = made_allows d t s read.0 read.1 r said done }

  -- demand 3: "An order is made exactly when no listed refusal applies", neither in reading it nor in trying it
  pub order_made_exactly : OrderSaid d s t r → (r.answer ≡ Ok tt) ↔ MayBeMade d t s
  order_made_exactly said = (made_may said, λ may. (order_made d t s may.order may.reads r said may.allows).done)
