-- Two results that one input allows are the same but for the advice, and a refused call leaves what is held as it was.
-- Assumes nothing.
use mathlib.Core.Path.{◌≡◌, refl, sym, ap, subst, ◌∙◌}
use mathlib.Core.List.{List, []}
use Prim.Native.Nat.{ℕ}
use Rattle.refusal.specs.declared.Refusal.{Refusal}
use Rattle.refusal.specs.Refusal.{Answer}
use Rattle.std.specs.Prelude.{Ok, Err}
use Rattle.board.specs.declared.Rule.{Rule}
use Rattle.board.specs.declared.Board.{Board}
use Rattle.board.specs.Board.{WellFormed}
use Rattle.board.proofs.UsableLaws.{one_rule}
use Rattle.slow.specs.declared.Trail.{Trail}
use Rattle.slow.specs.Walk.{trail_of}
use Rattle.budget.specs.Budget.{Holds}
use Rattle.budget.proofs.BudgetLaws.{holds_once}
use Rattle.groups.specs.Parse.{Parse, got}
use Rattle.design.specs.Design.{design_of}
use Rattle.design.proofs.DesignLaws.{design_well_formed}
use Rattle.orders.specs.declared.Order.{Order}
use Rattle.orders.specs.Order.{Orderly, order_of}
use Rattle.orders.proofs.OrderLaws.{order_orderly}
use Rattle.desk.specs.declared.Tally.{Tally}
use Rattle.desk.specs.declared.Desk.{Desk}
use Rattle.desk.specs.declared.Loaded.{Loaded}
use Rattle.desk.specs.declared.Ordered.{Ordered}
use Rattle.desk.specs.declared.Held.{Held}
use Rattle.std.specs.Prelude.{Option, Some, None}
use Rattle.desk.specs.Held.{Holding, Standing}
use Rattle.desk.specs.Judged.{BoardJudged}
use Rattle.desk.specs.Load.{tally_loaded, LoadJudged, LoadParsed, LoadRead, LoadSaid}
use Rattle.desk.specs.Order.{changed_of, tried_of, refused_tally, tally_ordered, order_refused, OrderJudged, OrderTried, OrderParsed, OrderSaid}
use Rattle.desk.specs.Load as load
use Rattle.demands.specs.Same.{SameHeld, SameDesk, SameLoaded, SameOrdered}
use Rattle.demands.specs.Same as same
use Rattle.solver.proofs.VerdictLaws.{verdict_once}
use Rattle.desk.proofs.Tried.{same_err, standing_kept, tried_passed, tried_fits, changed_well}

-- ---- desks with one board
same_held : {h h' : Held} → h ≡ h' → SameHeld h h'
same_held e = record { board = ap (λ (x : Held). x.board) e; budget = ap (λ (x : Held). x.budget) e }

same_as : (held : Option Held) (d d' : Desk) → d.held ≡ held → d'.held ≡ held → SameDesk d d'
same_as None d d' is is' = same.empty is is'
same_as (Some h) d d' is is' = same.holding is is' (same_held refl)

pub same_desk : (d d' : Desk) → d ≡ d' → SameDesk d d'
same_desk d d' e = same_as d'.held d d' (ap (λ (x : Desk). x.held) e) refl

pub one_board : (d d' : Desk) (h : Holding d) (h' : Holding d') → h.held.board ≡ h'.held.board → SameDesk d d'
one_board d d' h h' e =
    let other : Holds h.held.board h'.held.budget = rw e h'.kept.holds in
    same.holding h.is h'.is (record {
      board = e;
      budget = holds_once h.held.board h.kept.formed h.held.budget h'.held.budget h.kept.holds other;
    })

-- ---- what a board comes to
module _ (b : Board) (d : Desk) {a a' : Answer Unit} {p p' : Trail} {e e' : Desk} (j : BoardJudged b d a p e) (j' : BoardJudged b d a' p' e') where
  desk_once : (answer : Answer Unit) → a ≡ answer → a' ≡ answer → SameDesk e e'
  desk_once (Ok done) h h' = one_board e e' (j.holding h) (j'.holding h') (j.board h ∙ sym (j'.board h'))
  desk_once (Err x) h h' = same_desk e e' (j.stays x h ∙ sym (j'.stays x h'))

  judged_once : WellFormed b → (a ≡ a') × (p ≡ p') × SameDesk e e'
  judged_once w =
      let one = verdict_once b w j.verdict j'.verdict in
      (one.answer, j.listed ∙ ap trail_of one.listed ∙ sym j'.listed, desk_once a' one.answer refl)

-- ---- loads
same_loaded : (r r' : Loaded) → r ≡ r' → SameLoaded r r'
same_loaded r r' e = record {
  answer = ap (λ (x : Loaded). x.answer) e;
  path = ap (λ (x : Loaded). x.path) e;
  desk = same_desk r.desk r'.desk (ap (λ (x : Loaded). x.desk) e);
  tally = ap (λ (x : Loaded). x.tally) e;
}

module _ (d : Desk) (t : Tally) where
  load_judged_once : (b : Board) → WellFormed b → (r r' : Loaded) → LoadJudged b d t r → LoadJudged b d t r' → SameLoaded r r'
  load_judged_once b w r r' j j' =
      let one = judged_once b d j.judged j'.judged w in
      record {
        answer = one.0;
        path = one.1;
        desk = one.2;
        tally = j.tally ∙ ap (λ (a : Answer Unit). tally_loaded a t) one.0 ∙ sym j'.tally;
      }

  load_parsed_once :
      (p : Parse Board) → ((b : Board) (next : ℕ) → p ≡ got b next → WellFormed b) → (r r' : Loaded) → LoadParsed p d t r →
      LoadParsed p d t r' → SameLoaded r r'
  load_parsed_once (Err x) well r r' is is' = same_loaded r r' (is ∙ sym is')
  load_parsed_once (Ok x) well r r' j j' = load_judged_once x.value (well x.value x.next refl) r r' j j'

  load_read_once : (named : Rule) (s : List ℕ) (r r' : Loaded) → LoadRead d named s t r → LoadRead d named s t r' → SameLoaded r r'
  load_read_once named s r r' read read' = load_parsed_once (design_of named s) (design_well_formed named s) r r' read.parsed read'.parsed

  pub load_once : (rule : ℕ) (s : List ℕ) (r r' : Loaded) → LoadSaid d rule s t r → LoadSaid d rule s t r' → SameLoaded r r'
  load_once rule s r r' (load.unruled none is) (load.unruled none' is') = same_loaded r r' (is ∙ sym is')
  load_once rule s r r' (load.unruled none is) (load.ruled named e read) = absurd (none named e)
  load_once rule s r r' (load.ruled named e read) (load.unruled none is) = absurd (none named e)
  load_once rule s r r' (load.ruled named e read) (load.ruled named' e' read') =
      load_read_once named s r r' read (subst (λ (x : Rule). LoadRead d x s t r') (one_rule named' named (sym e' ∙ e)) read')

  -- a refused load changes nothing
  load_judged_kept : (b : Board) (r : Loaded) {x : Refusal} → LoadJudged b d t r → r.answer ≡ Err x → (r.desk ≡ d) × (r.tally ≡ t)
  load_judged_kept b r {x} j e = (j.judged.stays x e, j.tally ∙ ap (λ (a : Answer Unit). tally_loaded a t) e)

  load_parsed_kept :
      (p : Parse Board) (r : Loaded) {x : Refusal} → LoadParsed p d t r → r.answer ≡ Err x → (r.desk ≡ d) × (r.tally ≡ t)
  load_parsed_kept (Err y) r is e = (ap (λ (x : Loaded). x.desk) is, ap (λ (x : Loaded). x.tally) is)
  load_parsed_kept (Ok y) r j e = load_judged_kept y.value r j e

  pub load_refused_stays :
      (rule : ℕ) (s : List ℕ) (r : Loaded) {x : Refusal} → LoadSaid d rule s t r → r.answer ≡ Err x → (r.desk ≡ d) × (r.tally ≡ t)
  load_refused_stays rule s r (load.unruled none is) e = (ap (λ (x : Loaded). x.desk) is, ap (λ (x : Loaded). x.tally) is)
  load_refused_stays rule s r (load.ruled named num read) e = load_parsed_kept (design_of named s) r read.parsed e

-- ---- orders
same_ordered : (r r' : Ordered) → r ≡ r' → SameOrdered r r'
same_ordered r r' e = record {
  answer = ap (λ (x : Ordered). x.answer) e;
  took = ap (λ (x : Ordered). x.took) e;
  path = ap (λ (x : Ordered). x.path) e;
  desk = same_desk r.desk r'.desk (ap (λ (x : Ordered). x.desk) e);
  tally = ap (λ (x : Ordered). x.tally) e;
}

module _ (d : Desk) (t : Tally) where
  order_judged_once : (b : Board) → WellFormed b → (took : ℕ) (r r' : Ordered) → OrderJudged b d t took r → OrderJudged b d t took r' → SameOrdered r r'
  order_judged_once b w took r r' j j' =
      let one = judged_once b d j.judged j'.judged w in
      record {
        answer = one.0;
        took = j.took_is ∙ sym j'.took_is;
        path = one.1;
        desk = one.2;
        tally = j.tally ∙ ap (λ (a : Answer Unit). tally_ordered a t) one.0 ∙ sym j'.tally;
      }

  -- the board as it would be is well formed where it is judged
  pub judged_well : Standing d → (o : Order) → Orderly o → (h : Held) → tried_of d t o ≡ Ok h → WellFormed (changed_of h.board o)
  judged_well so o orderly h e =
      let p = tried_passed d t o h e in
      let w = (standing_kept so p.held).formed in
      changed_well h.board w o (tried_fits h.board w o p.place) orderly

  module _ (so : Standing d) (o : Order) (orderly : Orderly o) (took : ℕ) (r r' : Ordered) where
    order_tried_once : (a : Answer Held) → tried_of d t o ≡ a → OrderTried a d t o took r → OrderTried a d t o took r' → SameOrdered r r'
    order_tried_once (Err x) e is is' = same_ordered r r' (is ∙ sym is')
    order_tried_once (Ok h) e j j' = order_judged_once (changed_of h.board o) (judged_well so o orderly h e) took r r' j j'

  order_parsed_once :
      Standing d → (p : Parse Order) → ((o : Order) (took : ℕ) → p ≡ got o took → Orderly o) → (r r' : Ordered) → OrderParsed p d t r →
      OrderParsed p d t r' → SameOrdered r r'
  order_parsed_once so (Err x) orderly r r' is is' = same_ordered r r' (is ∙ sym is')
  order_parsed_once so (Ok x) orderly r r' j j' =
      order_tried_once so x.value (orderly x.value x.next refl) x.next r r' (tried_of d t x.value) refl j j'

  pub order_once : Standing d → (s : List ℕ) (r r' : Ordered) → OrderSaid d s t r → OrderSaid d s t r' → SameOrdered r r'
  order_once so s r r' said said' = order_parsed_once so (order_of s) (order_orderly s) r r' said.parsed said'.parsed

  -- a refused order changes the tally at most, and that as it is counted
  refused_kept :
      (r : Ordered) (took : ℕ) {x y : Refusal} → r ≡ order_refused x took [] d t → r.answer ≡ Err y → (r.desk ≡ d) × (r.tally ≡ refused_tally y.why t)
  refused_kept r took {x} {y} is e =
      let same : x ≡ y = same_err (sym (ap (λ (x : Ordered). x.answer) is) ∙ e) in
      (ap (λ (x : Ordered). x.desk) is, ap (λ (x : Ordered). x.tally) is ∙ ap (λ (v : Refusal). refused_tally v.why t) same)

  order_tried_kept :
      (a : Answer Held) (o : Order) (took : ℕ) (r : Ordered) {y : Refusal} → OrderTried a d t o took r → r.answer ≡ Err y →
      (r.desk ≡ d) × (r.tally ≡ refused_tally y.why t)
  order_tried_kept (Err x) o took r is e = refused_kept r took is e
  order_tried_kept (Ok h) o took r {y} j e = (j.judged.stays y e, j.tally ∙ ap (λ (a : Answer Unit). tally_ordered a t) e)

  order_parsed_kept :
      (p : Parse Order) (r : Ordered) {y : Refusal} → OrderParsed p d t r → r.answer ≡ Err y → (r.desk ≡ d) × (r.tally ≡ refused_tally y.why t)
  order_parsed_kept (Err x) r is e = refused_kept r 0 is e
  order_parsed_kept (Ok x) r j e = order_tried_kept (tried_of d t x.value) x.value x.next r j e

  pub order_refused_stays :
      (s : List ℕ) (r : Ordered) {y : Refusal} → OrderSaid d s t r → r.answer ≡ Err y → (r.desk ≡ d) × (r.tally ≡ refused_tally y.why t)
  order_refused_stays s r said e = order_parsed_kept (order_of s) r said.parsed e
