-- Two sessions that the contract allows end alike but for the advice. An order is tried alike on two desks that are the same but for it.
-- Assumes nothing.
use mathlib.Core.Path.{◌≡◌, refl, sym, ap, subst, ◌∙◌}
use mathlib.Core.List.{List, []}
use Prim.Native.Nat.{ℕ}
use Rattle.std.specs.Prelude.{Option, Ok, Err}
use Rattle.refusal.specs.declared.Refusal.{Refusal}
use Rattle.refusal.specs.Refusal.{Answer, refusal, refusal_at, by}
use Rattle.board.specs.declared.Board.{Board}
use Rattle.groups.specs.Parse.{Parse}
use Rattle.orders.specs.declared.Order.{Order}
use Rattle.orders.specs.Order.{order_of}
use Rattle.desk.specs.declared.Tally.{Tally}
use Rattle.desk.specs.declared.Desk.{Desk}
use Rattle.desk.specs.declared.Ordered.{Ordered}
use Rattle.desk.specs.Empty.{empty_desk}
use Rattle.desk.specs.Held.{Standing, ◌>>=◌, where_held}
use Rattle.desk.proofs.Judging.{empty_stands}
use Rattle.desk.specs.Load.{no_tally}
use Rattle.desk.specs.Order.{changed_of, place_tried, room_in, tried_of, order_refused, OrderJudged, OrderTried, OrderParsed, OrderSaid}
use Rattle.desk.proofs.Tried.{never, none_some, some_same}
use Rattle.demands.specs.Same.{SameDesk, SameOrdered}
use Rattle.demands.specs.Same as same
use Rattle.desk.specs.declared.Held.{Held}
use Rattle.demands.proofs.Once.{same_desk, load_once, order_once}
use Rattle.demands.proofs.ReachedLaws.{load_standing, order_standing}
use Rattle.tally.specs.declared.SessionEnd.{SessionEnd}
use Rattle.tally.specs.Lent.{SessionSaid}

same_self : (r : Ordered) → SameOrdered r r
same_self r = record { answer = refl; took = refl; path = refl; desk = same_desk r.desk r.desk refl; tally = refl }

desk_next : {d d' d'' : Desk} → SameDesk d d' → SameDesk d' d'' → SameDesk d d''
desk_next (same.empty is is') (same.empty is₂ is₃) = same.empty is is₃
desk_next (same.empty is is') (same.holding is₂ is₃ e) = none_some (sym is' ∙ is₂)
desk_next (same.holding is is' e) (same.empty is₂ is₃) = none_some (sym is₂ ∙ is')
desk_next (same.holding is is' e) (same.holding is₂ is₃ e₂) =
    let between = some_same (sym is' ∙ is₂) in
    same.holding is is₃ (record {
      board = e.board ∙ ap (λ (h : Held). h.board) between ∙ e₂.board;
      budget = e.budget ∙ ap (λ (h : Held). h.budget) between ∙ e₂.budget;
    })

same_next : {r r' r'' : Ordered} → SameOrdered r r' → SameOrdered r' r'' → SameOrdered r r''
same_next one two = record {
  answer = one.answer ∙ two.answer;
  took = one.took ∙ two.took;
  path = one.path ∙ two.path;
  desk = desk_next one.desk two.desk;
  tally = one.tally ∙ two.tally;
}

-- what was done on d' might have been done on d: an outcome there, with what is to be shown of it, that is the same but for the advice
record Alike (Is : Ordered → Type 0) (r' : Ordered) : Type 0 where
  other : Ordered
  is : Is other
  same : SameOrdered other r'

module _ (d d' : Desk) (alike : SameDesk d d') (t : Tally) (r' : Ordered) where
  refused_alike : (e : Refusal) (took : ℕ) (path : List ℕ) → r' ≡ order_refused e took path d' t → SameOrdered (order_refused e took path d t) r'
  refused_alike e took path is = record {
    answer = sym (ap (λ (x : Ordered). x.answer) is);
    took = sym (ap (λ (x : Ordered). x.took) is);
    path = sym (ap (λ (x : Ordered). x.path) is);
    desk = subst (λ (x : Desk). SameDesk d x) (sym (ap (λ (x : Ordered). x.desk) is)) alike;
    tally = sym (ap (λ (x : Ordered). x.tally) is);
  }

  judged_alike : (b : Board) (took : ℕ) (a : Answer Unit) → r'.answer ≡ a → OrderJudged b d' t took r' → Alike (OrderJudged b d t took) r'
  judged_alike b took (Err x) e j = record {
    other = record { answer = r'.answer; took = r'.took; path = r'.path; desk = d; tally = r'.tally };
    is = record {
      judged = record {
        shown = j.judged.shown;
        verdict = j.judged.verdict;
        listed = j.judged.listed;
        stays = λ _ _. refl;
        holding = λ done. never (sym e ∙ done);
        board = λ done. never (sym e ∙ done);
      };
      took_is = j.took_is;
      tally = j.tally;
    };
    same = record {
      answer = refl;
      took = refl;
      path = refl;
      desk = subst (λ (x : Desk). SameDesk d x) (sym (j.judged.stays x e)) alike;
      tally = refl;
    };
  }
  judged_alike b took (Ok done) e j = record {
    other = r';
    is = record {
      judged = record {
        shown = j.judged.shown;
        verdict = j.judged.verdict;
        listed = j.judged.listed;
        stays = λ x refused. never (sym refused ∙ e);
        holding = j.judged.holding;
        board = j.judged.board;
      };
      took_is = j.took_is;
      tally = j.tally;
    };
    same = same_self r';
  }

  module _ (o : Order) (took : ℕ) where
    turned : (e : Refusal) → r' ≡ order_refused e took [] d' t → Alike (λ r. r ≡ order_refused e took [] d t) r'
    turned e is = record { other = order_refused e took [] d t; is = refl; same = refused_alike e took [] is }

    on_alike :
        (room place : Answer Unit) (h h' : Held) → h.board ≡ h'.board → OrderTried (room >>= (λ _. place >>= (λ _. Ok h'))) d' t o took r' →
        Alike (OrderTried (room >>= (λ _. place >>= (λ _. Ok h))) d t o took) r'
    on_alike (Err e) place h h' same is = turned e is
    on_alike (Ok room) (Err e) h h' same is = turned e is
    on_alike (Ok room) (Ok place) h h' same j =
        judged_alike (changed_of h.board o) took r'.answer refl
        (subst (λ (b : Board). OrderJudged (changed_of b o) d' t took r') (sym same) j)

    -- what is tried of what is held
    abbrev tried_by : Option Held → Answer Held
    tried_by held = where_held held (refusal 11 0) Ok >>= (λ h. room_in t >>= (λ _. place_tried h.board o >>= (λ _. Ok h)))

    tried_alike : SameDesk d d' → OrderTried (tried_of d' t o) d' t o took r' → Alike (OrderTried (tried_of d t o) d t o took) r'
    unfolding tried_of
    tried_alike (same.empty is is') x =
        let x' : r' ≡ order_refused (refusal_at (by 11) 0) took [] d' t = subst (λ (held : Option Held). OrderTried (tried_by held) d' t o took r') is' x in
        subst (λ (held : Option Held). Alike (OrderTried (tried_by held) d t o took) r') (sym is) (turned (refusal_at (by 11) 0) x')
    tried_alike (same.holding {h} {h'} is is' e) x =
        let place = place_tried h.board o in
        let here : place ≡ place_tried h'.board o = ap (λ (b : Board). place_tried b o) e.board in
        let x' = subst (λ (held : Option Held). OrderTried (tried_by held) d' t o took r') is' x in
        subst (λ (held : Option Held). Alike (OrderTried (tried_by held) d t o took) r') (sym is) (on_alike (room_in t) place h h' e.board (rw here x'))

  parsed_alike : (p : Parse Order) → OrderParsed p d' t r' → Alike (OrderParsed p d t) r'
  parsed_alike (Err e) is = record { other = order_refused e 0 [] d t; is = refl; same = refused_alike e 0 [] is }
  parsed_alike (Ok x) j = tried_alike x.value x.next alike j

  pub order_alike : Standing d → (s : List ℕ) (r : Ordered) → OrderSaid d s t r → OrderSaid d' s t r' → SameOrdered r r'
  order_alike so s r said said' =
      let a = parsed_alike (order_of s) said'.parsed in
      same_next (order_once d t so s r a.other said (record { parsed = a.is })) a.same

pub session_once :
    (file first second : List ℕ) (r r' : SessionEnd) → SessionSaid file first second r → SessionSaid file first second r' →
    SameOrdered r.last r'.last × (r.tally ≡ r'.tally)
session_once file first second r r' one two =
    let loads = load_once empty_desk no_tally 0 file one.load two.load one.loaded two.loaded in
    let stand = load_standing empty_desk no_tally empty_stands 0 file one.load one.loaded in
    let stand' = load_standing empty_desk no_tally empty_stands 0 file two.load two.loaded in
    let said = one.ordered.said stand in
    let said' = two.ordered.said stand' in
    let orders =
    order_alike one.load.desk two.load.desk loads.desk one.load.tally two.order stand first one.order said
    (subst (λ (t : Tally). OrderSaid two.load.desk first t two.order) (sym loads.tally) said') in
    let again = order_standing one.load.desk one.load.tally stand first one.order said in
    let again' = order_standing two.load.desk two.load.tally stand' first two.order said' in
    let lasts =
    order_alike one.order.desk two.order.desk orders.desk one.order.tally r'.last again second r.last (one.ordered_again.said again)
    (subst (λ (t : Tally). OrderSaid two.order.desk second t r'.last) (sym orders.tally) (two.ordered_again.said again')) in
    (lasts, one.left ∙ lasts.tally ∙ sym two.left)
