-- Two results that one contract allows are equal.
-- Assumes nothing.
use mathlib.Core.Path.{◌≡◌, sym, ap, subst, ◌∙◌}
use mathlib.Core.List.{List}
use Prim.Native.Nat.{ℕ}
use native.Mathlib.Omega.{arith}
use Rattle.std.specs.Prelude.{Option, Ok, Err, IsOkAnd}
use Rattle.refusal.specs.Refusal.{Answer, refusal}
use Rattle.board.specs.declared.Board.{Board}
use Rattle.cone.specs.Cone.{Upstream}
use Rattle.budget.specs.declared.Budget.{Budget}
use Rattle.desk.specs.declared.Held.{Held}
use Rattle.desk.specs.declared.Desk.{Desk}
use Rattle.desk.specs.Held.{Standing, ◌>>=◌, where_held}
use Rattle.desk.specs.Order.{part_on}
use Rattle.desk.specs.Empty.{empty_desk}
use Rattle.desk.specs.Load.{no_tally}
use Rattle.demands.specs.Same.{SameDesk}
use Rattle.demands.specs.Same as same
use Rattle.demands.proofs.Once.{load_once}
use Rattle.questions.specs.declared.Marked.{Marked}
use Rattle.questions.specs.Tried.{part_tried, Said}
use Rattle.questions.specs.Sets.{ConeGiven, UpstreamSaid}
use Rattle.questions.proofs.QuestionLaws.{upstream_once}
use Rattle.hosted.proofs.Ways.{load_stands}
use Rattle.hosted.specs.Hosted.{LoadOf, total_in, TotalOf, set_of, UpstreamOf, LastOf, never, found, UpstreamAsked}

-- two desks that loads of one file give are the same but for the advice
same_desk : (d d' e e' : Desk) → d ≡ e → d' ≡ e' → SameDesk e e' → SameDesk d d'
same_desk d d' e e' is is' alike = rw (is, is') alike

pub loads_once : (s : List ℕ) (d d' : Desk) → LoadOf s d → LoadOf s d' → SameDesk d d'
loads_once s d d' l l' =
    same_desk d d' l.load.desk l'.load.desk l.desk l'.desk
    (load_once empty_desk no_tally 0 s l.load l'.load l.said l'.said).desk

totals_same : (d d' : Desk) → SameDesk d d' → total_in d ≡ total_in d'
totals_same d d' (same.empty is is') = rw (is, is')
totals_same d d' (same.holding is is' e) = rw (is, is') (ap (λ (b : Budget). b.total.0) e.budget)

pub total_once : (s : List ℕ) (r r' : ℕ) → TotalOf s r → TotalOf s r' → r ≡ r'
total_once s r r' t t' =
    t.total ∙ totals_same t.held t'.held (loads_once s t.held t'.held t.load t'.load) ∙ sym t'.total

-- what is found so many times is found once
pub last_once : (Is : ℕ → Type 0) → ((r r' : ℕ) → Is r → Is r' → r ≡ r') → (times r r' : ℕ) → LastOf Is times r → LastOf Is times r' → r ≡ r'
last_once Is once times r r' (never z e) (never z' e') = e ∙ sym e'
last_once Is once times r r' (never z e) (found some is) = absurd (omega (arith, z, some))
last_once Is once times r r' (found some is) (never z e) = absurd (omega (arith, z, some))
last_once Is once times r r' (found some is) (found some' is') = once r r' is is'

pub loaded_once : (s : List ℕ) (times r r' : ℕ) → LastOf (TotalOf s) times r → LastOf (TotalOf s) times r' → r ≡ r'
loaded_once s = last_once (TotalOf s) (total_once s)

-- ---- the set upstream, which no advice changes either
-- a question of a part is answered alike on two desks that are the same
said_as :
    {R : Type 0} (d d' : Desk) → SameDesk d d' → Standing d' → (part : ℕ) (Is : Board → Answer R → Type 0) (r : Answer R) →
    Said (part_tried d' part) d' (λ held. Is held.board) r → Said (part_tried d part) d (λ held. Is held.board) r
unfolding part_tried
said_as d d' (same.empty is is') st part Is r said = rw is (rw is' at said)
said_as {R} d d' (same.holding {h} {h'} is is' e) st part Is r said =
    subst (λ (o : Option Held). Said (tried_in o) d (λ held. Is held.board) r) (sym is)
    (on_part (part_on h.board part) h h' e.board (rw (ap (λ (b : Board). part_on b part) e.board) (subst (λ (o : Option Held). Said (tried_in o) d' (λ held. Is held.board) r) is' said)))
  where
    tried_in : Option Held → Answer Held
    tried_in o = where_held o (refusal 11 0) Ok >>= (λ held. part_on held.board part >>= (λ _. Ok held))

    on_part : (here : Answer Unit) (h h' : Held) → h.board ≡ h'.board → Said (here >>= (λ _. Ok h')) d' (λ held. Is held.board) r
        → Said (here >>= (λ _. Ok h)) d (λ held. Is held.board) r
    on_part (Err e) h h' same said = said
    on_part (Ok here) h h' same said = λ _. rw same (said st)

upstream_as : (d d' : Desk) → SameDesk d d' → Standing d' → (part : ℕ) (q : Answer Marked) → UpstreamSaid d' part q → UpstreamSaid d part q
unfolding UpstreamSaid
upstream_as d d' alike st part q said = said_as d d' alike st part (λ b r. IsOkAnd r (ConeGiven (Upstream b part))) q said

upstreams_once :
    (d d' : Desk) → SameDesk d d' → Standing d → Standing d' → (part r r' : ℕ) → UpstreamOf d part r → UpstreamOf d' part r' → r ≡ r'
upstreams_once d d' alike st st' part r r' u u' =
    let q = upstream_once d st part u.asked u'.asked u.said (upstream_as d d' alike st' part u'.asked u'.said) in
    u.set ∙ ap set_of q ∙ sym u'.set

pub upstream_asked_once : (s : List ℕ) (part times r r' : ℕ) → UpstreamAsked s part times r → UpstreamAsked s part times r' → r ≡ r'
upstream_asked_once s part times r r' a a' = both a.last a'.last
  where
    alike : SameDesk a.held a'.held
    alike = loads_once s a.held a'.held a.load a'.load

    both : LastOf (UpstreamOf a.held part) times r → LastOf (UpstreamOf a'.held part) times r' → r ≡ r'
    both (never z e) (never z' e') = e ∙ sym e'
    both (never z e) (found some is) = absurd (omega (arith, z, some))
    both (found some is) (never z e) = absurd (omega (arith, z, some))
    both (found some is) (found some' is') =
        upstreams_once a.held a'.held alike (load_stands s a.held a.load) (load_stands s a'.held a'.load) part r r' is is'
