-- What is known of an order that no refusal but 9 and 10 meets, and the board as it then is.
-- Assumes nothing.
use mathlib.Core.Path.{◌≡◌, refl, sym, ap, ◌∙◌}
use mathlib.Core.Bool.{Bool, true, false}
use Prim.Native.Nat.{ℕ, ◌+◌, ◌<◌}
use borrow.Author.Tests.{ltb-true, leb-false, eqb-false, lt-ltb, lt-leb, ne_eqb}
use Rattle.std.specs.Prelude.{Option, Some, None, Result, Ok, Err, IsErrAnd}
use Rattle.base.specs.Pick.{pick}
use Rattle.refusal.specs.declared.Refusal.{Refusal}
use Rattle.refusal.specs.Refusal.{Answer, refusal, refusal_at, by}
use Rattle.board.specs.declared.Board.{Board}
use Rattle.board.specs.Board.{Linked, WellFormed}
use Rattle.edits.specs.Changes.{Addable}
use Rattle.edits.proofs.Places.{has_linked, linked_has, missing_false}
use Rattle.edits.proofs.PlainEdits.{with_deadline_well, with_curve_well}
use Rattle.edits.proofs.LinkEdits.{with_link_well, without_link_well}
use Rattle.orders.specs.declared.Order.{Order}
use Rattle.orders.specs.declared.Order.TheVariants.{Deadline, AddLink, RemoveLink, NewCurve}
use Rattle.orders.specs.Order.{Orderly}
use Rattle.desk.specs.declared.Tally.{Tally}
use Rattle.desk.specs.declared.Held.{Held}
use Rattle.desk.specs.declared.Desk.{Desk}
use Rattle.desk.specs.Held.{Kept, Standing, empty, holding, ◌>>=◌, where_held, held_in}
use Rattle.desk.specs.Order.{changed_of, part_on, place_tried, room_in, tried_of}

-- ---- answers, and what is held
pub never : {A B : Type 0} {e : Refusal} {x : B} → ◌≡◌ {A = Answer B} (Err e) (Ok x) → A
never is = absurd (cc)

pub same_ok : {A : Type 0} {x y : A} → ◌≡◌ {A = Answer A} (Ok x) (Ok y) → x ≡ y
same_ok is = cc

pub same_err : {A : Type 0} {e e' : Refusal} → ◌≡◌ {A = Answer A} (Err e) (Err e') → e ≡ e'
same_err is = cc

-- what a `?` hands back
pub exits : {B E : Type 0} (r : Result B E) (e : E) → IsErrAnd r (λ x. x ≡ e) → r ≡ Err e
exits (Ok y) e so = absurd so
exits (Err x) e so = ap Err so

pub some_same : {g h : Held} → ◌≡◌ {A = Option Held} (Some g) (Some h) → g ≡ h
some_same is = cc

pub none_some : {A : Type 0} {h : Held} → ◌≡◌ {A = Option Held} None (Some h) → A
none_some is = absurd (cc)

held_some : (held : Option Held) {h : Held} → where_held held (refusal 11 0) Ok ≡ Ok h → held ≡ Some h
held_some None is = never is
held_some (Some g) is = ap Some (same_ok is)

pub in_some : (d : Desk) {h : Held} → held_in d ≡ Ok h → d.held ≡ Some h
in_some d is = held_some d.held is

held_none : (held : Option Held) {e : Refusal} → where_held held (refusal 11 0) Ok ≡ Err e → (held ≡ None) × (e ≡ refusal_at (by 11) 0)
held_none None is = (refl, sym (same_err is))
held_none (Some g) is = absurd (cc)

pub in_none : (d : Desk) {e : Refusal} → held_in d ≡ Err e → (d.held ≡ None) × (e ≡ refusal_at (by 11) 0)
in_none d is = held_none d.held is

-- what stands and is held is what every such desk has
pub standing_kept : {d : Desk} {h : Held} → Standing d → d.held ≡ Some h → Kept h.board h.budget
standing_kept (empty none) is = none_some (sym none ∙ is)
standing_kept (holding k) is = rw (some_same (sym k.is ∙ is)) at k.kept

-- ---- a chain of refusals that ends in Ok
pub record Went {A B : Type 0} (a : Answer A) (next : A → Answer B) (y : B) : Type 0 where
  pub value : A
  pub first : a ≡ Ok value
  pub rest : next value ≡ Ok y

pub went : {A B : Type 0} (a : Answer A) (next : A → Answer B) (y : B) → a >>= next ≡ Ok y → Went a next y
went (Ok x) next y is = record { value = x; first = refl; rest = is }
went (Err e) next y is = never is

pub passes : {A : Type 0} (t : Bool) (a : Answer A) (e : Refusal) {x : A} → pick t a (Err e) ≡ Ok x → (t ≡ true) × (a ≡ Ok x)
unfolding pick
passes true a e is = (refl, is)
passes false a e is = never is

spared : {A : Type 0} (t : Bool) (a : Answer A) (e : Refusal) {x : A} → pick t (Err e) a ≡ Ok x → (t ≡ false) × (a ≡ Ok x)
unfolding pick
spared true a e is = never is
spared false a e is = (refl, is)

not-true : (t : Bool) → t ≡ false → t ≡ true → ⊥
not-true t e f = absurd (cc)

-- ---- what 17, 7, 13, 14 and 15 leave
abbrev pub Fits : Board → Order → Type 0
Fits b (Deadline d) = Unit
Fits b (AddLink from to) = Addable b from to
Fits b (RemoveLink from to) = Linked b from to
Fits b (NewCurve part c) = part < b.parts

module _ (b : Board) where
  part_passed : (p : ℕ) {x : Unit} → part_on b p ≡ Ok x → p < b.parts
  part_passed p is = ltb-true _ _ (passes _ _ _ is).0

  module _ (from to : ℕ) (next : Answer Unit) where
    both_passed : (part_on b from >>= (λ _. part_on b to >>= (λ _. next))) ≡ Ok tt → (from < b.parts) × (to < b.parts) × (next ≡ Ok tt)
    both_passed is =
        let a = went (part_on b from) (λ _. part_on b to >>= (λ _. next)) tt is in
        let a₂ = went (part_on b to) (λ _. next) tt a.rest in
        (part_passed from a.first, part_passed to a₂.first, a₂.rest)

  module _ (w : WellFormed b) where
    pub tried_fits : (o : Order) → place_tried b o ≡ Ok tt → Fits b o
    tried_fits (Deadline d) e = tt
    tried_fits (AddLink from to) e =
        let a = both_passed from to _ e in
        let a₃ = spared _ _ _ a.2 in
        let a₄ = spared _ _ _ a₃.1 in
        let a₅ = spared _ _ _ a₄.1 in
        record {
          from_in = a.0;
          to_in = a.1;
          apart = eqb-false _ _ a₃.0;
          missing = λ k. not-true _ a₄.0 (linked_has b w from to k);
          room = leb-false _ _ a₅.0;
        }
    tried_fits (RemoveLink from to) e = has_linked b from to (passes _ _ _ (both_passed from to _ e).2).0
    tried_fits (NewCurve part c) e = part_passed part e

    pub fits_tried : (o : Order) → Fits b o → place_tried b o ≡ Ok tt
    unfolding pick
    fits_tried (Deadline d) f = refl
    fits_tried (AddLink from to) f =
        rw (lt-ltb _ _ f.from_in, lt-ltb _ _ f.to_in, ne_eqb _ _ f.apart, missing_false b from to f.missing, lt-leb _ _ f.room)
    fits_tried (RemoveLink from to) f =
        let here : from < b.parts = rw (← f.from) (w.from_in f.link f.here) in
        let there : to < b.parts = rw (← f.to) (w.to_in f.link f.here) in
        rw (lt-ltb _ _ here, lt-ltb _ _ there, linked_has b w from to f)
    fits_tried (NewCurve part c) f = rw (lt-ltb _ _ f)

-- ---- 11 and 18 besides
-- what is held is h, and nothing but 9 and 10 stands against the order
pub record Passed (d : Desk) (t : Tally) (o : Order) (h : Held) : Type 0 where
  pub held : d.held ≡ Some h
  pub room : t.taken + t.refused < 65535
  pub place : place_tried h.board o ≡ Ok tt

module _ (d : Desk) (t : Tally) (o : Order) (h : Held) where
  pub tried_passed : tried_of d t o ≡ Ok h → Passed d t o h
  unfolding tried_of
  tried_passed e =
      let a = went (held_in d) (λ held. room_in t >>= (λ _. place_tried held.board o >>= (λ _. Ok held))) h e in
      let a₂ = went (room_in t) (λ _. place_tried a.value.board o >>= (λ _. Ok a.value)) h a.rest in
      let a₃ = went (place_tried a.value.board o) (λ _. Ok a.value) h a₂.rest in
      let same : a.value ≡ h = same_ok a₃.rest in
      rw (← same) (record { held = in_some d a.first; room = leb-false _ _ (spared _ _ _ a₂.first).0; place = a₃.first })

  pub passed_tried : Passed d t o h → tried_of d t o ≡ Ok h
  unfolding tried_of pick
  passed_tried p = rw (p.held, lt-leb _ _ p.room, p.place)

-- ---- the board as it then is stays well formed
module _ (b : Board) (w : WellFormed b) where
  pub changed_well : (o : Order) → Fits b o → Orderly o → WellFormed (changed_of b o)
  unfolding changed_of Orderly
  changed_well (Deadline d) f s = with_deadline_well b w d s.0 s.1
  changed_well (AddLink from to) f s = with_link_well b w from to f
  changed_well (RemoveLink from to) f s = without_link_well b w from to f
  changed_well (NewCurve part c) f s = with_curve_well b w part c f s.1
