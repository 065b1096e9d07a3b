-- What can be wrong with an order that is read alone: only 1, 2, 12, 4, 5 and 6, each at its place.
-- Assumes nothing.
use mathlib.Core.Path.{◌≡◌, refl, sym, ap, ◌∙◌}
use mathlib.Core.Bool.{Bool, true, false}
use mathlib.Core.Logic.{⊎_elim}
use mathlib.Core.List.{List}
use Prim.Native.Nat.{ℕ, zero, suc, ◌≤◌, ◌<◌}
use native.Mathlib.Omega.{arith}
use lib.ListN.{length}
use Rattle.base.specs.Pick.{pick}
use Rattle.base.proofs.Cases.{lt_or_le}
use Rattle.std.specs.Prelude.{Ok, Err}
use Rattle.refusal.specs.declared.Refusal.{Refusal}
use Rattle.refusal.specs.declared.Why.{Why}
use Rattle.refusal.specs.declared.Why.TheVariants.{CutShort, NotShortest}
use Rattle.refusal.specs.Refusal.{refusal_at, refused}
use Rattle.groups.specs.Number.{number_at}
use Rattle.groups.proofs.NumberLaws.{refused_place, nothing_left}
use Rattle.groups.proofs.RoundTrip.{number_next}
use Rattle.curve.specs.declared.Curve.{Curve}
use Rattle.curve.specs.Curve.{power_max}
use Rattle.groups.specs.Parse.{Parse, got}
use Rattle.fields.specs.Parse.{and_then, repeat, ranged_at, field_at}
use Rattle.fields.specs.CurveFile.{bare, run_from, runs_from, curve_from}
use Rattle.fields.proofs.Stands.{field_next}
use Rattle.orders.specs.declared.Order.{Order}
use Rattle.orders.specs.declared.Order.TheVariants.{AddLink, RemoveLink}
use Rattle.orders.specs.Order.{deadline_from, link_from, new_curve_from, kind_from, order_of, Fault, cut_short, not_shortest, unknown_kind, out_of_range, saving_not_below, power_below_savings}

module _ (s : List ℕ) where
  -- every fault that the reading may meet is one of those
  abbrev Stops : {A : Type 0} → Parse A → Type 0
  Stops p = (why : Why) (place : ℕ) → p ≡ refused why place → Fault s why place

  got_stops : {A : Type 0} (a : A) (n : ℕ) → Stops (got a n)
  got_stops a n why place is = let z : ◌≡◌ {A = ℕ} 0 1 = cc in absurd (omega arith)

  refused_same : {A : Type 0} (w v : Why) (p q : ℕ) → ◌≡◌ {A = Parse A} (refused w p) (refused v q) → (w ≡ v) × (p ≡ q)
  refused_same w v p q is =
      let e : refusal_at w p ≡ refusal_at v q = cc in
      (ap (λ (r : Refusal). r.why) e, ap (λ (r : Refusal). r.place) e)

  fault_stops : (A : Type 0) (w : Why) (q : ℕ) → Fault s w q → Stops {A = A} (refused w q)
  fault_stops A w q fault why place is =
      let same = refused_same w why q place is in
      rw (← same.0, ← same.1) fault

  then_stops : {A B : Type 0} (p : Parse A) (f : A → ℕ → Parse B) → Stops p → ((a : A) (n : ℕ) → p ≡ got a n → Stops (f a n)) → Stops (and_then p f)
  unfolding and_then
  then_stops {A} {B} (Ok r) f first rest why place is = rest r.value r.next refl why place is
  then_stops {A} {B} (Err e) f first rest why place is = first why place (let same : e ≡ refusal_at why place = cc in ap Err same)

  pick_stops : {A : Type 0} (t : Bool) (p q : Parse A) → Stops p → Stops q → Stops (pick t p q)
  unfolding pick
  pick_stops true p q first second = first
  pick_stops false p q first second = second

  -- "number's first byte" is a byte of the input
  number_stops : (at : ℕ) → Stops (number_at s at)
  number_stops at why place is = ⊎_elim
      (λ cut. rw (cut.0, cut.1) cut_short)
      (λ long. rw (long.0, long.1) (not_shortest (⊎_elim
      (λ (more : at < length s). more)
      (λ (ends : length s ≤ at).
      let never = refused_same CutShort why (length s) place (sym (nothing_left s at ends) ∙ is) in
      let which : CutShort ≡ NotShortest = never.0 ∙ long.0 in
      let z : ◌≡◌ {A = ℕ} 0 1 = cc in
      absurd (omega arith))
      (lt_or_le at (length s)))))
      (refused_place s at why place is)

  number_here : (at v n : ℕ) → number_at s at ≡ got v n → at < length s
  number_here at v n is = let next = number_next s at v n is in omega (arith, next.0, next.1)

  field_stops : (low high at : ℕ) → Stops (field_at s low high at)
  unfolding field_at ranged_at
  field_stops low high at = then_stops _ _ (number_stops at) (λ v n is.
      let fault = fault_stops ℕ _ at (out_of_range (number_here at v n is)) in
      pick_stops _ _ _ fault (pick_stops _ _ _ fault (got_stops v n)))

  field_here : (low high at v n : ℕ) → field_at s low high at ≡ got v n → at < length s
  field_here low high at v n is = let next = field_next s low high at v n is in omega (arith, next.0, next.1)

  run_stops : (i : ℕ) (c : Curve) (at : ℕ) → Stops (run_from s i c at)
  unfolding run_from
  run_stops i c at =
      then_stops _ _ (field_stops 1 255 at) (λ long at₁ is.
      then_stops _ _ (field_stops 1 1000 at₁) (λ saving at₂ is₁.
      pick_stops _ _ _ (got_stops _ at₂) (fault_stops Curve _ at₁ (saving_not_below (field_here 1 1000 at₁ saving at₂ is₁)))))

  runs_stops : (c : Curve) (at k : ℕ) → Stops (repeat (run_from s) c at k)
  unfolding repeat
  runs_stops c at zero = got_stops c at
  runs_stops c at (suc k) = then_stops _ _ (runs_stops c at k) (λ d m is. run_stops k d m)

  curve_stops : (at : ℕ) → Stops (curve_from s at)
  unfolding curve_from runs_from
  curve_stops at =
      then_stops _ _ (field_stops 1 1023 at) (λ fastest at₁ is.
      then_stops _ _ (field_stops 0 power_max at₁) (λ power at₂ is₁.
      then_stops _ _ (field_stops 0 4 at₂) (λ count at₃ is₂.
      then_stops _ _ (runs_stops (bare fastest power count) at₃ count) (λ c next is₃.
      pick_stops _ _ _ (got_stops c next) (fault_stops Curve _ at₁ (power_below_savings (field_here 0 power_max at₁ power at₂ is₁)))))))

  link_stops : (order : ℕ → ℕ → Order) (at : ℕ) → Stops (link_from order s at)
  unfolding link_from
  link_stops order at = then_stops _ _ (field_stops 0 63 at) (λ from at₁ is. then_stops _ _ (field_stops 0 63 at₁) (λ to next is₁. got_stops _ next))

  kind_stops : (kind at : ℕ) → 0 < length s → Stops (kind_from s kind at)
  unfolding kind_from deadline_from new_curve_from
  kind_stops kind at some =
      pick_stops _ _ _ (then_stops _ _ (field_stops 1 4095 at) (λ d next is. got_stops _ next))
      (pick_stops _ _ _ (link_stops AddLink at)
      (pick_stops _ _ _ (link_stops RemoveLink at)
      (pick_stops _ _ _ (then_stops _ _ (field_stops 0 63 at) (λ part at₁ is. then_stops _ _ (curve_stops at₁) (λ c next is₁. got_stops _ next)))
      (fault_stops _ _ 0 (unknown_kind some)))))

  pub order_faults : (why : Why) (place : ℕ) → order_of s ≡ refused why place → Fault s why place
  unfolding order_of
  order_faults = then_stops _ _ (number_stops 0) (λ kind at is. kind_stops kind at (number_here 0 kind at is))
