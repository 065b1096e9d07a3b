-- What was read does not depend on the bytes after it: a number, a field, a run, a curve, an order.
-- Assumes nothing.
use mathlib.Core.Path.{◌≡◌}
use mathlib.Core.Bool.{Bool, true, false}
use mathlib.Core.List.{List, ◌++◌}
use Prim.Native.Nat.{ℕ, zero, suc}
use Rattle.base.specs.Pick.{pick}
use Rattle.groups.specs.Number.{number_at}
use Rattle.groups.proofs.NumberLaws.{number_kept}
use Rattle.curve.specs.declared.Curve.{Curve}
use Rattle.curve.specs.Curve.{power_max}
use Rattle.groups.specs.Parse.{Parse, got}
use Rattle.fields.specs.Parse.{and_then, repeat, field_at}
use Rattle.fields.specs.CurveFile.{bare, run_from, runs_from, curve_from}
use Rattle.fields.proofs.ParseLaws.{then_got, field_got, field_reads}
use Rattle.orders.specs.declared.Order.TheVariants.{AddLink, RemoveLink}
use Rattle.orders.specs.declared.Order.{Order}
use Rattle.orders.specs.Order.{deadline_from, link_from, new_curve_from, kind_from, order_of}

-- a parse that finds whatever the other finds
abbrev Keeps : {A : Type 0} → Parse A → Parse A → Type 0
Keeps {A} p q = (a : A) (n : ℕ) → p ≡ got a n → q ≡ got a n

then_kept : {A B : Type 0} (p q : Parse A) (f g : A → ℕ → Parse B) → Keeps p q → ((a : A) (n : ℕ) → Keeps (f a n) (g a n)) → Keeps (and_then p f) (and_then q g)
unfolding and_then
then_kept p q f g first rest b n is =
    let t = then_got p f b n is in
    rw (first t.value t.place t.first) (rest t.value t.place b n t.rest)

pick_kept : {A : Type 0} (t : Bool) (p q p' q' : Parse A) → Keeps p p' → Keeps q q' → Keeps (pick t p q) (pick t p' q')
unfolding pick
pick_kept true p q p' q' first second = first
pick_kept false p q p' q' first second = second

same_kept : {A : Type 0} (p : Parse A) → Keeps p p
same_kept p a n is = is

module _ (s post : List ℕ) where
  kind_number_kept : Keeps (number_at s 0) (number_at (s ++ post) 0)
  kind_number_kept v n is = number_kept s post 0 v n is

  field_kept : (low high at : ℕ) → Keeps (field_at s low high at) (field_at (s ++ post) low high at)
  field_kept low high at v n is =
      let known = field_got s low high at v n is in
      field_reads (s ++ post) low high at v n (number_kept s post at v n known.read) known.from known.to

  run_kept : (i : ℕ) (c : Curve) (at : ℕ) → Keeps (run_from s i c at) (run_from (s ++ post) i c at)
  unfolding run_from
  run_kept i c at = then_kept _ _ _ _ (field_kept 1 255 at) (λ ticks at₁. then_kept _ _ _ _ (field_kept 1 1000 at₁) (λ saving at₂. same_kept _))

  runs_kept : (c : Curve) (at k : ℕ) → Keeps (repeat (run_from s) c at k) (repeat (run_from (s ++ post)) c at k)
  unfolding repeat
  runs_kept c at zero = same_kept _
  runs_kept c at (suc k) = then_kept _ _ _ _ (runs_kept c at k) (run_kept k)

  pub curve_kept : (at : ℕ) → Keeps (curve_from s at) (curve_from (s ++ post) at)
  unfolding curve_from runs_from
  curve_kept at =
      then_kept _ _ _ _ (field_kept 1 1023 at) (λ fastest at₁.
      then_kept _ _ _ _ (field_kept 0 power_max at₁) (λ power at₂.
      then_kept _ _ _ _ (field_kept 0 4 at₂) (λ count at₃. then_kept _ _ _ _ (runs_kept (bare fastest power count) at₃ count) (λ c next. same_kept _))))

  link_kept : (order : ℕ → ℕ → Order) (at : ℕ) → Keeps (link_from order s at) (link_from order (s ++ post) at)
  unfolding link_from
  link_kept order at = then_kept _ _ _ _ (field_kept 0 63 at) (λ from at₁. then_kept _ _ _ _ (field_kept 0 63 at₁) (λ to next. same_kept _))

  kind_kept : (kind at : ℕ) → Keeps (kind_from s kind at) (kind_from (s ++ post) kind at)
  unfolding kind_from deadline_from new_curve_from
  kind_kept kind at =
      pick_kept _ _ _ _ _ (then_kept _ _ _ _ (field_kept 1 4095 at) (λ d next. same_kept _))
      (pick_kept _ _ _ _ _ (link_kept AddLink at)
      (pick_kept _ _ _ _ _ (link_kept RemoveLink at)
      (pick_kept _ _ _ _ _ (then_kept _ _ _ _ (field_kept 0 63 at) (λ part at₁. then_kept _ _ _ _ (curve_kept at₁) (λ c next. same_kept _)))
      (same_kept _))))

  pub order_kept : (o : Order) (n : ℕ) → order_of s ≡ got o n → order_of (s ++ post) ≡ got o n
  unfolding order_of
  order_kept = then_kept _ _ _ _ kind_number_kept kind_kept
