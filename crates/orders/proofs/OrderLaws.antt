-- Orders as bytes: what is read is in its ranges and is rewritten byte for byte, and an order in its ranges is read back.
-- Each goes by the four kinds (`by_order`).
-- Assumes nothing.
use mathlib.Core.Path.{◌≡◌, refl, sym, ap, ◌∙◌}
use mathlib.Core.Bool.{Bool, true, false}
use mathlib.Core.List.{List, ◌++◌}
use Prim.Native.Nat.{ℕ, ◌≤◌, ◌<◌}
use native.Mathlib.Omega.{arith}
use native.Mathlib.Nat.{zero-add}
use lib.Dec.{eqb}
use lib.ListN.{length, take}
use lib.Seq.{take_at}
use borrow.Author.Tests.{eqb-true}
use Rattle.base.specs.Pick.{pick}
use Rattle.groups.specs.Number.{number_at, encode}
use Rattle.groups.proofs.RoundTrip.{Bytes}
use Rattle.curve.specs.declared.Curve.{Curve}
use Rattle.groups.specs.Parse.{Parse, got}
use Rattle.fields.specs.Parse.{and_then, field_at}
use Rattle.fields.specs.CurveFile.{curve_from, curve_bytes}
use Rattle.fields.proofs.ParseLaws.{then_got, got_same, field_got}
use Rattle.fields.proofs.Stands.{Stands, stands_first, stands_then, stands_join, number_reads, number_stands, field_reads_back, field_stands, field_next}
use Rattle.fields.proofs.CurveFileLaws.{curve_good, curve_next, curve_writes_back, curve_reads_back}
use Rattle.orders.specs.declared.Order.TheVariants.{Deadline, AddLink, RemoveLink, NewCurve}
use Rattle.orders.specs.declared.Order.{Order}
use Rattle.orders.specs.Order.{part_at, deadline_from, link_from, new_curve_from, kind_from, order_of, Ends, Orderly, order_bytes}

-- a reading that went one of two ways
pick_either : {A : Type 0} (t : Bool) (p q : Parse A) (a : A) (n : ℕ) (Q : Type 0) → pick t p q ≡ got a n → (t ≡ true → p ≡ got a n → Q) → (t ≡ false → q ≡ got a n → Q) → Q
unfolding pick
pick_either true p q a n Q is first second = first refl is
pick_either false p q a n Q is first second = second refl is

-- ---- what holds of each kind of order that can be read holds of the order that was
module _ (s : List ℕ) (P : Order → ℕ → Type 0) where
  abbrev OfDeadline : ℕ → Type 0
  OfDeadline at = (d n : ℕ) → field_at s 1 4095 at ≡ got d n → P (Deadline (record { 0 = d })) n

  abbrev OfLink : (ℕ → ℕ → Order) → ℕ → Type 0
  OfLink order at = (from at₁ to n : ℕ) → part_at s at ≡ got from at₁ → part_at s at₁ ≡ got to n → P (order from to) n

  abbrev OfCurve : ℕ → Type 0
  OfCurve at = (part at₁ : ℕ) (c : Curve) (n : ℕ) → part_at s at ≡ got part at₁ → curve_from s at₁ ≡ got c n → P (NewCurve part c) n

  by_deadline : (at : ℕ) → OfDeadline at → (o : Order) (n : ℕ) → deadline_from s at ≡ got o n → P o n
  unfolding deadline_from
  by_deadline at each o n is =
      let d = then_got (field_at s 1 4095 at) _ o n is in
      got_same P _ o _ n d.rest (each d.value d.place d.first)

  by_link : (order : ℕ → ℕ → Order) (at : ℕ) → OfLink order at → (o : Order) (n : ℕ) → link_from order s at ≡ got o n → P o n
  unfolding link_from
  by_link order at each o n is =
      let f = then_got (part_at s at) _ o n is in
      let t = then_got (part_at s f.place) _ o n f.rest in
      got_same P _ o _ n t.rest (each f.value f.place t.value t.place f.first t.first)

  by_curve : (at : ℕ) → OfCurve at → (o : Order) (n : ℕ) → new_curve_from s at ≡ got o n → P o n
  unfolding new_curve_from
  by_curve at each o n is =
      let p = then_got (part_at s at) _ o n is in
      let c = then_got (curve_from s p.place) _ o n p.rest in
      got_same P _ o _ n c.rest (each p.value p.place c.value c.place p.first c.first)

  module _ (deadline : (at : ℕ) → number_at s 0 ≡ got 1 at → OfDeadline at)
      (added : (at : ℕ) → number_at s 0 ≡ got 2 at → OfLink AddLink at)
      (removed : (at : ℕ) → number_at s 0 ≡ got 3 at → OfLink RemoveLink at)
      (new_curve : (at : ℕ) → number_at s 0 ≡ got 4 at → OfCurve at) where
    by_kind : (kind at : ℕ) → number_at s 0 ≡ got kind at → (o : Order) (n : ℕ) → kind_from s kind at ≡ got o n → P o n
    unfolding kind_from
    by_kind kind at read o n is = pick_either
        (eqb kind 1) _ _ o n (P o n) is
        (λ one. by_deadline at (deadline at (rw (eqb-true kind 1 one) at read)) o n)
        (λ no-1 is₂. pick_either
        (eqb kind 2) _ _ o n (P o n) is₂
        (λ two. by_link AddLink at (added at (rw (eqb-true kind 2 two) at read)) o n)
        (λ no-2 is₃. pick_either
        (eqb kind 3) _ _ o n (P o n) is₃
        (λ three. by_link RemoveLink at (removed at (rw (eqb-true kind 3 three) at read)) o n)
        (λ no-3 is₄. pick_either
        (eqb kind 4) _ _ o n (P o n) is₄
        (λ four. by_curve at (new_curve at (rw (eqb-true kind 4 four) at read)) o n)
        (λ no-4 is₅. let z : ◌≡◌ {A = ℕ} 0 1 = cc in absurd (omega arith)))))

    pub by_order : (o : Order) (n : ℕ) → order_of s ≡ got o n → P o n
    unfolding order_of
    by_order o n is =
        let k = then_got (number_at s 0) (kind_from s) o n is in
        by_kind k.value k.place k.first o n k.rest

-- ---- both ends of a link that were read
module _ (s : List ℕ) (at from at₁ to n : ℕ) (is : part_at s at ≡ got from at₁) (is₁ : part_at s at₁ ≡ got to n) where
  ends_read : Ends from to
  ends_read = record { from_in = (field_got s 0 63 at from at₁ is).to; to_in = (field_got s 0 63 at₁ to n is₁).to }

  ends_stand : (kind : ℕ) → Bytes s → number_at s 0 ≡ got kind at → Stands s 0 (encode kind ++ (encode from ++ encode to)) n
  ends_stand kind bytes read = stands_join (number_stands s 0 kind at bytes read) (stands_join (field_stands s 0 63 at from at₁ bytes is) (field_stands s 0 63 at₁ to n bytes is₁))

-- ---- every order that was read is in its ranges
pub order_orderly : (s : List ℕ) (o : Order) (n : ℕ) → order_of s ≡ got o n → Orderly o
unfolding Orderly
order_orderly s = by_order s (λ o n. Orderly o)
    (λ at kind d n is. let known = field_got s 1 4095 at d n is in (known.from, known.to))
    (λ at kind from at₁ to n is is₁. ends_read s at from at₁ to n is is₁)
    (λ at kind from at₁ to n is is₁. ends_read s at from at₁ to n is is₁)
    (λ at kind part at₁ c n is is₁. ((field_got s 0 63 at part at₁ is).to, curve_good s at₁ c n is₁))

-- "the answer gives the bytes it took": some, and no more than there are
past : (s : List ℕ) (at n : ℕ) → (at < n) × (n ≤ length s) → (0 < n) × (n ≤ length s)
past s at n next = (omega (arith, next.0), next.1)

pub order_took : (s : List ℕ) (o : Order) (n : ℕ) → order_of s ≡ got o n → (0 < n) × (n ≤ length s)
order_took s = by_order s (λ o n. (0 < n) × (n ≤ length s))
    (λ at kind d n is. past s at n (field_next s 1 4095 at d n is))
    (λ at kind from at₁ to n is is₁. past s at₁ n (field_next s 0 63 at₁ to n is₁))
    (λ at kind from at₁ to n is is₁. past s at₁ n (field_next s 0 63 at₁ to n is₁))
    (λ at kind part at₁ c n is is₁. past s at₁ n (curve_next s at₁ c n is₁))

-- ---- what is read is rewritten byte for byte
pub order_stands : (s : List ℕ) → Bytes s → (o : Order) (n : ℕ) → order_of s ≡ got o n → Stands s 0 (order_bytes o) n
unfolding order_bytes
order_stands s bytes = by_order s (λ o n. Stands s 0 (order_bytes o) n)
    (λ at kind d n is. stands_join (number_stands s 0 1 at bytes kind) (field_stands s 1 4095 at d n bytes is))
    (λ at kind from at₁ to n is is₁. ends_stand s at from at₁ to n is is₁ 2 bytes kind)
    (λ at kind from at₁ to n is is₁. ends_stand s at from at₁ to n is is₁ 3 bytes kind)
    (λ at kind part at₁ c n is is₁. stands_join (number_stands s 0 4 at bytes kind) (stands_join (field_stands s 0 63 at part at₁ bytes is) (curve_writes_back s at₁ c n bytes is₁)))

pub order_writes_back : (s : List ℕ) (o : Order) (n : ℕ) → Bytes s → order_of s ≡ got o n → take n s ≡ order_bytes o
order_writes_back s o n bytes is =
    let x = order_stands s bytes o n is in
    let here : s ≡ order_bytes o ++ x.after = x.here in
    let long : length (order_bytes o) ≡ n = sym (x.ends ∙ zero-add (length (order_bytes o))) in
    ap (take n) here ∙ take_at (order_bytes o) x.after n long

-- ---- an order in its ranges is read back, whatever follows it
module _ (s : List ℕ) (n : ℕ) where
  link_reads : (order : ℕ → ℕ → Order) (at from to : ℕ) → Ends from to → Stands s at (encode from ++ encode to) n → link_from order s at ≡ got (order from to) n
  unfolding link_from and_then
  link_reads order at from to ends x = rw (
    field_reads_back 0 63 from (omega arith) (omega arith) ends.from_in (stands_first (encode from) (encode to) x),
    field_reads_back 0 63 to (omega arith) (omega arith) ends.to_in (stands_then (encode from) (encode to) x),
  )

  pub order_reads : (o : Order) → Orderly o → Stands s 0 (order_bytes o) n → order_of s ≡ got o n
  unfolding Orderly order_bytes order_of kind_from deadline_from new_curve_from and_then pick
  order_reads (Deadline d) in_range x =
      let w = encode d.0 in
      rw (
        number_reads 1 (omega arith) (stands_first (encode 1) w x),
        field_reads_back 1 4095 d.0 (omega arith) in_range.0 in_range.1 (stands_then (encode 1) w x),
      )
  order_reads (AddLink from to) in_range x =
      let w = encode from ++ encode to in
      rw (
        number_reads 2 (omega arith) (stands_first (encode 2) w x),
        link_reads AddLink _ from to in_range (stands_then (encode 2) w x),
      )
  order_reads (RemoveLink from to) in_range x =
      let w = encode from ++ encode to in
      rw (
        number_reads 3 (omega arith) (stands_first (encode 3) w x),
        link_reads RemoveLink _ from to in_range (stands_then (encode 3) w x),
      )
  order_reads (NewCurve part c) in_range x =
      let w = encode part ++ curve_bytes c in
      let x₁ = stands_then (encode 4) w x in
      rw (
        number_reads 4 (omega arith) (stands_first (encode 4) w x),
        field_reads_back 0 63 part (omega arith) (omega arith) in_range.0 (stands_first (encode part) (curve_bytes c) x₁),
        curve_reads_back s _ c n in_range.1 (stands_then (encode part) (curve_bytes c) x₁),
      )

pub order_reads_back : (o : Order) (post : List ℕ) → Orderly o → order_of (order_bytes o ++ post) ≡ got o (length (order_bytes o))
order_reads_back o post orderly =
    order_reads (order_bytes o ++ post) (length (order_bytes o)) o orderly
    (record { after = post; here = refl; ends = sym (zero-add (length (order_bytes o))) })
