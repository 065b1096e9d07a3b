-- Reading in steps: a fault stays, and a field's value is within its range.
-- Assumes nothing.
use mathlib.Core.Path.{◌≡◌, refl, sym, ap, ◌∙◌}
use mathlib.Core.Bool.{Bool, true, false}
use mathlib.Core.List.{List}
use Prim.Native.Nat.{ℕ, zero, suc, ◌+◌, ◌-◌, ◌≤◌, ◌<◌}
use native.Mathlib.Numerals.{add-one}
use native.Mathlib.Omega.{arith}
use borrow.Author.Tests.{le-ltb, ltb-false}
use Rattle.std.specs.Prelude.{Ok, Err}
use Rattle.base.specs.Pick.{pick}
use Rattle.refusal.specs.declared.Refusal.{Refusal}
use Rattle.groups.specs.declared.Read.{Read}
use Rattle.groups.specs.Number.{number_at}
use Rattle.groups.specs.Parse.{Parse, got}
use Rattle.fields.specs.Parse.{and_then, repeat, ranged_at, field_at}

-- two readings of a field that its contract allows are the same reading
pub number_once : (s : List ℕ) (low high at : ℕ) (a b : Parse ℕ) → a ≡ field_at s low high at → b ≡ field_at s low high at → a ≡ b
number_once s low high at a b is same = is ∙ sym same

-- a step that ended well, and one that met a fault
module _ {A : Type 0} (step : ℕ → A → ℕ → Parse A) (a : A) (at k : ℕ) where
  module _ (b : A) (n : ℕ) (is : repeat step a at k ≡ got b n) where
    pub repeat_on : (c : A) (m : ℕ) → step k b n ≡ got c m → repeat step a at (k + 1) ≡ got c m
    unfolding repeat and_then
    repeat_on c m e = rw (add-one, is) e

    repeat_stops : (e : Refusal) → step k b n ≡ Err e → repeat step a at (suc k) ≡ Err e
    unfolding repeat and_then
    repeat_stops e stops = rw is stops

  -- a fault stays
  pub repeat_stays : (e : Refusal) → repeat step a at k ≡ Err e → (j : ℕ) → repeat step a at (j + k) ≡ Err e
  unfolding repeat and_then
  repeat_stays e stopped zero = let q : 0 + k ≡ k = omega arith in rw q stopped
  repeat_stays e stopped (suc j) = let q : suc j + k ≡ suc (j + k) = omega arith in rw (q, repeat_stays e stopped j)

pub repeat_fault :
    {A : Type 0} (step : ℕ → A → ℕ → Parse A) (a : A) (at k n : ℕ) (b : A) (m : ℕ) (e : Refusal) →
    repeat step a at k ≡ got b m → step k b m ≡ Err e → k < n → repeat step a at n ≡ Err e
repeat_fault step a at k n b m e is stops l =
    let q : n ≡ n - suc k + suc k = omega arith in
    rw q (repeat_stays step a at (suc k) e (repeat_stops step a at k b m is e stops) (n - suc k))

-- ---- what a reading in two steps came to
pub record Then {A B : Type 0} (p : Parse A) (f : A → ℕ → Parse B) (b : B) (n : ℕ) : Type 0 where
  pub value : A
  pub place : ℕ
  pub first : p ≡ got value place
  pub rest : f value place ≡ got b n

pub then_got : {A B : Type 0} (p : Parse A) (f : A → ℕ → Parse B) (b : B) (n : ℕ) → and_then p f ≡ got b n → Then p f b n
unfolding and_then
then_got (Ok r) f b n e = record { value = r.value; place = r.next; first = refl; rest = e }
then_got (Err why) f b n e = let z : ◌≡◌ {A = ℕ} 0 1 = cc in absurd (omega arith)

-- a test was passed
pub record Passed {A : Type 0} (t : Bool) (p : Parse A) (a : A) (n : ℕ) : Type 0 where
  pub holds : t ≡ true
  pub is : p ≡ got a n

pub pick_passed : {A : Type 0} (t : Bool) (p : Parse A) (e : Refusal) (a : A) (n : ℕ) → pick t p (Err e) ≡ got a n → Passed t p a n
unfolding pick
pick_passed true p e a n is = record { holds = refl; is = is }
pick_passed false p e a n is = let z : ◌≡◌ {A = ℕ} 0 1 = cc in absurd (omega arith)

pub pick_not_stopped : {A : Type 0} (t : Bool) (p : Parse A) (e : Refusal) (a : A) (n : ℕ) → pick t (Err e) p ≡ got a n → (t ≡ false) × (p ≡ got a n)
unfolding pick
pick_not_stopped true p e a n is = let z : ◌≡◌ {A = ℕ} 0 1 = cc in absurd (omega arith)
pick_not_stopped false p e a n is = (refl, is)

-- one reading finds one value, and ends at one place
pub read_same : {A : Type 0} (a b : A) (m n : ℕ) → ◌≡◌ {A = Parse A} (got a m) (got b n) → (a ≡ b) × (m ≡ n)
read_same {A} a b m n is =
    let e : ◌≡◌ {A = Read A} (record { value = a; next = m }) (record { value = b; next = n }) = cc in
    (ap (λ (r : Read A). r.value) e, ap (λ (r : Read A). r.next) e)

-- what holds of one result holds of the other
pub got_same : {A : Type 0} (P : A → ℕ → Type 0) (a b : A) (m n : ℕ) → ◌≡◌ {A = Parse A} (got a m) (got b n) → P a m → P b n
got_same P a b m n is holds =
    let same = read_same a b m n is in
    rw (← same.0, ← same.1) holds

-- what each step keeps holds at the end of all
pub repeat_keeps :
    {A : Type 0} (step : ℕ → A → ℕ → Parse A) (a : A) (at most : ℕ) (P : ℕ → A → ℕ → Type 0) →
    P 0 a at →
    ((k : ℕ) (b : A) (m : ℕ) (c : A) (n : ℕ) → k < most → P k b m → step k b m ≡ got c n → P (suc k) c n) →
    (k : ℕ) → k ≤ most → (b : A) (n : ℕ) → repeat step a at k ≡ got b n → P k b n
unfolding repeat
repeat_keeps step a at most P none more zero h b n e = got_same (P 0) a b at n e none
repeat_keeps step a at most P none more (suc k) h b n e =
    let before = then_got (repeat step a at k) (step k) b n e in
    more k before.value before.place b n (omega arith) (repeat_keeps step a at most P none more k (omega arith) before.value before.place before.first) before.rest

-- a field that was read: its number is within its range
pub record Ranged (s : List ℕ) (low high at v n : ℕ) : Type 0 where
  pub from : low ≤ v
  pub to : v ≤ high
  pub read : number_at s at ≡ got v n

pub field_got : (s : List ℕ) (low high at v n : ℕ) → field_at s low high at ≡ got v n → Ranged s low high at v n
unfolding field_at ranged_at
field_got s low high at v n e =
    let read = then_got (number_at s at) (ranged_at low high at) v n e in
    let low_ok = pick_not_stopped _ _ _ v n read.rest in
    let high-ok = pick_not_stopped _ _ _ v n low_ok.1 in
    let same = read_same read.value v read.place n high-ok.1 in
    let value = same.0 in
    let place = same.1 in
    record {
      from = rw value at (ltb-false read.value low low_ok.0);
      to = rw value at (ltb-false high read.value high-ok.0);
      read = rw (value, place) at read.first;
    }

-- a number in its range is read as a field
pub field_reads : (s : List ℕ) (low high at v n : ℕ) → number_at s at ≡ got v n → low ≤ v → v ≤ high → field_at s low high at ≡ got v n
unfolding field_at ranged_at and_then pick
field_reads s low high at v n is from to = rw (is, le-ltb _ _ from, le-ltb _ _ to)
