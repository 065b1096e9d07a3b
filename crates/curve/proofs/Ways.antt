-- The ways through the functions on curves: plain facts that their proofs cite.
-- The idea of `power_at`: after k runs, of the j ticks past the fastest those are left that are beyond the k runs, and the others are saved.
-- Assumes nothing.
use mathlib.Core.Path.{◌≡◌, refl, sym, ap, ◌∙◌}
use mathlib.Core.Bool.{Bool, true, false, not}
use mathlib.Core.Logic.{⊎_elim}
use Prim.Native.Nat.{ℕ, ◌+◌, ◌*◌, ◌-◌, ◌^◌, ◌≤◌, ◌<◌, min}
use native.Mathlib.Nat.{le_refl, mul-le-mul, sub-zero, min-zero}
use native.Mathlib.Omega.{arith}
use native.Mathlib.Numerals.{add-one}
use lib.Dec.{ltb, leb}
use mathlib.Core.List.{List, map}
use lib.ListN.{length, length-map}
use mir.Syntax.{w64}
use mir.Val.{Fits}
use borrow.Author.Tests.{not-true, not-false, le-leb, lt-leb, eq-eqb, ne_eqb}
use Rattle.std.specs.Prelude.{Some, None, Ok, Err}
use Rattle.base.specs.Pick.{pick}
use Rattle.base.proofs.Cases.{lt_or_le, finished}
use Rattle.refusal.specs.Refusal.{refusal_at}
use Rattle.refusal.specs.declared.Refusal.{Refusal}
use Rattle.refusal.specs.declared.Why.TheVariants.{OffCurve}
use Rattle.theory.specs.Sum.{sum}
use Rattle.theory.specs.Saving.{saves}
use Rattle.theory.proofs.SumLaws.{sum_next, sum_mono}
use Rattle.theory.proofs.RunLaws.{tick_run, saves_run}
use Rattle.curve.specs.declared.Ticks.{Ticks}
use Rattle.curve.specs.declared.Microwatts.{Microwatts}
use Rattle.curve.specs.declared.Run.{Run}
use Rattle.curve.specs.declared.Curve.{Curve}
use Rattle.curve.specs.declared.Slowing.{Slowing}
use Rattle.curve.specs.Curve.{power_max, run_at, length_at, saving_at, ticks_of, slowest_of, saving_of, savings_of, power_of}
use Rattle.curve.specs.Answers.{next_saving_of, last_saving_of, power_at_of, used_of}
use Rattle.curve.specs.Tests.{both, every, blankb, rangedb, placeb, goodb}
use Rattle.curve.proofs.CurveLaws.{ticks_held, savings_held, saving_past, power_at_below, power_at_past, power_at_on}
use Rattle.curve.proofs.GoodLaws.{every_fails}

-- the product of two numbers of 32 bits has 64
pub product_fits : (a b : ℕ) → a < 2 ^ 32 → b < 2 ^ 32 → Fits w64 (a * b)
product_fits a b p q =
    let a-to : a ≤ 4294967295 = omega arith in
    let b-to : b ≤ 4294967295 = omega arith in
    record { fits = omega (arith, mul-le-mul a-to b-to) }

-- how many elements an array has, from what its type tells of their machine values
pub room_of : {X Y : Type 0} (f : X → Y) (l : List X) (n : ℕ) → length (map f l) ≡ n → length l ≡ n
room_of f l n h = sym (length-map l f) ∙ h

module _ (c : Curve) where
  run_length : (k : ℕ) → (run_at c k).length.0 ≡ length_at c k
  unfolding length_at
  run_length k = refl

  run_saving : (k : ℕ) → (run_at c k).saving.0 ≡ saving_at c k
  unfolding saving_at
  run_saving k = refl

  -- ---- slowest
  -- the delay after k runs, before what passes its type is cut off
  abbrev pub slow_to : ℕ → ℕ
  slow_to k = c.fastest.0 + sum k (length_at c)

  pub slow_none : c.fastest.0 < 2 ^ 32 → c.fastest.0 ≡ min (slow_to 0) 4294967295
  unfolding sum
  slow_none fits = omega arith

  pub slow_more : (k : ℕ) (delay next : Ticks) → delay.0 ≡ min (slow_to k) 4294967295 → next.0 ≡ min (delay.0 + (run_at c k).length.0) 4294967295
      → next.0 ≡ min (slow_to (k + 1)) 4294967295
  slow_more k delay next is sum_is_lem = omega (arith, run_length k, sum_next k (length_at c))

  pub slow_done : (n k : ℕ) (delay : Ticks) → n ≡ min c.count 4 → length c.runs ≡ 4 → k ≤ n → n ≤ k → delay.0 ≡ min (slow_to k) 4294967295
      → delay.0 ≡ min (slowest_of c) 4294967295
  unfolding slowest_of
  slow_done n k delay held room l h is =
      let all : sum n (length_at c) ≡ ticks_of c = rw held (ticks_held c room) in
      let same : k ≡ n = omega arith in
      omega (arith, all, rw same at is)

  -- ---- affords_savings
  -- what the first k runs save
  abbrev pub saved_to : ℕ → ℕ
  saved_to k = sum k (λ i. length_at c i * saving_at c i)

  run_saved : (k : ℕ) → (run_at c k).length.0 * (run_at c k).saving.0 ≡ length_at c k * saving_at c k
  unfolding length_at saving_at
  run_saved k = refl

  pub paid_none : c.power.0 + saved_to 0 ≡ c.power.0
  unfolding sum
  paid_none = omega arith

  -- `left` is what the first k runs leave of the power
  module _ (n k left saved : ℕ) (held : n ≡ min c.count 4) (is : left + saved_to k ≡ c.power.0) where
    pub paid_more : saved ≡ (run_at c k).length.0 * (run_at c k).saving.0 → saved ≤ left → left - saved + saved_to (k + 1) ≡ c.power.0
    paid_more this h = omega (arith, run_saved k, sum_next k (λ i. length_at c i * saving_at c i))

    pub unpaid : length c.runs ≡ 4 → k < n → saved ≡ (run_at c k).length.0 * (run_at c k).saving.0 → left < saved → false ≡ leb (savings_of c) c.power.0
    unpaid room l this less =
        let some : saved_to (k + 1) ≤ saved_to n = sum_mono (λ i. length_at c i * saving_at c i) (k + 1) n (omega arith) in
        let all : saved_to n ≡ savings_of c = rw held (savings_held c room) in
        sym (lt-leb (savings_of c) c.power.0 (omega (arith, run_saved k, sum_next k (λ i. length_at c i * saving_at c i), some, all)))

  pub paid : (n k left : ℕ) → n ≡ min c.count 4 → left + saved_to k ≡ c.power.0 → length c.runs ≡ 4 → k ≤ n → n ≤ k → true ≡ leb (savings_of c) c.power.0
  paid n k left held is room l h =
      let all : saved_to n ≡ savings_of c = rw held (savings_held c room) in
      let same : k ≡ n = omega arith in
      sym (le-leb (savings_of c) c.power.0 (omega (arith, all, rw same at is)))

  pub next_none : (left : ℕ) → left + sum 0 (length_at c) ≡ left
  unfolding sum
  next_none left = omega arith

  -- ---- next_saving: with j ticks past the fastest, `left` of them are beyond k runs
  module _ (d j n k left : ℕ) (asked : j ≡ d - c.fastest.0) (held : n ≡ min c.count 4) (beyond : left + sum k (length_at c) ≡ j) where
    pub next_here : k < n → left < (run_at c k).length.0 → (run_at c k).saving.0 ≡ next_saving_of c d
    unfolding next_saving_of saving_of
    next_here h l =
        run_saving k
        ∙ sym (rw (← asked) (tick_run (length_at c) (saving_at c) c.count k j (omega arith) (omega arith) (omega (arith, run_length k, rw add-one at (sum_next k (length_at c))))))

    pub next_past : length c.runs ≡ 4 → k ≤ n → n ≤ k → 0 ≡ next_saving_of c d
    unfolding next_saving_of
    next_past room l h =
        let all : sum n (length_at c) ≡ ticks_of c = rw held (ticks_held c room) in
        let same : k ≡ n = omega arith in
        sym (rw (← asked) (saving_past c j (omega (arith, all, rw same at beyond))))

    pub next_more : (run_at c k).length.0 ≤ left → left - (run_at c k).length.0 + sum (k + 1) (length_at c) ≡ j
    next_more h = omega (arith, run_length k, sum_next k (length_at c))

  -- ---- last_saving
  pub none_used : (d : ℕ) → d ≤ c.fastest.0 → None ≡ last_saving_of c d
  unfolding last_saving_of pick
  none_used d h = rw (le-leb d c.fastest.0 h)

  pub one_used : (d : ℕ) (s : Microwatts) → c.fastest.0 < d → s.0 ≡ next_saving_of c (d - 1) → Some s ≡ last_saving_of c d
  unfolding last_saving_of pick
  one_used d s h is = rw (lt-leb d c.fastest.0 h, ← is)

-- ---- power_at
slowing_eq : (a b p q : ℕ) → a ≡ b → p ≡ q
    → ◌≡◌ {A = Slowing} (record { left = record { 0 = a }; power = record { 0 = p } }) (record { left = record { 0 = b }; power = record { 0 = q } })
slowing_eq a b p q l r = rw (l, r)

-- a run's ticks are used, as the code does it
pub used_way : (s : Slowing) (run : Run) (used left : Ticks) (p : Microwatts) → used.0 ≡ min s.left.0 run.length.0 → left.0 ≡ s.left.0 - run.length.0
    → p.0 ≡ s.power.0 - used.0 * run.saving.0 → record { left = left; power = p } ≡ used_of s run
unfolding used_of
used_way s run used left p ticks is got = slowing_eq _ _ _ _ is (got ∙ rw ticks)

module _ (c : Curve) (j : ℕ) where
  -- a delay of j ticks past the fastest, after k runs
  unfoldable pub slowed_to : ℕ → Slowing
  slowed_to k = record {
    left = record { 0 = j - sum k (length_at c) };
    power = record { 0 = c.power.0 - saves (saving_of c) (min j (sum k (length_at c))) };
  }

  pub slowed_none : record { left = record { 0 = j }; power = c.power } ≡ slowed_to 0
  unfolding slowed_to sum
  slowed_none = slowing_eq _ _ _ _ (sym (sub-zero j)) (rw (min-zero j) (sym (sub-zero c.power.0)))

  -- run k saves what its ticks do, as far as there are ticks left
  saves_more : (k : ℕ) → k < c.count
      → saves (saving_of c) (min j (sum (k + 1) (length_at c)))
      ≡ saves (saving_of c) (min j (sum k (length_at c))) + min (j - sum k (length_at c)) (length_at c k) * saving_at c k
  unfolding saving_of
  saves_more k h =
      ⊎_elim
      (λ l.
      let e₁ : min j (sum (k + 1) (length_at c)) ≡ j = omega (arith, sum_next k (length_at c)) in
      let e₂ : min j (sum k (length_at c)) ≡ j = omega arith in
      let e₃ : min (j - sum k (length_at c)) (length_at c k) ≡ 0 = omega arith in
      rw (e₁, e₂, e₃) (omega arith))
      (λ l.
      let e₁ : min j (sum (k + 1) (length_at c)) ≡ sum k (length_at c) + min (j - sum k (length_at c)) (length_at c k) = omega (arith, sum_next k (length_at c)) in
      let e₂ : min j (sum k (length_at c)) ≡ sum k (length_at c) = omega arith in
      rw (e₁, e₂)
      (saves_run (length_at c) (saving_at c) c.count k (sum k (length_at c)) (min (j - sum k (length_at c)) (length_at c k)) h (le_refl _)
      (omega (arith, rw add-one at (sum_next k (length_at c))))))
      (lt_or_le j (sum k (length_at c)))

  pub slowed_more : (k n : ℕ) (s s' : Slowing) → n ≡ min c.count 4 → k < n → s ≡ slowed_to k → s' ≡ used_of s (run_at c k) → s' ≡ slowed_to (k + 1)
  unfolding slowed_to used_of
  slowed_more k n s s' held h is next =
      rw (next, is)
      (slowing_eq _ _ _ _
      (omega (arith, run_length c k, sum_next k (length_at c)))
      (rw (saves_more k (omega arith), run_length c k, run_saving c k) (omega arith)))

module _ (c : Curve) (d : ℕ) where
  pub below_fastest : (e : Refusal) → e ≡ refusal_at OffCurve d → d < c.fastest.0 → Err e ≡ power_at_of c d
  below_fastest e is h = ap Err is ∙ sym (power_at_below c d h)

  module _ (j n k : ℕ) (s : Slowing) (room : length c.runs ≡ 4) (from : c.fastest.0 ≤ d) (asked : j ≡ d - c.fastest.0) (held : n ≡ min c.count 4)
      (l : k ≤ n) (h : n ≤ k) (is : s ≡ slowed_to c j k) where
    all_ticks : sum k (length_at c) ≡ ticks_of c
    all_ticks = let same : k ≡ min c.count 4 = omega arith in rw same (ticks_held c room)

    ticks_left : s.left.0 ≡ d - c.fastest.0 - ticks_of c
    unfolding slowed_to
    ticks_left = rw is (rw (all_ticks, asked))

    pub past_slowest : (e : Refusal) → e ≡ refusal_at OffCurve d → 0 < s.left.0 → Err e ≡ power_at_of c d
    unfolding slowest_of
    past_slowest e off more = ap Err off ∙ sym (power_at_past c d (omega (arith, ticks_left)))

    pub on_curve : s.left.0 ≤ 0 → Ok s.power ≡ power_at_of c d
    unfolding slowest_of power_of slowed_to
    on_curve none =
        let used : min j (sum k (length_at c)) ≡ d - c.fastest.0 = omega (arith, ticks_left, all_ticks) in
        let within : power_at_of c d ≡ Ok (record { 0 = power_of c d }) = power_at_on c d from (omega (arith, ticks_left)) in
        rw (within, is, used)

-- ---- place_is_good and is_good
both_same : (t : Bool) → t ≡ both t true
unfolding pick
both_same true = refl
both_same false = refl

module _ (c : Curve) (k : ℕ) (r : Bool) where
  pub place_blank_way : c.count ≤ k → r ≡ blankb (run_at c k) → r ≡ placeb c k
  unfolding placeb pick
  place_blank_way h is = rw (le-leb c.count k h) is

  module _ (h : k < c.count) (is : r ≡ rangedb (run_at c k)) where
    pub place_unranged : not r ≡ true → false ≡ placeb c k
    unfolding placeb pick
    place_unranged fails = rw (lt-leb c.count k h, ← is, not-true r fails)

    pub place_first : not r ≡ false → k ≡ 0 → true ≡ placeb c k
    unfolding placeb pick
    place_first passes first = rw (lt-leb c.count k h, ← is, not-false r passes, eq-eqb k 0 first)

    pub place_later : not r ≡ false → (k ≡ 0 → ⊥) → ltb (run_at c k).saving.0 (run_at c (k - 1)).saving.0 ≡ placeb c k
    unfolding placeb saving_at pick
    place_later passes later = rw (lt-leb c.count k h, ← is, not-false r passes, ne_eqb k 0 later)

-- ---- places_are_good
pub place_fails : (c : Curve) (k : ℕ) (t : Bool) → k < 4 → t ≡ placeb c k → not t ≡ true → false ≡ every 4 (placeb c)
place_fails c k t h is fails = sym (every_fails (placeb c) 4 k h (sym is ∙ not-true t fails))

pub places_hold : (c : Curve) (k : ℕ) → k ≤ 4 → 4 ≤ k → every k (placeb c) ≡ true → true ≡ every 4 (placeb c)
places_hold c k l h is = finished (λ n. every n (placeb c)) l h (sym is)

-- ---- is_good
module _ (c : Curve) (t : Bool) (few : c.count ≤ 4) (is : t ≡ every 4 (placeb c)) where
  module _ (from : 1 ≤ c.fastest.0) (to : c.fastest.0 ≤ 1023) (most : c.power.0 ≤ power_max) where
    pub bad_place : not t ≡ true → false ≡ goodb c
    unfolding goodb pick
    bad_place fails =
        rw (le-leb 1 c.fastest.0 from, le-leb c.fastest.0 1023 to, le-leb c.power.0 power_max most, le-leb c.count 4 few, ← is, not-true t fails)

    pub good_places : (r : Bool) → not t ≡ false → r ≡ leb (savings_of c) c.power.0 → length c.runs ≡ 4 → r ≡ goodb c
    unfolding goodb pick
    good_places r passes paid-is room =
        rw (le-leb 1 c.fastest.0 from, le-leb c.fastest.0 1023 to, le-leb c.power.0 power_max most, le-leb c.count 4 few, ← is, not-false t passes, ← paid-is, eq-eqb (length c.runs) 4 room)
        (both_same r)
