-- Laws of curves: bounds of their ticks and savings, what each tick saves, and the power at a delay.
-- Assumes nothing.
use mathlib.Core.Path.{◌≡◌, refl, sym, ap, ◌∙◌}
use mathlib.Core.Logic.{⊎_elim}
use mathlib.Core.List.{List}
use Prim.Native.Nat.{ℕ, zero, suc, ◌+◌, ◌*◌, ◌-◌, ◌≤◌, ◌<◌, min}
use native.Mathlib.Decide.{dec_lt}
use native.Mathlib.Omega.{arith}
use lib.ListN.{length, get_or-eq_default, get_or-replicate}
use lib.Seq.{ext_get_or}
use borrow.Author.Tests.{lt-ltb, le-ltb}
use Rattle.base.specs.Pick.{pick}
use Rattle.base.proofs.Cases.{lt_or_le}
use Rattle.theory.specs.Sum.{sum}
use Rattle.theory.specs.Saving.{saves, before, tick, Falling}
use Rattle.theory.proofs.SumLaws.{sum_le, sum_ext, sum_const, sum_zero, sum_split}
use Rattle.theory.proofs.SavingLaws.{saves_most}
use Rattle.theory.proofs.RunLaws.{tick_past, tick_falls, sum_runs}
use Rattle.curve.specs.declared.Ticks.{Ticks}
use Rattle.curve.specs.declared.Microwatts.{Microwatts}
use Rattle.curve.specs.declared.Run.{Run}
use Rattle.curve.specs.declared.Curve.{Curve}
use Rattle.curve.specs.Curve.{power_max, no_run, run_at, length_at, saving_at, ticks_of, slowest_of, saving_of, savings_of, power_of, Good}
use Rattle.std.specs.Prelude.{Ok}
use Rattle.curve.specs.Answers.{flat_of, off_curve, power_at_of}

-- what a tick of the first r runs saves is what one of these runs does
pub tick_one : (long saved : ℕ → ℕ) (P : ℕ → Type 0) (r j : ℕ) → ((i : ℕ) → i < r → P (saved i)) → j < before long saved r → P (tick long saved r j)
unfolding sum tick
tick_one long saved P zero j h l = absurd (omega arith)
tick_one long saved P (suc r) j h l =
    elim (dec_lt j (before long saved r)) [
      | yes a ↦ rw (lt-ltb j (before long saved r) a) (tick_one long saved P r j (λ i k. h i (omega arith)) a)
      | no a ↦
          let past : before long saved r ≤ j = omega arith in
          rw (le-ltb j (before long saved r) past, lt-ltb j (before long saved (suc r)) l) (h r (omega arith))
    ]

-- a sum of what is 0 from place 4 on
sum_held : (f : ℕ → ℕ) (n : ℕ) → ((i : ℕ) → 4 ≤ i → f i ≡ 0) → sum (min n 4) f ≡ sum n f
sum_held f n none =
    ⊎_elim
    (λ h.
    let m : ℕ = n - 4 in
    let most : n ≡ 4 + m = omega arith in
    let four : min n 4 ≡ 4 = omega arith in
    rw four (rw most (sym (sum_split f 4 m ∙ omega (arith, sum_ext m {f = λ i. f (4 + i)} {g = λ i. 0} (λ i l. none (4 + i) (omega arith)), sum_zero m)))))
    (λ h. let all : min n 4 ≡ n = omega arith in rw all)
    (lt_or_le 4 n)

-- ---- of every curve
module _ (c : Curve) where
  pub saving_past : (j : ℕ) → ticks_of c ≤ j → saving_of c j ≡ 0
  unfolding ticks_of saving_of
  saving_past j h = tick_past (length_at c) (saving_at c) c.count j h

  -- all savings together are what all ticks save
  pub savings_saves : savings_of c ≡ saves (saving_of c) (ticks_of c)
  unfolding savings_of ticks_of saving_of
  savings_saves = sym (sum_runs (length_at c) (saving_at c) (λ x. x) c.count)

  pub saves_le : (t : ℕ) → saves (saving_of c) t ≤ savings_of c
  saves_le t = omega (arith, savings_saves, saves_most (saving_of c) (ticks_of c) saving_past t)

  -- the runs that there is room for have all the ticks, and save all that is saved
  module _ (room : length c.runs ≡ 4) where
    blank_past : (i : ℕ) → 4 ≤ i → run_at c i ≡ no_run
    blank_past i h = get_or-eq_default c.runs no_run (omega arith)

    pub ticks_held : sum (min c.count 4) (length_at c) ≡ ticks_of c
    unfolding ticks_of length_at
    ticks_held = sum_held (length_at c) c.count (λ i h. ap (λ (r : Run). r.length.0) (blank_past i h))

    pub savings_held : sum (min c.count 4) (λ i. length_at c i * saving_at c i) ≡ savings_of c
    unfolding savings_of length_at saving_at
    savings_held = sum_held (λ i. length_at c i * saving_at c i) c.count (λ i h. ap (λ (r : Run). r.length.0 * r.saving.0) (blank_past i h))

  -- ---- the power at a delay below the fastest, past the slowest, and from the one to the other
  pub power_at_below : (d : ℕ) → d < c.fastest.0 → power_at_of c d ≡ off_curve d
  unfolding power_at_of pick
  power_at_below d h = rw (lt-ltb d c.fastest.0 h)

  pub power_at_past : (d : ℕ) → slowest_of c < d → power_at_of c d ≡ off_curve d
  unfolding power_at_of slowest_of pick
  power_at_past d h =
      let from : c.fastest.0 ≤ d = omega arith in
      rw (le-ltb d c.fastest.0 from, lt-ltb (c.fastest.0 + ticks_of c) d h)

  pub power_at_on : (d : ℕ) → c.fastest.0 ≤ d → d ≤ slowest_of c → power_at_of c d ≡ Ok (record { 0 = power_of c d })
  unfolding power_at_of slowest_of pick
  power_at_on d from to = rw (le-ltb d c.fastest.0 from, le-ltb (c.fastest.0 + ticks_of c) d to)

  -- the power t ticks past the fastest
  pub power_used : (t : ℕ) → power_of c (c.fastest.0 + t) ≡ c.power.0 - saves (saving_of c) t
  unfolding power_of
  power_used t = let used : c.fastest.0 + t - c.fastest.0 ≡ t = omega arith in rw used

-- ---- a bound, run by run
pub lengths_to : (c : Curve) → ((i : ℕ) → i < c.count → length_at c i ≤ 255) → (k : ℕ) → k ≤ c.count → sum k (length_at c) ≤ 255 * k
lengths_to c to k h = omega (arith, sum_le k {f = length_at c} {g = λ i. 255} (λ i l. to i (omega arith)), sum_const k 255)

-- ---- of good curves
module _ (c : Curve) (good : Good c) where
  pub ticks_to : ticks_of c ≤ 1020
  unfolding ticks_of
  ticks_to = omega (arith, lengths_to c good.length_to c.count (omega arith), good.count_to)

  pub slowest_to : slowest_of c ≤ 2043
  unfolding slowest_of
  slowest_to = omega (arith, ticks_to, good.fastest_to)

  pub saving_falls : Falling (saving_of c)
  unfolding saving_of
  saving_falls = tick_falls (length_at c) (saving_at c) c.count (λ i h. omega (arith, good.falls i h))

  -- each tick up to the slowest saves something
  pub saving_from : (j : ℕ) → j < ticks_of c → 1 ≤ saving_of c j
  unfolding ticks_of saving_of
  saving_from j h = tick_one (length_at c) (saving_at c) (λ s. 1 ≤ s) c.count j good.saving_from h

  pub saving_to : (j : ℕ) → saving_of c j ≤ 1000
  unfolding ticks_of saving_of
  saving_to j =
      ⊎_elim
      (λ h. tick_one (length_at c) (saving_at c) (λ s. s ≤ 1000) c.count j good.saving_to h)
      (λ h. omega (arith, saving_past c j h))
      (lt_or_le j (ticks_of c))

  pub affords_saves : saves (saving_of c) (ticks_of c) ≤ c.power.0
  affords_saves = omega (arith, savings_saves c, good.affords)

  -- the power at a delay and what its ticks save are the power at the fastest
  pub power_saves : (d : ℕ) → power_of c d + saves (saving_of c) (d - c.fastest.0) ≡ c.power.0
  unfolding power_of
  power_saves d = omega (arith, saves_le c (d - c.fastest.0), good.affords)

  pub power_to : (d : ℕ) → power_of c d ≤ power_max
  power_to d = omega (arith, power_saves d, good.power_to)

-- a curve by its fields
curve_eq : (f g p q n m : ℕ) (r s : List Run) → f ≡ g → p ≡ q → n ≡ m → r ≡ s
    → ◌≡◌ {A = Curve} (record { fastest = record { 0 = f }; power = record { 0 = p }; count = n; runs = r })
    (record { fastest = record { 0 = g }; power = record { 0 = q }; count = m; runs = s })
curve_eq f g p q n m r s fastest power count runs = rw (fastest, power, count, runs)

-- two good curves with the same numbers and the same runs are one value
pub good_same : (a b : Curve) → Good a → Good b → a.fastest.0 ≡ b.fastest.0 → a.power.0 ≡ b.power.0 → a.count ≡ b.count
    → ((i : ℕ) → i < a.count → run_at a i ≡ run_at b i) → a ≡ b
good_same a b ga gb fastest power count runs = same
  where
    at : (i : ℕ) → i < length a.runs → run_at a i ≡ run_at b i
    at i h =
        ⊎_elim
        (λ l. runs i l)
        (λ l. ga.blank i l (omega (arith, ga.room)) ∙ sym (gb.blank i (omega arith) (omega (arith, ga.room))))
        (lt_or_le i a.count)

    list : a.runs ≡ b.runs
    list = ext_get_or no_run a.runs b.runs (ga.room ∙ sym gb.room) at

    same : a ≡ b
    same = curve_eq _ _ _ _ _ _ _ _ fastest power count list

-- ---- the flat curve
module _ (fastest : Ticks) (power : Microwatts) where
  pub flat_slowest : slowest_of (flat_of fastest power) ≡ fastest.0
  unfolding slowest_of ticks_of sum flat_of
  flat_slowest = omega arith

  pub flat_power : power_of (flat_of fastest power) fastest.0 ≡ power.0
  unfolding power_of saving_of tick flat_of
  flat_power = omega (arith, sum_zero (fastest.0 - fastest.0))

  pub flat_power_at : power_at_of (flat_of fastest power) fastest.0 ≡ Ok power
  unfolding flat_of
  flat_power_at =
      power_at_on (flat_of fastest power) fastest.0 (omega arith) (omega (arith, flat_slowest)) ∙ rw flat_power

  pub flat_good : 1 ≤ fastest.0 → fastest.0 ≤ 1023 → power.0 ≤ power_max → Good (flat_of fastest power)
  unfolding flat_of savings_of sum
  flat_good from to most = record {
    fastest_from = from;
    fastest_to = to;
    power_to = most;
    count_to = omega arith;
    length_from = λ i h. absurd (omega arith);
    length_to = λ i h. absurd (omega arith);
    saving_from = λ i h. absurd (omega arith);
    saving_to = λ i h. absurd (omega arith);
    falls = λ i h. absurd (omega arith);
    affords = omega arith;
    blank = λ i h l. get_or-replicate 4 i no_run no_run l;
    room = refl;
  }
