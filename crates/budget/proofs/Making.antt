-- The ways through the making of a budget: delays, powers, total.
-- Assumes nothing.
use mathlib.Core.Path.{◌≡◌, refl, sym, ap, ◌∙◌}
use mathlib.Core.List.{List}
use Prim.Native.Nat.{ℕ, min, ◌+◌, ◌-◌, ◌*◌, ◌≤◌, ◌<◌}
use native.Mathlib.Omega.{arith}
use lib.ListN.{set}
use Rattle.std.specs.Prelude.{Ok, Err}
use Rattle.std.specs.Result.{result_unwrap_or}
use Rattle.base.specs.Table.{table}
use Rattle.base.proofs.Cases.{finished}
use Rattle.base.proofs.TableLaws.{firsts_none, firsts_more, firsts_cut, firsts_done}
use Rattle.theory.specs.Sum.{sum}
use Rattle.theory.proofs.SumLaws.{sum_next}
use Rattle.refusal.specs.Refusal.{Answer}
use Rattle.curve.specs.declared.Ticks.{Ticks}
use Rattle.curve.specs.declared.Microwatts.{Microwatts}
use Rattle.curve.specs.declared.Curve.{Curve}
use Rattle.curve.specs.Curve.{slowest_of, power_of}
use Rattle.curve.specs.Answers.{power_at_of}
use Rattle.curve.specs.Rows.{no_ticks, no_power, ticks_at, power_at, powers_row}
use Rattle.curve.proofs.CurveLaws.{power_at_on}
use Rattle.curve.proofs.RowLaws.{ticks, microwatts}
use Rattle.board.specs.declared.Board.{Board}
use Rattle.board.specs.Board.{curve_at}
use Rattle.budget.specs.declared.Total.{Total}
use Rattle.budget.specs.Made.{no_budget, drawn_of, delays_of, powers_of, total_of, budget_of}

-- ---- no_budget
pub none_made : (d : List Ticks) (w : List Microwatts) → d ≡ table 64 (λ p. no_ticks) → w ≡ table 64 (λ p. no_power) →
    record { start = d; delay = d; end = d; power = w; total = record { 0 = 0 } } ≡ no_budget
unfolding no_budget
none_made d w ed ew = rw (ed, ew)

-- ---- power_of
module _ (c : Curve) (d : ℕ) where
  drawn_by : (a : Answer Microwatts) → power_at_of c d ≡ a → (result_unwrap_or a (record { 0 = 0 })).0 ≡ drawn_of c d
  unfolding drawn_of
  drawn_by (Ok p) e = rw e
  drawn_by (Err why) e = rw e

  -- what it gives, or nothing
  pub power_or_none : (a : Answer Microwatts) (r : Microwatts) → a ≡ power_at_of c d → r ≡ result_unwrap_or a (record { 0 = 0 }) → r.0 ≡ drawn_of c d
  power_or_none a r is got = rw got (drawn_by a (sym is))

  -- on the curve it is the power there
  pub drawn_on : c.fastest.0 ≤ d → d ≤ slowest_of c → drawn_of c d ≡ power_of c d
  unfolding drawn_of
  drawn_on from to = rw (power_at_on c d from to)

-- ---- delays
module _ (n : ℕ) (start end : List Ticks) where
  pub delays_none : (d : List Ticks) → d ≡ table 64 (λ p. no_ticks) → d ≡ delays_of 0 start end
  unfolding delays_of
  delays_none = firsts_none no_ticks _

  pub delays_more : n ≤ 64 → (d : List Ticks) (k : ℕ) (v : Ticks) → k < n → v.0 ≡ ticks_at end k - ticks_at start k → d ≡ delays_of k start end →
      set d k v ≡ delays_of (k + 1) start end
  unfolding delays_of
  delays_more few d k v h new is = firsts_more no_ticks _ d k v (omega arith) is (ap ticks new)

  pub delays_done : (d : List Ticks) (k : ℕ) → k ≤ n → n ≤ k → d ≡ delays_of k start end → d ≡ delays_of n start end
  delays_done d k = finished (λ i. delays_of i start end)

-- ---- powers
module _ (b : Board) (delay : List Ticks) where
  -- the first k parts'
  abbrev pub Drawn : List Microwatts → ℕ → Type 0
  Drawn w k = w ≡ powers_row k (λ p. drawn_of (curve_at b p) (ticks_at delay p))

  pub powers_none : (w : List Microwatts) → w ≡ table 64 (λ p. no_power) → Drawn w 0
  powers_none = firsts_none no_power _

  module _ (n : ℕ) (cut : n ≡ min b.parts 64) (w : List Microwatts) (k : ℕ) where
    pub powers_more : k < n → (p : Microwatts) → p.0 ≡ drawn_of (curve_at b k) (ticks_at delay k) → Drawn w k → Drawn (set w k p) (k + 1)
    powers_more h p new is = firsts_more no_power _ w k p (omega arith) is (ap microwatts new)

    pub powers_done : k ≤ n → n ≤ k → Drawn w k → w ≡ powers_of b delay
    unfolding powers_of
    powers_done l h is = firsts_done no_power _ w k n l h is ∙ rw cut (firsts_cut no_power _ b.parts)

-- ---- total
module _ (power : List Microwatts) where
  -- the first k parts' powers, each of 32 bits
  pub record Summed (s : Total) (k : ℕ) : Type 0 where
    pub is : s.0 ≡ total_of k power
    pub most : s.0 ≤ 4294967295 * k

  pub total_none : Summed (record { 0 = 0 }) 0
  unfolding total_of sum
  total_none = record { is = refl; most = omega arith }

  pub total_more : (s : Total) (k : ℕ) (v : Total) → Summed s k → v.0 ≡ s.0 + power_at power k → v.0 ≤ s.0 + 4294967295 → Summed v (k + 1)
  unfolding total_of
  total_more s k v so new most = record { is = omega (arith, so.is, sum_next k (power_at power)); most = omega (arith, so.most) }

  pub total_done : (s : Total) (k n : ℕ) → k ≤ n → n ≤ k → Summed s k → s.0 ≡ total_of n power
  total_done s k n l h so = finished (λ i. total_of i power) l h so.is

  pub total_fits : (s : Total) (k n : ℕ) → n ≤ 64 → k < n → Summed s k → s.0 ≤ 1000000000000
  total_fits s k n few h so = omega (arith, so.most)

-- ---- budget_of
module _ (b : Board) (start end : List Ticks) where
  delays_cut : delays_of (min b.parts 64) start end ≡ delays_of b.parts start end
  unfolding delays_of
  delays_cut = firsts_cut no_ticks _ b.parts

  pub made : (n : ℕ) (d : List Ticks) (w : List Microwatts) (t : Total) → n ≡ min b.parts 64 → d ≡ delays_of n start end → w ≡ powers_of b d →
      t.0 ≡ total_of n w → record { start = start; delay = d; end = end; power = w; total = t } ≡ budget_of b start end
  unfolding budget_of
  made n d w t cut ed ew et =
      let d-is : d ≡ delays_of b.parts start end = (rw cut at ed) ∙ delays_cut in
      let t-is : t ≡ record { 0 = total_of (min b.parts 64) w } = ap (λ (v : ℕ). record { 0 = v }) (rw cut at et) in
      rw (t-is, ew, d-is)
