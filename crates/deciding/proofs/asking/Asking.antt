-- One arc in the sheets: how many of its ticks save more than a load, and the ways of `ask`.
-- Assumes nothing.
use mathlib.Core.Path.{◌≡◌, refl, ap}
use mathlib.Core.List.{List}
use lib.ListN.{length}
use Rattle.std.specs.Prelude.{Option, Some, None}
use Prim.Native.Nat.{ℕ, zero, suc, ◌+◌, ◌*◌, ◌-◌, ◌≤◌, ◌<◌}
use native.Mathlib.Omega.{arith}
use native.Mathlib.Decide.{dec_lt, ℕ_discrete}
use native.Mathlib.Numerals.{add-one}
use mir.Syntax.{w32}
use mir.Val.{Fits}
use Rattle.theory.specs.Sum.{sum, cells}
use Rattle.theory.specs.Saving.{tick}
use Rattle.theory.proofs.SumLaws.{sum_mono}
use Rattle.theory.proofs.RunLaws.{tick_past, tick_run}
use Rattle.nets.specs.declared.Net.{Net}
use Rattle.nets.specs.Network.{length_at, saving_at, gain_of}
use Rattle.nets.specs.Sheet.{gain_in, BendsIn, net_in}
use Rattle.nets.proofs.Gains.{flat, gain_past}
use Rattle.deciding.specs.Asking.{Above, Early, Says, Says.short, Says.long, Says.fits}
use Rattle.deciding.specs.Asking.{PlacedIn, ends_in, AsksIn}
use Rattle.deciding.specs.declared.asking.Ends.{Ends}
use Rattle.deciding.specs.declared.asking.Raise.{Raise}
use Rattle.deciding.proofs.Rising.{asks_head, asks_tail}

-- ---- how many ticks save more
-- where no run saves more than the one before it, no tick from run i on saves more than run i
module _ (length saving : ℕ → ℕ) (falls : (i : ℕ) → suc i < 4 → saving (suc i) ≤ saving i) where
  steps : (k i : ℕ) → i ≤ k → k < 4 → saving k ≤ saving i
  steps zero i l h = let e : i ≡ 0 = omega arith in rw e (omega arith)
  steps (suc k) i l h = elim (ℕ_discrete i (suc k)) [ yes e ↦ rw e (omega arith) | no d ↦ omega (arith, steps k i (omega arith) (omega arith), falls k h) ]

  from_run : (d i j : ℕ) → i + d ≡ 4 → sum i length ≤ j → (y : ℕ) → ((k : ℕ) → i ≤ k → k < 4 → saving k ≤ y) → tick length saving 4 j ≤ y
  unfolding sum
  from_run zero i j e l y least = let f : i ≡ 4 = omega arith in omega (arith, tick_past length saving 4 j (rw f at l))
  from_run (suc d) i j e l y least =
      elim (dec_lt j (sum (suc i) length)) [
        | yes h ↦ omega (arith, tick_run length saving 4 i j (omega arith) l h, least i (omega arith) (omega arith))
        | no h ↦ from_run d (suc i) j (omega arith) (omega arith) y (λ k m n. least k (omega arith) n)
      ]

  pub from_less : (i j : ℕ) → i < 4 → sum i length ≤ j → tick length saving 4 j ≤ saving i
  from_less i j h l = from_run (4 - i) i j (omega arith) l (saving i) (λ k m n. steps k i m n)

module _ (net : Net) (a x : ℕ) (c : BendsIn net a) (room : length net.length ≡ 256) where
  pub above_flat : 64 ≤ a → Above (gain_in net a) x 0
  above_flat h = record {
    more = λ j l. absurd (omega arith);
    rest = λ j l. omega (arith, gain_past net.length net.saving a j (omega (arith, flat net.length net.saving a room h)));
    few = omega arith;
  }

-- the first n ticks, those of the first i runs, save more than x
pub record Counted (net : Net) (a x i n : ℕ) : Type 0 where
  pub ticks : n ≡ sum i (length_at net.length a)
  pub more : (j : ℕ) → j < n → x < gain_in net a j

module _ (net : Net) (a x : ℕ) where
  pub count_begins : Counted net a x 0 0
  unfolding sum
  count_begins = record { ticks = refl; more = λ j l. absurd (omega arith) }

  module _ (c : BendsIn net a) (h : a < 64) (i n : ℕ) (p : Counted net a x i n) where
    few : i ≤ 4 → n ≤ 4095
    few l = omega (arith, p.ticks, c.slowest h, sum_mono (length_at net.length a) i 4 l)

    pub count_ends : i ≤ 4 → 4 ≤ i → Above (gain_in net a) x n
    count_ends l m =
        let e : i ≡ 4 = omega arith in
        record {
          more = p.more;
          rest = λ j k. omega (arith, gain_past net.length net.saving a j (omega (arith, p.ticks, ap (λ y. sum y (length_at net.length a)) e)));
          few = few l;
        }

    module _ (m : i < 4) where
      pub count_stops : cells net.saving (4 * a + i) ≤ x → Above (gain_in net a) x n
      unfolding gain_of
      count_stops k = record {
        more = p.more;
        rest = λ j l. omega (arith, from_less (length_at net.length a) (saving_at net.saving a) (c.falls h) i j m (omega (arith, p.ticks)));
        few = few (omega arith);
      }

      upto : n + cells net.length (4 * a + i) ≡ sum (suc i) (length_at net.length a)
      unfolding sum
      upto = omega (arith, p.ticks)

      pub count_fits : Fits w32 (n + cells net.length (4 * a + i))
      count_fits = omega (arith, upto, c.slowest h, sum_mono (length_at net.length a) (suc i) 4 (omega arith))

      pub count_more : x < cells net.saving (4 * a + i) → Counted net a x (i + 1) (n + cells net.length (4 * a + i))
      unfolding gain_of
      count_more k = record {
        ticks = rw (add-one i) upto;
        more = λ j l.
            elim (dec_lt j n) [
              | yes q ↦ p.more j q
              | no q ↦ omega (arith, tick_run (length_at net.length a) (saving_at net.saving a) 4 i j m (omega (arith, p.ticks)) (omega (arith, upto)))
            ];
      }

-- ---- the ways of `ask`
module _ (g : ℕ → ℕ) (k : Ends) (low : ℕ) (p : Above g k.load low) where
  pub ask_short : k.to < k.from + k.base + low → Says g k (Some (record { node = k.head; time = k.from + k.base + low }))
  ask_short l = short low p refl refl l

  pub ask_none : k.from + k.base + low ≤ k.to → k.load ≡ 0 → Says g k None
  ask_none l e = fits (omega arith) (record { used = λ j i. omega arith; unused = λ j i. p.rest j (omega arith) })

  module _ (some : k.load ≡ 0 → ⊥) (high : ℕ) (q : Above g (k.load - 1) high) where
    pub ask_long : k.from + k.base + high < k.to → Says g k (Some (record { node = k.tail; time = k.from + (k.to - (k.from + k.base + high)) }))
    ask_long l = long high some q refl (omega arith) (omega arith)

    pub ask_nothing : k.from + k.base + low ≤ k.to → k.to ≤ k.from + k.base + high → Says g k None
    ask_nothing l m = fits (omega arith) (record { used = λ j i. omega (arith, q.more j (omega arith)); unused = λ j i. p.rest j (omega arith) })

-- ---- what an arc of the sheets says
module _ (net : Net) (t x : List ℕ) (a : ℕ) (p : PlacedIn net t a) where
  pub ends_early : Early (ends_in net t x a)
  unfolding ends_in
  ends_early = record { from_most = p.tail_most; base_most = p.base_most; to_most = p.head_most }

  pub says_asks : (r : Option Raise) → Says (gain_in net a) (ends_in net t x a) r → AsksIn net t x a r
  unfolding ends_in AsksIn
  says_asks (Some r) (short low q n e l) = asks_head (net_in net) (cells x) (cells t) a p.tail_in p.head_in r low q n e l
  says_asks (Some r) (long high some q n e l) = asks_tail (net_in net) (cells x) (cells t) a p.tail_in p.head_in r high some q n e l
  says_asks None (fits l s) = record { base = l; suits = s }
