-- 01, The board: "A part's curve: fastest delay 1 to 1,023 ticks; power at the fastest ..; 0 to 4 runs."
-- Assumes nothing.
use Rattle.std.specs.Prelude.{◌≡◌, ℕ, suc, ◌+◌, ◌*◌, ◌-◌, ◌≤◌, ◌<◌, length, get_or}
use Rattle.theory.specs.Sum.{sum}
use Rattle.theory.specs.Saving.{saves, tick}
use Rattle.curve.specs.declared.Run.{Run}
use Rattle.curve.specs.declared.Curve.{Curve}

-- 02, Req 02: "Power at the fastest may be up to 20,000,000"
abbrev pub power_max : ℕ
power_max = 20000000

-- a place that holds no run
abbrev pub no_run : Run
no_run = record { length = record { 0 = 0 }; saving = record { 0 = 0 } }

abbrev pub run_at : Curve → ℕ → Run
run_at c i = get_or c.runs i no_run

-- "A run has a length and a saving for each tick"
unfoldable pub length_at : Curve → ℕ → ℕ
length_at c i = (run_at c i).length.0

unfoldable pub saving_at : Curve → ℕ → ℕ
saving_at c i = (run_at c i).saving.0

-- all run lengths together
unfoldable pub ticks_of : Curve → ℕ
ticks_of c = sum c.count (length_at c)

-- "The slowest delay is the fastest plus all run lengths."
unfoldable pub slowest_of : Curve → ℕ
slowest_of c = c.fastest.0 + ticks_of c

-- the saving of tick j past the fastest, earlier runs first; nothing past the slowest
unfoldable pub saving_of : Curve → ℕ → ℕ
saving_of c j = tick (length_at c) (saving_at c) c.count j

-- all savings together
unfoldable pub savings_of : Curve → ℕ
savings_of c = sum c.count (λ i. length_at c i * saving_at c i)

-- "The power at a delay is the power at the fastest, less the saving of each tick used, earlier runs first."
unfoldable pub power_of : Curve → ℕ → ℕ
power_of c d = c.power.0 - saves (saving_of c) (d - c.fastest.0)

-- what 01 asks of a curve. Places past the last run are blank, so that equal curves are equal values.
pub record Good (c : Curve) : Type 0 where
  pub fastest_from : 1 ≤ c.fastest.0
  pub fastest_to : c.fastest.0 ≤ 1023
  pub power_to : c.power.0 ≤ power_max
  pub count_to : c.count ≤ 4
  pub length_from : (i : ℕ) → i < c.count → 1 ≤ length_at c i
  pub length_to : (i : ℕ) → i < c.count → length_at c i ≤ 255
  pub saving_from : (i : ℕ) → i < c.count → 1 ≤ saving_at c i
  pub saving_to : (i : ℕ) → i < c.count → saving_at c i ≤ 1000
  -- "Savings fall strictly from run to run."
  pub falls : (i : ℕ) → suc i < c.count → saving_at c (suc i) < saving_at c i
  -- "The power is at least all savings together."
  pub affords : savings_of c ≤ c.power.0
  pub blank : (i : ℕ) → c.count ≤ i → i < 4 → run_at c i ≡ no_run
  pub room : length c.runs ≡ 4
