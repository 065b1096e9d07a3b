-- A curve as bytes: "fastest, power, run count, and length then saving for each run". It stands so in a design file and in an order.
-- Assumes nothing.
use Rattle.std.specs.Prelude.{ℕ, ◌-◌, Bool, true, List, [], ◌++◌, ltb, leb, eqb, set, replicate}
use Rattle.base.specs.Pick.{pick}
use Rattle.refusal.specs.Refusal.{refusal}
use Rattle.curve.specs.declared.Run.{Run}
use Rattle.curve.specs.declared.Curve.{Curve}
use Rattle.curve.specs.Curve.{power_max, no_run, run_at, saving_at, savings_of}
use Rattle.groups.specs.Number.{encode}
use Rattle.fields.specs.Writing.{in_row}
use Rattle.groups.specs.Parse.{Parse, got}
use Rattle.fields.specs.Parse.{and_then, repeat, field_at}

-- a curve before its runs are read
unfoldable pub bare : ℕ → ℕ → ℕ → Curve
bare fastest power count = record {
  fastest = record { 0 = fastest };
  power = record { 0 = power };
  count = count;
  runs = replicate 4 no_run;
}

-- a curve with its run i
abbrev pub with_run : Curve → ℕ → ℕ → ℕ → Curve
with_run c i ticks saving = record {
  fastest = c.fastest;
  power = c.power;
  count = c.count;
  runs = set c.runs i (record { length = record { 0 = ticks }; saving = record { 0 = saving } });
}

-- the saving of run i is below that of the run before; the first run has none before it
unfoldable pub falls : Curve → ℕ → ℕ → Bool
falls c i saving = pick (eqb i 0) true (ltb saving (saving_at c (i - 1)))

-- run i of the curve: for the saving refusal 4, then 5, at the saving's first byte
unfoldable pub run_from : List ℕ → ℕ → Curve → ℕ → Parse Curve
run_from s i c at =
    and_then (field_at s 1 255 at) (λ ticks at₁.
    and_then (field_at s 1 1000 at₁) (λ saving at₂.
    pick (falls c i saving) (got (with_run c i ticks saving) at₂) (refusal 5 at₁)))

-- run count and runs. "Refusal 6 comes after a part's last run", at the power's first byte
unfoldable pub runs_from : List ℕ → ℕ → ℕ → ℕ → ℕ → Parse Curve
runs_from s fastest power powerPlace at =
    and_then (field_at s 0 4 at) (λ count at₁.
    and_then (repeat (run_from s) (bare fastest power count) at₁ count) (λ c next.
    pick (leb (savings_of c) power) (got c next) (refusal 6 powerPlace)))

unfoldable pub curve_from : List ℕ → ℕ → Parse Curve
curve_from s at =
    and_then (field_at s 1 1023 at) (λ fastest at₁.
    and_then (field_at s 0 power_max at₁) (λ power at₂.
    runs_from s fastest power at₁ at₂))

-- ---- the bytes of a curve
abbrev pub run_bytes : Run → List ℕ
run_bytes run = encode run.length.0 ++ encode run.saving.0

-- the first k runs
unfoldable pub runs_bytes : Curve → ℕ → List ℕ
runs_bytes c k = in_row (λ i. run_bytes (run_at c i)) k

-- fastest, power, run count and runs
abbrev pub numbers_of : Curve → List ℕ
numbers_of c = encode c.fastest.0 ++ (encode c.power.0 ++ (encode c.count ++ runs_bytes c c.count))

-- the form of a curve; one of more runs than there is room for has none, and no bytes stand for it
unfoldable pub curve_bytes : Curve → List ℕ
curve_bytes c = pick (leb c.count 4) (numbers_of c) []
