-- What is asked of a curve, and its answers: the flat curve, the saving of a tick by its delay, the power at a delay or its refusal.
-- Assumes nothing.
use Rattle.std.specs.Prelude.{ℕ, ◌*◌, ◌-◌, min, ltb, leb, replicate, Option, Some, None, Ok}
use Rattle.base.specs.Pick.{pick}
use Rattle.refusal.specs.Refusal.{Answer, refusal}
use Rattle.curve.specs.declared.Ticks.{Ticks}
use Rattle.curve.specs.declared.Microwatts.{Microwatts}
use Rattle.curve.specs.declared.Run.{Run}
use Rattle.curve.specs.declared.Curve.{Curve}
use Rattle.curve.specs.declared.Slowing.{Slowing}
use Rattle.curve.specs.Curve.{no_run, slowest_of, saving_of, power_of}

-- "The flat curve, a curve with no runs"
unfoldable pub flat_of : Ticks → Microwatts → Curve
flat_of fastest power = record { fastest = fastest; power = power; count = 0; runs = replicate 4 no_run }

-- the saving of the tick after delay d, which is asked from the fastest on
unfoldable pub next_saving_of : Curve → ℕ → ℕ
next_saving_of c d = saving_of c (d - c.fastest.0)

-- the saving of the last tick used at delay d; up to the fastest none is used
unfoldable pub last_saving_of : Curve → ℕ → Option Microwatts
last_saving_of c d = pick (leb d c.fastest.0) None (Some (record { 0 = next_saving_of c (d - 1) }))

-- refusal 19: "delay outside the part's curve", place: "the delay"
abbrev pub off_curve : ℕ → Answer Microwatts
off_curve d = refusal 19 d

-- "Power of a part at a delay": its power there, from the fastest to the slowest
unfoldable pub power_at_of : Curve → ℕ → Answer Microwatts
power_at_of c d = pick (ltb d c.fastest.0) (off_curve d) (pick (ltb (slowest_of c) d) (off_curve d) (Ok (record { 0 = power_of c d })))

-- a run's ticks are used, as far as there are ticks left to use
unfoldable pub used_of : Slowing → Run → Slowing
used_of s run = record {
  left = record { 0 = s.left.0 - run.length.0 };
  power = record { 0 = s.power.0 - min s.left.0 run.length.0 * run.saving.0 };
}
