-- 01, Boards to try, case 1: "K's part 0 at 2, 3, 4, 5 costs 100, 80, 60, 55; at 1 and 6 refusal 19."
-- Assumes nothing.
use mathlib.Core.Path.{◌≡◌, refl}
use mathlib.Core.List.{[], ◌∷◌}
use Prim.Native.Nat.{ℕ}
use Rattle.base.specs.Pick.{pick}
use Rattle.theory.specs.Sum.{sum}
use Rattle.theory.specs.Saving.{tick}
use Rattle.std.specs.Prelude.{Ok}
use Rattle.refusal.specs.Refusal.{refused}
use Rattle.refusal.specs.declared.Why.TheVariants.{OffCurve}
use Rattle.curve.specs.declared.Run.{Run}
use Rattle.curve.specs.declared.Curve.{Curve}
use Rattle.curve.specs.Curve.{no_run, length_at, saving_at, ticks_of, slowest_of, saving_of, power_of}
use Rattle.curve.specs.Answers.{power_at_of}

-- a run as 01 writes it: length at saving
abbrev pub run : ℕ → ℕ → Run
run ticks saving = record { length = record { 0 = ticks }; saving = record { 0 = saving } }

-- Board K's "part 0: 2; 100; 2 at 20, 1 at 5"
unfoldable pub part_zero : Curve
part_zero = record { fastest = record { 0 = 2 }; power = record { 0 = 100 }; count = 2; runs = run 2 20 ∷ run 1 5 ∷ no_run ∷ no_run ∷ [] }

-- the whole case
pub record Case1 : Type 0 where
  pub at_2 : power_at_of part_zero 2 ≡ Ok (record { 0 = 100 })
  pub at_3 : power_at_of part_zero 3 ≡ Ok (record { 0 = 80 })
  pub at_4 : power_at_of part_zero 4 ≡ Ok (record { 0 = 60 })
  pub at_5 : power_at_of part_zero 5 ≡ Ok (record { 0 = 55 })
  pub at_1 : power_at_of part_zero 1 ≡ refused OffCurve 1
  pub at_6 : power_at_of part_zero 6 ≡ refused OffCurve 6

pub case_1 : Case1
unfolding power_at_of part_zero slowest_of ticks_of power_of saving_of length_at saving_at tick sum pick
case_1 = record { at_2 = refl; at_3 = refl; at_4 = refl; at_5 = refl; at_1 = refl; at_6 = refl }
