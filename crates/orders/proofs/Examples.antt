-- Orders as 01 has them: the four of its example, read one after the other, K's curve of part 1 as an order, and faults.
-- Assumes nothing.
use mathlib.Core.Path.{◌≡◌, refl}
use mathlib.Core.List.{List, [], ◌∷◌}
use Prim.Native.Nat.{ℕ}
use lib.ListN.{drop}
use Rattle.base.specs.Pick.{pick}
use Rattle.theory.specs.Sum.{sum}
use Rattle.refusal.specs.declared.Why.TheVariants.{CutShort, NotShortest, OutOfRange, SavingNotBelow, PowerBelowSavings, UnknownKind}
use Rattle.refusal.specs.Refusal.{refused}
use Rattle.groups.specs.Number.{shortest_end, groups_from, number_at}
use Rattle.curve.specs.declared.Curve.{Curve}
use Rattle.curve.specs.Curve.{no_run, length_at, saving_at, savings_of}
use Rattle.groups.specs.Parse.{got}
use Rattle.fields.specs.Parse.{and_then, repeat, ranged_at, field_at}
use Rattle.fields.specs.CurveFile.{bare, falls, run_from, runs_from, curve_from}
use Rattle.orders.specs.declared.Order.TheVariants.{Deadline, AddLink, RemoveLink, NewCurve}
use Rattle.orders.specs.Order.{deadline_from, link_from, new_curve_from, kind_from, order_of}

-- "the orders `02 03 01 01 09 03 03 01 01 09`"
abbrev orders : List ℕ
orders = 2 ∷ 3 ∷ 1 ∷ 1 ∷ 9 ∷ 3 ∷ 3 ∷ 1 ∷ 1 ∷ 9 ∷ []

pub example_orders :
    (order_of orders ≡ got (AddLink 3 1) 3) ×
    (order_of (drop 3 orders) ≡ got (Deadline (record { 0 = 9 })) 2) ×
    (order_of (drop 5 orders) ≡ got (RemoveLink 3 1) 3) ×
    (order_of (drop 8 orders) ≡ got (Deadline (record { 0 = 9 })) 2)
unfolding order_of kind_from deadline_from link_from and_then field_at ranged_at number_at groups_from shortest_end pick
example_orders = (refl, refl, refl, refl)

-- K's part 1: "3; 90; 3 at 12"
abbrev curve_1 : Curve
curve_1 = record {
  fastest = record { 0 = 3 };
  power = record { 0 = 90 };
  count = 1;
  runs = record { length = record { 0 = 3 }; saving = record { 0 = 12 } } ∷ no_run ∷ no_run ∷ no_run ∷ [];
}

pub example_curve : order_of (4 ∷ 1 ∷ 3 ∷ 90 ∷ 1 ∷ 3 ∷ 12 ∷ []) ≡ got (NewCurve 1 curve_1) 7
unfolding order_of kind_from new_curve_from curve_from runs_from run_from repeat bare falls savings_of sum length_at saving_at and_then field_at ranged_at number_at groups_from shortest_end pick
example_curve = refl

-- nothing to read; a kind not in its shortest form; kinds 0 and 5; part 64; deadlines 0 and 4,096; "Two runs at equal saving give 5."; a power of 35
-- where 36 are saved
pub example_faults :
    (order_of [] ≡ refused CutShort 0) ×
    (order_of (128 ∷ 0 ∷ []) ≡ refused NotShortest 0) ×
    (order_of (0 ∷ []) ≡ refused UnknownKind 0) ×
    (order_of (5 ∷ []) ≡ refused UnknownKind 0) ×
    (order_of (2 ∷ 3 ∷ 64 ∷ []) ≡ refused OutOfRange 2) ×
    (order_of (1 ∷ 0 ∷ []) ≡ refused OutOfRange 1) ×
    (order_of (1 ∷ 128 ∷ 32 ∷ []) ≡ refused OutOfRange 1) ×
    (order_of (4 ∷ 1 ∷ 3 ∷ 90 ∷ 2 ∷ 3 ∷ 12 ∷ 1 ∷ 12 ∷ []) ≡ refused SavingNotBelow 8) ×
    (order_of (4 ∷ 1 ∷ 3 ∷ 35 ∷ 1 ∷ 3 ∷ 12 ∷ []) ≡ refused PowerBelowSavings 3)
unfolding order_of kind_from deadline_from link_from new_curve_from curve_from runs_from run_from repeat bare falls savings_of sum length_at saving_at and_then field_at ranged_at number_at groups_from shortest_end pick
example_faults = (refl, refl, refl, refl, refl, refl, refl, refl, refl)
