-- Rows of ticks and of microwatts: what stands at a place, and rows that hold the same.
-- Assumes nothing.
use mathlib.Core.Path.{◌≡◌, ap}
use mathlib.Core.List.{List}
use Prim.Native.Nat.{ℕ, ◌≤◌, ◌<◌}
use lib.ListN.{length}
use Rattle.base.proofs.TableLaws.{firsts_at, firsts_past, same_places}
use Rattle.curve.specs.declared.Ticks.{Ticks}
use Rattle.curve.specs.declared.Microwatts.{Microwatts}
use Rattle.curve.specs.Rows.{no_ticks, no_power, ticks_at, power_at, ticks_row, powers_row}

abbrev pub ticks : ℕ → Ticks
ticks n = record { 0 = n }

abbrev pub microwatts : ℕ → Microwatts
microwatts n = record { 0 = n }

module _ (n : ℕ) (f : ℕ → ℕ) where
  pub ticks_at_lem : n ≤ 64 → (p : ℕ) → p < n → ticks_at (ticks_row n f) p ≡ f p
  ticks_at_lem to p h = ap (λ (t : Ticks). t.0) (firsts_at no_ticks _ n to p h)

  pub ticks_past : (p : ℕ) → n ≤ p → ticks_at (ticks_row n f) p ≡ 0
  ticks_past p h = ap (λ (t : Ticks). t.0) (firsts_past no_ticks _ n p h)

  pub powers_at : n ≤ 64 → (p : ℕ) → p < n → power_at (powers_row n f) p ≡ f p
  powers_at to p h = ap (λ (w : Microwatts). w.0) (firsts_at no_power _ n to p h)

  pub powers_past : (p : ℕ) → n ≤ p → power_at (powers_row n f) p ≡ 0
  powers_past p h = ap (λ (w : Microwatts). w.0) (firsts_past no_power _ n p h)

-- rows that hold the same at the parts and 0 past them
pub same_ticks : (n : ℕ) (xs ys : List Ticks) → length xs ≡ 64 → length ys ≡ 64 → ((p : ℕ) → p < n → ticks_at xs p ≡ ticks_at ys p) →
    ((p : ℕ) → n ≤ p → ticks_at xs p ≡ 0) → ((p : ℕ) → n ≤ p → ticks_at ys p ≡ 0) → xs ≡ ys
same_ticks n xs ys lx ly at past past' =
    same_places no_ticks n xs ys lx ly (λ p h. ap ticks (at p h)) (λ p h. ap ticks (past p h)) (λ p h. ap ticks (past' p h))

pub same_powers : (n : ℕ) (xs ys : List Microwatts) → length xs ≡ 64 → length ys ≡ 64 → ((p : ℕ) → p < n → power_at xs p ≡ power_at ys p) →
    ((p : ℕ) → n ≤ p → power_at xs p ≡ 0) → ((p : ℕ) → n ≤ p → power_at ys p ≡ 0) → xs ≡ ys
same_powers n xs ys lx ly at past past' =
    same_places no_power n xs ys lx ly (λ p h. ap microwatts (at p h)) (λ p h. ap microwatts (past p h)) (λ p h. ap microwatts (past' p h))
