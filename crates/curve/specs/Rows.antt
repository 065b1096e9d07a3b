-- Ticks and microwatts part by part: rows of 64 places, and the number at a place. A place without a part holds 0.
-- Assumes nothing.
use Rattle.std.specs.Prelude.{List, ℕ, get_or}
use Rattle.base.specs.Table.{firsts}
use Rattle.curve.specs.declared.Ticks.{Ticks}
use Rattle.curve.specs.declared.Microwatts.{Microwatts}

abbrev pub no_ticks : Ticks
no_ticks = record { 0 = 0 }

abbrev pub no_power : Microwatts
no_power = record { 0 = 0 }

abbrev pub ticks_at : List Ticks → ℕ → ℕ
ticks_at row p = (get_or row p no_ticks).0

abbrev pub power_at : List Microwatts → ℕ → ℕ
power_at row p = (get_or row p no_power).0

-- the first n parts' ticks, and their powers
abbrev pub ticks_row : ℕ → (ℕ → ℕ) → List Ticks
ticks_row n f = firsts no_ticks n (λ p. record { 0 = f p })

abbrev pub powers_row : ℕ → (ℕ → ℕ) → List Microwatts
powers_row n f = firsts no_power n (λ p. record { 0 = f p })
