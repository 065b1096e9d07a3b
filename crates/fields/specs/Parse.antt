-- Reading left to right: "Files are read left to right and the first fault wins."
-- Assumes nothing.
use Rattle.std.specs.Prelude.{ℕ, zero, suc, List, ltb, Ok, Err}
use Rattle.base.specs.Pick.{pick}
use Rattle.refusal.specs.Refusal.{refusal}
use Rattle.groups.specs.Parse.{Parse, got}
use Rattle.groups.specs.Number.{number_at}

-- read on past a value; a fault stays
unfoldable pub and_then : {A B : Type 0} → Parse A → (A → ℕ → Parse B) → Parse B
and_then (Ok r) f = f r.value r.next
and_then (Err e) f = Err e

-- k steps in a row, each from where the one before it ended
unfoldable pub repeat : {A : Type 0} → (ℕ → A → ℕ → Parse A) → A → ℕ → ℕ → Parse A
repeat step a at zero = got a at
repeat step a at (suc k) = and_then (repeat step a at k) (step k)

-- a number from low to high: "number outside its field's range"; place: "its first byte"
unfoldable pub ranged_at : ℕ → ℕ → ℕ → ℕ → ℕ → Parse ℕ
ranged_at low high at v next = pick (ltb v low) (refusal 4 at) (pick (ltb high v) (refusal 4 at) (got v next))

unfoldable pub field_at : List ℕ → ℕ → ℕ → ℕ → Parse ℕ
field_at s low high at = and_then (number_at s at) (ranged_at low high at)
