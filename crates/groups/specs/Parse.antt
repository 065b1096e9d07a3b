-- What reading finds.
-- Assumes nothing.
use Rattle.std.specs.Prelude.{ℕ, Ok}
use Rattle.refusal.specs.Refusal.{Answer}
use Rattle.groups.specs.declared.Read.{Read}

-- "Files are read left to right and the first fault wins": a value and the place past it, or the first fault and its place
abbrev pub Parse : Type 0 → Type 0
Parse A = Answer (Read A)

abbrev pub got : {A : Type 0} → A → ℕ → Parse A
got a next = Ok (record { value = a; next = next })
