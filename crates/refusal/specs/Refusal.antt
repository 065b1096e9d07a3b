-- The table of refusals: their numbers. A refusal's place stands beside it. Every promise names a refusal by its number (`by`, `refusal`), so that it
-- can be held side by side with 01's table.
-- Assumes nothing.
use Rattle.std.specs.Prelude.{Bool, true, false, List, [], ◌∷◌, ℕ, ◌-◌, eqb, get_or, Result, Err}
use Rattle.base.specs.Pick.{pick}
use Rattle.refusal.specs.declared.Refusal.{Refusal}
use Rattle.refusal.specs.declared.Why.{Why}
use Rattle.refusal.specs.declared.Why.TheVariants.{
  CutShort,
  NotShortest,
  WrongVersion,
  OutOfRange,
  SavingNotBelow,
  PowerBelowSavings,
  LinkNotAbove,
  BytesAfter,
  Looped,
  TooSlow,
  NoBoard,
  UnknownKind,
  LinkThere,
  LinkMissing,
  LinksFull,
  BufferShort,
  NoPart,
  TallyFull,
  OffCurve,
  NoLabel,
  NoKind,
  NoRule,
  NotVersion1,
}

-- 01, What is refused: "Each refusal gives its number and a place." The number of each row of the table
abbrev pub number_of : Why → ℕ
number_of CutShort = 1  -- input ends within a number
number_of NotShortest = 2  -- last group promises another, or form not shortest
number_of WrongVersion = 3  -- version not 1
number_of OutOfRange = 4  -- number outside its field's range
number_of SavingNotBelow = 5  -- saving not below the run before
number_of PowerBelowSavings = 6  -- power below all savings together
number_of LinkNotAbove = 7  -- self-link; in a file also link not above the one before
number_of BytesAfter = 8  -- bytes after the design
number_of Looped = 9  -- loop
number_of TooSlow = 10  -- a path too slow at its fastest
number_of NoBoard = 11  -- no board held
number_of UnknownKind = 12  -- order kind not 1 to 4
number_of LinkThere = 13  -- link to add is there already
number_of LinkMissing = 14  -- link to remove is not there
number_of LinksFull = 15  -- 256 links already
number_of BufferShort = 16  -- buffer shorter than the file to write
number_of NoPart = 17  -- no such part on the board
number_of TallyFull = 18  -- tally's sum is 65,535 or more
number_of OffCurve = 19  -- delay outside the part's curve
number_of NoLabel = 20  -- sheet has no such line or no good label there
number_of NoKind = 21  -- 02, Req 04: the kind is in neither library
number_of NoRule = 22  -- 02, Req 06: a rule that is neither A nor B
number_of NotVersion1 = 23  -- 02, Req 07: cannot be written as version 1

-- the rows of the table, in its order
abbrev pub rows : List Why
rows =
    CutShort
    ∷ NotShortest
    ∷ WrongVersion
    ∷ OutOfRange
    ∷ SavingNotBelow
    ∷ PowerBelowSavings
    ∷ LinkNotAbove
    ∷ BytesAfter
    ∷ Looped
    ∷ TooSlow
    ∷ NoBoard
    ∷ UnknownKind
    ∷ LinkThere
    ∷ LinkMissing
    ∷ LinksFull
    ∷ BufferShort
    ∷ NoPart
    ∷ TallyFull
    ∷ OffCurve
    ∷ NoLabel
    ∷ NoKind
    ∷ NoRule
    ∷ NotVersion1
    ∷ []

-- the refusal that has a number (`by_number`)
abbrev pub by : ℕ → Why
by number = get_or rows (number - 1) NoLabel

-- "Each refusal gives its number and a place."
abbrev pub refusal_at : Why → ℕ → Refusal
refusal_at why place = record { why = why; place = place }

-- what a call comes to: what it gives, or its refusal
abbrev pub Answer : Type 0 → Type 0
Answer A = Result A Refusal

abbrev pub refused : {A : Type 0} → Why → ℕ → Answer A
refused why place = Err (refusal_at why place)

abbrev pub refusal : {A : Type 0} → ℕ → ℕ → Answer A
refusal number place = refused (by number) place

-- a number is one of these
unfoldable pub among : ℕ → List ℕ → Bool
among n [] = false
among n (m ∷ others) = pick (eqb n m) true (among n others)
