-- What a program knows of its output: how the page is filled, what comes of a write that failed, and, where the writer tells what it holds, that
-- nothing which is put on the page is lost.
-- Assumes nothing.
use Rattle.std.specs.Prelude.{◌≡◌, ℕ, List, ◌++◌, take, IsSome}
use Rattle.std.specs.declared.option.Option.{Option}
use Rattle.std.specs.Io.KnownBytes.{append_known, Appends}
use Rattle.io.specs.Digits.{last_digits, IsDigitCount}
use Rattle.console.specs.Page.{text_on, text_end}
use Rattle.console.specs.declared.Out.{Out}

abbrev pub out_writer : {W : Type 0} → Out W → W
out_writer out = out.writer

-- a write failed
abbrev pub HasFailed : {W : Type 0} → Out W → Type 0
HasFailed out = IsSome out.failed

-- from the first write that failed on, its error is kept and nothing more is written
abbrev pub Stays : {W : Type 0} → Out W → Out W → Type 0
Stays old new = HasFailed old → (new.failed ≡ old.failed) × (new.writer ≡ old.writer)

-- the writer then holds these bytes too, unless a write failed
abbrev pub WritesTo : {W : Type 0} → (W → Option (List ℕ)) → Out W → Out W → List ℕ → Type 0
WritesTo contents old new bytes = ¬ (HasFailed new) → Appends (contents old.writer) (contents new.writer) bytes

-- what the writer holds, and after it what the page is filled with
abbrev pub so_far : {W : Type 0} → (W → Option (List ℕ)) → Out W → Option (List ℕ)
so_far contents out = append_known (contents out.writer) (take out.at out.page)

-- the writer and the page together then hold these bytes too, unless a write failed: nothing that was put on the page is lost
abbrev pub GoesOn : {W : Type 0} → (W → Option (List ℕ)) → Out W → Out W → List ℕ → Type 0
GoesOn contents old new bytes = ¬ (HasFailed new) → Appends (so_far contents old) (so_far contents new) bytes

-- these bytes were put on the page, and nothing else was done
pub record Put {W : Type 0} (contents : W → Option (List ℕ)) (old new : Out W) (bytes : List ℕ) : Type 0 where
  pub filled : new.at ≡ text_end old.at bytes
  pub holds : new.page ≡ text_on old.page old.at bytes
  pub stays : Stays old new
  pub goes_on : GoesOn contents old new bytes

-- a word was, and then a number in decimal digits, as few as it needs
pub record NumberPut {W : Type 0} (contents : W → Option (List ℕ)) (old new : Out W) (word : List ℕ) (n : ℕ) : Type 0 where
  pub places : ℕ
  pub fewest : IsDigitCount 10 1 n places
  pub put : Put contents old new (word ++ last_digits 10 places n)
