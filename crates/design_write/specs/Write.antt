-- A board written to a buffer: "A write: 11, 16"; whether a board is held is asked above, and a value that is not well formed is none.
-- Assumes nothing.
use Rattle.std.specs.Prelude.{◌≡◌, ℕ, List, ◌++◌, ltb, length, drop, Option, Some, None, Ok, Err}
use Rattle.base.specs.Pick.{pick}
use Rattle.refusal.specs.declared.Refusal.{Refusal}
use Rattle.refusal.specs.Refusal.{Answer, refusal}
use Rattle.board.specs.declared.Board.{Board}
use Rattle.board.specs.Board.{WellFormed}
use Rattle.design.specs.Design.{file_of}

-- 16: "buffer shorter than the file to write", place: "bytes needed"
unfoldable pub write_of : Board → List ℕ → Answer Unit
write_of b buf = pick (ltb (length buf) (length (file_of b))) (refusal 16 (length (file_of b))) (Ok tt)

-- a refusal changes no buffer; "when accepted it leaves the buffer past the file as it was"
unfoldable pub buffer_of : Board → List ℕ → List ℕ
buffer_of b buf = pick (ltb (length buf) (length (file_of b))) buf (file_of b ++ drop (length (file_of b)) buf)

-- what is promised of the count of bytes, for any value: those of the board's file, or none
pub record FileCounted (b : Board) (r : Option ℕ) : Type 0 where
  pub formed : WellFormed b → r ≡ Some (length (file_of b))
  pub none : (WellFormed b → ⊥) → r ≡ None

-- what is promised of a write, for any value: its answer, what the buffer then holds, and that a refusal leaves it as it was
pub record FileWritten (b : Board) (buf : List ℕ) (r : Answer Unit) (buf' : List ℕ) : Type 0 where
  pub formed : WellFormed b → (r ≡ write_of b buf) × (buf' ≡ buffer_of b buf)
  pub none : (WellFormed b → ⊥) → (r ≡ refusal 11 0) × (buf' ≡ buf)
  pub stays : (e : Refusal) → r ≡ Err e → buf' ≡ buf
