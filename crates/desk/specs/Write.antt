-- 01: "A write: 11, 16; when accepted it leaves the buffer past the file as it was."
-- Assumes nothing.
use Rattle.std.specs.Prelude.{◌≡◌, List, ℕ, Err}
use Rattle.refusal.specs.declared.Refusal.{Refusal}
use Rattle.refusal.specs.Refusal.{Answer}
use Rattle.design_write.specs.Write.{write_of, buffer_of}
use Rattle.desk.specs.declared.Desk.{Desk}
use Rattle.desk.specs.Held.{Standing, ◌>>=◌, where_held, held_in}

-- 11 where no board is held; else 16, or the file of the board
unfoldable pub written_of : Desk → List ℕ → Answer Unit
written_of d buf = do
  held ← held_in d
  write_of held.board buf

-- what the buffer then holds
unfoldable pub after_write : Desk → List ℕ → List ℕ
after_write d buf = where_held d.held buf (λ held. buffer_of held.board buf)

-- what is promised of a write: all of that on a desk that stands, and on any desk that a refusal leaves the buffer as it was
pub record WriteGiven (d : Desk) (buf : List ℕ) (r : Answer Unit) (buf' : List ℕ) : Type 0 where
  pub answer : Standing d → r ≡ written_of d buf
  pub buffer : Standing d → buf' ≡ after_write d buf
  pub stays : (e : Refusal) → r ≡ Err e → buf' ≡ buf
