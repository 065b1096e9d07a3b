-- A board written to a buffer is read back from its front; of any value two counts and two writes are the same.
-- Assumes nothing.
use mathlib.Core.Path.{◌≡◌, sym, ◌∙◌}
use mathlib.Core.Logic.{⊎_elim}
use mathlib.Core.List.{List}
use Prim.Native.Nat.{ℕ, ◌≤◌}
use lib.ListN.{length, take, drop}
use lib.Seq.{take-append_seam}
use borrow.Author.Tests.{le-ltb}
use Rattle.std.specs.Prelude.{Option}
use Rattle.base.specs.Pick.{pick}
use Rattle.refusal.specs.Refusal.{Answer}
use Rattle.groups.specs.Parse.{got}
use Rattle.board.specs.declared.Board.{Board}
use Rattle.board.specs.Board.{WellFormed}
use Rattle.board.proofs.TestLaws.{formed_or_not}
use Rattle.design.specs.Design.{design_of, file_of}
use Rattle.design.proofs.DesignLaws.{written_read}
use Rattle.design_write.specs.Write.{buffer_of, FileCounted, FileWritten}

pub buffer_read : (b : Board) (buf : List ℕ) → WellFormed b → length (file_of b) ≤ length buf → design_of b.rule (take (length (file_of b)) (buffer_of b buf)) ≡ got b (length (file_of b))
unfolding buffer_of pick
buffer_read b buf w room =
    rw (le-ltb (length buf) (length (file_of b)) room, take-append_seam (file_of b) (drop (length (file_of b)) buf)) (written_read b w)

-- ---- one result for each value
module _ (b : Board) where
  either : {A : Type 0} → (WellFormed b → A) → ((WellFormed b → ⊥) → A) → A
  either formed none = ⊎_elim formed none (formed_or_not b)

  pub one_count : (r r' : Option ℕ) → FileCounted b r → FileCounted b r' → r ≡ r'
  one_count r r' one two = either (λ w. one.formed w ∙ sym (two.formed w)) (λ no. one.none no ∙ sym (two.none no))

  pub one_write :
      (buf : List ℕ) (r r' : Answer Unit) (buf₁ buf₂ : List ℕ) → FileWritten b buf r buf₁ → FileWritten b buf r' buf₂ → (r ≡ r') × (buf₁ ≡ buf₂)
  one_write buf r r' buf₁ buf₂ one two =
      either
      (λ w. ((one.formed w).0 ∙ sym (two.formed w).0, (one.formed w).1 ∙ sym (two.formed w).1))
      (λ no. ((one.none no).0 ∙ sym (two.none no).0, (one.none no).1 ∙ sym (two.none no).1))
