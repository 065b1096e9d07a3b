-- The ways through `write`.
-- Assumes nothing.
use mathlib.Core.Path.{◌≡◌, refl, sym}
use mathlib.Core.List.{List}
use Prim.Native.Nat.{ℕ}
use Rattle.std.specs.Prelude.{Ok, Err, IsErrAnd}
use Rattle.refusal.specs.declared.Refusal.{Refusal}
use Rattle.refusal.specs.Refusal.{Answer}
use Rattle.design_write.specs.Write.{FileWritten}
use Rattle.desk.specs.declared.Held.{Held}
use Rattle.desk.specs.declared.Desk.{Desk}
use Rattle.desk.specs.Held.{held_in}
use Rattle.desk.specs.Write.{written_of, after_write, WriteGiven}
use Rattle.desk.proofs.Tried.{exits, in_some, in_none, standing_kept}

module _ (d : Desk) (buf : List ℕ) where
  pub write_none : (e : Refusal) (r : Answer Unit) → Err e ≡ held_in d → IsErrAnd r (λ x. x ≡ e) → WriteGiven d buf r buf
  unfolding written_of after_write
  write_none e r is exit =
      let none = in_none d (sym is) in
      record { answer = λ so. rw (exits r e exit, none.0, none.1); buffer = λ so. rw none.0; stays = λ e' f. refl }

  module _ (h : Held) (is : Ok h ≡ held_in d) where
    pub write_file : (r : Answer Unit) (buf' : List ℕ) → FileWritten h.board buf r buf' → WriteGiven d buf r buf'
    unfolding written_of after_write
    write_file r buf' file = record {
      answer = λ so. rw (in_some d (sym is)) (file.formed (standing_kept so (in_some d (sym is))).formed).0;
      buffer = λ so. rw (in_some d (sym is)) (file.formed (standing_kept so (in_some d (sym is))).formed).1;
      stays = file.stays;
    }
