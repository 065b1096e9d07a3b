-- Demand 2: "Boards written are read back equal; accepted files are rewritten byte for byte", of load and write themselves.
-- Assumes nothing.
use mathlib.Core.Path.{◌≡◌, refl, sym, ap, subst, ◌∙◌}
use mathlib.Core.Logic.{◌↔◌}
use mathlib.Core.Bool.{Bool, true, false}
use mathlib.Core.List.{List, ◌++◌}
use Prim.Native.Nat.{ℕ, ◌≤◌}
use lib.Dec.{ltb}
use lib.ListN.{length, take, drop}
use lib.Seq.{take-append_seam}
use borrow.Author.Tests.{le-ltb, ltb-false}
use Rattle.base.specs.Pick.{pick}
use Rattle.refusal.specs.Refusal.{Answer}
use Rattle.std.specs.Prelude.{Ok}
use Rattle.groups.proofs.RoundTrip.{Bytes}
use Rattle.board.specs.Board.{rule_number}
use Rattle.design.specs.Design.{file_of}
use Rattle.design.proofs.DesignLaws.{read_written}
use Rattle.design_write.specs.Write.{write_of, buffer_of}
use Rattle.desk.specs.declared.Tally.{Tally}
use Rattle.desk.specs.declared.Desk.{Desk}
use Rattle.desk.specs.declared.Loaded.{Loaded}
use Rattle.desk.specs.Held.{Holding, holding}
use Rattle.desk.specs.Load.{LoadSaid}
use Rattle.desk.specs.Write.{written_of, after_write, WriteGiven}
use Rattle.desk.proofs.Tried.{never}
use Rattle.demands.specs.Same.{SameDesk}
use Rattle.demands.specs.Loads.{Accepted}
use Rattle.demands.proofs.Steps.{kept_plannable}
use Rattle.demands.proofs.Once.{one_board}
use Rattle.demands.proofs.LoadLaws.{load_accepted, written_loads}

module _ (d : Desk) (h : Holding d) (buf : List ℕ) (a : Answer Unit) (buf' : List ℕ) (given : WriteGiven d buf a buf') where
  -- the file that is written
  abbrev file : List ℕ
  file = file_of h.held.board

  -- with room the whole file stands at the front, and the buffer past it is as it was
  room_writes : length file ≤ length buf → (a ≡ Ok tt) × (buf' ≡ file ++ drop (length file) buf)
  unfolding written_of after_write write_of buffer_of pick
  room_writes room =
      let fits = le-ltb (length buf) (length file) room in
      (rw (h.is, fits) at (given.answer (holding h)), rw (h.is, fits) at (given.buffer (holding h)))

  room_by : (short : Bool) → ltb (length buf) (length file) ≡ short → a ≡ Ok tt → length file ≤ length buf
  unfolding written_of write_of pick
  room_by true is done = never (sym (rw (h.is, is) at (given.answer (holding h))) ∙ done)
  room_by false is done = ltb-false (length buf) (length file) is

  accepted_room : a ≡ Ok tt → length file ≤ length buf
  accepted_room = room_by (ltb (length buf) (length file)) refl

  -- a write is accepted exactly when the file has room
  pub write_accepted : (a ≡ Ok tt) ↔ (length file ≤ length buf)
  write_accepted = (accepted_room, λ room. (room_writes room).0)

  -- "when accepted it leaves the buffer past the file as it was"
  pub write_writes : a ≡ Ok tt → buf' ≡ file ++ drop (length file) buf
  write_writes done = (room_writes (accepted_room done)).1

  -- "Boards written are read back equal", "under the held rule": what an accepted write put at the front is accepted by any load that names it, with
  -- an equal board and an equal budget
  pub write_load :
      a ≡ Ok tt → (d₀ : Desk) (t : Tally) (r : Loaded) → LoadSaid d₀ (rule_number h.held.board.rule) (take (length file) buf') t r → Accepted h.held.board r × SameDesk r.desk d
  write_load done d₀ t r said =
      let front : take (length file) buf' ≡ file =
      ap (take (length file)) (write_writes done) ∙ take-append_seam file (drop (length file) buf) in
      let b = h.held.board in
      let so = written_loads d₀ t r b (kept_plannable b h.held.budget h.kept) (subst (λ (s : List ℕ). LoadSaid d₀ (rule_number b.rule) s t r) front said) in
      (so, one_board r.desk d so.holding h so.board)

-- "accepted files are rewritten byte for byte", and the rest of the buffer is as it was
pub load_write :
    (d : Desk) (t : Tally) (r : Loaded) (rule : ℕ) (s : List ℕ) → Bytes s → LoadSaid d rule s t r → r.answer ≡ Ok tt →
    (buf : List ℕ) (a : Answer Unit) (buf' : List ℕ) → WriteGiven r.desk buf a buf' → length s ≤ length buf →
    (a ≡ Ok tt) × (buf' ≡ s ++ drop (length s) buf)
load_write d t r rule s bytes said done buf a buf' given room =
    let came = load_accepted d t r rule s said done in
    let same : file_of came.so.holding.held.board ≡ s = ap file_of came.so.board ∙ read_written came.named s came.of came.file.size bytes came.file.read in
    let w = room_writes r.desk came.so.holding buf a buf' given (rw same room) in
    (w.0, rw same at w.1)
