-- Demand 2: "A load is accepted, and holds the board that its file describes, exactly when no listed refusal applies."
-- Assumes nothing.
use mathlib.Core.Path.{◌≡◌, refl, sym, ap, subst, ◌∙◌}
use mathlib.Core.List.{List}
use Prim.Native.Nat.{ℕ}
use lib.ListN.{length}
use Rattle.refusal.specs.Refusal.{Answer}
use Rattle.std.specs.Prelude.{Ok, Err}
use Rattle.board.specs.declared.Rule.{Rule}
use Rattle.board.specs.declared.Board.{Board}
use Rattle.board.specs.Board.{WellFormed, rule_number, under_rule}
use Rattle.board.proofs.UsableLaws.{one_rule}
use Rattle.groups.specs.Parse.{Parse}
use Rattle.design.specs.Design.{design_of, file_of}
use Rattle.design.proofs.DesignLaws.{written_read, written_read_under}
use Rattle.desk.specs.declared.Tally.{Tally}
use Rattle.desk.specs.declared.Desk.{Desk}
use Rattle.desk.specs.declared.Loaded.{Loaded}
use Rattle.desk.specs.Load.{tally_loaded, LoadJudged, LoadParsed, LoadRead, LoadSaid}
use Rattle.desk.specs.Load as load
use Rattle.solver.proofs.VerdictLaws.{verdict_done}
use Rattle.desk.proofs.Tried.{never}
use Rattle.demands.specs.Boards.{Plannable}
use Rattle.demands.specs.Loads.{Describes, Accepted, Came}
use Rattle.demands.proofs.Steps.{kept_plannable}

module _ (d : Desk) (t : Tally) (r : Loaded) where
  judged_accepted : (b : Board) → r.answer ≡ Ok tt → LoadJudged b d t r → Accepted b r
  judged_accepted b done j = record {
    done = done;
    holding = j.judged.holding done;
    board = j.judged.board done;
    tally = j.tally ∙ ap (λ (a : Answer Unit). tally_loaded a t) done;
  }

  judged_done : (b : Board) → Plannable b → LoadJudged b d t r → r.answer ≡ Ok tt
  judged_done b ok j = verdict_done b ok.formed ok.free ok.budget j.judged.verdict

  -- a load that names a rule reads under it
  pub said_read : (named : Rule) (s : List ℕ) → LoadSaid d (rule_number named) s t r → LoadRead d named s t r
  said_read named s (load.unruled none is) = absurd (none named refl)
  said_read named s (load.ruled other e read) = subst (λ (x : Rule). LoadRead d x s t r) (sym (one_rule named other e)) read

  -- where no refusal applies, the load is accepted;
  pub load_accepts : (named : Rule) (s : List ℕ) (b : Board) → Describes named s b → Plannable b → LoadSaid d (rule_number named) s t r → Accepted b r
  load_accepts named s b file ok said =
      let j : LoadJudged b d t r = subst (λ (p : Parse Board). LoadParsed p d t r) file.read (said_read named s said).parsed in
      judged_accepted b (judged_done b ok j) j

  -- where it is accepted, none applied, and the board is the file's
  parsed_came : (named : Rule) (s : List ℕ) (p : Parse Board) → design_of named s ≡ p → LoadParsed p d t r → r.answer ≡ Ok tt → Came (rule_number named) s r
  parsed_came named s (Err x) e is done = never (sym (ap (λ (x : Loaded). x.answer) is) ∙ done)
  parsed_came named s (Ok x) e j done =
      let so = judged_accepted x.value done j in
      record {
        named = named;
        numbered = refl;
        of = x.value;
        file = record { size = x.next; read = e };
        plannable = rw so.board at (kept_plannable so.holding.held.board so.holding.held.budget so.holding.kept);
        so = so;
      }

  pub load_accepted : (rule : ℕ) (s : List ℕ) → LoadSaid d rule s t r → r.answer ≡ Ok tt → Came rule s r
  load_accepted rule s (load.unruled none is) done = never (sym (ap (λ (x : Loaded). x.answer) is) ∙ done)
  load_accepted rule s (load.ruled named e read) done =
      subst (λ (x : ℕ). Came x s r) (sym e) (parsed_came named s (design_of named s) refl read.parsed done)

  -- every board without a loop that has any budget at all is loaded from the file that is written of it, under its own rule;
  pub written_loads : (b : Board) → Plannable b → LoadSaid d (rule_number b.rule) (file_of b) t r → Accepted b r
  written_loads b ok said = load_accepts b.rule (file_of b) b (record { size = length (file_of b); read = written_read b ok.formed }) ok said

  -- under the other rule it is the board that differs in the rule alone, if that can be planned
  pub written_loads_under : (named : Rule) (b : Board) → WellFormed b → Plannable (under_rule named b) → LoadSaid d (rule_number named) (file_of b) t r → Accepted (under_rule named b) r
  written_loads_under named b w ok said =
      load_accepts named (file_of b) (under_rule named b) (record { size = length (file_of b); read = written_read_under named b w }) ok said
