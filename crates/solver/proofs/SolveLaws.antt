-- What the solver's contract gives its callers: one answer.
-- Assumes nothing.
use Rattle.std.proofs.Common.{◌≡◌, sym, ap, ◌∙◌}
use Rattle.std.specs.Prelude.{Result, Ok, Err}
use Rattle.refusal.specs.Refusal.{Answer}
use Rattle.refusal.specs.declared.Refusal.{Refusal}
use Rattle.board.specs.declared.Board.{Board}
use Rattle.board.specs.Board.{WellFormed}
use Rattle.slow.specs.Walk.{trail_of}
use Rattle.budget.proofs.BudgetLaws.{holds_once}
use Rattle.solver.specs.declared.Solved.{Solved}
use Rattle.solver.specs.declared.Unsolved.{Unsolved}
use Rattle.solver.specs.Solve.{Solves}
use Rattle.solver.proofs.VerdictLaws.{verdict_once}

-- two results of the contract are refused alike with one path, or have the same budget; of flows there may be many
pub data SameSolved : Result Solved Unsolved → Result Solved Unsolved → Type 0 where
  same_budget : {s s' : Solved} → s.budget ≡ s'.budget → SameSolved (Ok s) (Ok s')
  same_refusal : {u u' : Unsolved} → u.refusal ≡ u'.refusal → u.path ≡ u'.path → SameSolved (Err u) (Err u')

same_err : {e e' : Refusal} → ◌≡◌ {A = Answer Unit} (Err e) (Err e') → e ≡ e'
same_err is = cc

module _ (b : Board) (ok : WellFormed b) where
  pub solves_once : (r r' : Result Solved Unsolved) → Solves b r → Solves b r' → SameSolved r r'
  solves_once (Ok s) (Ok s') so so' = same_budget (holds_once b ok s.budget s'.budget so.holds so'.holds)
  solves_once (Ok s) (Err u') so so' = let same = (verdict_once b ok so.verdict so'.verdict).answer in absurd (cc)
  solves_once (Err u) (Ok s') so so' = let same = (verdict_once b ok so.verdict so'.verdict).answer in absurd (cc)
  solves_once (Err u) (Err u') so so' =
      let same = verdict_once b ok so.verdict so'.verdict in
      same_refusal (same_err same.answer) (so.listed ∙ ap trail_of same.listed ∙ sym so'.listed)
