-- A well-formed board has one verdict: a loop, a path too slow, or neither, with one place and one path.
-- Assumes nothing.
use Rattle.std.proofs.Common.{◌≡◌, ℕ, List, refl, ap}
use Rattle.std.specs.Prelude.{Some, None, Ok}
use Rattle.refusal.specs.Refusal.{Answer, refused}
use Rattle.refusal.specs.declared.Why.TheVariants.{Looped, TooSlow}
use Rattle.theory.specs.Graph.{Times}
use Rattle.theory.specs.Budget.{Budget}
use Rattle.board.specs.declared.Board.{Board}
use Rattle.board.specs.Board.{usable, view, WellFormed}
use Rattle.board.specs.Leads.{LoopFree}
use Rattle.cone.specs.Cone.{LowestOnLoop}
use Rattle.cone.proofs.Loops.{loop_said_once, loop_free_ranked}
use Rattle.slow.specs.Slow.{Loopless}
use Rattle.slow.proofs.SlowLaws.{in_time_not_slow, slow_ticks_once, slow_path_once, budget_not_slow}
use Rattle.solver.specs.Verdict.{Verdict, looped, slow, fine}

module _ (b : Board) (w : WellFormed b) where
  -- "9, 10": a loop comes first
  loop_once : {p q : ℕ} → LowestOnLoop b p → LowestOnLoop b q → p ≡ q
  loop_once {p} {q} x y = let same = loop_said_once b w (Some p) (Some q) x y in cc

  loop_not_free : {A : Type 0} {p : ℕ} → LowestOnLoop b p → LoopFree b → A
  loop_not_free {p = p} x free =
      let same = loop_said_once b w (Some p) None x free in
      absurd (cc)

  pub free_loopless : LoopFree b → Loopless b
  free_loopless free = record { formed = w; ranked = loop_free_ranked b w free }

  pub record SameVerdict (a a' : Answer Unit) (path path' : List ℕ) : Type 0 where
    pub answer : a ≡ a'
    pub listed : path ≡ path'

  -- two verdicts are one
  pub verdict_once : {a a' : Answer Unit} {path path' : List ℕ} → Verdict b a path → Verdict b a' path' → SameVerdict a a' path path'
  verdict_once (looped x) (looped y) = record { answer = ap (λ (p : ℕ). refused Looped p) (loop_once x y); listed = refl }
  verdict_once (looped x) (slow free y) = loop_not_free x free
  verdict_once (looped x) (fine free k) = loop_not_free x free
  verdict_once (slow free x) (looped y) = loop_not_free y free
  verdict_once (slow free x) (slow free' y) = record {
    answer = ap (λ (ticks : ℕ). refused TooSlow ticks) (slow_ticks_once b (free_loopless free) x y);
    listed = slow_path_once b (free_loopless free) x y;
  }
  verdict_once (slow free x) (fine free' k) = in_time_not_slow b (free_loopless free) k x
  verdict_once (fine free k) (looped y) = loop_not_free y free
  verdict_once (fine free k) (slow free' y) = in_time_not_slow b (free_loopless free) k y
  verdict_once (fine free k) (fine free' k') = record { answer = refl; listed = refl }

  -- a board without a loop that has any budget at all is refused for nothing
  pub verdict_done : LoopFree b → {τ : Times} → Budget (view b) (usable b) τ → {a : Answer Unit} {path : List ℕ} → Verdict b a path → a ≡ Ok tt
  verdict_done free budget (looped x) = loop_not_free x free
  verdict_done free budget (slow free' x) = budget_not_slow b (free_loopless free) budget x
  verdict_done free budget (fine free' k) = refl
