-- The ways of reading back.
-- Assumes nothing.
use Rattle.std.proofs.Common.{◌≡◌, ℕ, zero, suc, ◌+◌, ◌-◌, ◌<◌, ◌≤◌, ltb, List, ◌++◌, length, get_or, set, replicate, take, drop, sym, refl, ap, ◌∙◌, arith}
use Rattle.std.proofs.Math.ListN.{get_or-append}
use Rattle.std.proofs.lemmas.List.{get_or-take, get_or-drop, get_or-append-add, length-take-le}
use Rattle.base.specs.Pick.{pick}
use Rattle.base.specs.Table.{table, firsts}
use Rattle.base.proofs.Cases.{finished}
use Rattle.base.proofs.TableLaws.{table_ext, firsts_none, firsts_more}
use Rattle.theory.specs.Sum.{cells}
use Rattle.curve.specs.declared.Ticks.{Ticks}
use Rattle.curve.specs.Rows.{no_ticks, ticks_row}
use Rattle.curve.proofs.RowLaws.{ticks}
use Rattle.board.specs.declared.Board.{Board}
use Rattle.board.specs.Board.{view}
use Rattle.budget.specs.declared.Budget.{Budget}
use Rattle.budget.specs.Made.{budget_of, value_of}
use Rattle.nets.specs.Wired.{times_of}
use Rattle.solver.specs.Reading.{nodes_from, FlowIn}

-- ---- `nodes_from`
module _ (t : List ℕ) (first : ℕ) where
  pub nodes_none : (xs : List Ticks) → xs ≡ table 64 (λ p. no_ticks) → xs ≡ nodes_from t first 0
  unfolding nodes_from
  nodes_none = firsts_none no_ticks _

  pub nodes_more : (xs : List Ticks) (k n : ℕ) → k < n → n ≤ 64 → xs ≡ nodes_from t first k →
      set xs k (record { 0 = get_or t (first + k) 0 }) ≡ nodes_from t first (k + 1)
  unfolding nodes_from
  nodes_more xs k n h few is = firsts_more no_ticks _ xs k _ (omega arith) is refl

  pub nodes_done : (xs : List Ticks) (k n : ℕ) → k ≤ n → n ≤ k → xs ≡ nodes_from t first k → xs ≡ nodes_from t first n
  nodes_done xs k n = finished (λ i. nodes_from t first i)

-- ---- `budget_at`
module _ (b : Board) (t : List ℕ) (start end : List Ticks) (is : start ≡ nodes_from t 0 b.parts) (ie : end ≡ nodes_from t 64 b.parts) where
  pub settled_value : (r : Budget) → r ≡ budget_of b start end → r ≡ value_of b (times_of (view b) (cells t))
  unfolding value_of nodes_from firsts
  settled_value r said =
      let s : start ≡ ticks_row b.parts (cells t) =
      is ∙ table_ext no_ticks 64 _ _ (λ p h. ap (λ (v : ℕ). pick (ltb p b.parts) (ticks v) no_ticks) (ap (cells t) (let z : 0 + p ≡ p = omega arith in z))) in
      said ∙ ap (λ (l : List Ticks). budget_of b l end) s ∙ ap (λ (l : List Ticks). budget_of b (ticks_row b.parts (cells t)) l) ie

-- ---- `flow_of`
zeros_at : (n a : ℕ) → cells (replicate n 0) a ≡ 0
zeros_at zero a = refl
zeros_at (suc n) zero = refl
zeros_at (suc n) (suc a) = zeros_at n a

flow_part : (x loads z : List ℕ) (arcs : ℕ) → arcs ≤ length x → loads ≡ take arcs x → ((a : ℕ) → cells z a ≡ 0) → FlowIn x arcs (loads ++ drop arcs z)
flow_part x loads z arcs few is none =
    let long : length loads ≡ arcs = rw is (length-take-le arcs x few) in
    record {
      loads = λ a h. get_or-append loads (drop arcs z) 0 a (omega arith) ∙ rw is (get_or-take arcs x a 0 h);
      past = λ a h.
          let e : length loads + (a - arcs) ≡ a = omega arith in
          ap (cells (loads ++ drop arcs z)) (sym e)
          ∙ get_or-append-add loads (drop arcs z) (a - arcs) 0
          ∙ get_or-drop arcs z (a - arcs) 0
          ∙ none (arcs + (a - arcs));
    }

pub flow_done : (x loads : List ℕ) (arcs : ℕ) → length x ≡ 448 → arcs ≤ 448 → loads ≡ take arcs x → FlowIn x arcs (loads ++ drop arcs (replicate 448 0))
flow_done x loads arcs room few is = flow_part x loads (replicate 448 0) arcs (omega arith) is (zeros_at 448)
