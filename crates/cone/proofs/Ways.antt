-- The ways through the functions of this crate, in plain values.
-- Assumes nothing.
use Rattle.std.proofs.Common.{◌≡◌, ℕ, zero, suc, ◌+◌, ◌-◌, ◌≤◌, Bool, true, List, length, get_or, sym, refl, ap, ◌∙◌, add-zero, add-suc, add-one, arith}
use Rattle.std.specs.Prelude.{Some, None}
use Rattle.base.proofs.Cases.{finished}
use Rattle.marks.specs.Marks.{has_of, one_of, insert_of, union_of, without_of, lowest_of}
use Rattle.board.specs.declared.Link.{Link}
use Rattle.board.specs.Board.{no_link}
use Rattle.cone.specs.declared.Sweep.{Sweep}
use Rattle.marks.specs.Rows.{with_mark, marks_up_to}
use Rattle.marks.proofs.Rows.{marks_more}
use Rattle.cone.specs.Sweeps.{rows_of, columns_of, visited_of, step_of, sweep_up_to, reached_of, cone_of, on_loop_of}

-- ---- `rows`, `columns`
module _ (link : List Link) where
  abbrev pub rows_to : ℕ → List ℕ
  rows_to k = marks_up_to (λ l. true) (λ l. (get_or link l no_link).from) (λ l. (get_or link l no_link).to) k

  pub rows_more : (s r : List ℕ) (k : ℕ) → s ≡ rows_to k → r ≡ with_mark s (get_or link k no_link).from (get_or link k no_link).to → r ≡ rows_to (k + 1)
  rows_more s r k is new = marks_more _ _ _ s r k is refl new

  pub rows_done : (s : List ℕ) (k : ℕ) → k ≤ length link → length link ≤ k → s ≡ rows_to k → s ≡ rows_of link
  unfolding rows_of
  rows_done s k l h is = finished rows_to l h is

  abbrev pub columns_to : ℕ → List ℕ
  columns_to k = marks_up_to (λ l. true) (λ l. (get_or link l no_link).to) (λ l. (get_or link l no_link).from) k

  pub columns_more : (s r : List ℕ) (k : ℕ) → s ≡ columns_to k → r ≡ with_mark s (get_or link k no_link).to (get_or link k no_link).from → r ≡ columns_to (k + 1)
  columns_more s r k is new = marks_more _ _ _ s r k is refl new

  pub columns_done : (s : List ℕ) (k : ℕ) → k ≤ length link → length link ≤ k → s ≡ columns_to k → s ≡ columns_of link
  unfolding columns_of
  columns_done s k l h is = finished columns_to l h is

-- ---- `visited`, `reached`
pub visited_so : (s : Sweep) (p row d u t : ℕ) → d ≡ insert_of s.done p → u ≡ union_of s.todo row → t ≡ without_of u d → record { done = d; todo = t } ≡ visited_of s p row
unfolding visited_of
visited_so s p row d u t ed eu et = rw (et, eu, ed)

module _ (rows : List ℕ) (from : ℕ) where
  pub sweep_none : record { done = 0; todo = from } ≡ sweep_up_to rows from 0
  unfolding sweep_up_to
  sweep_none = refl

  pub sweep_more : (s r : Sweep) (k p : ℕ) → s ≡ sweep_up_to rows from k → Some p ≡ lowest_of s.todo → r ≡ visited_of s p (get_or rows p 0) → r ≡ sweep_up_to rows from (k + 1)
  unfolding sweep_up_to step_of
  sweep_more s r k p is ep er = rw (add-one, ← is, ← ep) er

  -- a sweep that has nothing to visit stays
  sweep_stays : (k d : ℕ) → lowest_of (sweep_up_to rows from k).todo ≡ None → sweep_up_to rows from (k + d) ≡ sweep_up_to rows from k
  unfolding sweep_up_to step_of
  sweep_stays k zero h = rw add-zero
  sweep_stays k (suc d) h = rw (add-suc, sweep_stays k d h, h)

  pub sweep_stopped : (s : Sweep) (k : ℕ) → s ≡ sweep_up_to rows from k → k ≤ 64 → None ≡ lowest_of s.todo → s.done ≡ reached_of rows from
  unfolding reached_of
  sweep_stopped s k is h e =
      let none : lowest_of (sweep_up_to rows from k).todo ≡ None = rw (← is) (sym e) in
      let sum : k + (64 - k) ≡ 64 = omega arith in
      let all : sweep_up_to rows from 64 ≡ sweep_up_to rows from k = rw sum at (sweep_stays k (64 - k) none) in
      ap (λ (x : Sweep). x.done) (is ∙ sym all)

  pub sweep_done : (s : Sweep) (k : ℕ) → s ≡ sweep_up_to rows from k → k ≤ 64 → 64 ≤ k → s.done ≡ reached_of rows from
  unfolding reached_of
  sweep_done s k is l h = ap (λ (x : Sweep). x.done) (finished (sweep_up_to rows from) l h is)

-- ---- `cone`, `on_loop`
pub cone_so : (rows : List ℕ) (p o r : ℕ) → o ≡ one_of p → r ≡ reached_of rows o → r ≡ cone_of rows p
unfolding cone_of
cone_so rows p o r eo er = rw (← eo) er

pub on_loop_so : (rows : List ℕ) (p r : ℕ) (t : Bool) → r ≡ reached_of rows (get_or rows p 0) → t ≡ has_of r p → t ≡ on_loop_of rows p
unfolding on_loop_of
on_loop_so rows p r t er et = rw (← er) et
