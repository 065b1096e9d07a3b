-- The ways through the wiring: an arc put, a block of arcs one by one, the runs.
-- Assumes nothing.
use Rattle.std.proofs.Common.{◌≡◌, ℕ, ◌+◌, ◌/◌, ◌%◌, ◌<◌, ◌≤◌, List, length, get_or, set, sym, refl, ap, ◌∙◌, arith, length-set, get_or-set_other, get_or-set_same, w64, Fits}
use native.Mathlib.Decide.{ℕ_discrete}
use Rattle.theory.specs.Sum.{cells}
use Rattle.nets.specs.declared.Net.{Net}
use Rattle.curve.specs.Curve.{no_run, length_at, saving_at}
use Rattle.board.specs.declared.Board.{Board}
use Rattle.board.specs.Board.{WellFormed, view, curve_at, link_at, delay_of}
use Rattle.solver.specs.Wiring.{Span, span, span_in, part_span, link_span, entry_span, exit_span, PutIn, LaidIn, Runs}

-- ---- one arc
-- a cell of a list of 448 is put
module _ (l : List ℕ) (a y : ℕ) (long : length l ≡ 448) (h : a < 448) where
  here : cells (set l a y) a ≡ y
  here = get_or-set_same l a y 0 (omega arith)

pub put_done : (net : Net) (a from to ticks : ℕ) → length net.tail ≡ 448 → length net.head ≡ 448 → length net.base ≡ 448 → a < 448 →
    PutIn a (span from to ticks) net (record net { tail = set net.tail a from; head = set net.head a to; base = set net.base a ticks })
put_done net a from to ticks t u v h = record {
  here = rw (here net.tail a from t h, here net.head a to u h, here net.base a ticks v h);
  there = λ i d. rw (get_or-set_other net.tail a i from 0 d, get_or-set_other net.head a i to 0 d, get_or-set_other net.base a i ticks 0 d);
}

-- ---- a block of arcs
-- one number more below a count
one_more : (P : ℕ → Type 0) (k : ℕ) → ((i : ℕ) → i < k → P i) → P k → (i : ℕ) → i < k + 1 → P i
one_more P k all here i h = elim (ℕ_discrete i k) [ yes e ↦ rw e here | no d ↦ all i (omega arith) ]

module _ (first : ℕ) (s : ℕ → Span) (net : Net) where
  pub laid_none : LaidIn first 0 s net net
  laid_none = record { laid = λ i h. absurd (omega arith); kept = λ a h. refl }

  laid_more : (k : ℕ) (net' net'' : Net) (a : ℕ) → a ≡ first + k → LaidIn first k s net net' → PutIn a (s k) net' net'' → LaidIn first (k + 1) s net net''
  laid_more k net' net'' a e was p = record {
    laid = one_more _ k (λ i h. p.there (first + i) (λ q. omega arith) ∙ was.laid i h) (ap (span_in net'') (sym e) ∙ p.here);
    kept = λ i h. p.there i (λ q. omega arith) ∙ was.kept i h;
  }

  pub laid_done : (net' : Net) (k n : ℕ) → k ≤ n → n ≤ k → LaidIn first k s net net' → LaidIn first n s net net'
  laid_done net' k n l h is = let e : k ≡ n = omega arith in rw e at is

module _ (b : Board) (ok : WellFormed b) (k : ℕ) (net net' net'' : Net) where
  pub parts_more : k < b.parts → LaidIn 0 k (part_span b) net net' → PutIn k (span k (64 + k) (curve_at b k).fastest.0) net' net'' →
      LaidIn 0 (k + 1) (part_span b) net net''
  unfolding view
  parts_more h l p = laid_more 0 (part_span b) net k net' net'' k (omega arith) l p

  pub links_more : k < b.links → (w : ℕ) → w ≡ delay_of (link_at b k) → LaidIn b.parts k (link_span b) net net' →
      PutIn (b.parts + k) (span (64 + (link_at b k).from) (link_at b k).to w) net' net'' →
      LaidIn b.parts (k + 1) (link_span b) net net''
  unfolding view
  links_more h w e l p = laid_more b.parts (link_span b) net k net' net'' (b.parts + k) refl l (rw e at p)

  pub entries_more : k < b.parts → LaidIn (b.parts + b.links) k entry_span net net' → PutIn (b.parts + b.links + k) (span 128 k 0) net' net'' →
      LaidIn (b.parts + b.links) (k + 1) entry_span net net''
  entries_more h l p = laid_more (b.parts + b.links) entry_span net k net' net'' _ refl l p

  pub exits_more : k < b.parts → LaidIn (b.parts + b.links + b.parts) k exit_span net net' →
      PutIn (b.parts + b.links + b.parts + k) (span (64 + k) 129 0) net' net'' →
      LaidIn (b.parts + b.links + b.parts) (k + 1) exit_span net net''
  exits_more h l p = laid_more (b.parts + b.links + b.parts) exit_span net k net' net'' _ refl l p

-- ---- what is in reach
module _ (b : Board) (ok : WellFormed b) where
  pub part_in : (p : ℕ) → p < b.parts → p < 64
  part_in p h = omega (arith, ok.parts_to)

  pub link_in : (l : ℕ) → l < b.links → b.parts + l < 448
  link_in l h = omega (arith, ok.parts_to, ok.links_to)

  pub entry_in : (p : ℕ) → p < b.parts → b.parts + b.links + p < 448
  entry_in p h = omega (arith, ok.parts_to, ok.links_to)

  pub exit_in : (p : ℕ) → p < b.parts → b.parts + b.links + b.parts + p < 448
  exit_in p h = omega (arith, ok.parts_to, ok.links_to)

  pub from_fits : (l : ℕ) → l < b.links → Fits w64 (64 + (link_at b l).from)
  from_fits l h = omega (arith, ok.parts_to, ok.from_in l h)

  pub from_in : (l : ℕ) → l < b.links → 64 + (link_at b l).from < 130
  from_in l h = omega (arith, ok.parts_to, ok.from_in l h)

  pub to_in : (l : ℕ) → l < b.links → (link_at b l).to < 130
  to_in l h = omega (arith, ok.parts_to, ok.to_in l h)

  pub arcs_fit : Fits w64 (b.parts + b.links + b.parts + b.parts)
  arcs_fit = omega (arith, ok.parts_to, ok.links_to)

  pub arcs_few : b.parts + b.links + b.parts + b.parts < 449
  arcs_few = omega (arith, ok.parts_to, ok.links_to)

  pub parts_few : b.parts < 65
  parts_few = omega (arith, ok.parts_to)

-- ---- runs
module _ (b : Board) where
  pub runs_none : (l s : List ℕ) → length l ≡ 256 → length s ≡ 256 → Runs b 0 l s
  runs_none l s e f = record { run_length = λ i h. absurd (omega arith); run_saving = λ i h. absurd (omega arith); length_room = e; saving_room = f }

  pub runs_more : (k : ℕ) → k < 256 → (l s : List ℕ) → Runs b k l s →
      Runs b (k + 1) (set l k (get_or (curve_at b (k / 4)).runs (k % 4) no_run).length.0) (set s k (get_or (curve_at b (k / 4)).runs (k % 4) no_run).saving.0)
  unfolding length_at saving_at
  runs_more k h l s is =
      let x : ℕ = (get_or (curve_at b (k / 4)).runs (k % 4) no_run).length.0 in
      let y : ℕ = (get_or (curve_at b (k / 4)).runs (k % 4) no_run).saving.0 in
      record {
        run_length = one_more _ k (λ i m. get_or-set_other l k i x 0 (λ e. omega arith) ∙ is.run_length i m) (get_or-set_same l k x 0 (omega (arith, is.length_room)));
        run_saving = one_more _ k (λ i m. get_or-set_other s k i y 0 (λ e. omega arith) ∙ is.run_saving i m) (get_or-set_same s k y 0 (omega (arith, is.saving_room)));
        length_room = length-set l k x ∙ is.length_room;
        saving_room = length-set s k y ∙ is.saving_room;
      }
