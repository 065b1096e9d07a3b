-- What the arcs of a board save: a part what its curve saves, another arc nothing.
-- Assumes nothing.
use Rattle.std.proofs.Common.{◌≡◌, ℕ, zero, suc, ◌+◌, ◌-◌, ◌*◌, ◌/◌, ◌%◌, ◌<◌, ◌≤◌, List, refl, ap, ◌∙◌, ⊎_elim, arith}
use lib.ListN.{get_or-eq_default, get_or-replicate}
use Rattle.base.proofs.Cases.{lt_or_le}
use Rattle.theory.specs.Sum.{sum}
use Rattle.theory.specs.Saving.{tick}
use Rattle.theory.proofs.SumLaws.{sum_ext, sum_zero, sum_split}
use Rattle.curve.specs.declared.Run.{Run}
use Rattle.curve.specs.declared.Curve.{Curve}
use Rattle.curve.specs.Curve.{Good, no_run, length_at, saving_at, ticks_of, slowest_of, saving_of}
use Rattle.curve.proofs.CurveLaws.{slowest_to}
use Rattle.board.specs.declared.Board.{Board}
use Rattle.board.specs.Board.{WellFormed, view, curve_at, blank_curve}
use Rattle.nets.specs.Network.{gain_of, Bends}
use Rattle.nets.specs.Network as net
use Rattle.solver.specs.Wiring.{Runs}
use Rattle.nets.proofs.Gains.{tick_blank, gain_none}

-- ---- ticks of runs that are the same
tick_ext : (L L' S S' : ℕ → ℕ) (r : ℕ) → ((i : ℕ) → i < r → L i ≡ L' i) → ((i : ℕ) → i < r → S i ≡ S' i) → (j : ℕ) → tick L S r j ≡ tick L' S' r j
unfolding tick
tick_ext L L' S S' zero l s j = refl
tick_ext L L' S S' (suc r) l s j =
    rw (
      sum_ext r {f = L} {g = L'} (λ i h. l i (omega arith)),
      sum_ext (suc r) {f = L} {g = L'} l,
      tick_ext L L' S S' r (λ i h. l i (omega arith)) (λ i h. s i (omega arith)) j,
      s r (omega arith),
    )

sum_none : (L : ℕ → ℕ) (r k : ℕ) → ((i : ℕ) → r ≤ i → i < r + k → L i ≡ 0) → sum (r + k) L ≡ sum r L
sum_none L r k none =
    let e : sum k (λ i. L (r + i)) ≡ 0 = sum_ext k (λ i h. none (r + i) (omega arith) (omega arith)) ∙ sum_zero k in
    omega (arith, sum_split L r k)

-- ---- the places of a curve's runs
module _ (c : Curve) (ok : Good c) where
  length_none : (i : ℕ) → c.count ≤ i → i < 4 → length_at c i ≡ 0
  unfolding length_at
  length_none i h l = ap (λ (r : Run). r.length.0) (ok.blank i h l)

  saving_none : (i : ℕ) → c.count ≤ i → i < 4 → saving_at c i ≡ 0
  unfolding saving_at
  saving_none i h l = ap (λ (r : Run). r.saving.0) (ok.blank i h l)

  -- all four places save what the curve does, in as many ticks, and no place saves more than the one before it
  four_save : (j : ℕ) → tick (length_at c) (saving_at c) 4 j ≡ saving_of c j
  unfolding saving_of
  four_save = tick_blank (length_at c) (saving_at c) c.count 4 ok.count_to length_none

  four_last : c.fastest.0 + sum 4 (length_at c) ≤ 4095
  unfolding slowest_of ticks_of
  four_last =
      let k = 4 - c.count in
      let e : 4 ≡ c.count + k = omega (arith, ok.count_to) in
      omega (arith, ap (λ n. sum n (length_at c)) e, sum_none (length_at c) c.count k (λ i a h. length_none i a (omega (arith, e))), slowest_to c ok)

  four_fall : (i : ℕ) → suc i < 4 → saving_at c (suc i) ≤ saving_at c i
  four_fall i l =
      ⊎_elim (λ (h : suc i < c.count). omega (arith, ok.falls i h)) (λ (h : c.count ≤ suc i). omega (arith, saving_none (suc i) h l))
      (lt_or_le (suc i) c.count)

blank_length : (i : ℕ) → i < 4 → length_at blank_curve i ≡ 0
unfolding length_at blank_curve
blank_length i h = ap (λ (r : Run). r.length.0) (get_or-replicate 4 i no_run no_run h)

blank_saving : (i : ℕ) → i < 4 → saving_at blank_curve i ≡ 0
unfolding saving_at blank_curve
blank_saving i h = ap (λ (r : Run). r.saving.0) (get_or-replicate 4 i no_run no_run h)

-- ---- the arcs
module _ (b : Board) (ok : WellFormed b) (lengths savings : List ℕ) (laid : Runs b 256 lengths savings) where
  module _ (a i : ℕ) (h : i < 4) where
    length_is : a < 64 → net.length_at lengths a i ≡ length_at (curve_at b a) i
    length_is l =
        let q : (4 * a + i) / 4 ≡ a = omega arith in
        let r : (4 * a + i) % 4 ≡ i = omega arith in
        rw (q, r) at (laid.run_length (4 * a + i) (omega arith))

    saving_is : a < 64 → net.saving_at savings a i ≡ saving_at (curve_at b a) i
    saving_is l =
        let q : (4 * a + i) / 4 ≡ a = omega arith in
        let r : (4 * a + i) % 4 ≡ i = omega arith in
        rw (q, r) at (laid.run_saving (4 * a + i) (omega arith))

    length_flat : b.parts ≤ a → net.length_at lengths a i ≡ 0
    length_flat l =
        ⊎_elim (λ (k : a < 64). length_is k ∙ ap (λ (c : Curve). length_at c i) (ok.blank_curves a l k) ∙ blank_length i h)
        (λ (k : 64 ≤ a). get_or-eq_default lengths 0 {n = 4 * a + i} (omega (arith, laid.length_room))) (lt_or_le a 64)

    saving_flat : b.parts ≤ a → net.saving_at savings a i ≡ 0
    saving_flat l =
        ⊎_elim (λ (k : a < 64). saving_is k ∙ ap (λ (c : Curve). saving_at c i) (ok.blank_curves a l k) ∙ blank_saving i h)
        (λ (k : 64 ≤ a). get_or-eq_default savings 0 {n = 4 * a + i} (omega (arith, laid.saving_room))) (lt_or_le a 64)

  pub part_saves : (p : ℕ) → p < b.parts → (j : ℕ) → gain_of lengths savings p j ≡ (view b).saving p j
  unfolding view gain_of
  part_saves p h j =
      tick_ext (net.length_at lengths p) (length_at (curve_at b p)) (net.saving_at savings p) (saving_at (curve_at b p)) 4
      (λ i l. length_is p i l (omega (arith, ok.parts_to))) (λ i l. saving_is p i l (omega (arith, ok.parts_to))) j
      ∙ four_save (curve_at b p) (ok.curves p h) j

  pub flat_saves : (a : ℕ) → b.parts ≤ a → (j : ℕ) → gain_of lengths savings a j ≡ 0
  flat_saves a h = gain_none lengths savings a (λ i l. length_flat a i l h)

  pub part_bends : (p : ℕ) → p < b.parts → Bends (curve_at b p).fastest.0 lengths savings p
  part_bends p h =
      let c = curve_at b p in
      let good : Good c = ok.curves p h in
      let k : p < 64 = omega (arith, ok.parts_to) in
      record {
        short = omega (arith, good.fastest_to);
        slowest = λ _.
            omega (arith, four_last c good, sum_ext 4 {f = net.length_at lengths p} {g = length_at c} (λ i l. length_is p i l k));
        falls = λ _ i l.
            omega (arith, four_fall c good i l, saving_is p i (omega arith) k, saving_is p (suc i) l k);
      }

  pub flat_bends : (base : ℕ) → base ≤ 4095 → (a : ℕ) → b.parts ≤ a → Bends base lengths savings a
  flat_bends base short a h = record {
    short = short;
    slowest = λ _. omega (arith, sum_ext 4 {f = net.length_at lengths a} {g = λ i. 0} (λ i l. length_flat a i l h), sum_zero 4);
    falls = λ _ i l. omega (arith, saving_flat a (suc i) l h);
  }
