-- Times of parts at their nodes, and the greatest end.
-- Assumes nothing.
use Rattle.std.proofs.Common.{◌≡◌, ℕ, ◌+◌, ◌<◌, max, List, length, set, replicate, ◌∙◌, arith, length-set, get_or-set_other, get_or-set_same}
use Rattle.std.proofs.lemmas.List.{get_or-replicate, length-replicate}
use native.Mathlib.Decide.{ℕ_discrete}
use Rattle.theory.specs.Sum.{cells}
use Rattle.curve.specs.declared.Ticks.{Ticks}
use Rattle.curve.specs.Rows.{ticks_at}
use Rattle.solver.specs.Finding.{Placed, Topped, Begun}

-- ---- `node_times`
module _ (start end : List Ticks) where
  pub place_none : Placed start end 0 (replicate 130 0)
  place_none = record {
    starts = λ p h. absurd (omega arith);
    ends = λ p h. absurd (omega arith);
    source = get_or-replicate 130 128 0 0 (omega arith);
    room = length-replicate {A = ℕ} 130 0;
  }

  -- the two stores, and what they leave
  pub place_more : (t : List ℕ) (k : ℕ) → k < 64 → Placed start end k t →
      Placed start end (k + 1) (set (set t k (ticks_at start k)) (64 + k) (ticks_at end k))
  place_more t k h is =
      let x : ℕ = ticks_at start k in
      let y : ℕ = ticks_at end k in
      let t₁ : List ℕ = set t k x in
      let room₁ : length t₁ ≡ 130 = length-set t k x ∙ is.room in
      let there : (v : ℕ) → (v ≡ k → ⊥) → (v ≡ 64 + k → ⊥) → cells (set t₁ (64 + k) y) v ≡ cells t v =
      λ v d e. get_or-set_other t₁ (64 + k) v y 0 e ∙ get_or-set_other t k v x 0 d in
      record {
        starts = λ p l. elim (ℕ_discrete p k) [
          | yes e ↦ rw e (get_or-set_other t₁ (64 + k) k y 0 (λ q. omega arith) ∙ get_or-set_same t k x 0 (omega (arith, is.room)))
          | no d ↦ there p d (λ e. omega arith) ∙ is.starts p (omega arith)
        ];
        ends = λ p l. elim (ℕ_discrete p k) [
          | yes e ↦ rw e (get_or-set_same t₁ (64 + k) y 0 (omega (arith, room₁)))
          | no d ↦ there (64 + p) (λ e. omega arith) (λ e. omega arith) ∙ is.ends p (omega arith)
        ];
        source = there 128 (λ e. omega arith) (λ e. omega arith) ∙ is.source;
        room = length-set t₁ (64 + k) y ∙ room₁;
      }

-- ---- `latest`
module _ (end : List Ticks) (due : ℕ) where
  pub top_none : Topped end due 0 due
  top_none = record { late = λ p h. absurd (omega arith); due_late = omega arith; early = λ m h _. h }

  pub top_more : (k most : ℕ) → k < 64 → Topped end due k most → (most' : ℕ) → most' ≡ max most (ticks_at end k) → Topped end due (k + 1) most'
  top_more k most h is most' new = record {
    late = λ p l. elim (ℕ_discrete p k) [
      | yes e ↦ rw e (omega (arith, new))
      | no d ↦ omega (arith, new, is.late p (omega arith))
    ];
    due_late = omega (arith, new, is.due_late);
    early = λ m d all. omega (arith, new, is.early m d all, all k h);
  }

-- ---- both
pub begun_done : (start end : List Ticks) (due : ℕ) (t : List ℕ) (most : ℕ) → Placed start end 64 t → Topped end due 64 most → Begun start end due (set t 129 most)
begun_done start end due t most is top =
    let there : (v : ℕ) → v < 129 → cells (set t 129 most) v ≡ cells t v = λ v i. get_or-set_other t 129 v most 0 (λ q. omega arith) in
    let sink : cells (set t 129 most) 129 ≡ most = get_or-set_same t 129 most 0 (omega (arith, is.room)) in
    record {
      placed = record {
        starts = λ p i. there p (omega arith) ∙ is.starts p i;
        ends = λ p i. there (64 + p) (omega arith) ∙ is.ends p i;
        source = there 128 (omega arith) ∙ is.source;
        room = length-set t 129 most ∙ is.room;
      };
      topped = rw sink top;
    }
