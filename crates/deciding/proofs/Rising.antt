-- Raising over a network, with no sheet in sight: what one arc asks, what comes of giving it, and of many arcs one after another.
-- Assumes nothing.
use mathlib.Core.Path.{◌≡◌, refl, sym, ap, ◌∙◌}
use mathlib.Core.Logic.{◌≢◌}
use mathlib.Core.Bool.{Bool, true, false}
use Prim.Native.Nat.{ℕ, ◌+◌, ◌*◌, ◌-◌, ◌≤◌, ◌<◌}
use native.Mathlib.Omega.{arith}
use native.Mathlib.Decide.{dec_le, ℕ_discrete}
use Rattle.theory.specs.Sum.{sum}
use Rattle.theory.proofs.SumLaws.{sum_le, sum_const, sum_change}
use Rattle.nets.specs.Network.{Network}
use Rattle.nets.specs.Flow.{Fit, Decided}
use Rattle.nets.specs.Steps.{Put}
use Rattle.deciding.specs.Asking.{Above, Below, Lags}
use Rattle.deciding.specs.Raising.{AllFit, Rises, Hopeless, Raised}
use Rattle.deciding.specs.declared.asking.Raise.{Raise}

-- no truth is false
pub no_one : {A : Type 0} → true ≡ false → A
no_one e = absurd (let z : ◌≡◌ {A = ℕ} 0 1 = cc in omega arith)

module _ (N : Network) (x : ℕ → ℕ) where
  -- ---- an arc that fits is neither shorter nor longer than its load asks
  fit_low : (a low : ℕ) → Above (N.gain a) (x a) low → (u : ℕ → ℕ) → Fit N u x a → u (N.tail a) + N.base a + low ≤ u (N.head a)
  fit_low a low p u f =
      elim (dec_le (u (N.tail a) + N.base a + low) (u (N.head a))) [
        | yes l ↦ l
        | no l ↦
            let j : ℕ = u (N.head a) - (u (N.tail a) + N.base a) in
            absurd (omega (arith, f.base, p.more j (omega (arith, f.base)), f.suits.unused j (omega arith)))
      ]

  fit_high : (a high : ℕ) → x a ≢ 0 → Above (N.gain a) (x a - 1) high → (u : ℕ → ℕ) → Fit N u x a → u (N.head a) ≤ u (N.tail a) + N.base a + high
  fit_high a high some q u f =
      elim (dec_le (u (N.head a)) (u (N.tail a) + N.base a + high)) [
        | yes l ↦ l
        | no l ↦ absurd (omega (arith, f.base, q.rest high (omega arith), f.suits.used high (omega (arith, f.base))))
      ]

  -- ---- one arc, of which `low` ticks save more than its load, or `high` ticks as much or more
  module _ (t : ℕ → ℕ) (a : ℕ) (i : N.tail a < 130) (k : N.head a < 130) (r : Raise) where
    pub asks_head : (low : ℕ) → Above (N.gain a) (x a) low → r.node ≡ N.head a → r.time ≡ t (N.tail a) + N.base a + low → t (N.head a) < r.time → Lags N x t a r
    asks_head low p n e l =
        let least : (u : ℕ → ℕ) → Fit N u x a → Below t u → r.time ≤ u (N.head a) = λ u f b. omega (arith, e, fit_low a low p u f, b (N.tail a) i) in
        record {
          node = omega (arith, n);
          later = omega (arith, ap t n);
          least = λ u f b. omega (arith, least u f b, ap u n);
          ahead = least;
        }

    pub asks_tail : (high : ℕ) → x a ≢ 0 → Above (N.gain a) (x a - 1) high → r.node ≡ N.tail a → r.time + N.base a + high ≡ t (N.head a) → t (N.tail a) < r.time → Lags N x t a r
    asks_tail high some q n e l = record {
      node = omega (arith, n);
      later = omega (arith, ap t n);
      least = λ u f b. omega (arith, e, fit_high a high some q u f, b (N.head a) k, ap u n);
      ahead = λ u f b. omega (arith, e, b (N.head a) k);
    }

  module _ (due : ℕ) where
    -- ---- what it asks is given
    rises_same : (t : ℕ → ℕ) → ((v : ℕ) → v < 130 → t v ≤ due) → Rises N x due t t
    rises_same t w = record { above = λ v h. omega arith; least = λ u k b. b; within = w; root = refl }

    pub raised_none : (t : ℕ → ℕ) → ((v : ℕ) → v < 130 → t v ≤ due) → Raised N x due t t false
    raised_none t w = record { rises = rises_same t w; same = λ e v. refl; grew = λ e. no_one (sym e) }

    module _ (t : ℕ → ℕ) (w : (v : ℕ) → v < 130 → t v ≤ due) (a : ℕ) (h : a < N.arcs) (r : Raise) (s : Lags N x t a r) where
      pub hopeless_source : r.node ≡ 128 → Hopeless N x due t
      hopeless_source e = record { hopeless = λ u f b z y. omega (arith, s.later, s.least u (f a h) b, ap t e, ap u e) }

      pub hopeless_past : due < r.time → Hopeless N x due t
      hopeless_past m = record { hopeless = λ u f b z y. omega (arith, s.ahead u (f a h) b, y a h) }

      pub raised_one : (r.node ≡ 128 → ⊥) → r.time ≤ due → (t' : ℕ → ℕ) → Put t r.node r.time t' → Raised N x due t t' true
      raised_one n m t' p = record {
        rises = record {
          above = λ v i. elim (ℕ_discrete v r.node) [ yes e ↦ rw e (omega (arith, p.here, s.later)) | no d ↦ omega (arith, p.there v d) ];
          least = λ u f b v i.
              elim (ℕ_discrete v r.node) [ yes e ↦ rw e (omega (arith, p.here, s.least u (f a h) b)) | no d ↦ omega (arith, p.there v d, b v i) ];
          within = λ v i. elim (ℕ_discrete v r.node) [ yes e ↦ rw e (omega (arith, p.here)) | no d ↦ omega (arith, p.there v d, w v i) ];
          root = p.there 128 (λ e. n (sym e));
        };
        same = λ e. no_one e;
        grew = λ e. omega (arith, sum_change 130 r.node t t' s.node (λ v i d. sym (p.there v d)), p.here, s.later);
      }

    -- ---- one after another
    pub rises_then : (t t' t'' : ℕ → ℕ) → Rises N x due t t' → Rises N x due t' t'' → Rises N x due t t''
    rises_then t t' t'' r s = record {
      above = λ v h. omega (arith, r.above v h, s.above v h);
      least = λ u k b. s.least u k (r.least u k b);
      within = s.within;
      root = s.root ∙ r.root;
    }

    pub hopeless_from : (t t' : ℕ → ℕ) → Rises N x due t t' → Hopeless N x due t' → Hopeless N x due t
    hopeless_from t t' r n = record { hopeless = λ u k b z y. n.hopeless u k (r.least u k b) (omega (arith, r.root)) y }

    module _ (t t' t'' : ℕ → ℕ) (r : Bool) (f : Raised N x due t t' r) where
      pub raised_more : Raised N x due t' t'' true → Raised N x due t t'' true
      raised_more g = record {
        rises = rises_then t t' t'' f.rises g.rises;
        same = λ e. no_one e;
        grew = λ e. omega (arith, g.grew refl, sum_le 130 {f = t} {g = t'} f.rises.above);
      }

      pub raised_still : Raised N x due t' t'' false → Raised N x due t t'' r
      raised_still g = record {
        rises = rises_then t t' t'' f.rises g.rises;
        same = λ e v. g.same refl v ∙ f.same e v;
        grew = λ e. omega (arith, f.grew e, sum_le 130 {f = t'} {g = t''} g.rises.above);
      }

    -- ---- what is left falls
    pub left_less : (t t' : ℕ → ℕ) → Raised N x due t t' true → 130 * due - sum 130 t' < 130 * due - sum 130 t
    left_less t t' f = omega (arith, f.grew refl, sum_le 130 {f = t'} {g = λ v. due} f.rises.within, sum_const 130 due)

    -- ---- the verdict
    module _ (t₀ t : ℕ → ℕ) (sink : t₀ 129 ≡ due) (others : (v : ℕ) → v < 130 → v ≢ 129 → t₀ v ≡ 0) where
      before : (u : ℕ → ℕ) → due ≤ u 129 → Below t₀ u
      before u l v h = elim (ℕ_discrete v 129) [ yes e ↦ rw e (omega (arith, sink)) | no d ↦ omega (arith, others v h d) ]

      source : t₀ 128 ≡ 0
      source = others 128 (omega arith) (λ e. omega arith)

      pub decided_no : Hopeless N x due t₀ → Decided N due x t false
      decided_no n = record {
        yes = λ z. no_one (sym z);
        no = λ z. record { none = λ u f r e q. n.hopeless u f (before u (omega arith)) (omega (arith, source)) q };
      }

      pub decided_yes : Rises N x due t₀ t → AllFit N x t → Decided N due x t true
      decided_yes r f = record {
        yes = λ z. record {
          fit = f;
          root = r.root ∙ source;
          end = omega (arith, r.above 129 (omega arith), r.within 129 (omega arith), sink);
          least = λ u k l. r.least u k (before u l);
        };
        no = λ z. no_one z;
      }
