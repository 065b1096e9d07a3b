-- A test that a budget is the one held, and its law. The idea: it goes through every budget with delays on the curves, finds its ends in
-- rounds and sees that one more round changes nothing, and then compares. So each comparison is computed, and one law covers every board.
-- Assumes nothing.
use mathlib.Core.Path.{◌≡◌, refl, ap, ◌∙◌, subst}
use mathlib.Core.Logic.{⊎_elim}
use mathlib.Core.Bool.{Bool, true, false}
use mathlib.Core.List.{List, [], ◌∷◌}
use Prim.Native.Nat.{ℕ, zero, suc, ◌+◌, ◌-◌, ◌≤◌, ◌<◌}
use native.Mathlib.Omega.{arith}
use lib.Dec.{leb, eqb}
use borrow.Author.Tests.{leb-true, le-leb, eqb-true, eq-eqb}
use Rattle.base.specs.Pick.{pick}
use Rattle.base.specs.Table.{table}
use Rattle.base.proofs.Cases.{lt_or_le}
use Rattle.theory.specs.Sum.{sum, cells}
use Rattle.theory.specs.Saving.{saves}
use Rattle.theory.specs.Graph.{Graph, Times, Lawful, Ranked, total}
use Rattle.theory.specs.Budget.{arrive, Timed, Budget, Held}
use Rattle.theory.proofs.SumLaws.{sum_ext}
use Rattle.theory.proofs.TimedLaws.{timed_once, delays_budget, budget_feasible}
use Rattle.theory.proofs.Rounds.{feasible_ranked}
use Rattle.curve.specs.Tests.{both, every}
use Rattle.curve.proofs.GoodLaws.{every_at, every_all}

both_parts : (a b : Bool) → both a b ≡ true → (a ≡ true) × (b ≡ true)
unfolding pick
both_parts true b h = (refl, h)
both_parts false b h = absurd (let z : ◌≡◌ {A = ℕ} 0 1 = cc in omega arith)

-- a test that counts only where another passes
picked : (t a : Bool) → t ≡ true → pick t a true ≡ true → a ≡ true
unfolding pick
picked true a e h = h
picked false a e h = absurd (let z : ◌≡◌ {A = ℕ} 0 1 = cc in omega arith)

-- the numbers f 0, f 1 .. of the first k parts, and then those of a list
unfoldable listed : ℕ → (ℕ → ℕ) → List ℕ → List ℕ
listed zero f ds = ds
listed (suc k) f ds = listed k f (f k ∷ ds)

listed_past : (f : ℕ → ℕ) (k i : ℕ) (ds : List ℕ) → cells (listed k f ds) (k + i) ≡ cells ds i
unfolding listed
listed_past f zero i ds = ap (cells ds) (omega arith)
listed_past f (suc k) i ds =
    let here : suc k + i ≡ k + suc i = omega arith in
    ap (cells (listed k f (f k ∷ ds))) here ∙ listed_past f k (suc i) (f k ∷ ds)

listed_at : (f : ℕ → ℕ) (k p : ℕ) (ds : List ℕ) → p < k → cells (listed k f ds) p ≡ f p
unfolding listed
listed_at f zero p ds h = absurd (omega arith)
listed_at f (suc k) p ds h =
    ⊎_elim
    (listed_at f k p (f k ∷ ds))
    (λ (l : k ≤ p).
    let here : p ≡ k + 0 = omega arith in
    let last : k ≡ p = omega arith in
    ap (cells (listed k f (f k ∷ ds))) here ∙ listed_past f k 0 (f k ∷ ds) ∙ ap f last)
    (lt_or_le p k)

module _ (G : Graph) where
  -- ---- the times of given delays, in as many rounds as there are parts
  unfoldable pub ends_by : List ℕ → ℕ → List ℕ
  ends_by ds zero = []
  ends_by ds (suc i) = let e = ends_by ds i in table G.parts (λ p. arrive G (cells e) p + cells ds p)

  unfoldable pub ends_of : List ℕ → List ℕ
  ends_of ds = ends_by ds G.parts

  unfoldable pub times_by : List ℕ → Times
  times_by ds = record { start = arrive G (cells (ends_of ds)); end = cells (ends_of ds); used = λ p. cells ds p - G.fastest p }

  unfoldable pub cost_of : List ℕ → ℕ
  cost_of ds = sum G.parts (λ p. G.power p - saves (G.saving p) (cells ds p - G.fastest p))

  -- ---- tests
  -- one more round changes nothing
  unfoldable pub settled : List ℕ → List ℕ → Bool
  settled ds e = every G.parts (λ p. eqb (cells e p) (arrive G (cells e) p + cells ds p))

  unfoldable pub path_in_time : ℕ → List ℕ → Bool
  path_in_time T e = every G.parts (λ p. leb (cells e p) T)

  unfoldable pub on_curves : List ℕ → Bool
  on_curves ds = every G.parts (λ p. both (leb (G.fastest p) (cells ds p)) (leb (cells ds p) (G.fastest p + G.ticks p)))

  unfoldable pub no_later : List ℕ → List ℕ → Bool
  no_later e e' = every G.parts (λ p. leb (cells e p) (cells e' p))

  unfoldable pub fits : ℕ → List ℕ → List ℕ → Bool
  fits T ds e = both (settled ds e) (both (path_in_time T e) (on_curves ds))

  -- where delays with ends e' are in time, they cost no less, and where they cost as much, they end no earlier
  unfoldable pub yields : ℕ → List ℕ → ℕ → List ℕ → List ℕ → ℕ → Bool
  yields T e cost ds e' cost' =
      both (settled ds e') (pick (path_in_time T e') (both (leb cost cost') (pick (eqb cost' cost) (no_later e e') true)) true)

  -- a test of every list of delays on the curves
  unfoldable pub all_delays : ℕ → List ℕ → (List ℕ → Bool) → Bool
  all_delays zero ds test = test ds
  all_delays (suc k) ds test = every (suc (G.ticks k)) (λ t. all_delays k ((G.fastest k + t) ∷ ds) test)

  unfoldable pub beats : ℕ → List ℕ → List ℕ → Bool
  beats T ds es = yields T (ends_of ds) (cost_of ds) es (ends_of es) (cost_of es)

  unfoldable pub best : ℕ → List ℕ → Bool
  best T ds = both (fits T ds (ends_of ds)) (all_delays G.parts [] (beats T ds))

  -- ---- laws
  settled_timed : (ds e : List ℕ) → settled ds e ≡ true → Timed G (cells ds) (arrive G (cells e)) (cells e)
  unfolding settled
  settled_timed ds e h = record { starts = λ p l. refl; ends = λ p l. eqb-true _ _ (every_at _ G.parts h p l) }

  pub fits_budget : (T : ℕ) (ds : List ℕ) → fits T ds (ends_of ds) ≡ true → Budget G T (times_by ds)
  unfolding fits path_in_time on_curves times_by
  fits_budget T ds h =
      let a = both_parts _ _ h in
      let a₂ = both_parts _ _ a.1 in
      let on : (p : ℕ) → p < G.parts → (leb (G.fastest p) (cells ds p) ≡ true) × (leb (cells ds p) (G.fastest p + G.ticks p) ≡ true) =
      λ p l. both_parts _ _ (every_at _ G.parts a₂.1 p l) in
      delays_budget G (settled_timed ds (ends_of ds) a.0) (λ p l. leb-true _ _ (every_at _ G.parts a₂.0 p l))
      (λ p l. leb-true _ _ (on p l).0) (λ p l. leb-true _ _ (on p l).1)

  -- a test of all delays is a test of any
  module _ (test : List ℕ → Bool) (f : ℕ → ℕ)
      (from : (p : ℕ) → p < G.parts → G.fastest p ≤ f p) (to : (p : ℕ) → p < G.parts → f p ≤ G.fastest p + G.ticks p)
    where
      all_at : (k : ℕ) → k ≤ G.parts → (ds : List ℕ) → all_delays k ds test ≡ true → test (listed k f ds) ≡ true
      unfolding all_delays listed
      all_at zero l ds h = h
      all_at (suc k) l ds h =
          let a = from k (omega arith) in
          let b = to k (omega arith) in
          let here : all_delays k ((G.fastest k + (f k - G.fastest k)) ∷ ds) test ≡ true =
          every_at (λ t. all_delays k ((G.fastest k + t) ∷ ds) test) (suc (G.ticks k)) h (f k - G.fastest k) (omega arith) in
          let is : G.fastest k + (f k - G.fastest k) ≡ f k = omega arith in
          all_at k (omega arith) (f k ∷ ds) (subst (λ (d : ℕ). all_delays k (d ∷ ds) test ≡ true) is here)

  module _ (o : Lawful G) (T : ℕ) (ds : List ℕ) (h : best T ds ≡ true) where
    two : (fits T ds (ends_of ds) ≡ true) × (all_delays G.parts [] (beats T ds) ≡ true)
    unfolding best
    two = both_parts _ _ h

    pub best_budget : Budget G T (times_by ds)
    best_budget = fits_budget T ds two.0

    pub best_ranked : Ranked G (suc T)
    best_ranked = feasible_ranked G o (budget_feasible G o best_budget)

    module _ (τ : Times) (b : Budget G T τ) where
      delay : ℕ → ℕ
      delay p = G.fastest p + τ.used p

      es : List ℕ
      es = listed G.parts delay []

      delay_is : (p : ℕ) → p < G.parts → cells es p ≡ G.fastest p + τ.used p
      unfolding es delay
      delay_is p l = listed_at delay G.parts p [] l

      cheap : Bool
      cheap = leb (cost_of ds) (cost_of es)

      soon : Bool
      soon = pick (eqb (cost_of es) (cost_of ds)) (no_later (ends_of ds) (ends_of es)) true

      tested : both (settled es (ends_of es)) (pick (path_in_time T (ends_of es)) (both cheap soon) true) ≡ true
      unfolding beats yields es delay cheap soon
      tested = all_at (beats T ds) delay (λ p l. omega arith) (λ p l. omega (arith, b.in_range p l)) G.parts (omega arith) [] two.1

      -- so the ends found are those of τ
      end_is : (p : ℕ) → p < G.parts → cells (ends_of es) p ≡ τ.end p
      end_is p l =
          (timed_once G o best_ranked (settled_timed es (ends_of es) (both_parts _ _ tested).0)
          (record { starts = b.at_once; ends = λ q k. omega (arith, b.spans q k, delay_is q k) }) p l).1

      cost_is : cost_of es ≡ total G τ
      unfolding cost_of total
      cost_is =
          sum_ext G.parts
          (λ p l.
          let used : cells es p - G.fastest p ≡ τ.used p = omega (arith, delay_is p l) in
          ap (λ t. G.power p - saves (G.saving p) t) used)

      in_time : path_in_time T (ends_of es) ≡ true
      unfolding path_in_time
      in_time = every_all (λ p. leb (cells (ends_of es) p) T) G.parts (λ p l. le-leb (cells (ends_of es) p) T (omega (arith, end_is p l, b.ends p l)))

      compared : (cheap ≡ true) × (soon ≡ true)
      compared = both_parts _ _ (picked _ _ in_time (both_parts _ _ tested).1)

      cheaper : cost_of ds ≤ total G τ
      unfolding cheap
      cheaper = omega (arith, cost_is, leb-true (cost_of ds) (cost_of es) compared.0)

      sooner : total G τ ≤ cost_of ds → (p : ℕ) → p < G.parts → cells (ends_of ds) p ≤ τ.end p
      unfolding soon no_later
      sooner no_more p l =
          let same : cost_of es ≡ cost_of ds = omega (arith, cost_is, cheaper) in
          let all : no_later (ends_of ds) (ends_of es) ≡ true = picked _ _ (eq-eqb (cost_of es) (cost_of ds) same) compared.1 in
          let here : leb (cells (ends_of ds) p) (cells (ends_of es) p) ≡ true = every_at _ G.parts all p l in
          omega (arith, end_is p l, leb-true (cells (ends_of ds) p) (cells (ends_of es) p) here)

    pub best_held : Held G T (times_by ds)
    unfolding times_by total cost_of
    best_held = record { budget = best_budget; least = cheaper; first = sooner }
