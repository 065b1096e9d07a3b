-- Lowering the deadline. Labels mark the starts and ends of parts that a search has reached. Where the search does not reach the
-- deadline, the deadline and every unlabelled time go down by δ, and the loads stay slack.
-- Assumes nothing.
use mathlib.Core.Path.{◌≡◌, refl}
use mathlib.Core.Bool.{Bool, true, false, cond}
use Prim.Native.Nat.{ℕ, suc, ◌+◌, ◌-◌, ◌≤◌, ◌<◌}
use native.Mathlib.Decide.{dec_le, dec_lt}
use native.Mathlib.Omega.{arith}
use Rattle.theory.proofs.Finding.{clash}
use Rattle.theory.specs.Saving.{Suits}
use Rattle.theory.proofs.SavingLaws.{suits_fewer, suits_more}
use Rattle.theory.specs.Graph.{Graph, Times, Flow, Lawful, Feasible, Slack}

-- a labelled time stays, any other goes down by δ
unfoldable pub keep : Bool → ℕ → ℕ → ℕ
keep b δ v = cond b v (v - δ)

data Moved (b : Bool) (δ v v' : ℕ) : Type 0 where
  stays : b ≡ true → v' ≡ v → Moved b δ v v'
  goes : b ≡ false → v' + δ ≡ v → Moved b δ v v'

moved : (b : Bool) (δ v : ℕ) → (b ≡ false → δ ≤ v) → Moved b δ v (keep b δ v)
unfolding keep
moved true δ v h = stays refl refl
moved false δ v h = let l = h refl in goes refl (omega arith)

-- the starts and the ends that are labelled
pub record Labels : Type 0 where
  pub starts : ℕ → Bool
  pub ends : ℕ → Bool

module _ (G : Graph) where
  open G use {parts, links, from, to, wire, fastest, saving}

  unfoldable pub lower : Labels → ℕ → Times → Times
  lower labels δ τ = record {
    start = λ p. keep (labels.starts p) δ (τ.start p);
    end = λ p. keep (labels.ends p) δ (τ.end p);
    used = λ p. keep (labels.ends p) δ (τ.end p) - (keep (labels.starts p) δ (τ.start p) + fastest p);
  }

  -- δ is within every slack that lowering uses up
  pub record Room (F δ : ℕ) (τ : Times) (φ : Flow) (labels : Labels) : Type 0 where
    pub starts : (p : ℕ) → p < parts → labels.starts p ≡ false → δ ≤ τ.start p
    pub gaps : (l : ℕ) → l < links → labels.ends (from l) ≡ true → labels.starts (to l) ≡ false → τ.end (from l) + wire l + δ ≤ τ.start (to l)
    pub ends : (p : ℕ) → p < parts → labels.ends p ≡ true → τ.end p + δ ≤ F
    -- a part whose end alone goes down has δ ticks to give, none worth more than its load
    pub gives : (p : ℕ) → p < parts → labels.starts p ≡ true → labels.ends p ≡ false → δ ≤ τ.used p
    pub fewer : (p : ℕ) → p < parts → labels.starts p ≡ true → labels.ends p ≡ false → (j : ℕ) → j + δ ≡ τ.used p → saving p j ≤ φ.part p
    -- a part whose start alone goes down has δ ticks to take, none worth less than its load
    pub more : (p : ℕ) → p < parts → labels.starts p ≡ false → labels.ends p ≡ true → (j : ℕ) → suc j ≡ τ.used p + δ → φ.part p ≤ saving p j
    -- no load runs from an unlabelled end to a labelled start
    pub idle : (l : ℕ) → l < links → labels.ends (from l) ≡ false → labels.starts (to l) ≡ true → φ.link l ≡ 0

  module _ (o : Lawful G) {F δ : ℕ} {τ : Times} {φ : Flow} {labels : Labels}
      (f : Feasible G F τ) (k : Slack G F τ φ) (r : Room F δ τ φ labels)
    where
      open τ use {start, end, used}
      open labels use {starts, ends}

      start_moved : (p : ℕ) → p < parts → Moved (starts p) δ (start p) ((lower labels δ τ).start p)
      unfolding lower
      start_moved p h = moved (starts p) δ (start p) (r.starts p h)

      end_moved : (p : ℕ) → p < parts → Moved (ends p) δ (end p) ((lower labels δ τ).end p)
      unfolding lower
      end_moved p h =
          moved (ends p) δ (end p)
          (λ b. elim (start_moved p h) [ stays a q ↦ omega (arith, f.spans p h, r.gives p h a b) | goes a q ↦ omega (arith, f.spans p h) ])

      spans' : (p : ℕ) → p < parts → (lower labels δ τ).start p + (fastest p + (lower labels δ τ).used p) ≡ (lower labels δ τ).end p
      unfolding lower
      spans' p h =
          let was = f.spans p h in
          elim (start_moved p h) [
            | stays a q ↦ elim (end_moved p h) [ stays b r' ↦ omega arith | goes b r' ↦ omega (arith, r.gives p h a b) ]
            | goes a q ↦ elim (end_moved p h) [ stays b r' ↦ omega arith | goes b r' ↦ omega arith ]
          ]

      -- the deadline may go down by δ
      pub lower_feasible : (F' : ℕ) → F' + δ ≡ F → Feasible G F' (lower labels δ τ)
      lower_feasible F' down = record {
        spans = spans';
        waits = λ l h.
            let was = f.waits l h in
            elim (end_moved (from l) (o.from_in l h)) [
              | stays a q ↦ elim (start_moved (to l) (o.to_in l h)) [ stays b r' ↦ omega arith | goes b r' ↦ omega (arith, r.gaps l h a b) ]
              | goes a q ↦ elim (start_moved (to l) (o.to_in l h)) [ stays b r' ↦ omega arith | goes b r' ↦ omega arith ]
            ];
        ends = λ p h. elim (end_moved p h) [ stays a q ↦ omega (arith, r.ends p h a) | goes a q ↦ omega (arith, f.ends p h) ];
      }

      suits' : (p : ℕ) → p < parts → Suits (saving p) ((lower labels δ τ).used p) (φ.part p)
      suits' p h =
          let was = f.spans p h in
          let is = spans' p h in
          let t' : ℕ = (lower labels δ τ).used p in
          let fewer : t' ≤ used p → (t' < used p → saving p t' ≤ φ.part p) → Suits (saving p) t' (φ.part p) =
          suits_fewer (o.falls p h) (k.suits p h) t' in
          elim (start_moved p h) [
            | stays a q ↦
                elim (end_moved p h) [
                  | stays b r' ↦ fewer (omega arith) (λ l. omega arith)
                  | goes b r' ↦ fewer (omega arith) (λ l. r.fewer p h a b t' (omega arith))
                ]
            | goes a q ↦
                elim (end_moved p h) [
                  | stays b r' ↦ suits_more (o.falls p h) (k.suits p h) t' (omega arith) (λ j l ε. r.more p h a b j (omega arith))
                  | goes b r' ↦ fewer (omega arith) (λ l. omega arith)
                ]
          ]

      -- and the loads stay slack
      pub lower_slack : (F' : ℕ) → F' + δ ≡ F → Slack G F' (lower labels δ τ) φ
      lower_slack F' down = record {
        suits = suits';
        tight = λ l h y.
            let was = k.tight l h y in
            elim (end_moved (from l) (o.from_in l h)) [
              | stays a q ↦ elim (start_moved (to l) (o.to_in l h)) [ stays b r' ↦ omega arith | goes b r' ↦ omega (arith, r.gaps l h a b) ]
              | goes a q ↦ elim (start_moved (to l) (o.to_in l h)) [ stays b r' ↦ omega (arith, r.idle l h a b) | goes b r' ↦ omega arith ]
            ];
        starts = λ p h y. elim (start_moved p h) [ stays a q ↦ omega (arith, k.starts p h y) | goes a q ↦ omega (arith, k.starts p h y) ];
        stops = λ p h y. elim (end_moved p h) [ stays a q ↦ omega (arith, k.stops p h y, r.ends p h a) | goes a q ↦ omega (arith, k.stops p h y) ];
      }

  -- Labels that a search leaves: closed under every arc along which more load could run, and short of the deadline.
  pub record Closed (F : ℕ) (τ : Times) (φ : Flow) (labels : Labels) : Type 0 where
    pub entry : (p : ℕ) → p < parts → τ.start p ≡ 0 → labels.starts p ≡ true
    pub through : (p : ℕ) → p < parts → labels.starts p ≡ true → ((j : ℕ) → suc j ≡ τ.used p → φ.part p < saving p j) → labels.ends p ≡ true
    pub back : (p : ℕ) → p < parts → labels.ends p ≡ true → saving p (τ.used p) < φ.part p → labels.starts p ≡ true
    pub along : (l : ℕ) → l < links → labels.ends (from l) ≡ true → τ.end (from l) + wire l ≡ τ.start (to l) → labels.starts (to l) ≡ true
    pub against : (l : ℕ) → l < links → labels.starts (to l) ≡ true → 0 < φ.link l → labels.ends (from l) ≡ true
    pub short : (p : ℕ) → p < parts → labels.ends p ≡ true → τ.end p < F

  -- such labels leave room for one tick at least
  pub closed_room : {F : ℕ} {τ : Times} {φ : Flow} {labels : Labels} → Feasible G F τ → Closed F τ φ labels → Room F 1 τ φ labels
  closed_room {F} {τ} {φ} {labels} f c = record {
    starts = λ p h b. elim (dec_lt 0 (τ.start p)) [ yes l ↦ l | no l ↦ clash b (c.entry p h (omega arith)) ];
    gaps = λ l h a b.
        let was = f.waits l h in
        elim (dec_lt (τ.end (from l) + wire l) (τ.start (to l))) [ yes k ↦ omega arith | no k ↦ clash b (c.along l h a (omega arith)) ];
    ends = λ p h a. omega (arith, c.short p h a);
    gives = λ p h a b. elim (dec_lt 0 (τ.used p)) [ yes l ↦ l | no l ↦ clash b (c.through p h a (λ j q. omega arith)) ];
    fewer = λ p h a b j q.
        elim (dec_le (saving p j) (φ.part p)) [
          | yes l ↦ l
          | no l ↦ clash b (c.through p h a (λ i r. let q' : i ≡ j = omega arith in rw q' (omega arith)))
        ];
    more = λ p h a b j q.
        let q' : j ≡ τ.used p = omega arith in
        elim (dec_le (φ.part p) (saving p j)) [ yes l ↦ l | no l ↦ clash a (c.back p h b (rw (← q') (omega arith))) ];
    idle = λ l h a b. elim (dec_lt 0 (φ.link l)) [ yes y ↦ clash a (c.against l h b y) | no y ↦ omega arith ];
  }
