-- Weak duality: a flow that conserves, and times that are slack with it, bound what any times save.
-- One bound, with two deadlines: where they are equal it is theorem 1, and where they differ it says what a tick of deadline is worth.
-- Assumes nothing.
use mathlib.Core.Path.{◌≡◌, ◌∙◌, sym, ap}
use Prim.Native.Nat.{ℕ, zero, suc, ◌+◌, ◌*◌, ◌≤◌, ◌<◌}
use native.Mathlib.Nat.{eq_of_mul-eq-mul_right, mul-le-mul_right}
use native.Mathlib.Omega.{arith}
use Rattle.theory.specs.Sum.{sum, into}
use Rattle.theory.proofs.SumLaws.{sum_ext, sum_le, sum_eq, sum_add, sum_scale, exchange}
use Rattle.theory.specs.Saving.{saves}
use Rattle.theory.proofs.SavingLaws.{best, best_eq}
use Rattle.theory.specs.Graph.{Graph, Times, Flow, Lawful, Feasible, Conserves, Slack, saved, total, value}
use Rattle.theory.proofs.TotalLaws.{total_saved}

-- a number of each part, weighed by the part's load, adds up to the same over the links that end there and the part's gate
pub weigh :
    (n m : ℕ) (end y gate x π : ℕ → ℕ) →
    ((l : ℕ) → l < m → end l < n) →
    ((p : ℕ) → p < n → into m end y p + gate p ≡ x p) →
    sum n (λ p. π p * x p) ≡ sum m (λ l. π (end l) * y l) + sum n (λ p. π p * gate p)
weigh n m end y gate x π h c =
    sum_ext n (λ p l. ap (λ k. π p * k) (sym (c p l)) ∙ omega arith)
    ∙ sum_add n (λ p. π p * into m end y p) (λ p. π p * gate p)
    ∙ omega (arith, exchange n m end y π h)

-- two numbers that are equal where y is not 0 are equal times y
times : {a b : ℕ} (y : ℕ) → (0 < y → a ≡ b) → a * y ≡ b * y
times zero h = omega arith
times (suc y) h = ap (λ k. k * suc y) (h (omega arith))

module _ (G : Graph) (φ : Flow) where
  -- the ticks of the loads' ways with all parts at their fastest
  unfoldable pub base : ℕ
  base = sum G.parts (λ p. G.fastest p * φ.part p) + sum G.links (λ l. G.wire l * φ.link l)

  -- the further ticks
  unfoldable pub spent : Times → ℕ
  spent τ = sum G.parts (λ p. τ.used p * φ.part p)

module _ (G : Graph) (o : Lawful G) (φ : Flow) (c : Conserves G φ) (T : ℕ) (τ : Times) (f : Feasible G T τ) where
  open G use {parts, links, from, to, wire, fastest}
  open φ use {part, link, entry, exit}
  open τ use {start, end, used}

  -- where each link's load leaves and where it arrives, and when loads enter and leave the graph
  abbrev early : ℕ → ℕ
  early l = (end (from l) + wire l) * link l

  abbrev late : ℕ → ℕ
  late l = start (to l) * link l

  abbrev begun : ℕ → ℕ
  begun p = start p * entry p

  abbrev done : ℕ → ℕ
  done p = end p * exit p

  -- the account of all loads' ticks
  work : sum links late + sum parts begun + (base G φ + spent G φ τ) ≡ sum links early + sum parts done
  unfolding base spent
  work =
      omega (
        arith,
        weigh parts links from link exit part end o.from_in (λ p h. omega (arith, c.leaves p h)),
        weigh parts links to link entry part start o.to_in (λ p h. omega (arith, c.arrives p h)),
        sum_ext parts {f = λ p. end p * part p} {g = λ p. start p * part p + fastest p * part p + used p * part p}
            (λ p h. ap (λ k. k * part p) (sym (f.spans p h)) ∙ omega arith),
        sum_add parts (λ p. start p * part p + fastest p * part p) (λ p. used p * part p),
        sum_add parts (λ p. start p * part p) (λ p. fastest p * part p),
        sum_ext links {f = early} {g = λ l. end (from l) * link l + wire l * link l} (λ l h. omega arith),
        sum_add links (λ l. end (from l) * link l) (λ l. wire l * link l),
      )

  early_late : (l : ℕ) → l < links → early l ≤ late l
  early_late l h = mul-le-mul_right (link l) (f.waits l h)

  by_deadline : (p : ℕ) → p < parts → done p ≤ T * exit p
  by_deadline p h = mul-le-mul_right (exit p) (f.ends p h)

  -- the loads have no more ticks than the deadline gives them
  pub work_le : base G φ + spent G φ τ ≤ T * value G φ
  unfolding value
  work_le = omega (arith, work, sum_le links early_late, sum_le parts by_deadline, sum_scale parts T exit)

  -- where they have all those ticks, load runs only where there is no slack
  module _ (full : T * value G φ ≤ base G φ + spent G φ τ) where
    pub full_links : (l : ℕ) → l < links → 0 < link l → end (from l) + wire l ≡ start (to l)
    unfolding value
    full_links l h y =
        eq_of_mul-eq-mul_right (link l) y (end (from l) + wire l) (start (to l))
        (sum_eq links early_late (omega (arith, work, sum_le parts by_deadline, sum_scale parts T exit)) l h)

    pub full_exits : (p : ℕ) → p < parts → 0 < exit p → end p ≡ T
    unfolding value
    full_exits p h y =
        eq_of_mul-eq-mul_right (exit p) y (end p) T
        (sum_eq parts by_deadline (omega (arith, work, sum_le links early_late, sum_scale parts T exit)) p h)

    pub full_entries : (p : ℕ) → p < parts → 0 < entry p → start p ≡ 0
    unfolding value
    full_entries p h y =
        eq_of_mul-eq-mul_right (entry p) y (start p) 0
        (sym
        (sum_eq parts {f = λ p. 0 * entry p} {g = begun} (λ p h. omega arith)
        (omega (arith, work, sum_le links early_late, sum_le parts by_deadline, sum_scale parts T exit)) p h))

  -- and the other way round
  pub slack_full : Slack G T τ φ → T * value G φ ≤ base G φ + spent G φ τ
  unfolding value
  slack_full k =
      omega (
        arith,
        work,
        sum_ext links {f = early} {g = late} (λ l h. times (link l) (λ y. omega (arith, k.tight l h y))),
        sum_ext parts {f = done} {g = λ p. T * exit p} (λ p h. times (exit p) (k.stops p h)),
        sum_ext parts {f = begun} {g = λ p. 0 * entry p} (λ p h. times (entry p) (k.starts p h)),
        sum_scale parts T exit,
        sum_scale parts 0 entry,
      )

module _
    (G : Graph) (o : Lawful G) (φ : Flow) (c : Conserves G φ)
    {F : ℕ} {τ : Times} (f : Feasible G F τ) (k : Slack G F τ φ)
    {T : ℕ} {τ' : Times} (f' : Feasible G T τ')
  where
    open G use {parts, saving}
    open φ use {part}

    -- at each part the ticks of τ are worth their load more than those of τ'
    best_at : (p : ℕ) → p < parts → saves (saving p) (τ'.used p) + τ.used p * part p ≤ saves (saving p) (τ.used p) + τ'.used p * part p
    best_at p h = omega (arith, best (k.suits p h) (τ'.used p))

    sums :
        (sum parts (λ p. saves (saving p) (τ'.used p) + τ.used p * part p) ≡ saved G τ' + spent G φ τ)
        × (sum parts (λ p. saves (saving p) (τ.used p) + τ'.used p * part p) ≡ saved G τ + spent G φ τ')
    unfolding saved spent
    sums = (
      sum_add parts (λ p. saves (saving p) (τ'.used p)) (λ p. τ.used p * part p),
      sum_add parts (λ p. saves (saving p) (τ.used p)) (λ p. τ'.used p * part p),
    )

    -- THE BOUND. Times that keep T save at most what τ saves, less the flow's value for each tick that T is below F.
    pub dual : saved G τ' + F * value G φ ≤ saved G τ + T * value G φ
    dual = omega (arith, sum_le parts best_at, sums, slack_full G o φ c F τ f k, work_le G o φ c T τ' f')

    -- the same of totals
    pub dual_total : total G τ + F * value G φ ≤ total G τ' + T * value G φ
    dual_total = omega (arith, dual, total_saved G o τ, total_saved G o τ')

    -- Where they save all that, they are slack with the same flow.
    pub dual_slack : saved G τ + T * value G φ ≤ saved G τ' + F * value G φ → Slack G T τ' φ
    dual_slack same =
        let a = slack_full G o φ c F τ f k in
        let full : T * value G φ ≤ base G φ + spent G φ τ' = omega (arith, sum_le parts best_at, sums) in
        record {
          suits = λ p h. best_eq (k.suits p h) (τ'.used p) (omega (arith, sum_eq parts best_at (omega (arith, sums, work_le G o φ c T τ' f')) p h));
          tight = full_links G o φ c T τ' f' full;
          starts = full_entries G o φ c T τ' f' full;
          stops = full_exits G o φ c T τ' f' full;
        }

module _
    (G : Graph) (o : Lawful G) (φ : Flow) (c : Conserves G φ)
    {T : ℕ} {τ : Times} (f : Feasible G T τ) (k : Slack G T τ φ)
    {τ' : Times} (f' : Feasible G T τ')
  where
    -- THEOREM 1. Times that are slack with a flow save the most.
    pub cheapest : saved G τ' ≤ saved G τ
    cheapest = omega (arith, dual G o φ c f k f')

    pub cheapest_total : total G τ ≤ total G τ'
    cheapest_total = omega (arith, cheapest, total_saved G o τ, total_saved G o τ')

    -- THEOREM 2. All times that save as much are slack with the same flow.
    pub cheapest_slack : saved G τ ≤ saved G τ' → Slack G T τ' φ
    cheapest_slack same = dual_slack G o φ c f k f' (omega arith)
