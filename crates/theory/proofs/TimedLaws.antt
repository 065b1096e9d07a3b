-- The starts and ends of given delays: delays have at most one, none are earlier, and with delays in range they are a budget.
-- Whether a deadline can be kept is then seen from all parts at their fastest.
-- Assumes nothing.
use mathlib.Core.Path.{◌≡◌, sym, ap}
use Prim.Native.Nat.{ℕ, zero, suc, ◌+◌, ◌-◌, ◌≤◌, ◌<◌}
use native.Mathlib.Omega.{arith}
use Rattle.theory.specs.Graph.{Graph, Times, Lawful, Ranked, Feasible}
use Rattle.theory.specs.Budget.{arrive, Timed, NoLater, Budget}
use Rattle.theory.proofs.ArriveLaws.{arrive_ge, arrive_le, arrive_ext}

module _ (G : Graph) where
  open G use {parts, links, from, to, wire, fastest, ticks}

  -- ---- delays have one start and end for each part: on a graph with no loop a part's start goes by the starts of parts with lower ranks
  module _ (o : Lawful G) {top : ℕ} (r : Ranked G top) {delay s e s' e' : ℕ → ℕ} (t : Timed G delay s e) (t' : Timed G delay s' e') where
    end_once : (p : ℕ) → p < parts → s p ≡ s' p → e p ≡ e' p
    end_once p h q = omega (arith, t.ends p h, t'.ends p h)

    start_once : (bound p : ℕ) → p < parts → r.rank p < bound → s p ≡ s' p
    start_once zero p h l = omega arith
    start_once (suc bound) p h l =
        let same : arrive G e p ≡ arrive G e' p =
        arrive_ext G e e' p
        (λ k h' q.
        let i = o.from_in k h' in
        end_once (from k) i (start_once bound (from k) i (omega (arith, r.rises k h', ap r.rank q)))) in
        omega (arith, t.starts p h, t'.starts p h)

    pub timed_once : (p : ℕ) → p < parts → (s p ≡ s' p) × (e p ≡ e' p)
    timed_once p h =
        let same = start_once (suc (r.rank p)) p h (omega arith) in
        (same, end_once p h same)

  -- ---- no later than any times in which each part takes as long or longer
  module _ (o : Lawful G) {delay s e : ℕ → ℕ} (t : Timed G delay s e) {T : ℕ} {τ : Times} (f : Feasible G T τ)
      (long : (p : ℕ) → p < parts → delay p ≤ fastest p + τ.used p)
    where
      end_first : (p : ℕ) → p < parts → s p ≤ τ.start p → e p ≤ τ.end p
      end_first p h l = omega (arith, t.ends p h, f.spans p h, long p h)

      -- by the ends of τ, which rise along the links
      start_first : (bound p : ℕ) → p < parts → τ.end p < bound → s p ≤ τ.start p
      start_first zero p h l = omega arith
      start_first (suc bound) p h l =
          rw (t.starts p h)
          (arrive_le G e p (τ.start p)
          (λ k h' q.
          let i = o.from_in k h' in
          let waits = f.waits k h' in
          let here = ap τ.start q in
          let earlier = start_first bound (from k) i (omega (arith, f.spans p h, o.takes p h)) in
          omega (arith, end_first (from k) i earlier)))

      pub timed_first : (p : ℕ) → p < parts → (s p ≤ τ.start p) × (e p ≤ τ.end p)
      timed_first p h =
          let first = start_first (suc (τ.end p)) p h (omega arith) in
          (first, end_first p h first)

  -- ---- a budget: delays from the fastest to the slowest, and ends within the deadline
  pub budget_timed : {T : ℕ} {τ : Times} → Budget G T τ → Timed G (λ p. fastest p + τ.used p) τ.start τ.end
  budget_timed b = record { starts = b.at_once; ends = λ p h. sym (b.spans p h) }

  pub timed_budget :
      {T : ℕ} {τ : Times} → Timed G (λ p. fastest p + τ.used p) τ.start τ.end →
      ((p : ℕ) → p < parts → τ.end p ≤ T) → ((p : ℕ) → p < parts → τ.used p ≤ ticks p) → Budget G T τ
  timed_budget t ends range = record { spans = λ p h. sym (t.ends p h); at_once = t.starts; ends = ends; in_range = range }

  -- "a whole delay from its fastest to its slowest": the same in delays
  pub delays_budget :
      {delay s e : ℕ → ℕ} → Timed G delay s e → {T : ℕ} → ((p : ℕ) → p < parts → e p ≤ T) →
      ((p : ℕ) → p < parts → fastest p ≤ delay p) → ((p : ℕ) → p < parts → delay p ≤ fastest p + ticks p) →
      Budget G T (record { start = s; end = e; used = λ p. delay p - fastest p })
  delays_budget t ends slow fast = record {
    spans = λ p h. omega (arith, t.ends p h, slow p h);
    at_once = t.starts;
    ends = ends;
    in_range = λ p h. omega (arith, fast p h);
  }

  pub budget_feasible : Lawful G → {T : ℕ} {τ : Times} → Budget G T τ → Feasible G T τ
  budget_feasible o {T} {τ} b = record {
    spans = b.spans;
    waits = λ l h. omega (arith, arrive_ge G τ.end l h, b.at_once (to l) (o.to_in l h));
    ends = b.ends;
  }

  -- a budget is no later than any times that use as many ticks or more
  pub budget_first :
      Lawful G → {T : ℕ} {τ : Times} → Budget G T τ → {T' : ℕ} {τ' : Times} → Feasible G T' τ' →
      ((p : ℕ) → p < parts → τ.used p ≤ τ'.used p) → NoLater G τ τ'
  budget_first o b f more =
      let first = timed_first o (budget_timed b) f (λ p h. omega (arith, more p h)) in
      record { start_le = λ p h. (first p h).0; end_le = λ p h. (first p h).1 }

  -- ---- whether a deadline can be kept
  -- where all parts at their fastest keep it, they are a budget;
  pub fastest_budget :
      {s e : ℕ → ℕ} → Timed G fastest s e → {T : ℕ} → ((p : ℕ) → p < parts → e p ≤ T) →
      Budget G T (record { start = s; end = e; used = λ p. 0 })
  fastest_budget t ends = record {
    spans = λ p h. omega (arith, t.ends p h);
    at_once = t.starts;
    ends = ends;
    in_range = λ p h. omega arith;
  }

  module _ (o : Lawful G) {s e : ℕ → ℕ} (t : Timed G fastest s e) {T : ℕ} where
    -- and nothing is earlier,
    pub fastest_first : {τ : Times} → Feasible G T τ → (p : ℕ) → p < parts → (s p ≤ τ.start p) × (e p ≤ τ.end p)
    fastest_first f = timed_first o t f (λ p h. omega arith)

    -- so a budget is allowed just where they keep it.
    pub fastest_fits : {τ : Times} → Feasible G T τ → (p : ℕ) → p < parts → e p ≤ T
    fastest_fits f p h = omega (arith, (fastest_first f p h).1, f.ends p h)

    pub possible :
        (((τ : Times) × Budget G T τ) → (p : ℕ) → p < parts → e p ≤ T)
        × (((p : ℕ) → p < parts → e p ≤ T) → (τ : Times) × Budget G T τ)
    possible = (λ b. fastest_fits (budget_feasible o b.1), λ ends. (record { start = s; end = e; used = λ p. 0 }, fastest_budget t ends))
