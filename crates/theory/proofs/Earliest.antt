-- The earliest of the times that save the most: the least that are slack with a flow. They are a budget, and the one that is held.
-- The idea: compare the least times with `press` of themselves, which is no later and saves as much. So they do not wait.
-- Assumes nothing.
use mathlib.Core.Path.{◌≡◌, refl, ap}
use Prim.Native.Nat.{ℕ, min, ◌+◌, ◌≤◌, ◌<◌}
use native.Mathlib.Omega.{arith}
use Rattle.theory.proofs.SumLaws.{sum_ext}
use Rattle.theory.proofs.SavingLaws.{saves_min}
use Rattle.theory.specs.Graph.{Graph, Times, Flow, Lawful, Feasible, Conserves, Slack, saved, total}
use Rattle.theory.proofs.TotalLaws.{total_saved}
use Rattle.theory.proofs.Duality.{cheapest_total, cheapest_slack}
use Rattle.theory.specs.Budget.{arrive, NoLater, Budget, Held}
use Rattle.theory.proofs.ArriveLaws.{arrive_ge, arrive_le, arrive_ext}
use Rattle.theory.proofs.TimedLaws.{budget_feasible}
use Rattle.theory.proofs.Alike.{Alike}

module _ (G : Graph) where
  open G use {parts, from, fastest, ticks, saving}

  -- the same ticks, but none past the slowest delay, and each part as soon as the ends of τ let it start
  unfoldable press : Times → Times
  press τ = record {
    start = arrive G τ.end;
    end = λ p. arrive G τ.end p + (fastest p + min (τ.used p) (ticks p));
    used = λ p. min (τ.used p) (ticks p);
  }

  module _ (o : Lawful G) {T : ℕ} {τ : Times} (f : Feasible G T τ) where
    press_sooner : NoLater G (press τ) τ
    unfolding press
    press_sooner =
        let arrived : (p : ℕ) → p < parts → arrive G τ.end p ≤ τ.start p =
        λ p h. arrive_le G τ.end p (τ.start p) (λ l k q. omega (arith, f.waits l k, ap τ.start q)) in
        record { start_le = arrived; end_le = λ p h. omega (arith, arrived p h, f.spans p h) }

    press_feasible : Feasible G T (press τ)
    unfolding press
    press_feasible = record {
      spans = λ p h. refl;
      waits = λ l h. omega (arith, arrive_ge G τ.end l h, press_sooner.end_le (from l) (o.from_in l h));
      ends = λ p h. omega (arith, press_sooner.end_le p h, f.ends p h);
    }

    press_saved : saved G (press τ) ≡ saved G τ
    unfolding saved press
    press_saved = sum_ext parts (λ p h. saves_min (saving p) (ticks p) (o.past p h) (τ.used p))

  -- ---- "there is exactly one": two held budgets have one total, and are alike at every part
  pub held_total_once : {T : ℕ} {τ τ' : Times} → Held G T τ → Held G T τ' → total G τ ≡ total G τ'
  held_total_once {T} {τ} {τ'} a b = omega (arith, a.least τ' b.budget, b.least τ a.budget)

  pub held_once : Lawful G → {T : ℕ} {τ τ' : Times} → Held G T τ → Held G T τ' → Alike G τ τ'
  held_once o {T} {τ} {τ'} a b =
      let same = held_total_once a b in
      let ends : (p : ℕ) → p < parts → τ.end p ≡ τ'.end p =
      λ p h. omega (arith, a.first τ' b.budget (omega arith) p h, b.first τ a.budget (omega arith) p h) in
      let starts : (p : ℕ) → p < parts → τ.start p ≡ τ'.start p =
      λ p h.
      omega (
        arith,
        a.budget.at_once p h,
        b.budget.at_once p h,
        arrive_ext G τ.end τ'.end p (λ l k q. ends (from l) (o.from_in l k)),
      ) in
      record {
        start_eq = starts;
        end_eq = ends;
        used_eq = λ p h. omega (arith, starts p h, ends p h, a.budget.spans p h, b.budget.spans p h);
      }

  module _ (o : Lawful G) (φ : Flow) (c : Conserves G φ) {T : ℕ} {τ : Times} (f : Feasible G T τ) (k : Slack G T τ φ) where
    -- ---- the least times that are slack with a flow
    module _ (least : (τ' : Times) → Feasible G T τ' → Slack G T τ' φ → NoLater G τ τ') where
      -- are no later than any that save as much,
      pub earliest : {τ' : Times} → Feasible G T τ' → saved G τ ≤ saved G τ' → NoLater G τ τ'
      earliest {τ'} f' same = least τ' f' (cheapest_slack G o φ c f k f' same)

      -- are a budget,
      pub earliest_budget : Budget G T τ
      unfolding press
      earliest_budget =
          let a = press_sooner o f in
          let b = earliest (press_feasible o f) (omega (arith, press_saved o f)) in
          record {
            spans = f.spans;
            at_once = λ p h. omega (arith, a.start_le p h, b.start_le p h);
            ends = f.ends;
            in_range = λ p h. omega (arith, a.start_le p h, b.start_le p h, b.end_le p h, f.spans p h);
          }

      -- and are the one held.
      pub earliest_held : Held G T τ
      earliest_held = record {
        budget = earliest_budget;
        least = λ τ' b. omega (arith, cheapest_total G o φ c f k (budget_feasible G o b));
        first = λ τ' b same. (earliest (budget_feasible G o b) (omega (arith, total_saved G o τ, total_saved G o τ'))).end_le;
      }
