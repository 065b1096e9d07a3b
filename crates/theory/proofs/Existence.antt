-- What the theory comes to: where the deadline can be kept there is a budget to hold, it draws least of all times that keep the deadline,
-- and a flow proves it.
-- Assumes nothing.
use Prim.Native.Nat.{ℕ, ◌≤◌, ◌<◌}
use native.Mathlib.Omega.{arith}
use Rattle.theory.specs.Graph.{Graph, Times, Lawful, Feasible, total}
use Rattle.theory.specs.Budget.{Timed, Held}
use Rattle.theory.proofs.TotalLaws.{total_saved}
use Rattle.theory.proofs.TimedLaws.{budget_feasible, fastest_fits, fastest_budget}
use Rattle.theory.proofs.Rounds.{budget_of, budget_of_budget, budget_of_saved}
use Rattle.theory.proofs.LeastTimes.{least}
use Rattle.theory.proofs.Earliest.{held_once, earliest_held}
use Rattle.theory.proofs.Alike.{Alike}
use Rattle.theory.proofs.StrongDuality.{strong}

module _ (G : Graph) (o : Lawful G) where
  -- where the deadline can be kept there is a budget to hold,
  pub held_is : {T : ℕ} {τ⁰ : Times} → Feasible G T τ⁰ → (τ : Times) × Held G T τ
  held_is {T} f =
      let st = strong G o f in
      let r = least G T st.flow o st.feasible st.slack in
      (r.0, earliest_held G o st.flow st.conserves r.1 r.2 r.3)

  -- "there is exactly one"
  pub held_exactly_one : {T : ℕ} {τ⁰ : Times} → Feasible G T τ⁰ → (τ : Times) × Held G T τ × ((τ' : Times) → Held G T τ' → Alike G τ τ')
  held_exactly_one f =
      let r = held_is f in
      (r.0, r.1, λ τ' k. held_once G o r.1 k)

  -- there is one just where all parts at their fastest keep the deadline
  pub held_possible :
      {s e : ℕ → ℕ} → Timed G G.fastest s e → {T : ℕ} →
      (((τ : Times) × Held G T τ) → (p : ℕ) → p < G.parts → e p ≤ T)
      × (((p : ℕ) → p < G.parts → e p ≤ T) → (τ : Times) × Held G T τ)
  held_possible t = (
    (λ k. fastest_fits G o t (budget_feasible G o k.1.budget)),
    (λ ends. held_is (budget_feasible G o (fastest_budget G t ends))),
  )

  -- it draws least of all times that keep the deadline, those in which parts wait too
  pub held_least : {T : ℕ} {τ τ' : Times} → Held G T τ → Feasible G T τ' → total G τ ≤ total G τ'
  held_least {T} {τ} {τ'} k f =
      omega (
        arith,
        k.least (budget_of G o f) (budget_of_budget G o f),
        budget_of_saved G o f,
        total_saved G o τ',
        total_saved G o (budget_of G o f),
      )
