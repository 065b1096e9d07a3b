-- A graph is tighter than another where it has all its links and no part is faster. What keeps a deadline there keeps it, and every later
-- one, in the other graph. So what is too slow stays too slow under every order that tightens.
-- Assumes nothing.
use mathlib.Core.Path.{◌≡◌, ap}
use Prim.Native.Nat.{ℕ, ◌+◌, ◌-◌, ◌≤◌, ◌<◌}
use native.Mathlib.Omega.{arith}
use Rattle.theory.specs.Graph.{Graph, Times, Lawful, Feasible}
use Rattle.theory.specs.Budget.{Budget}
use Rattle.theory.proofs.Rounds.{budget_of, budget_of_budget}
use Rattle.theory.proofs.TimedLaws.{budget_feasible}

-- a link from part i to part j that takes w ticks or more
pub record Joins (G : Graph) (i j w : ℕ) : Type 0 where
  pub link : ℕ
  pub there : link < G.links
  pub from_eq : G.from link ≡ i
  pub to_eq : G.to link ≡ j
  pub long : w ≤ G.wire link

-- G' is tighter than G
pub record Tighter (G G' : Graph) : Type 0 where
  pub parts_in : (p : ℕ) → p < G.parts → p < G'.parts
  pub slower : (p : ℕ) → p < G.parts → G.fastest p ≤ G'.fastest p
  pub joined : (l : ℕ) → l < G.links → Joins G' (G.from l) (G.to l) (G.wire l)

module _ {G G' : Graph} (more : Tighter G G') where
  -- the same starts and ends: a part that is faster in G uses more ticks
  unfoldable pub loosened : Times → Times
  loosened τ = record { start = τ.start; end = τ.end; used = λ p. G'.fastest p - G.fastest p + τ.used p }

  pub tighter_feasible : {T T' : ℕ} {τ : Times} → T' ≤ T → Feasible G' T' τ → Feasible G T (loosened τ)
  unfolding loosened
  tighter_feasible {T} {T'} {τ} later f = record {
    spans = λ p h. omega (arith, f.spans p (more.parts_in p h), more.slower p h);
    waits = λ l h.
        let j = more.joined l h in
        omega (arith, f.waits j.link j.there, ap τ.end j.from_eq, ap τ.start j.to_eq, j.long);
    ends = λ p h. omega (arith, f.ends p (more.parts_in p h));
  }

  -- where the tighter graph has a budget, the other has one
  pub tighter_possible : Lawful G → Lawful G' → {T T' : ℕ} → T' ≤ T → (τ' : Times) → Budget G' T' τ' → (τ : Times) × Budget G T τ
  tighter_possible o o' later τ' b =
      let f = tighter_feasible later (budget_feasible G' o' b) in
      (budget_of G o f, budget_of_budget G o f)
