-- Times are looked at below the part count alone: times that are alike there are budgets alike, draw alike, and are held alike.
-- Assumes nothing.
use mathlib.Core.Path.{◌≡◌, ap}
use Prim.Native.Nat.{ℕ, ◌-◌, ◌<◌}
use native.Mathlib.Omega.{arith}
use Rattle.theory.specs.Saving.{saves}
use Rattle.theory.specs.Graph.{Graph, Times, Lawful, total}
use Rattle.theory.specs.Budget.{Budget, Held}
use Rattle.theory.proofs.SumLaws.{sum_ext}
use Rattle.theory.proofs.ArriveLaws.{arrive_ext}

module _ (G : Graph) where
  open G use {parts, from, saving, power}

  -- the same starts, ends and ticks used
  pub record Alike (τ τ' : Times) : Type 0 where
    pub start_eq : (p : ℕ) → p < parts → τ.start p ≡ τ'.start p
    pub end_eq : (p : ℕ) → p < parts → τ.end p ≡ τ'.end p
    pub used_eq : (p : ℕ) → p < parts → τ.used p ≡ τ'.used p

  module _ {τ τ' : Times} (a : Alike τ τ') where
    pub alike_total : total G τ ≡ total G τ'
    unfolding total
    alike_total = sum_ext parts (λ p h. ap (λ t. power p - saves (saving p) t) (a.used_eq p h))

    pub alike_budget : Lawful G → {T : ℕ} → Budget G T τ → Budget G T τ'
    alike_budget o b = record {
      spans = λ p h. omega (arith, b.spans p h, a.start_eq p h, a.end_eq p h, a.used_eq p h);
      at_once = λ p h.
          omega (
            arith,
            b.at_once p h,
            a.start_eq p h,
            arrive_ext G τ.end τ'.end p (λ l k q. a.end_eq (from l) (o.from_in l k)),
          );
      ends = λ p h. omega (arith, b.ends p h, a.end_eq p h);
      in_range = λ p h. omega (arith, b.in_range p h, a.used_eq p h);
    }

    pub alike_held : Lawful G → {T : ℕ} → Held G T τ → Held G T τ'
    alike_held o k = record {
      budget = alike_budget o k.budget;
      least = λ τ'' b. omega (arith, k.least τ'' b, alike_total);
      first = λ τ'' b less p h. omega (arith, k.first τ'' b (omega (arith, alike_total)) p h, a.end_eq p h);
    }
