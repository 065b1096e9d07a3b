-- The starts and ends of given delays, found in rounds: each round starts every part at the last arrival of the round before.
-- On a graph with no loop a part is settled once the rounds pass its rank.
-- Assumes nothing.
use mathlib.Core.Path.{◌≡◌, refl, sym, ap}
use Prim.Native.Nat.{ℕ, zero, suc, min, ◌+◌, ◌≤◌, ◌<◌}
use native.Mathlib.Omega.{arith}
use Rattle.theory.specs.Graph.{Graph, Times, Lawful, Ranked, Feasible, saved}
use Rattle.theory.specs.Budget.{arrive, Timed, NoLater, Budget}
use Rattle.theory.proofs.SumLaws.{sum_ext}
use Rattle.theory.proofs.SavingLaws.{saves_min}
use Rattle.theory.proofs.ArriveLaws.{arrive_le, arrive_ext}
use Rattle.theory.proofs.TimedLaws.{timed_first, timed_budget}

module _ (G : Graph) where
  open G use {parts, links, from, to, fastest, ticks, saving}

  -- the starts after i rounds
  unfoldable pub round : (ℕ → ℕ) → ℕ → ℕ → ℕ
  round delay zero p = 0
  round delay (suc i) p = arrive G (λ q. round delay i q + delay q) p

  module _ (delay : ℕ → ℕ) where
    pub settled : {top : ℕ} (r : Ranked G top) (i p : ℕ) → r.rank p < i → round delay (suc i) p ≡ round delay i p
    unfolding round
    settled r zero p h = omega arith
    settled r (suc i) p h =
        arrive_ext G (λ q. round delay (suc i) q + delay q) (λ q. round delay i q + delay q) p
        (λ l k e. ap (λ v. v + delay (from l)) (settled r i (from l) (omega (arith, r.rises l k, ap r.rank e))))

    -- delays have starts and ends
    pub timed_is : {top : ℕ} → Ranked G top → Timed G delay (round delay top) (λ p. round delay top p + delay p)
    unfolding round
    timed_is {top} r = record { starts = λ p h. sym (settled r top p (r.below p h)); ends = λ p h. refl }

    -- no round passes times in which each part takes as long or longer
    pub round_first :
        Lawful G → {T : ℕ} {τ : Times} → Feasible G T τ → ((p : ℕ) → p < parts → delay p ≤ fastest p + τ.used p) →
        (i p : ℕ) → p < parts → round delay i p ≤ τ.start p
    unfolding round
    round_first o {T} {τ} f long zero p h = omega arith
    round_first o {T} {τ} f long (suc i) p h =
        arrive_le G (λ q. round delay i q + delay q) p (τ.start p)
        (λ l k e.
        let q = o.from_in l k in
        omega (arith, round_first o f long i (from l) q, long (from l) q, f.spans (from l) q, f.waits l k, ap τ.start e))

  -- the times after i rounds where part p uses t p ticks past its fastest delay
  unfoldable pub rounds : (ℕ → ℕ) → ℕ → Times
  rounds t i = record {
    start = round (λ p. fastest p + t p) i;
    end = λ p. round (λ p. fastest p + t p) i p + (fastest p + t p);
    used = t;
  }

  module _ (o : Lawful G) {T : ℕ} {τ : Times} (f : Feasible G T τ) where
    -- where some times keep a deadline there is no loop: their ends rise along the links
    pub feasible_ranked : Ranked G (suc T)
    feasible_ranked = record {
      rank = τ.end;
      rises = λ l k. let q = o.to_in l k in omega (arith, f.waits l k, f.spans (to l) q, o.takes (to l) q);
      below = λ p h. omega (arith, f.ends p h);
    }

    -- ---- All times that keep a deadline have a budget with their ticks, up to the slowest delay, that is no later and saves as much.
    abbrev kept : ℕ → ℕ
    kept p = min (τ.used p) (ticks p)

    unfoldable pub budget_of : Times
    budget_of = rounds kept (suc T)

    pub budget_of_first : NoLater G budget_of τ
    unfolding budget_of rounds
    budget_of_first =
        let first = timed_first G o (timed_is (λ p. fastest p + kept p) feasible_ranked) f (λ p h. omega arith) in
        record { start_le = λ p h. (first p h).0; end_le = λ p h. (first p h).1 }

    pub budget_of_budget : Budget G T budget_of
    unfolding budget_of rounds
    budget_of_budget =
        timed_budget G (timed_is (λ p. fastest p + kept p) feasible_ranked)
        (λ p h. omega (arith, budget_of_first.end_le p h, f.ends p h)) (λ p h. omega arith)

    pub budget_of_saved : saved G budget_of ≡ saved G τ
    unfolding saved budget_of rounds
    budget_of_saved = sum_ext parts (λ p h. saves_min (saving p) (ticks p) (o.past p h) (τ.used p))
