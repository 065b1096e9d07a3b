-- 01, The budget, over a graph: when parts start and end, which budgets are allowed, and the one that is held.
-- Assumes nothing.
use Rattle.std.specs.Prelude.{◌≡◌, ℕ, zero, suc, max, ◌+◌, ◌≤◌, ◌<◌}
use Rattle.theory.specs.Sum.{share}
use Rattle.theory.specs.Graph.{Graph, Times, total}

-- the greatest of f l over l < m, and 0 where there is none
unfoldable pub greatest : ℕ → (ℕ → ℕ) → ℕ
greatest zero f = 0
greatest (suc m) f = max (greatest m f) (f m)

module _ (G : Graph) where
  -- "A part starts at the greatest end among the parts linked to it, or at 0 where there is none": the last arrival at part p, where
  -- parts end at e
  unfoldable pub arrive : (ℕ → ℕ) → ℕ → ℕ
  arrive e p = greatest G.links (λ l. share (G.to l) p (e (G.from l) + G.wire l))

  -- "it ends at start plus delay": the starts and ends of given delays
  pub record Timed (delay start end : ℕ → ℕ) : Type 0 where
    pub starts : (p : ℕ) → p < G.parts → start p ≡ arrive end p
    pub ends : (p : ℕ) → p < G.parts → end p ≡ start p + delay p

  -- no later anywhere
  pub record NoLater (τ τ' : Times) : Type 0 where
    pub start_le : (p : ℕ) → p < G.parts → τ.start p ≤ τ'.start p
    pub end_le : (p : ℕ) → p < G.parts → τ.end p ≤ τ'.end p

  -- "A budget gives each part a whole delay from its fastest to its slowest. A budget is allowed when no end exceeds the deadline."
  pub record Budget (T : ℕ) (τ : Times) : Type 0 where
    pub spans : (p : ℕ) → p < G.parts → τ.start p + (G.fastest p + τ.used p) ≡ τ.end p
    pub at_once : (p : ℕ) → p < G.parts → τ.start p ≡ arrive τ.end p
    pub ends : (p : ℕ) → p < G.parts → τ.end p ≤ T
    pub in_range : (p : ℕ) → p < G.parts → τ.used p ≤ G.ticks p

  -- "Of the allowed budgets of least total there is exactly one whose ends are all no later than those of every other; that one is held."
  pub record Held (T : ℕ) (τ : Times) : Type 0 where
    pub budget : Budget T τ
    pub least : (τ' : Times) → Budget T τ' → total G τ ≤ total G τ'
    pub first : (τ' : Times) → Budget T τ' → total G τ' ≤ total G τ → (p : ℕ) → p < G.parts → τ.end p ≤ τ'.end p
