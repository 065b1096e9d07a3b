-- One arc. Its tick j saves g j; it has l ticks past its base, and load x.
-- Assumes nothing.
use Rattle.std.specs.Prelude.{◌≡◌, ℕ, ◌+◌, ◌≤◌, ◌<◌}
use Rattle.theory.specs.Saving.{Suits}
use Rattle.nets.specs.declared.Arc.{Arc}

module _ (g : ℕ → ℕ) (l x : ℕ) where
  -- at this length its load may rise by d, or fall by d
  pub record Rises (d : ℕ) : Type 0 where
    pub used : (j : ℕ) → j < l → x + d ≤ g j

  pub record Falls (d : ℕ) : Type 0 where
    pub unused : (j : ℕ) → l ≤ j → g j + d ≤ x

  -- with this load it may be d ticks shorter, or longer
  pub record Shrinks (d : ℕ) : Type 0 where
    pub within : d ≤ l
    pub unused : (j : ℕ) → l ≤ j + d → g j ≤ x

  pub record Stretches (d : ℕ) : Type 0 where
    pub used : (j : ℕ) → j < l + d → x ≤ g j

module _ (g : ℕ → ℕ) (k : Arc) where
  -- its ticks suit its load and are not many, and no tick saves more than one before it
  pub record Calm : Type 0 where
    pub suits : Suits g k.ticks k.load
    pub few : k.ticks ≤ 262144
    pub falls : (i j : ℕ) → i ≤ j → g j ≤ g i

  -- a label passes along it to node v, which has none, with room for d
  pub data Leads (v d : ℕ) : Type 0 where
    on : v ≡ k.tail → k.behind ≡ 0 → d ≤ k.ahead → Rises g k.ticks k.load d → Leads v d
    back : v ≡ k.head → k.ahead ≡ 0 → d ≤ k.behind → Falls g k.ticks k.load d → Leads v d

  -- it lets the labelled nodes go down by d
  pub record Open (d : ℕ) : Type 0 where
    pub into : k.behind ≡ 0 → 0 < k.ahead → Shrinks g k.ticks k.load d
    pub out : 0 < k.behind → k.ahead ≡ 0 → Stretches g k.ticks k.load d
