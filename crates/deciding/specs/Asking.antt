-- What one arc asks of the times, by one number of it: how many of its ticks save more than its load. Too short for its load its head must be later,
-- too long its tail; an arc without a load is never too long. What it asks is the least that any later times have that fit it.
-- Assumes nothing.
use Rattle.std.specs.Prelude.{◌≡◌, List, Option, Some, None, ℕ, ◌+◌, ◌-◌, ◌≤◌, ◌<◌}
use Rattle.theory.specs.Sum.{cells}
use Rattle.theory.specs.Saving.{Suits}
use Rattle.nets.specs.declared.Net.{Net}
use Rattle.nets.specs.Network.{Network}
use Rattle.nets.specs.Flow.{Fit}
use Rattle.nets.specs.Sheet.{net_in, BendsIn}
use Rattle.deciding.specs.declared.asking.Ends.{Ends}
use Rattle.deciding.specs.declared.asking.Raise.{Raise}

-- the first n ticks save more than x, and no other does
pub record Above (g : ℕ → ℕ) (x n : ℕ) : Type 0 where
  pub more : (j : ℕ) → j < n → x < g j
  pub rest : (j : ℕ) → n ≤ j → g j ≤ x
  pub few : n ≤ 4095

-- an arc's times and base are not large
pub record Early (k : Ends) : Type 0 where
  pub from_most : k.from ≤ 4095
  pub base_most : k.base ≤ 4095
  pub to_most : k.to ≤ 4095

-- what an arc k with gain g says: too short for its load, its head must be later; too long, its tail; or it fits
pub data Says (g : ℕ → ℕ) (k : Ends) : Option Raise → Type 0 where
  short : {r : Raise} (low : ℕ) → Above g k.load low → r.node ≡ k.head → r.time ≡ k.from + k.base + low → k.to < r.time → Says g k (Some r)
  long : {r : Raise} (high : ℕ) → (k.load ≡ 0 → ⊥) → Above g (k.load - 1) high → r.node ≡ k.tail → r.time + k.base + high ≡ k.to → k.from < r.time → Says g k (Some r)
  fits : k.from + k.base ≤ k.to → Suits g (k.to - (k.from + k.base)) k.load → Says g k None

-- no node is later than u has it
abbrev pub Below : (ℕ → ℕ) → (ℕ → ℕ) → Type 0
Below t u = (v : ℕ) → v < 130 → t v ≤ u v

module _ (N : Network) (x : ℕ → ℕ) where
  -- a node is too early for all times from t on that fit arc a, and the arc's head is no earlier than that then
  pub record Lags (t : ℕ → ℕ) (a : ℕ) (r : Raise) : Type 0 where
    pub node : r.node < 130
    pub later : t r.node < r.time
    pub least : (u : ℕ → ℕ) → Fit N u x a → Below t u → r.time ≤ u r.node
    pub ahead : (u : ℕ → ℕ) → Fit N u x a → Below t u → r.time ≤ u (N.head a)

  -- what arc a says: it fits, or a node is too early
  abbrev pub Asks : (ℕ → ℕ) → ℕ → Option Raise → Type 0
  Asks t a None = Fit N t x a
  Asks t a (Some r) = Lags t a r

-- ---- in the sheets
-- arc a lies within the sheets, and nothing next to it is large
pub record PlacedIn (net : Net) (t : List ℕ) (a : ℕ) : Type 0 where
  pub arc_in : a < 448
  pub tail_in : cells net.tail a < 130
  pub head_in : cells net.head a < 130
  pub base_most : cells net.base a ≤ 4095
  pub tail_most : cells t (cells net.tail a) ≤ 4095
  pub head_most : cells t (cells net.head a) ≤ 4095
  pub bends : BendsIn net a

unfoldable pub ends_in : Net → List ℕ → List ℕ → ℕ → Ends
ends_in net t x a = record {
  tail = cells net.tail a;
  head = cells net.head a;
  from = cells t (cells net.tail a);
  base = cells net.base a;
  to = cells t (cells net.head a);
  load = cells x a;
}

unfoldable pub AsksIn : Net → List ℕ → List ℕ → ℕ → Option Raise → Type 0
AsksIn net t x a r = Asks (net_in net) (cells x) (cells t) a r
