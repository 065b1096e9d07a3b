-- The three steps of the main loop, with no sheet in sight: labelled nodes go down, load is carried from the source on, and what is left to do.
-- (The first step, a label more, is `Labels` with one more in the count.)
-- Assumes nothing.
use Rattle.std.specs.Prelude.{◌≡◌, ◌≢◌, ℕ, ◌+◌, ◌*◌, ◌-◌, ◌≤◌, ◌<◌}
use Rattle.theory.specs.Sum.{share, into}
use Rattle.nets.specs.Network.{Network}
use Rattle.nets.specs.Flow.{Fit}

-- f' is f but for y at v
pub record Put (f : ℕ → ℕ) (v y : ℕ) (f' : ℕ → ℕ) : Type 0 where
  pub here : f' v ≡ y
  pub there : (w : ℕ) → w ≢ v → f' w ≡ f w

-- a time stays, or goes down by d; one that is less than d, which no labelled node has, goes to 0
pub record Moved (t room d r : ℕ) : Type 0 where
  pub stays : room ≡ 0 → r ≡ t
  pub goes : 0 < room → d ≤ t → r + d ≡ t

-- d has come from the source as far as node v: the loads x were y, arcs between nodes of v's rank and below have their loads still, and all fit
pub record Carried (N : Network) (t y rank room : ℕ → ℕ) (d : ℕ) (x : ℕ → ℕ) (v : ℕ) : Type 0 where
  pub node : v < 130
  pub spare : d ≤ room v
  pub near : (a : ℕ) → a < N.arcs → rank (N.tail a) ≤ rank v → rank (N.head a) ≤ rank v → x a ≡ y a
  pub fit : (a : ℕ) → a < N.arcs → Fit N t x a
  pub flow : (w : ℕ) →
      into N.arcs N.head x w + into N.arcs N.tail y w + share 128 w d
      ≡ into N.arcs N.head y w + into N.arcs N.tail x w + share v w d

-- what is left to do: ticks to go, load that may still be added, and nodes to label
unfoldable pub left : Network → (ℕ → ℕ) → (ℕ → ℕ) → ℕ → ℕ
left N t x count = (t 129 + (64000 + into N.arcs N.tail x 129 - into N.arcs N.head x 129)) * 131 + (130 - count)
