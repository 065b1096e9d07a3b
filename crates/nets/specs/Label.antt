-- Labels from the sink backwards, along arcs whose load can be changed. A label of node v is its rank (labels that came earlier have lower ones), the arc
-- that it came along, and the room: how much can be pushed from v to the sink. Where the room is 0 there is no label.
-- Assumes nothing.
use Rattle.std.specs.Prelude.{◌≡◌, ◌≢◌, ℕ, zero, suc, ◌+◌, ◌-◌, ◌≤◌, ◌<◌}
use Rattle.theory.specs.Sum.{sum}
use Rattle.nets.specs.Network.{Network}
use Rattle.nets.specs.Judge.{Rises, Falls}
use Rattle.nets.specs.declared.Arc.{Arc}

-- 1 where there is no label
abbrev pub lack : ℕ → ℕ
lack zero = 1
lack (suc k) = 0

module _ (N : Network) (t : ℕ → ℕ) where
  -- the ticks of arc a past its base
  abbrev pub ticks : ℕ → ℕ
  ticks a = t (N.head a) - (t (N.tail a) + N.base a)

  -- arc a, as it is judged
  abbrev pub arc_of : (ℕ → ℕ) → (ℕ → ℕ) → ℕ → Arc
  arc_of x room a = record {
    tail = N.tail a;
    head = N.head a;
    behind = room (N.tail a);
    ahead = room (N.head a);
    ticks = ticks a;
    load = x a;
  }

  module _ (x rank via room : ℕ → ℕ) where
    -- node v was labelled from node u, and has no more room
    pub record After (u v : ℕ) : Type 0 where
      pub first : rank u < rank v
      pub most : room v ≤ room u

    -- node v was labelled along arc a
    pub data Way (a v : ℕ) : Type 0 where
      on : v ≡ N.tail a → After (N.head a) v → Rises (N.gain a) (ticks a) (x a) (room v) → Way a v
      back : v ≡ N.head a → After (N.tail a) v → Falls (N.gain a) (ticks a) (x a) (room v) → Way a v

    pub record Led (v : ℕ) : Type 0 where
      pub arc : via v < N.arcs
      pub way : Way (via v) v

    -- the sink has a label, every other label has its way, and `count` nodes have one
    pub record Labels (count : ℕ) : Type 0 where
      pub sink : 0 < room 129
      pub few : count + sum 130 (λ v. lack (room v)) ≡ 130
      pub most : (v : ℕ) → v < 130 → room v ≤ 64001
      pub top : (v : ℕ) → v < 130 → 0 < room v → rank v < count
      pub led : (v : ℕ) → v < 130 → 0 < room v → v ≢ 129 → Led v

-- only the sink has a label, the first
pub record Fresh (rank room : ℕ → ℕ) : Type 0 where
  pub sink : room 129 ≡ 64001
  pub first : rank 129 ≡ 0
  pub others : (v : ℕ) → v < 130 → v ≢ 129 → room v ≡ 0
