-- Where the main loop begins and where it ends.
-- Assumes nothing.
use Rattle.std.specs.Prelude.{◌≡◌, List, ℕ, ◌≤◌, ◌<◌}
use Rattle.theory.specs.Sum.{cells}
use Rattle.nets.specs.Network.{Network, net_of, Sound, Curved}
use Rattle.nets.specs.Flow.{Flows, World}

-- a network that the main loop can be run on
pub record Wide (arcs : ℕ) (tail head base lengths savings : List ℕ) (due : ℕ) : Type 0 where
  pub sound : Sound arcs tail head
  pub curved : Curved arcs base lengths savings
  pub world : World (net_of arcs tail head base lengths savings) due

-- times and loads that fit, none of them large
pub record Good (N : Network) (t x : List ℕ) : Type 0 where
  pub flows : Flows N (cells t) (cells x)
  pub early : (v : ℕ) → v < 130 → cells t v ≤ 262144
  pub small : (a : ℕ) → a < N.arcs → cells x a ≤ 64000

-- from times t₀ and loads x₀ down to the deadline; where the deadline is met already, nothing is changed
pub record Crashed (N : Network) (due : ℕ) (t₀ x₀ t x : List ℕ) : Type 0 where
  pub good : Good N t x
  pub end : due ≤ cells t₀ 129 → cells t 129 ≡ due
  pub same_times : cells t₀ 129 ≤ due → t ≡ t₀
  pub same_loads : cells t₀ 129 ≤ due → x ≡ x₀
