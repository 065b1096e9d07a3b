-- A graph as a network: part p is arc p, from node p to node 64 + p; then come the links, an entry of each part from node 128, and an exit of
-- each to node 129. Its times and its loads, read as those of the graph.
-- Assumes nothing.
use Rattle.std.specs.Prelude.{◌≡◌, ℕ, ◌+◌, ◌-◌, ◌≤◌, ◌<◌}
use Rattle.theory.specs.Graph.{Graph, Times, Flow}
use Rattle.nets.specs.Network.{Network}

module _ (G : Graph) where
  abbrev pub link_arc : ℕ → ℕ
  link_arc l = G.parts + l

  abbrev pub entry_arc : ℕ → ℕ
  entry_arc p = G.parts + (G.links + p)

  abbrev pub exit_arc : ℕ → ℕ
  exit_arc p = G.parts + (G.links + (G.parts + p))

  -- the arcs of the graph: a part is as long as its fastest delay and saves what its ticks save; no other arc saves anything
  pub record Wired (N : Network) : Type 0 where
    pub parts : G.parts ≤ 64
    pub arcs : N.arcs ≡ G.parts + (G.links + (G.parts + G.parts))
    pub part_tail : (p : ℕ) → p < G.parts → N.tail p ≡ p
    pub part_head : (p : ℕ) → p < G.parts → N.head p ≡ 64 + p
    pub part_base : (p : ℕ) → p < G.parts → N.base p ≡ G.fastest p
    pub part_gain : (p : ℕ) → p < G.parts → (j : ℕ) → N.gain p j ≡ G.saving p j
    pub link_tail : (l : ℕ) → l < G.links → N.tail (link_arc l) ≡ 64 + G.from l
    pub link_head : (l : ℕ) → l < G.links → N.head (link_arc l) ≡ G.to l
    pub link_base : (l : ℕ) → l < G.links → N.base (link_arc l) ≡ G.wire l
    pub entry_tail : (p : ℕ) → p < G.parts → N.tail (entry_arc p) ≡ 128
    pub entry_head : (p : ℕ) → p < G.parts → N.head (entry_arc p) ≡ p
    pub entry_base : (p : ℕ) → p < G.parts → N.base (entry_arc p) ≡ 0
    pub exit_tail : (p : ℕ) → p < G.parts → N.tail (exit_arc p) ≡ 64 + p
    pub exit_head : (p : ℕ) → p < G.parts → N.head (exit_arc p) ≡ 129
    pub exit_base : (p : ℕ) → p < G.parts → N.base (exit_arc p) ≡ 0
    pub flat : (a : ℕ) → G.parts ≤ a → a < N.arcs → (j : ℕ) → N.gain a j ≡ 0

  -- times of nodes as times of parts
  abbrev pub times_of : (ℕ → ℕ) → Times
  times_of t = record { start = t; end = λ p. t (64 + p); used = λ p. t (64 + p) - (t p + G.fastest p) }

  -- loads of arcs as loads of parts, links, entries and exits
  abbrev pub flow_of : (ℕ → ℕ) → Flow
  flow_of x = record { part = x; link = λ l. x (link_arc l); entry = λ p. x (entry_arc p); exit = λ p. x (exit_arc p) }
