-- Times and loads of a network that fit each other, and what the solver may take for granted of a board's network.
-- Assumes nothing.
use Rattle.std.specs.Prelude.{◌≡◌, Bool, true, false, ℕ, ◌+◌, ◌-◌, ◌≤◌, ◌<◌}
use Rattle.theory.specs.Sum.{into}
use Rattle.theory.specs.Saving.{Suits}
use Rattle.nets.specs.Network.{Network}

module _ (arcs : ℕ) (tail head : ℕ → ℕ) where
  -- what comes to a node and what goes from it
  abbrev pub ins : (ℕ → ℕ) → ℕ → ℕ
  ins x v = into arcs head x v

  abbrev pub outs : (ℕ → ℕ) → ℕ → ℕ
  outs x v = into arcs tail x v

  -- as much comes to the start and to the end of each part as goes from it
  pub record Balanced (x : ℕ → ℕ) : Type 0 where
    pub balance : (v : ℕ) → v < 128 → ins x v ≡ outs x v

  -- loads as a sheet has them: none above 64,000, and balanced
  pub record Sheet (x : ℕ → ℕ) : Type 0 where
    pub small : (a : ℕ) → a < arcs → x a ≤ 64000
    pub balanced : Balanced x

module _ (N : Network) where
  -- the ticks between an arc's ends, past its base, suit its load
  pub record Fit (t x : ℕ → ℕ) (a : ℕ) : Type 0 where
    pub base : t (N.tail a) + N.base a ≤ t (N.head a)
    pub suits : Suits (N.gain a) (t (N.head a) - (t (N.tail a) + N.base a)) (x a)

  -- what the main loop keeps
  pub record Flows (t x : ℕ → ℕ) : Type 0 where
    pub fit : (a : ℕ) → a < N.arcs → Fit t x a
    pub root : t 128 ≡ 0
    pub balanced : Balanced N.arcs N.tail N.head x

  -- the marked nodes may go down by d, as far as the arcs go that lead into them
  pub record Lowers (t mark : ℕ → ℕ) (d : ℕ) : Type 0 where
    pub source : mark 128 ≡ 0
    pub rises : (a : ℕ) → a < N.arcs → t (N.tail a) ≤ t (N.head a)
    pub crosses : (a : ℕ) → a < N.arcs → mark (N.tail a) ≡ 0 → 0 < mark (N.head a) → t (N.tail a) + d ≤ t (N.head a)

  -- What the theory shows of a board's network, so that the main loop may be proved with no board in sight: a marked node of an arc that may go
  -- down by d is at d at least; above the deadline what comes to the sink and every load are at most 64,000; no arc leads past the sink.
  pub record World (due : ℕ) : Type 0 where
    pub live_tail : (t mark : ℕ → ℕ) (d : ℕ) → Lowers t mark d → (a : ℕ) → a < N.arcs → 0 < mark (N.tail a) → d ≤ t (N.tail a)
    pub live_head : (t mark : ℕ → ℕ) (d : ℕ) → Lowers t mark d → (a : ℕ) → a < N.arcs → 0 < mark (N.head a) → d ≤ t (N.head a)
    pub bound : (t x : ℕ → ℕ) → Flows t x → due < t 129 →
        ins N.arcs N.tail N.head x 129 ≤ 64000 + outs N.arcs N.tail N.head x 129
    pub loads : (t x : ℕ → ℕ) → Flows t x → due < t 129 → (a : ℕ) → a < N.arcs → x a ≤ 64000
    pub inside : (t x : ℕ → ℕ) → Flows t x → (a : ℕ) → a < N.arcs → t (N.head a) ≤ t 129

  -- the first times that fit the loads x and end at the deadline
  pub record First (due : ℕ) (x t : ℕ → ℕ) : Type 0 where
    pub fit : (a : ℕ) → a < N.arcs → Fit t x a
    pub root : t 128 ≡ 0
    pub end : t 129 ≡ due
    pub least : (u : ℕ → ℕ) → ((a : ℕ) → a < N.arcs → Fit u x a) → due ≤ u 129 → (v : ℕ) → v < 130 → t v ≤ u v

  -- no times fit the loads x that begin at 0 and end at the deadline
  pub record Never (due : ℕ) (x : ℕ → ℕ) : Type 0 where
    pub none : (u : ℕ → ℕ) → ((a : ℕ) → a < N.arcs → Fit u x a) → u 128 ≡ 0 → u 129 ≡ due → ((a : ℕ) → a < N.arcs → u (N.head a) ≤ due) → ⊥

  -- the verdict on the loads x: yes with their first times, or no
  pub record Decided (due : ℕ) (x t : ℕ → ℕ) (r : Bool) : Type 0 where
    pub yes : r ≡ true → First due x t
    pub no : r ≡ false → Never due x
