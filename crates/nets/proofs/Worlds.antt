-- A graph's network is a world: what the main loop takes for granted holds of it.
-- Assumes nothing.
use mathlib.Core.Path.{ap}
use Prim.Native.Nat.{ℕ, ◌+◌, ◌≤◌, ◌<◌}
use native.Mathlib.Omega.{arith}
use native.Mathlib.Decide.{dec_lt}
use Rattle.theory.specs.Graph.{Graph, Times, Lawful, Feasible, Slack, Conserves, value}
use Rattle.theory.proofs.ValueBounds.{tops, value_tops, part_value, link_value}
use Rattle.nets.specs.Network.{Network}
use Rattle.nets.specs.Flow.{Flows, Lowers, World}
use Rattle.nets.specs.Wired.{Wired, entry_arc, times_of, flow_of}
use Rattle.nets.proofs.Arcs.{each_arc}
use Rattle.nets.proofs.Bridge.{fits_feasible, fits_slack, balanced_conserves, sink_in}

module _ (G : Graph) (o : Lawful G) (N : Network) (w : Wired G N) where
  open G use {parts, links, from, to}

  -- ---- marked nodes that may go down by d are at d at least
  module _ (t mark : ℕ → ℕ) (d : ℕ) (z : Lowers N t mark d) where
    -- along an arc from a node that is there or stays
    along : (a : ℕ) → a < N.arcs → (0 < mark (N.tail a) → d ≤ t (N.tail a)) → 0 < mark (N.head a) → d ≤ t (N.head a)
    along a h f e =
        elim (dec_lt 0 (mark (N.tail a))) [
          | yes y ↦ omega (arith, f y, z.rises a h)
          | no y ↦ omega (arith, z.crosses a h (omega arith) e)
        ]

    live_source : 0 < mark 128 → d ≤ t 128
    live_source e = absurd (omega (arith, z.source))

    live_start : (p : ℕ) → p < parts → 0 < mark p → d ≤ t p
    live_start p h =
        rw (w.entry_head p h) at (along (entry_arc G p) (omega (arith, w.arcs)) (rw (w.entry_tail p h) live_source))

    live_end : (p : ℕ) → p < parts → 0 < mark (64 + p) → d ≤ t (64 + p)
    live_end p h = rw (w.part_head p h) at (along p (omega (arith, w.arcs)) (rw (w.part_tail p h) (live_start p h)))

    live_tail : (a : ℕ) → a < N.arcs → 0 < mark (N.tail a) → d ≤ t (N.tail a)
    live_tail =
        each_arc G (λ a. 0 < mark (N.tail a) → d ≤ t (N.tail a))
        (λ p h. rw (w.part_tail p h) (live_start p h))
        (λ l h. rw (w.link_tail l h) (live_end (from l) (o.from_in l h)))
        (λ p h. rw (w.entry_tail p h) live_source)
        (λ p h. rw (w.exit_tail p h) (live_end p h))
        N.arcs w.arcs

    live_head : (a : ℕ) → a < N.arcs → 0 < mark (N.head a) → d ≤ t (N.head a)
    live_head a h = along a h (live_tail a h)

  -- ---- times and loads that fit
  module _ (t x : ℕ → ℕ) (f : Flows N t x) where
    flows_feasible : Feasible G (t 129) (times_of G t)
    flows_feasible = fits_feasible G o N w f.fit

    flows_slack : Slack G (t 129) (times_of G t) (flow_of G x)
    flows_slack = fits_slack G o N w f.fit f.root

    flows_conserves : Conserves G (flow_of G x)
    flows_conserves = balanced_conserves G o N w x f.balanced

    -- no arc leads past the sink
    start_inside : (p : ℕ) → p < parts → t p ≤ t 129
    start_inside p h = omega (arith, flows_feasible.spans p h, flows_feasible.ends p h)

    inside : (a : ℕ) → a < N.arcs → t (N.head a) ≤ t 129
    inside =
        each_arc G (λ a. t (N.head a) ≤ t 129)
        (λ p h. omega (arith, ap t (w.part_head p h), flows_feasible.ends p h))
        (λ l h. omega (arith, ap t (w.link_head l h), start_inside (to l) (o.to_in l h)))
        (λ p h. omega (arith, ap t (w.entry_head p h), start_inside p h))
        (λ p h. omega (arith, ap t (w.exit_head p h)))
        N.arcs w.arcs

    module _ {due : ℕ} {τ⁰ : Times} (f⁰ : Feasible G due τ⁰) (few : tops G ≤ 64000) (late : due < t 129) where
      value_small : value G (flow_of G x) ≤ 64000
      value_small = omega (arith, few, value_tops G o flows_feasible f⁰ late (flow_of G x) flows_conserves flows_slack)

      part_small : (p : ℕ) → p < parts → x p ≤ 64000
      part_small p h = omega (arith, value_small, part_value G o (flow_of G x) flows_conserves flows_feasible p h)

      load_small : (a : ℕ) → a < N.arcs → x a ≤ 64000
      load_small =
          each_arc G (λ a. x a ≤ 64000) part_small
          (λ l h. omega (arith, value_small, link_value G o (flow_of G x) flows_conserves flows_feasible l h))
          (λ p h. omega (arith, flows_conserves.arrives p h, part_small p h))
          (λ p h. omega (arith, flows_conserves.leaves p h, part_small p h))
          N.arcs w.arcs

  -- what some times keep, and what 64 parts save at most, make a world
  pub wired_world : {due : ℕ} {τ⁰ : Times} → Feasible G due τ⁰ → tops G ≤ 64000 → World N due
  wired_world f⁰ few = record {
    live_tail = live_tail;
    live_head = live_head;
    bound = λ t x f l. omega (arith, value_small t x f f⁰ few l, sink_in G o N w x);
    loads = λ t x f l. load_small t x f f⁰ few l;
    inside = inside;
  }
