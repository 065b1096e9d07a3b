-- From the graph to the network: times that are slack with loads fit them as times of nodes. So the first times are the budget held.
-- Assumes nothing.
use mathlib.Core.Path.{◌≡◌, refl, ap, ◌∙◌}
use mathlib.Core.Bool.{cond}
use Prim.Native.Nat.{ℕ, ◌+◌, ◌-◌, ◌≤◌, ◌<◌}
use native.Mathlib.Omega.{arith}
use native.Mathlib.Decide.{dec_lt}
use lib.Dec.{ltb}
use borrow.Author.Tests.{lt-ltb, le-ltb}
use Rattle.theory.specs.Graph.{Graph, Times, Lawful, Feasible, Slack}
use Rattle.theory.specs.Budget.{NoLater, Held}
use Rattle.theory.proofs.Earliest.{earliest_held}
use Rattle.nets.specs.Network.{Network}
use Rattle.nets.specs.Flow.{Fit, Balanced, First}
use Rattle.nets.specs.Wired.{Wired, link_arc, entry_arc, exit_arc, times_of, flow_of}
use Rattle.nets.proofs.Arcs.{each_arc}
use Rattle.nets.proofs.Bridge.{fits_feasible, fits_slack, balanced_conserves}

-- times of parts as times of nodes
unfoldable pub nodes : Times → ℕ → ℕ → ℕ
nodes τ T v = cond (ltb v 64) (τ.start v) (cond (ltb v 128) (τ.end (v - 64)) (cond (ltb v 129) 0 T))

module _ (τ : Times) (T : ℕ) where
  pub nodes_start : (p : ℕ) → p < 64 → nodes τ T p ≡ τ.start p
  unfolding nodes
  nodes_start p h = rw (lt-ltb p 64 h)

  pub nodes_end : (p : ℕ) → p < 64 → nodes τ T (64 + p) ≡ τ.end p
  unfolding nodes
  nodes_end p h =
      let a : 64 ≤ 64 + p = omega arith in
      let b : 64 + p < 128 = omega arith in
      let d : 64 + p - 64 ≡ p = omega arith in
      rw (le-ltb (64 + p) 64 a, lt-ltb (64 + p) 128 b, d)

  pub nodes_source : nodes τ T 128 ≡ 0
  unfolding nodes
  nodes_source = refl

  pub nodes_sink : nodes τ T 129 ≡ T
  unfolding nodes
  nodes_sink = refl

module _ (G : Graph) (o : Lawful G) (N : Network) (w : Wired G N) (x : ℕ → ℕ) {T : ℕ} {τ : Times} (f : Feasible G T τ) (k : Slack G T τ (flow_of G x)) where
  open G use {parts, links, from, to}

  abbrev u : ℕ → ℕ
  u = nodes τ T

  start_at : (p : ℕ) → p < parts → u p ≡ τ.start p
  start_at p h = nodes_start τ T p (omega (arith, w.parts))

  end_at : (p : ℕ) → p < parts → u (64 + p) ≡ τ.end p
  end_at p h = nodes_end τ T p (omega (arith, w.parts))

  flat_fit : (a : ℕ) → parts ≤ a → a < N.arcs → u (N.tail a) + N.base a ≤ u (N.head a) →
      (0 < x a → u (N.tail a) + N.base a ≡ u (N.head a)) → Fit N u x a
  flat_fit a l h b t = record {
    base = b;
    suits = record {
      used = λ j i. elim (dec_lt 0 (x a)) [ yes y ↦ absurd (omega (arith, t y)) | no y ↦ omega arith ];
      unused = λ j i. omega (arith, w.flat a l h j);
    };
  }

  part_fit : (p : ℕ) → p < parts → Fit N u x p
  part_fit p h =
      let a : u (N.tail p) ≡ τ.start p = ap u (w.part_tail p h) ∙ start_at p h in
      let b : u (N.head p) ≡ τ.end p = ap u (w.part_head p h) ∙ end_at p h in
      let long : u (N.head p) - (u (N.tail p) + N.base p) ≡ τ.used p = omega (arith, w.part_base p h, f.spans p h) in
      record {
        base = omega (arith, w.part_base p h, f.spans p h);
        suits = record {
          used = λ j i. omega (arith, (k.suits p h).used j (omega (arith, long)), w.part_gain p h j);
          unused = λ j i. omega (arith, (k.suits p h).unused j (omega (arith, long)), w.part_gain p h j);
        };
      }

  link_fit : (l : ℕ) → l < links → Fit N u x (link_arc G l)
  link_fit l h =
      let a : u (N.tail (link_arc G l)) ≡ τ.end (from l) = ap u (w.link_tail l h) ∙ end_at (from l) (o.from_in l h) in
      let b : u (N.head (link_arc G l)) ≡ τ.start (to l) = ap u (w.link_head l h) ∙ start_at (to l) (o.to_in l h) in
      flat_fit (link_arc G l) (omega arith) (omega (arith, w.arcs)) (omega (arith, w.link_base l h, f.waits l h))
      (λ y. omega (arith, a, b, w.link_base l h, k.tight l h y))

  entry_fit : (p : ℕ) → p < parts → Fit N u x (entry_arc G p)
  entry_fit p h =
      let a : u (N.tail (entry_arc G p)) ≡ 0 = ap u (w.entry_tail p h) ∙ nodes_source τ T in
      let b : u (N.head (entry_arc G p)) ≡ τ.start p = ap u (w.entry_head p h) ∙ start_at p h in
      flat_fit (entry_arc G p) (omega arith) (omega (arith, w.arcs)) (omega (arith, w.entry_base p h))
      (λ y. omega (arith, a, b, w.entry_base p h, k.starts p h y))

  exit_fit : (p : ℕ) → p < parts → Fit N u x (exit_arc G p)
  exit_fit p h =
      let a : u (N.tail (exit_arc G p)) ≡ τ.end p = ap u (w.exit_tail p h) ∙ end_at p h in
      let b : u (N.head (exit_arc G p)) ≡ T = ap u (w.exit_head p h) ∙ nodes_sink τ T in
      flat_fit (exit_arc G p) (omega arith) (omega (arith, w.arcs)) (omega (arith, w.exit_base p h, f.ends p h))
      (λ y. omega (arith, a, b, w.exit_base p h, k.stops p h y))

  pub slack_fits : (a : ℕ) → a < N.arcs → Fit N u x a
  slack_fits = each_arc G (Fit N u x) part_fit link_fit entry_fit exit_fit N.arcs w.arcs

  -- no node is later than the sink
  start_most : (p : ℕ) → p < parts → u p ≤ T
  start_most p h = omega (arith, start_at p h, f.spans p h, f.ends p h)

  pub nodes_most : (a : ℕ) → a < N.arcs → u (N.head a) ≤ T
  nodes_most =
      each_arc G (λ a. u (N.head a) ≤ T)
      (λ p h. omega (arith, ap u (w.part_head p h), end_at p h, f.ends p h))
      (λ l h. omega (arith, ap u (w.link_head l h), start_most (to l) (o.to_in l h)))
      (λ p h. omega (arith, ap u (w.entry_head p h), start_most p h))
      (λ p h. omega (arith, ap u (w.exit_head p h), nodes_sink τ T))
      N.arcs w.arcs

-- ---- the first times
module _ (G : Graph) (o : Lawful G) (N : Network) (w : Wired G N) (due : ℕ) (x : ℕ → ℕ) where
  -- the first times that fit are feasible and slack, and with loads that balance they are the budget held
  module _ (t : ℕ → ℕ) (r : First N due x t) where
    pub first_feasible : Feasible G due (times_of G t)
    first_feasible = rw r.end at (fits_feasible G o N w r.fit)

    pub first_slack : Slack G due (times_of G t) (flow_of G x)
    first_slack = rw r.end at (fits_slack G o N w r.fit r.root)

    first_under : (τ : Times) → Feasible G due τ → Slack G due τ (flow_of G x) → NoLater G (times_of G t) τ
    first_under τ f k =
        let under = r.least (nodes τ due) (slack_fits G o N w x f k) (omega (arith, nodes_sink τ due)) in
        record {
          start_le = λ p h. omega (arith, under p (omega (arith, w.parts)), nodes_start τ due p (omega (arith, w.parts)));
          end_le = λ p h. omega (arith, under (64 + p) (omega (arith, w.parts)), nodes_end τ due p (omega (arith, w.parts)));
        }

    pub first_held : Balanced N.arcs N.tail N.head x → Held G due (times_of G t)
    first_held b = earliest_held G o (flow_of G x) (balanced_conserves G o N w x b) first_feasible first_slack first_under
