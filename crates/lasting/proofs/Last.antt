-- The first times of the network turned round are, counted down from the deadline, the last times of the network: with loads that balance they are
-- the latest of the cheapest, and there are such times wherever some times that keep the deadline are slack with the loads.
-- Assumes nothing.
use mathlib.Core.Path.{◌≡◌, refl, sym, ap, ◌∙◌}
use Prim.Native.Nat.{ℕ, ◌+◌, ◌-◌, ◌≤◌, ◌<◌}
use native.Mathlib.Omega.{arith}
use native.Mathlib.Decide.{dec_lt, ℕ_discrete}
use borrow.Author.Tests.{lt-ltb, le-ltb}
use Rattle.base.specs.Pick.{pick}
use Rattle.theory.specs.Sum.{into}
use Rattle.theory.proofs.SumLaws.{sum_ext, share_eq, share_ne}
use Rattle.theory.specs.Saving.{Suits}
use Rattle.theory.specs.Graph.{Graph, Times, Lawful, Feasible, Slack, Conserves}
use Rattle.theory.specs.Latest.{Latest}
use Rattle.theory.proofs.Turning.{Over}
use Rattle.theory.proofs.LatestLaws.{greatest_latest}
use Rattle.nets.specs.Network.{Network}
use Rattle.nets.specs.Flow.{Fit, First, Balanced, Sheet, Never}
use Rattle.nets.specs.Wired.{Wired, times_of, flow_of}
use Rattle.lasting.specs.Turned.{opposite_of, countdown, TurnedNet}
use Rattle.nets.proofs.Bridge.{fits_feasible, fits_slack}
use Rattle.nets.proofs.Nodes.{nodes, nodes_start, nodes_end, nodes_source, nodes_sink, nodes_most, slack_fits}

-- ---- nodes on the other side
pub opposite_start : (p : ℕ) → p < 64 → opposite_of p ≡ 64 + p
unfolding opposite_of pick
opposite_start p h = rw (lt-ltb p 64 h)

pub opposite_end : (p : ℕ) → p < 64 → opposite_of (64 + p) ≡ p
unfolding opposite_of pick
opposite_end p h =
    let a : 64 ≤ 64 + p = omega arith in
    let b : 64 + p < 128 = omega arith in
    let d : 64 + p - 64 ≡ p = omega arith in
    rw (le-ltb (64 + p) 64 a, lt-ltb (64 + p) 128 b, d)

pub opposite_source : opposite_of 128 ≡ 129
unfolding opposite_of pick
opposite_source = refl

pub opposite_sink : opposite_of 129 ≡ 128
unfolding opposite_of pick
opposite_sink = refl

-- what holds at each kind of node holds at every node
each_node : (P : ℕ → Type 0) → ((p : ℕ) → p < 64 → P p) → ((p : ℕ) → p < 64 → P (64 + p)) → P 128 → P 129 → (v : ℕ) → v < 130 → P v
each_node P start end source sink v h =
    elim (dec_lt v 64) [
      | yes l ↦ start v l
      | no l ↦
          elim (dec_lt v 128) [
            | yes m ↦ let q : v ≡ 64 + (v - 64) = omega arith in rw q (end (v - 64) (omega arith))
            | no m ↦
                elim (dec_lt v 129) [
                  | yes i ↦ let q : v ≡ 128 = omega arith in rw q source
                  | no i ↦ let q : v ≡ 129 = omega arith in rw q sink
                ]
          ]
    ]

pub opposite_twice : (v : ℕ) → v < 130 → opposite_of (opposite_of v) ≡ v
opposite_twice =
    each_node (λ v. opposite_of (opposite_of v) ≡ v)
    (λ p h. ap opposite_of (opposite_start p h) ∙ opposite_end p h)
    (λ p h. ap opposite_of (opposite_end p h) ∙ opposite_start p h)
    (ap opposite_of opposite_source ∙ opposite_sink)
    (ap opposite_of opposite_sink ∙ opposite_source)

pub opposite_in : (v : ℕ) → v < 130 → opposite_of v < 130
opposite_in =
    each_node (λ v. opposite_of v < 130)
    (λ p h. omega (arith, opposite_start p h))
    (λ p h. omega (arith, opposite_end p h))
    (omega (arith, opposite_source))
    (omega (arith, opposite_sink))

-- ---- loads that balance balance turned round
across_into : (n : ℕ) (end end' x : ℕ → ℕ) → ((a : ℕ) → a < n → end' a ≡ opposite_of (end a)) → ((a : ℕ) → a < n → end a < 130) → (v : ℕ) → v < 130 →
    into n end' x v ≡ into n end x (opposite_of v)
unfolding into
across_into n end end' x across nodes-in v h =
    sum_ext n (λ a l. elim (ℕ_discrete (end a) (opposite_of v)) [
      | yes e ↦ share_eq (x a) (across a l ∙ ap opposite_of e ∙ opposite_twice v h) ∙ sym (share_eq (x a) e)
      | no d ↦
          share_ne (x a) (λ e. d (sym (opposite_twice (end a) (nodes-in a l)) ∙ ap opposite_of (sym (across a l) ∙ e))) ∙ sym (share_ne (x a) d)
    ])

opposite_inner : (v : ℕ) → v < 128 → opposite_of v < 128
opposite_inner v h =
    elim (dec_lt v 64) [
      | yes l ↦ omega (arith, opposite_start v l)
      | no l ↦ let q : 64 + (v - 64) ≡ v = omega arith in omega (arith, ap opposite_of q, opposite_end (v - 64) (omega arith))
    ]

-- ---- an arc whose ends are counted down is as long as before
record Spans (g : ℕ → ℕ) (base x a b : ℕ) : Type 0 where
  long : a + base ≤ b
  suits : Suits g (b - (a + base)) x

counted_down :
    (g g' : ℕ → ℕ) (base base' x a b due a' b' : ℕ) → ((j : ℕ) → g' j ≡ g j) → base' ≡ base → Spans g base x a b → b ≤ due → a' ≡ due - b → b' ≡ due - a →
    Spans g' base' x a' b'
counted_down g g' base base' x a b due a' b' same q s l qa qb =
    let long = s.long in
    let length : b - (a + base) ≡ b' - (a' + base') = omega arith in
    record {
      long = omega arith;
      suits = record {
        used = λ j h. omega (arith, s.suits.used j (omega arith), same j);
        unused = λ j h. omega (arith, s.suits.unused j (omega arith), same j);
      };
    }

fit_spans : (N : Network) (t x : ℕ → ℕ) (a : ℕ) → Fit N t x a → Spans (N.gain a) (N.base a) (x a) (t (N.tail a)) (t (N.head a))
fit_spans N t x a f = record { long = f.base; suits = f.suits }

spans_fit : (N : Network) (t x : ℕ → ℕ) (a : ℕ) → Spans (N.gain a) (N.base a) (x a) (t (N.tail a)) (t (N.head a)) → Fit N t x a
spans_fit N t x a s = record { base = s.long; suits = s.suits }

module _ (N N' : Network) (w' : TurnedNet N N')
    (heads : (a : ℕ) → a < N.arcs → N.head a < 130) (tails : (a : ℕ) → a < N.arcs → N.tail a < 130) (due : ℕ) (x : ℕ → ℕ)
  where
    pub turned_sheet : Sheet N.arcs N.tail N.head x → Sheet N'.arcs N'.tail N'.head x
    turned_sheet s =
        let inner : Balanced N.arcs N'.tail N'.head x = record {
          balance = λ v h.
              across_into N.arcs N.tail N'.head x w'.head tails v (omega arith)
              ∙ sym (s.balanced.balance (opposite_of v) (opposite_inner v h))
              ∙ sym (across_into N.arcs N.head N'.tail x w'.tail heads v (omega arith));
        } in
        rw w'.arcs (record { small = s.small; balanced = inner })

    -- times that fit, counted down, fit the network turned round,
    pub fit_turned : (u : ℕ → ℕ) (a : ℕ) → a < N.arcs → u (N.head a) ≤ due → Fit N u x a → Fit N' (countdown due u) x a
    unfolding countdown
    fit_turned u a h l f =
        spans_fit N' (countdown due u) x a
        (counted_down (N.gain a) (N'.gain a) (N.base a) (N'.base a) (x a) (u (N.tail a)) (u (N.head a)) due
        (countdown due u (N'.tail a)) (countdown due u (N'.head a)) (w'.gain a h) (w'.base a h) (fit_spans N u x a f) l
        (ap (λ v. due - u v) (ap opposite_of (w'.tail a h) ∙ opposite_twice (N.head a) (heads a h)))
        (ap (λ v. due - u v) (ap opposite_of (w'.head a h) ∙ opposite_twice (N.tail a) (tails a h))))

    -- and back
    pub turned_fit : (t : ℕ → ℕ) (a : ℕ) → a < N.arcs → t (opposite_of (N.tail a)) ≤ due → Fit N' t x a → Fit N (countdown due t) x a
    unfolding countdown
    turned_fit t a h l f =
        spans_fit N (countdown due t) x a
        (counted_down (N'.gain a) (N.gain a) (N'.base a) (N.base a) (x a) (t (N'.tail a)) (t (N'.head a)) due
        (countdown due t (N.tail a)) (countdown due t (N.head a)) (λ j. sym (w'.gain a h j)) (sym (w'.base a h)) (fit_spans N' t x a f)
        (omega (arith, ap t (w'.head a h)))
        (ap (λ v. due - t v) (sym (w'.head a h)))
        (ap (λ v. due - t v) (sym (w'.tail a h))))

module _ (G : Graph) (o : Lawful G) (N : Network) (w : Wired G N) (N' : Network) (w' : TurnedNet N N')
    (heads : (a : ℕ) → a < N.arcs → N.head a < 130) (tails : (a : ℕ) → a < N.arcs → N.tail a < 130) (due : ℕ) (x : ℕ → ℕ)
  where
    -- ---- times that are slack with the loads fit them in the network turned round
    module _ (τ : Times) (f : Feasible G due τ) (k : Slack G due τ (flow_of G x)) where
      abbrev u : ℕ → ℕ
      u = countdown due (nodes τ due)

      slack_turned : (a : ℕ) → a < N'.arcs → Fit N' u x a
      slack_turned a h' =
          let h : a < N.arcs = omega (arith, w'.arcs) in
          fit_turned N N' w' heads tails due x (nodes τ due) a h (nodes_most G o N w x f k a h) (slack_fits G o N w x f k a h)

      u_source : u 128 ≡ 0
      unfolding countdown
      u_source = omega (arith, ap (nodes τ due) opposite_source, nodes_sink τ due)

      u_sink : u 129 ≡ due
      unfolding countdown
      u_sink = omega (arith, ap (nodes τ due) opposite_sink, nodes_source τ due)

      u_most : (v : ℕ) → u v ≤ due
      unfolding countdown
      u_most v = omega arith

      -- so the verdict there is not no
      pub turned_some : Never N' due x → ⊥
      turned_some n = n.none u slack_turned u_source u_sink (λ a h. u_most (N'.head a))

    -- ---- its first times, counted down
    module _ (t : ℕ → ℕ) (r : First N' due x t) (τ₀ : Times) (f₀ : Feasible G due τ₀) (k₀ : Slack G due τ₀ (flow_of G x)) where
      abbrev last : ℕ → ℕ
      last = countdown due t

      under : (τ : Times) (f : Feasible G due τ) (k : Slack G due τ (flow_of G x)) (v : ℕ) → v < 130 → t v ≤ countdown due (nodes τ due) v
      under τ f k = r.least (u τ f k) (slack_turned τ f k) (omega (arith, u_sink τ f k))

      t_most : (v : ℕ) → v < 130 → t v ≤ due
      t_most v h = omega (arith, under τ₀ f₀ k₀ v h, u_most τ₀ f₀ k₀ v)

      last_fit : (a : ℕ) → a < N.arcs → Fit N last x a
      last_fit a h =
          turned_fit N N' w' heads tails due x t a h (t_most (opposite_of (N.tail a)) (opposite_in (N.tail a) (tails a h)))
          (r.fit a (omega (arith, w'.arcs)))

      last_root : last 128 ≡ 0
      unfolding countdown
      last_root = omega (arith, ap t opposite_source, r.end)

      last_end : last 129 ≡ due
      unfolding countdown
      last_end = omega (arith, ap t opposite_sink, r.root)

      -- are slack,
      pub last_feasible : Feasible G due (times_of G last)
      last_feasible = rw last_end at (fits_feasible G o N w last_fit)

      pub last_slack : Slack G due (times_of G last) (flow_of G x)
      last_slack = rw last_end at (fits_slack G o N w last_fit last_root)

      -- no earlier than any that are,
      pub last_over : Over G due (flow_of G x) (times_of G last)
      unfolding countdown
      last_over τ f k = record {
        start_le = λ p h.
            let i : p < 64 = omega (arith, w.parts) in
            let t-is = ap t (opposite_start p i) in
            let u-is = ap (nodes τ due) (opposite_end p i) in
            let s-is = nodes_start τ due p i in
            let most : τ.start p ≤ due = omega (arith, f.spans p h, f.ends p h) in
            omega (arith, under τ f k (64 + p) (omega arith));
        end_le = λ p h.
            let i : p < 64 = omega (arith, w.parts) in
            let t-is = ap t (opposite_end p i) in
            let u-is = ap (nodes τ due) (opposite_start p i) in
            let e-is = nodes_end τ due p i in
            let most = f.ends p h in
            omega (arith, under τ f k p (omega arith));
      }

      -- and with loads that conserve the latest
      pub last_latest : Conserves G (flow_of G x) → Latest G due (times_of G last)
      last_latest c = greatest_latest G o (flow_of G x) c last_feasible last_slack last_over
