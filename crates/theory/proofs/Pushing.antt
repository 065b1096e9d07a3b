-- Carrying load from one node to another. A part has two nodes, its start and its end; the graph has a source and a sink.
-- Each arc that a push runs along carries b units from its first node to its second, and what carries from the source to the sink conserves.
-- Assumes nothing.
use mathlib.Core.Path.{◌≡◌, refl, sym, ◌∙◌}
use mathlib.Core.Logic.{◌≢◌}
use Prim.Native.Nat.{ℕ, suc, ◌+◌, ◌*◌, ◌≤◌, ◌<◌}
use native.Mathlib.Decide.{ℕ_discrete}
use native.Mathlib.Omega.{arith}
use Rattle.theory.specs.Sum.{share, into, More}
use Rattle.theory.proofs.SumLaws.{share_eq, share_ne, more_there, into_more, sum_more}
use Rattle.theory.proofs.SavingLaws.{suits_next_to}
use Rattle.theory.specs.Graph.{Graph, Times, Flow, Lawful, Conserves, Slack, value}

-- ---- nodes: even numbers for starts, odd ones for ends; those past the last part are the source and the sink
abbrev pub start_of : ℕ → ℕ
start_of p = 2 * p

abbrev pub end_of : ℕ → ℕ
end_of p = 2 * p + 1

share_iff : {p q u v : ℕ} (b : ℕ) → (p ≡ q → u ≡ v) → (u ≡ v → p ≡ q) → share u v b ≡ share p q b
share_iff {p} {q} b f g =
    elim (ℕ_discrete p q) [ yes e ↦ share_eq b (f e) ∙ sym (share_eq b e) | no d ↦ share_ne b (λ e. d (g e)) ∙ sym (share_ne b d) ]

share_starts : (p q b : ℕ) → share (start_of p) (start_of q) b ≡ share p q b
share_starts p q b = share_iff b (λ e. omega arith) (λ e. omega arith)

share_ends : (p q b : ℕ) → share (end_of p) (end_of q) b ≡ share p q b
share_ends p q b = share_iff b (λ e. omega arith) (λ e. omega arith)

share_start_end : (p q b : ℕ) → share (start_of p) (end_of q) b ≡ 0
share_start_end p q b = share_ne b (omega arith)

share_end_start : (p q b : ℕ) → share (end_of p) (start_of q) b ≡ 0
share_end_start p q b = share_ne b (omega arith)

-- ---- a flow with one kind of load replaced
abbrev pub with_part : Flow → (ℕ → ℕ) → Flow
with_part φ x = record { part = x; link = φ.link; entry = φ.entry; exit = φ.exit }

abbrev pub with_link : Flow → (ℕ → ℕ) → Flow
with_link φ y = record { part = φ.part; link = y; entry = φ.entry; exit = φ.exit }

abbrev pub with_entry : Flow → (ℕ → ℕ) → Flow
with_entry φ a = record { part = φ.part; link = φ.link; entry = a; exit = φ.exit }

abbrev pub with_exit : Flow → (ℕ → ℕ) → Flow
with_exit φ z = record { part = φ.part; link = φ.link; entry = φ.entry; exit = z }

module _ (G : Graph) where
  open G use {parts, links, from, to, wire, saving}

  abbrev pub source : ℕ
  source = start_of parts

  abbrev pub sink : ℕ
  sink = end_of parts

  -- φ' is φ with b units carried from node u to node v: each node of a part has as much more coming in than going out as v gets and u gives
  pub record Carries (φ φ' : Flow) (u v b : ℕ) : Type 0 where
    pub at_start : (p : ℕ) → p < parts →
        into links to φ'.link p + φ'.entry p + φ.part p + share u (start_of p) b
        ≡ into links to φ.link p + φ.entry p + φ'.part p + share v (start_of p) b
    pub at_end : (p : ℕ) → p < parts →
        φ'.part p + (into links from φ.link p + φ.exit p) + share u (end_of p) b
        ≡ φ.part p + (into links from φ'.link p + φ'.exit p) + share v (end_of p) b

  -- what carries from the source to the sink conserves
  pub carries_conserves : {φ φ' : Flow} {b : ℕ} → Conserves G φ → Carries φ φ' source sink b → Conserves G φ'
  carries_conserves {φ} {φ'} {b} c k = record {
    arrives = λ p h.
        let apart = share_ne {p = parts} {i = p} b (omega arith) in
        omega (arith, c.arrives p h, k.at_start p h, share_starts parts p b, share_end_start parts p b);
    leaves = λ p h.
        let apart = share_ne {p = parts} {i = p} b (omega arith) in
        omega (arith, c.leaves p h, k.at_end p h, share_start_end parts p b, share_ends parts p b);
  }

  -- one after the other, from either end
  pub carries_on : {φ φ' φ'' : Flow} {u v w b : ℕ} → Carries φ φ' u v b → Carries φ' φ'' v w b → Carries φ φ'' u w b
  carries_on a c = record {
    at_start = λ p h. omega (arith, a.at_start p h, c.at_start p h);
    at_end = λ p h. omega (arith, a.at_end p h, c.at_end p h);
  }

  pub carries_back : {φ φ' φ'' : Flow} {u v w b : ℕ} → Carries φ φ' v w b → Carries φ' φ'' u v b → Carries φ φ'' u w b
  carries_back a c = record {
    at_start = λ p h. omega (arith, a.at_start p h, c.at_start p h);
    at_end = λ p h. omega (arith, a.at_end p h, c.at_end p h);
  }

  -- what is carried may be carried back
  pub carries_flip : {φ φ' : Flow} {u v b : ℕ} → Carries φ φ' u v b → Carries φ' φ v u b
  carries_flip a = record {
    at_start = λ p h. omega (arith, a.at_start p h);
    at_end = λ p h. omega (arith, a.at_end p h);
  }

  -- ---- the arcs: through a part, along a link, in at a part's entry, and out at its exit
  module _ (φ : Flow) {b : ℕ} where
    pub carries_through : {x : ℕ → ℕ} {q : ℕ} → More parts φ.part x q b → Carries φ (with_part φ x) (start_of q) (end_of q) b
    carries_through {x} {q} d = record {
      at_start = λ p h. omega (arith, d.more p h, share_starts q p b, share_end_start q p b);
      at_end = λ p h. omega (arith, d.more p h, share_start_end q p b, share_ends q p b);
    }

    pub carries_along : {y : ℕ → ℕ} {l : ℕ} → l < links → More links φ.link y l b → Carries φ (with_link φ y) (end_of (from l)) (start_of (to l)) b
    carries_along {y} {l} h d = record {
      at_start = λ p k. omega (arith, into_more to h d p, share_end_start (from l) p b, share_starts (to l) p b);
      at_end = λ p k. omega (arith, into_more from h d p, share_ends (from l) p b, share_start_end (to l) p b);
    }

    pub carries_in : {a : ℕ → ℕ} {q : ℕ} → More parts φ.entry a q b → Carries φ (with_entry φ a) source (start_of q) b
    carries_in {a} {q} d = record {
      at_start = λ p h. omega (arith, d.more p h, share_starts parts p b, share_ne {p = parts} {i = p} b (omega arith), share_starts q p b);
      at_end = λ p h. omega (arith, share_start_end parts p b, share_start_end q p b);
    }

    pub carries_out : {z : ℕ → ℕ} {q : ℕ} → More parts φ.exit z q b → Carries φ (with_exit φ z) (end_of q) sink b
    carries_out {z} {q} d = record {
      at_start = λ p h. omega (arith, share_end_start parts p b, share_end_start q p b);
      at_end = λ p h. omega (arith, d.more p h, share_ends parts p b, share_ne {p = parts} {i = p} b (omega arith), share_ends q p b);
    }

  module _ (T : ℕ) (τ : Times) (b : ℕ) where
    open τ use {start, end, used}

    -- One push: φ' is φ with b units carried from u to v along an arc with room for them.
    pub data Push : Flow → Flow → ℕ → ℕ → Type 0 where
      through :
          {φ : Flow} {x : ℕ → ℕ} {q : ℕ} → q < parts → More parts φ.part x q b → ((j : ℕ) → suc j ≡ used q → x q ≤ saving q j) →
          Push φ (with_part φ x) (start_of q) (end_of q)
      back :
          {φ : Flow} {x : ℕ → ℕ} {q : ℕ} → q < parts → More parts x φ.part q b → saving q (used q) ≤ x q →
          Push φ (with_part φ x) (end_of q) (start_of q)
      along :
          {φ : Flow} {y : ℕ → ℕ} {q : ℕ} → q < links → More links φ.link y q b → end (from q) + wire q ≡ start (to q) →
          Push φ (with_link φ y) (end_of (from q)) (start_of (to q))
      against : {φ : Flow} {y : ℕ → ℕ} {q : ℕ} → q < links → More links y φ.link q b → Push φ (with_link φ y) (start_of (to q)) (end_of (from q))
      enter : {φ : Flow} {a : ℕ → ℕ} {q : ℕ} → q < parts → More parts φ.entry a q b → start q ≡ 0 → Push φ (with_entry φ a) source (start_of q)
      leave : {φ : Flow} {z : ℕ → ℕ} {q : ℕ} → q < parts → More parts φ.exit z q b → end q ≡ T → Push φ (with_exit φ z) (end_of q) sink

    -- pushes one after the other
    pub data Walk : Flow → Flow → ℕ → ℕ → Type 0 where
      here : {φ : Flow} {u : ℕ} → Walk φ φ u u
      on : {φ φ' φ'' : Flow} {u v w : ℕ} → Walk φ φ' u v → Push φ' φ'' v w → Walk φ φ'' u w

    pub push_carries : {φ φ' : Flow} {u v : ℕ} → Push φ φ' u v → Carries φ φ' u v b
    push_carries (through {φ} h d r) = carries_through φ d
    push_carries (back {φ} {x} h d r) = carries_flip (carries_through (with_part φ x) d)
    push_carries (along {φ} h d r) = carries_along φ h d
    push_carries (against {φ} {y} h d) = carries_flip (carries_along (with_link φ y) h d)
    push_carries (enter {φ} h d r) = carries_in φ d
    push_carries (leave {φ} h d r) = carries_out φ d

    pub walk_carries : {φ φ' : Flow} {u v : ℕ} → Walk φ φ' u v → Carries φ φ' u v b
    walk_carries here = record { at_start = λ p h. refl; at_end = λ p h. refl }
    walk_carries (on w p) = carries_on (walk_carries w) (push_carries p)

    module _ (o : Lawful G) where
      -- load that is slack stays so
      pub push_slack : {φ φ' : Flow} {u v : ℕ} → Push φ φ' u v → Slack G T τ φ → Slack G T τ φ'
      push_slack (through {φ} {x} {q} hq d r) k = record {
        suits = λ p h.
            elim (ℕ_discrete q p) [
              | yes ε ↦
                  let next : saving p (used p) ≤ x p = omega (arith, (k.suits p h).unused (used p) (omega arith), d.more p h) in
                  suits_next_to (o.falls p h) (rw ε at r) next
              | no a ↦ rw (more_there d h a) (k.suits p h)
            ];
        tight = k.tight;
        starts = k.starts;
        stops = k.stops;
      }
      push_slack (back {φ} {x} {q} hq d r) k = record {
        suits = λ p h.
            elim (ℕ_discrete q p) [
              | yes ε ↦
                  let last : (j : ℕ) → suc j ≡ used p → x p ≤ saving p j = λ j a. omega (arith, (k.suits p h).used j (omega arith), d.more p h) in
                  suits_next_to (o.falls p h) last (rw ε at r)
              | no a ↦ rw (← more_there d h a) (k.suits p h)
            ];
        tight = k.tight;
        starts = k.starts;
        stops = k.stops;
      }
      push_slack (along {φ} {y} {q} hq d r) k = record {
        suits = k.suits;
        tight = λ l h' a. elim (ℕ_discrete q l) [ yes ε ↦ rw ε at r | no b ↦ k.tight l h' (omega (arith, more_there d h' b)) ];
        starts = k.starts;
        stops = k.stops;
      }
      push_slack (against {φ} {y} {q} hq d) k = record {
        suits = k.suits;
        tight = λ l h' a. k.tight l h' (omega (arith, d.more l h'));
        starts = k.starts;
        stops = k.stops;
      }
      push_slack (enter {φ} {a} {q} hq d r) k = record {
        suits = k.suits;
        tight = k.tight;
        starts = λ p h y. elim (ℕ_discrete q p) [ yes ε ↦ rw ε at r | no b ↦ k.starts p h (omega (arith, more_there d h b)) ];
        stops = k.stops;
      }
      push_slack (leave {φ} {z} {q} hq d r) k = record {
        suits = k.suits;
        tight = k.tight;
        starts = k.starts;
        stops = λ p h y. elim (ℕ_discrete q p) [ yes ε ↦ rw ε at r | no b ↦ k.stops p h (omega (arith, more_there d h b)) ];
      }

      walk_slack : {φ φ' : Flow} {u v : ℕ} → Walk φ φ' u v → Slack G T τ φ → Slack G T τ φ'
      walk_slack here k = k
      walk_slack (on w p) k = push_slack p (walk_slack w k)

      -- the value grows where load leaves for the sink, and nowhere else
      push_value : {φ φ' : Flow} {u v : ℕ} → Push φ φ' u v → (u ≢ sink) × (value G φ' ≡ value G φ + share v sink b)
      unfolding value
      push_value (through {q = q} h d r) = (omega arith, omega (arith, share_ne {p = end_of q} {i = sink} b (omega arith)))
      push_value (back {q = q} h d r) = (omega arith, omega (arith, share_start_end q parts b))
      push_value (along {q = q} h d r) = (omega (arith, o.from_in q h), omega (arith, share_start_end (to q) parts b))
      push_value (against {q = q} h d) =
          let i = o.from_in q h in
          (omega arith, omega (arith, share_ne {p = end_of (from q)} {i = sink} b (omega arith)))
      push_value (enter {q = q} h d r) = (omega arith, omega (arith, share_start_end q parts b))
      push_value (leave {q = q} h d r) = (omega arith, omega (arith, sum_more h d, share_eq {p = sink} {i = sink} b refl))

      walk_value : {φ φ' : Flow} {u v : ℕ} → Walk φ φ' u v → u ≢ sink → value G φ' ≡ value G φ + share v sink b
      walk_value (here {u = u}) h = omega (arith, share_ne {p = u} {i = sink} b h)
      walk_value (on {v = v} w p) h = omega (arith, walk_value w h, push_value p, share_ne {p = v} {i = sink} b (push_value p).0)

      -- A walk from the source to the sink leaves a flow that conserves, is slack, and has b more value.
      pub augment :
          {φ φ' : Flow} → Walk φ φ' source sink → Conserves G φ → Slack G T τ φ →
          Conserves G φ' × Slack G T τ φ' × (value G φ' ≡ value G φ + b)
      augment w c k = (
        carries_conserves c (walk_carries w),
        walk_slack w k,
        omega (arith, walk_value w (omega arith), share_eq {p = sink} {i = sink} b refl),
      )
