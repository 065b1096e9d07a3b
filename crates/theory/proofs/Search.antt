-- The search for a walk from the source to the sink. A labelled node is one that a walk with room for one unit reaches;
-- the walk's pushes change loads between labelled nodes only, so an arc to a node without a label still has its room.
-- Assumes nothing.
use mathlib.Core.Path.{◌≡◌, refl, sym, ap, ◌∙◌}
use mathlib.Core.Logic.{◌≢◌}
use mathlib.Core.Bool.{Bool, true, false, Bool-discrete}
use Prim.Native.Nat.{ℕ, zero, suc, pred, ◌+◌, ◌≤◌, ◌<◌}
use native.Mathlib.Decide.{ℕ_discrete, dec_lt}
use native.Mathlib.Omega.{arith}
use Rattle.theory.proofs.SumLaws.{share_eq, more_there}
use Rattle.theory.specs.Sum.{More}
use Rattle.theory.specs.Graph.{Graph, Times, Flow, Lawful, Feasible}
use Rattle.theory.proofs.Lowering.{Labels, Closed}
use Rattle.theory.proofs.Pushing.{start_of, end_of, source, sink, Push.through, Push.back, Push.along, Push.against, Push.enter, Push.leave, Walk, Walk.here, Walk.on, with_part, with_link, with_entry, with_exit}
use Rattle.theory.proofs.Finding.{look_for, dec_and, set_or_not, clash, mark, mark_there, mark_not, unmarked, mark_fewer, bump, dip, bump_more, dip_more}

mark_start : Labels → ℕ → Labels
mark_start labels p = record { starts = mark labels.starts p; ends = labels.ends }

mark_end : Labels → ℕ → Labels
mark_end labels p = record { starts = labels.starts; ends = mark labels.ends p }

module _ (G : Graph) (F : ℕ) (τ : Times) (φ : Flow) where
  open G use {parts, links, from, to, wire, saving}
  open τ use {start, end, used}

  -- a walk reaches node u, and changes no load but between labelled nodes
  record Reached (labels : Labels) (u : ℕ) : Type 0 where
    flow : Flow
    walk : Walk G F τ 1 φ flow (source G) u
    part_start : (p : ℕ) → p < parts → labels.starts p ≡ false → flow.part p ≡ φ.part p
    part_end : (p : ℕ) → p < parts → labels.ends p ≡ false → flow.part p ≡ φ.part p
    link_start : (l : ℕ) → l < links → labels.starts (to l) ≡ false → flow.link l ≡ φ.link l
    link_end : (l : ℕ) → l < links → labels.ends (from l) ≡ false → flow.link l ≡ φ.link l

  -- every labelled node is reached
  record Search (labels : Labels) : Type 0 where
    starts : (p : ℕ) → p < parts → labels.starts p ≡ true → Reached labels (start_of p)
    ends : (p : ℕ) → p < parts → labels.ends p ≡ true → Reached labels (end_of p)

  -- ---- one more label
  relabel :
      {labels λs' : Labels} {u : ℕ} → ((p : ℕ) → λs'.starts p ≡ false → labels.starts p ≡ false) →
      ((p : ℕ) → λs'.ends p ≡ false → labels.ends p ≡ false) → Reached labels u → Reached λs' u
  relabel a b r = record {
    flow = r.flow;
    walk = r.walk;
    part_start = λ p h x. r.part_start p h (a p x);
    part_end = λ p h x. r.part_end p h (b p x);
    link_start = λ l h x. r.link_start l h (a (to l) x);
    link_end = λ l h x. r.link_end l h (b (from l) x);
  }

  add_start : {labels : Labels} (p : ℕ) → Search labels → Reached (mark_start labels p) (start_of p) → Search (mark_start labels p)
  unfolding mark_start
  add_start {labels} p σ r = record {
    starts = λ q h x.
        elim (ℕ_discrete p q) [
          | yes ε ↦ rw (← ε) r
          | no d ↦ relabel (λ i y. (mark_not labels.starts y).1) (λ i y. y) (σ.starts q h (sym (mark_there labels.starts d) ∙ x))
        ];
    ends = λ q h x. relabel (λ i y. (mark_not labels.starts y).1) (λ i y. y) (σ.ends q h x);
  }

  add_end : {labels : Labels} (p : ℕ) → Search labels → Reached (mark_end labels p) (end_of p) → Search (mark_end labels p)
  unfolding mark_end
  add_end {labels} p σ r = record {
    starts = λ q h x. relabel (λ i y. y) (λ i y. (mark_not labels.ends y).1) (σ.starts q h x);
    ends = λ q h x.
        elim (ℕ_discrete p q) [
          | yes ε ↦ rw (← ε) r
          | no d ↦ relabel (λ i y. y) (λ i y. (mark_not labels.ends y).1) (σ.ends q h (sym (mark_there labels.ends d) ∙ x))
        ];
  }

  -- ---- the arcs to a node without a label
  module _ (labels : Labels) where
    open labels use {starts, ends}

    reach_in : (p : ℕ) → p < parts → start p ≡ 0 → Reached (mark_start labels p) (start_of p)
    reach_in p h z = record {
      flow = with_entry φ (bump φ.entry p);
      walk = on here (enter h (bump_more parts φ.entry p) z);
      part_start = λ q k x. refl;
      part_end = λ q k x. refl;
      link_start = λ l k x. refl;
      link_end = λ l k x. refl;
    }

    reach_through :
        (p : ℕ) → p < parts → starts p ≡ true → ends p ≡ false → ((j : ℕ) → suc j ≡ used p → φ.part p < saving p j) → Reached labels (start_of p) →
        Reached (mark_end labels p) (end_of p)
    unfolding mark_end
    reach_through p h a b room r = record {
      flow = with_part r.flow (bump r.flow.part p);
      walk = on r.walk (through h d (λ j x. omega (arith, d.more p h, share_eq {p = p} 1 refl, r.part_end p h b, room j x)));
      part_start = λ q k x. more_there d k (λ ε. clash x (rw (← ε) a)) ∙ r.part_start q k x;
      part_end = λ q k x. more_there d k (mark_not ends x).0 ∙ r.part_end q k (mark_not ends x).1;
      link_start = r.link_start;
      link_end = λ l k x. r.link_end l k (mark_not ends x).1;
    }
      where
        d : More parts r.flow.part (bump r.flow.part p) p 1
        d = bump_more parts r.flow.part p

    reach_back :
        (p : ℕ) → p < parts → ends p ≡ true → starts p ≡ false → saving p (used p) < φ.part p → Reached labels (end_of p) →
        Reached (mark_start labels p) (start_of p)
    unfolding mark_start
    reach_back p h a b room r = record {
      flow = with_part r.flow (dip r.flow.part p);
      walk = on r.walk (back h d (omega (arith, d.more p h, share_eq {p = p} 1 refl, r.part_start p h b)));
      part_start = λ q k x. sym (more_there d k (mark_not starts x).0) ∙ r.part_start q k (mark_not starts x).1;
      part_end = λ q k x. sym (more_there d k (λ ε. clash x (rw (← ε) a))) ∙ r.part_end q k x;
      link_start = λ l k x. r.link_start l k (mark_not starts x).1;
      link_end = r.link_end;
    }
      where
        d : More parts (dip r.flow.part p) r.flow.part p 1
        d = dip_more parts r.flow.part p (omega (arith, r.part_start p h b))

    reach_along :
        (l : ℕ) → l < links → ends (from l) ≡ true → starts (to l) ≡ false → end (from l) + wire l ≡ start (to l) → Reached labels (end_of (from l)) →
        Reached (mark_start labels (to l)) (start_of (to l))
    unfolding mark_start
    reach_along l h a b z r = record {
      flow = with_link r.flow (bump r.flow.link l);
      walk = on r.walk (along h d z);
      part_start = λ q k x. r.part_start q k (mark_not starts x).1;
      part_end = r.part_end;
      link_start = λ i k x. more_there d k (λ ε. (mark_not starts x).0 (ap to ε)) ∙ r.link_start i k (mark_not starts x).1;
      link_end = λ i k x. more_there d k (λ ε. clash x (rw (← ε) a)) ∙ r.link_end i k x;
    }
      where
        d : More links r.flow.link (bump r.flow.link l) l 1
        d = bump_more links r.flow.link l

    reach_against :
        (l : ℕ) → l < links → starts (to l) ≡ true → ends (from l) ≡ false → 0 < φ.link l → Reached labels (start_of (to l)) →
        Reached (mark_end labels (from l)) (end_of (from l))
    unfolding mark_end
    reach_against l h a b y r = record {
      flow = with_link r.flow (dip r.flow.link l);
      walk = on r.walk (against h d);
      part_start = r.part_start;
      part_end = λ q k x. r.part_end q k (mark_not ends x).1;
      link_start = λ i k x. sym (more_there d k (λ ε. clash x (rw (← ε) a))) ∙ r.link_start i k x;
      link_end = λ i k x. sym (more_there d k (λ ε. (mark_not ends x).0 (ap from ε))) ∙ r.link_end i k (mark_not ends x).1;
    }
      where
        d : More links (dip r.flow.link l) r.flow.link l 1
        d = dip_more links r.flow.link l (omega (arith, r.link_end l h b))

    reach_out : (p : ℕ) → p < parts → end p ≡ F → Reached labels (end_of p) → (φ' : Flow) × Walk G F τ 1 φ φ' (source G) (sink G)
    reach_out p h z r =
        (with_exit r.flow (bump r.flow.exit p), on r.walk (leave h (bump_more parts r.flow.exit p) z))

  -- is there room for one unit more through the part?
  dec_room : (p : ℕ) → Dec ((j : ℕ) → suc j ≡ used p → φ.part p < saving p j)
  dec_room p =
      elim (dec_lt 0 (used p)) [
        | no z ↦ yes (λ j x. omega arith)
        | yes y ↦
            elim (dec_lt (φ.part p) (saving p (pred (used p)))) [
              | yes l ↦ yes (λ j x. let ε : j ≡ pred (used p) = omega arith in rw ε l)
              | no l ↦ no (λ r. l (r (pred (used p)) (omega arith)))
            ]
      ]

  -- ---- what the labels lead to: the end of the search, a walk, or one label more
  data Next (labels : Labels) : Type 0 where
    closed : Closed G F τ φ labels → Next labels
    out : (φ' : Flow) → Walk G F τ 1 φ φ' (source G) (sink G) → Next labels
    new_start : (p : ℕ) → p < parts → labels.starts p ≡ false → Reached (mark_start labels p) (start_of p) → Next labels
    new_end : (p : ℕ) → p < parts → labels.ends p ≡ false → Reached (mark_end labels p) (end_of p) → Next labels

  next : Feasible G F τ → Lawful G → (labels : Labels) → Search labels → Next labels
  next f o labels σ =
      look_for parts (λ p. dec_and (ℕ_discrete (start p) 0) (Bool-discrete (starts p) false))
      (λ p h a. new_start p h a.1 (reach_in labels p h a.0))
      (λ n₁.
      look_for parts (λ p. dec_and (Bool-discrete (starts p) true) (dec_and (Bool-discrete (ends p) false) (dec_room p)))
      (λ p h a. new_end p h a.1.0 (reach_through labels p h a.0 a.1.0 a.1.1 (σ.starts p h a.0)))
      (λ n₂.
      look_for parts (λ p. dec_and (Bool-discrete (ends p) true) (dec_and (Bool-discrete (starts p) false) (dec_spare p)))
      (λ p h a. new_start p h a.1.0 (reach_back labels p h a.0 a.1.0 a.1.1 (σ.ends p h a.0)))
      (λ n₃.
      look_for links (λ l. dec_and (Bool-discrete (ends (from l)) true) (dec_and (Bool-discrete (starts (to l)) false) (dec_tight l)))
      (λ l h a.
      let before = σ.ends (from l) (o.from_in l h) a.0 in
      new_start (to l) (o.to_in l h) a.1.0 (reach_along labels l h a.0 a.1.0 a.1.1 before))
      (λ n₄.
      look_for links (λ l. dec_and (Bool-discrete (starts (to l)) true) (dec_and (Bool-discrete (ends (from l)) false) (dec_lt 0 (φ.link l))))
      (λ l h a.
      let before = σ.starts (to l) (o.to_in l h) a.0 in
      new_end (from l) (o.from_in l h) a.1.0 (reach_against labels l h a.0 a.1.0 a.1.1 before))
      (λ n₅.
      look_for parts (λ p. dec_and (Bool-discrete (ends p) true) (ℕ_discrete (end p) F))
      (λ p h a. let w = reach_out labels p h a.1 (σ.ends p h a.0) in out w.0 w.1)
      (λ n₆.
      closed record {
        entry = λ p h x. set_or_not (starts p) (λ y. y) (λ y. absurd (n₁ p h (x, y)));
        through = λ p h x r. set_or_not (ends p) (λ y. y) (λ y. absurd (n₂ p h (x, (y, r))));
        back = λ p h x r. set_or_not (starts p) (λ y. y) (λ y. absurd (n₃ p h (x, (y, r))));
        along = λ l h x r. set_or_not (starts (to l)) (λ y. y) (λ y. absurd (n₄ l h (x, (y, r))));
        against = λ l h x r. set_or_not (ends (from l)) (λ y. y) (λ y. absurd (n₅ l h (x, (y, r))));
        short = λ p h x. let d : end p ≢ F = λ q. n₆ p h (x, q) in omega (arith, f.ends p h);
      }))))))
    where
      starts : ℕ → Bool
      starts = labels.starts

      ends : ℕ → Bool
      ends = labels.ends

      dec_spare : (p : ℕ) → Dec (saving p (used p) < φ.part p)
      dec_spare p = dec_lt (saving p (used p)) (φ.part p)

      dec_tight : (l : ℕ) → Dec (end (from l) + wire l ≡ start (to l))
      dec_tight l = ℕ_discrete (end (from l) + wire l) (start (to l))

  -- ---- the search ends: with labels that are closed, or with a walk
  pub data Outcome : Type 0 where
    stuck : (labels : Labels) → Closed G F τ φ labels → Outcome
    reached : (φ' : Flow) → Walk G F τ 1 φ φ' (source G) (sink G) → Outcome

  module _ (f : Feasible G F τ) (o : Lawful G) where
    -- k bounds the nodes without a label
    seek : (k : ℕ) (labels : Labels) → Search labels → unmarked parts labels.starts + unmarked parts labels.ends ≤ k → Outcome
    unfolding mark_start mark_end
    seek zero labels σ less =
        elim (next f o labels σ) [
          | closed c ↦ stuck labels c
          | out φ' w ↦ reached φ' w
          | new_start p h a r ↦ absurd (omega (arith, mark_fewer parts labels.starts p h a))
          | new_end p h a r ↦ absurd (omega (arith, mark_fewer parts labels.ends p h a))
        ]
    seek (suc k) labels σ less =
        elim (next f o labels σ) [
          | closed c ↦ stuck labels c
          | out φ' w ↦ reached φ' w
          | new_start p h a r ↦ seek k (mark_start labels p) (add_start p σ r) (omega (arith, mark_fewer parts labels.starts p h a))
          | new_end p h a r ↦ seek k (mark_end labels p) (add_end p σ r) (omega (arith, mark_fewer parts labels.ends p h a))
        ]

    pub search_walk : Outcome
    search_walk =
        let none : Labels = record { starts = λ p. false; ends = λ p. false } in
        seek (unmarked parts (λ p. false) + unmarked parts (λ p. false)) none
        (record { starts = λ p h x. clash refl x; ends = λ p h x. clash refl x }) (omega arith)
