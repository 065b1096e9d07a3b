-- From the network to the board: times and loads that fit are feasible, slack and conserving times and loads of the board.
-- Assumes nothing.
use mathlib.Core.Path.{◌≡◌, sym, ap, ◌∙◌}
use mathlib.Core.Logic.{◌≢◌}
use Prim.Native.Nat.{ℕ, ◌+◌, ◌-◌, ◌≤◌, ◌<◌}
use native.Mathlib.Omega.{arith}
use native.Mathlib.Decide.{dec_lt, ℕ_discrete}
use Rattle.theory.specs.Sum.{sum, share, into}
use Rattle.theory.proofs.SumLaws.{sum_ext, sum_zero, sum_split, sum_share, share_eq, share_ne}
use Rattle.theory.specs.Graph.{Graph, Lawful, Feasible, Slack, Conserves, value}
use Rattle.nets.specs.Network.{Network}
use Rattle.nets.specs.Flow.{Fit, Balanced}
use Rattle.nets.specs.Wired.{Wired, link_arc, entry_arc, exit_arc, times_of, flow_of}

-- ---- sums over a block of arcs whose ends are e: none at node v, one, or those of another numbering
zeros : (k : ℕ) (e g : ℕ → ℕ) (v : ℕ) → ((i : ℕ) → i < k → e i ≢ v) → sum k (λ i. share (e i) v (g i)) ≡ 0
zeros k e g v h = sum_ext k (λ i l. share_ne (g i) (h i l)) ∙ sum_zero k

one : (k : ℕ) (e g : ℕ → ℕ) (v p : ℕ) → p < k → ((i : ℕ) → i < k → e i ≡ v → i ≡ p) → e p ≡ v → sum k (λ i. share (e i) v (g i)) ≡ g p
one k e g v p h f q =
    sum_ext k (λ i l. elim (ℕ_discrete p i) [
      | yes z ↦ share_eq (g i) (sym (ap e z) ∙ q) ∙ sym (share_eq (g i) z)
      | no z ↦ share_ne (g i) (λ y. z (sym (f i l y))) ∙ sym (share_ne (g i) z)
    ])
    ∙ sum_share k p g h

alike : (k : ℕ) (e d g : ℕ → ℕ) (v w : ℕ) → ((l : ℕ) → l < k → e l ≡ v → d l ≡ w) → ((l : ℕ) → l < k → d l ≡ w → e l ≡ v) →
    sum k (λ l. share (e l) v (g l)) ≡ into k d g w
unfolding into
alike k e d g v w f b =
    sum_ext k (λ l h. elim (ℕ_discrete (d l) w) [
      | yes z ↦ share_eq (g l) (b l h z) ∙ sym (share_eq (g l) z)
      | no z ↦ share_ne (g l) (λ y. z (f l h y)) ∙ sym (share_ne (g l) z)
    ])

module _ (G : Graph) (o : Lawful G) (N : Network) (w : Wired G N) where
  open G use {parts, links, from, to}

  part_in : (p : ℕ) → p < parts → p < N.arcs
  part_in p h = omega (arith, w.arcs)

  link_in : (l : ℕ) → l < links → link_arc G l < N.arcs
  link_in l h = omega (arith, w.arcs)

  entry_in : (p : ℕ) → p < parts → entry_arc G p < N.arcs
  entry_in p h = omega (arith, w.arcs)

  exit_in : (p : ℕ) → p < parts → exit_arc G p < N.arcs
  exit_in p h = omega (arith, w.arcs)

  module _ {t x : ℕ → ℕ} (fit : (a : ℕ) → a < N.arcs → Fit N t x a) where
    -- an arc that saves nothing has no slack where it has load
    flat_tight : (a : ℕ) → parts ≤ a → a < N.arcs → 0 < x a → t (N.tail a) + N.base a ≡ t (N.head a)
    flat_tight a l h y =
        elim (dec_lt (t (N.tail a) + N.base a) (t (N.head a))) [
          | yes z ↦ absurd (omega (arith, (fit a h).suits.used 0 (omega arith), w.flat a l h 0))
          | no z ↦ omega (arith, (fit a h).base)
        ]

    pub fits_feasible : Feasible G (t 129) (times_of G t)
    fits_feasible = record {
      spans = λ p h. omega (arith, (fit p (part_in p h)).base, ap t (w.part_tail p h), ap t (w.part_head p h), w.part_base p h);
      waits = λ l h.
          omega (arith, (fit (link_arc G l) (link_in l h)).base, ap t (w.link_tail l h), ap t (w.link_head l h), w.link_base l h);
      ends = λ p h.
          omega (arith, (fit (exit_arc G p) (exit_in p h)).base, ap t (w.exit_tail p h), ap t (w.exit_head p h));
    }

    pub fits_slack : t 128 ≡ 0 → Slack G (t 129) (times_of G t) (flow_of G x)
    fits_slack root = record {
      suits = λ p h.
          let long : t (N.head p) - (t (N.tail p) + N.base p) ≡ (times_of G t).used p =
          omega (arith, ap t (w.part_tail p h), ap t (w.part_head p h), w.part_base p h) in
          record {
            used = λ j l. omega (arith, (fit p (part_in p h)).suits.used j (omega (arith, long)), w.part_gain p h j);
            unused = λ j l. omega (arith, (fit p (part_in p h)).suits.unused j (omega (arith, long)), w.part_gain p h j);
          };
      tight = λ l h y.
          omega (arith, flat_tight (link_arc G l) (omega arith) (link_in l h) y, ap t (w.link_tail l h), ap t (w.link_head l h), w.link_base l h);
      starts = λ p h y.
          omega (
            arith,
            flat_tight (entry_arc G p) (omega arith) (entry_in p h) y,
            root,
            ap t (w.entry_tail p h),
            ap t (w.entry_head p h),
            w.entry_base p h,
          );
      stops = λ p h y.
          omega (
            arith,
            flat_tight (exit_arc G p) (omega arith) (exit_in p h) y,
            ap t (w.exit_tail p h),
            ap t (w.exit_head p h),
            w.exit_base p h,
          );
    }

  -- ---- conservation: a node's sum is that of four blocks
  module _ (x : ℕ → ℕ) where
    blocks : (end : ℕ → ℕ) (v : ℕ) →
        into N.arcs end x v
        ≡ sum parts (λ i. share (end i) v (x i)) + (sum links (λ i. share (end (link_arc G i)) v (x (link_arc G i)))
        + (sum parts (λ i. share (end (entry_arc G i)) v (x (entry_arc G i))) + sum parts (λ i. share (end (exit_arc G i)) v (x (exit_arc G i)))))
    unfolding into
    blocks end v =
        let g : ℕ → ℕ = λ a. share (end a) v (x a) in
        omega (
          arith,
          ap (λ k. sum k g) w.arcs,
          sum_split g parts (links + (parts + parts)),
          sum_split (λ i. g (parts + i)) links (parts + parts),
          sum_split (λ i. g (parts + (links + i))) parts parts,
        )

    abbrev tail : ℕ → ℕ
    tail a = N.tail a

    abbrev head : ℕ → ℕ
    head a = N.head a

    module _ (p : ℕ) (h : p < parts) where
      start_in : into N.arcs head x p ≡ into links to (λ l. x (link_arc G l)) p + x (entry_arc G p)
      start_in =
          omega (
            arith,
            w.parts,
            blocks head p,
            zeros parts head x p (λ i l z. omega (arith, w.part_head i l, w.parts)),
            alike links (λ l. head (link_arc G l)) to (λ l. x (link_arc G l)) p p
                (λ l k z. omega (arith, w.link_head l k)) (λ l k z. omega (arith, w.link_head l k)),
            one parts (λ i. head (entry_arc G i)) (λ i. x (entry_arc G i)) p p h (λ i l z. omega (arith, w.entry_head i l)) (w.entry_head p h),
            zeros parts (λ i. head (exit_arc G i)) (λ i. x (exit_arc G i)) p (λ i l z. omega (arith, w.exit_head i l, w.parts)),
          )

      start_out : into N.arcs tail x p ≡ x p
      start_out =
          omega (
            arith,
            blocks tail p,
            one parts tail x p p h (λ i l z. omega (arith, w.part_tail i l)) (w.part_tail p h),
            zeros links (λ l. tail (link_arc G l)) (λ l. x (link_arc G l)) p (λ l k z. omega (arith, w.link_tail l k, w.parts)),
            zeros parts (λ i. tail (entry_arc G i)) (λ i. x (entry_arc G i)) p (λ i l z. omega (arith, w.entry_tail i l, w.parts)),
            zeros parts (λ i. tail (exit_arc G i)) (λ i. x (exit_arc G i)) p (λ i l z. omega (arith, w.exit_tail i l, w.parts)),
          )

      end_in : into N.arcs head x (64 + p) ≡ x p
      end_in =
          omega (
            arith,
            blocks head (64 + p),
            one parts head x (64 + p) p h (λ i l z. omega (arith, w.part_head i l)) (w.part_head p h),
            zeros links (λ l. head (link_arc G l)) (λ l. x (link_arc G l)) (64 + p) (λ l k z. omega (arith, w.link_head l k, o.to_in l k, w.parts)),
            zeros parts (λ i. head (entry_arc G i)) (λ i. x (entry_arc G i)) (64 + p) (λ i l z. omega (arith, w.entry_head i l, w.parts)),
            zeros parts (λ i. head (exit_arc G i)) (λ i. x (exit_arc G i)) (64 + p) (λ i l z. omega (arith, w.exit_head i l, w.parts)),
          )

      end_out : into N.arcs tail x (64 + p) ≡ into links from (λ l. x (link_arc G l)) p + x (exit_arc G p)
      end_out =
          omega (
            arith,
            blocks tail (64 + p),
            zeros parts tail x (64 + p) (λ i l z. omega (arith, w.part_tail i l, w.parts)),
            alike links (λ l. tail (link_arc G l)) from (λ l. x (link_arc G l)) (64 + p) p
                (λ l k z. omega (arith, w.link_tail l k)) (λ l k z. omega (arith, w.link_tail l k)),
            zeros parts (λ i. tail (entry_arc G i)) (λ i. x (entry_arc G i)) (64 + p) (λ i l z. omega (arith, w.entry_tail i l, w.parts)),
            one parts (λ i. tail (exit_arc G i)) (λ i. x (exit_arc G i)) (64 + p) p h (λ i l z. omega (arith, w.exit_tail i l)) (w.exit_tail p h),
          )

    pub sink_in : into N.arcs head x 129 ≡ value G (flow_of G x)
    unfolding value
    sink_in =
        omega (
          arith,
          blocks head 129,
          zeros parts head x 129 (λ i l z. omega (arith, w.part_head i l, w.parts)),
          zeros links (λ l. head (link_arc G l)) (λ l. x (link_arc G l)) 129 (λ l k z. omega (arith, w.link_head l k, o.to_in l k, w.parts)),
          zeros parts (λ i. head (entry_arc G i)) (λ i. x (entry_arc G i)) 129 (λ i l z. omega (arith, w.entry_head i l, w.parts)),
          sum_ext parts {f = λ i. share (head (exit_arc G i)) 129 (x (exit_arc G i))} {g = λ i. x (exit_arc G i)}
              (λ i l. share_eq (x (exit_arc G i)) (w.exit_head i l)),
        )

    pub balanced_conserves : Balanced N.arcs N.tail N.head x → Conserves G (flow_of G x)
    balanced_conserves b = record {
      arrives = λ p h. omega (arith, b.balance p (omega (arith, w.parts)), start_in p h, start_out p h);
      leaves = λ p h. omega (arith, b.balance (64 + p) (omega (arith, w.parts)), end_in p h, end_out p h);
    }
