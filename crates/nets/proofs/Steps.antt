-- The three steps over a network, with no sheet in sight: a node is labelled, the labelled nodes go down, load is carried over an arc. Each keeps what
-- the main loop keeps, and less is left to do.
-- Assumes nothing.
use mathlib.Core.Path.{◌≡◌, refl, sym, ap, ◌∙◌}
use mathlib.Core.Logic.{◌≢◌}
use mathlib.Core.List.{List}
use Prim.Native.Nat.{ℕ, zero, suc, ◌+◌, ◌-◌, ◌≤◌, ◌<◌}
use native.Mathlib.Omega.{arith}
use native.Mathlib.Decide.{ℕ_discrete}
use lib.ListN.{length, set, replicate}
use lib.Seq.{get_or-set_same, get_or-set_other}
use Rattle.std.proofs.lemmas.List.{get_or-replicate}
use Rattle.theory.specs.Sum.{sum, share, into, More, cells}
use Rattle.theory.proofs.SumLaws.{sum_ext, sum_ge, sum_change, sum_const, share_eq, share_ne, into_more}
use Rattle.nets.specs.Network.{Network}
use Rattle.nets.specs.Flow.{Fit, Flows, Lowers, World, First, Never, Sheet}
use Rattle.nets.specs.Judge.{Rises, Falls, Shrinks, Stretches, Leads, Leads.on, Leads.back, Open}
use Rattle.nets.specs.Label.{lack, ticks, arc_of, After, Way, Way.on, Way.back, Led, Labels, Fresh}
use Rattle.nets.specs.Steps.{Put, Moved, Carried, left}

-- the ends of arcs are nodes
pub record Ends (N : Network) : Type 0 where
  pub tail_in : (a : ℕ) → a < N.arcs → N.tail a < 130
  pub head_in : (a : ℕ) → a < N.arcs → N.head a < 130

-- ---- one arc fits still
module _ (N : Network) (t x : ℕ → ℕ) (a : ℕ) (f : Fit N t x a) where
  -- its load has changed
  module _ (x' : ℕ → ℕ) where
    fit_same : x' a ≡ x a → Fit N t x' a
    fit_same e = record { base = f.base; suits = rw e f.suits }

    fit_rises : (d : ℕ) → Rises (N.gain a) (ticks N t a) (x a) d → x' a ≡ x a + d → Fit N t x' a
    fit_rises d r e = record { base = f.base; suits = rw e (record { used = r.used; unused = λ j l. omega (arith, f.suits.unused j l) }) }

    fit_falls : (d : ℕ) → Falls (N.gain a) (ticks N t a) (x a) d → x' a + d ≡ x a → Fit N t x' a
    fit_falls d r e = record {
      base = f.base;
      suits = record { used = λ j l. omega (arith, f.suits.used j l); unused = λ j l. omega (arith, r.unused j l) };
    }

  -- its ends have moved
  module _ (t' : ℕ → ℕ) (d : ℕ) where
    fit_moves : ticks N t' a ≡ ticks N t a → t' (N.tail a) + N.base a ≤ t' (N.head a) → Fit N t' x a
    fit_moves e l = record { base = l; suits = rw e f.suits }

    fit_shrinks : Shrinks (N.gain a) (ticks N t a) (x a) d → t' (N.tail a) ≡ t (N.tail a) → t' (N.head a) + d ≡ t (N.head a) → Fit N t' x a
    fit_shrinks s e g = record {
      base = omega (arith, f.base, s.within);
      suits = record {
        used = λ j l. f.suits.used j (omega (arith, f.base));
        unused = λ j l. s.unused j (omega (arith, f.base, s.within));
      };
    }

    fit_stretches : Stretches (N.gain a) (ticks N t a) (x a) d → t' (N.tail a) + d ≡ t (N.tail a) → t' (N.head a) ≡ t (N.head a) → Fit N t' x a
    fit_stretches s e g = record {
      base = omega (arith, f.base);
      suits = record {
        used = λ j l. s.used j (omega (arith, f.base));
        unused = λ j l. f.suits.unused j (omega (arith, f.base));
      };
    }

-- ---- a node is labelled
lack_none : {k : ℕ} → k ≡ 0 → lack k ≡ 1
lack_none e = rw e refl

lack_some : (k : ℕ) → 0 < k → lack k ≡ 0
lack_some zero h = omega arith
lack_some (suc k) h = refl

-- a cell of a list of n cells is put
pub put_cell : (n : ℕ) (l : List ℕ) (v y : ℕ) → length l ≡ n → v < n → Put (cells l) v y (cells (set l v y))
put_cell n l v y e h = record { here = get_or-set_same l v y 0 (omega arith); there = λ w d. get_or-set_other l v w y 0 d }

-- the cells of a list of n cells are filled
pub fill_cell : (n : ℕ) (l l' : List ℕ) (y : ℕ) → length l ≡ n → l' ≡ replicate (length l) y → (v : ℕ) → v < n → cells l' v ≡ y
fill_cell n l l' y e is v h = rw is (get_or-replicate (length l) v y 0 (omega arith))

module _ (N : Network) (t x rank via room : ℕ → ℕ) (count : ℕ) (g : Labels N t x rank via room count) (a v d : ℕ)
    (p : Leads (N.gain a) (arc_of N t x room a) v d) (some : 0 < d) (arc : a < N.arcs) (i : v < 130) (nodes : Ends N) where
  none : Leads (N.gain a) (arc_of N t x room a) v d → room v ≡ 0
  none (on e z m r) = ap room e ∙ z
  none (back e z m r) = ap room e ∙ z

  most : Leads (N.gain a) (arc_of N t x room a) v d → d ≤ 64001
  most (on e z m r) = omega (arith, g.most (N.head a) (nodes.head_in a arc))
  most (back e z m r) = omega (arith, g.most (N.tail a) (nodes.tail_in a arc))

  module _ (room' : ℕ → ℕ) (pm : Put room v d room') where
    fewer : sum 130 (λ w. lack (room' w)) + 1 ≡ sum 130 (λ w. lack (room w))
    fewer =
        omega (
          arith,
          sum_change 130 v (λ w. lack (room w)) (λ w. lack (room' w)) i (λ w l e. ap lack (sym (pm.there w e))),
          lack_none (none p),
          lack_some (room' v) (omega (arith, pm.here)),
        )

    module _ (rank' via' : ℕ → ℕ) (pr : Put rank v count rank') (pv : Put via v a via') where
      -- a label stays
      other : (w : ℕ) → 0 < room w → w ≢ v
      other w l e = omega (arith, none p, ap room e)

      room_stays : (w : ℕ) → 0 < room w → room' w ≡ room w
      room_stays w l = pm.there w (other w l)

      rank_stays : (w : ℕ) → 0 < room w → rank' w ≡ rank w
      rank_stays w l = pr.there w (other w l)

      after_stays : {u w : ℕ} → 0 < room w → After N t x rank via room u w → After N t x rank' via' room' u w
      after_stays {u} {w} l f =
          let m : 0 < room u = omega (arith, f.most) in
          record { first = omega (arith, f.first, rank_stays u m, rank_stays w l); most = omega (arith, f.most, room_stays u m, room_stays w l) }

      way_stays : {b w : ℕ} → 0 < room w → Way N t x rank via room b w → Way N t x rank' via' room' b w
      way_stays {b} {w} l (on e f r) = on e (after_stays l f) (rw (room_stays w l) r)
      way_stays {b} {w} l (back e f r) = back e (after_stays l f) (rw (room_stays w l) r)

      after_new : {u : ℕ} → u < 130 → d ≤ room u → After N t x rank' via' room' u v
      after_new {u} h l =
          let m : 0 < room u = omega arith in
          record { first = omega (arith, rank_stays u m, pr.here, g.top u h m); most = omega (arith, room_stays u m, pm.here) }

      way_new : Leads (N.gain a) (arc_of N t x room a) v d → Way N t x rank' via' room' a v
      way_new (on e z m r) = on e (after_new (nodes.head_in a arc) m) (rw pm.here r)
      way_new (back e z m r) = back e (after_new (nodes.tail_in a arc) m) (rw pm.here r)

      pub labelled : Labels N t x rank' via' room' (count + 1)
      labelled = record {
        sink = omega (arith, room_stays 129 g.sink, g.sink);
        few = omega (arith, fewer, g.few);
        most = λ w l. elim (ℕ_discrete w v) [ yes e ↦ rw e (omega (arith, pm.here, most p)) | no e ↦ omega (arith, pm.there w e, g.most w l) ];
        top = λ w l m.
            elim (ℕ_discrete w v) [
              | yes e ↦ rw e (omega (arith, pr.here))
              | no e ↦ omega (arith, pr.there w e, g.top w l (omega (arith, pm.there w e)))
            ];
        led = λ w l m n.
            elim (ℕ_discrete w v) [
              | yes e ↦ rw e (record { arc = omega (arith, pv.here); way = rw pv.here (way_new p) })
              | no e ↦
                  let k : 0 < room w = omega (arith, pm.there w e) in
                  let q = g.led w l k n in
                  record { arc = omega (arith, pv.there w e, q.arc); way = rw (pv.there w e) (way_stays k q.way) }
            ];
      }

  pub count_less : count < 130
  count_less = omega (arith, g.few, sum_ge 130 (λ w. lack (room w)) v i, lack_none (none p))

-- only the sink
pub fresh_labels : (N : Network) (t x rank via room : ℕ → ℕ) → Fresh rank room → Labels N t x rank via room 1
fresh_labels N t x rank via room f = record {
  sink = omega (arith, f.sink);
  few =
      omega (
        arith,
        sum_change 130 129 (λ v. lack (room v)) (λ v. 1) (omega arith) (λ v l d. lack_none (f.others v l d)),
        sum_const 130 1,
        lack_some (room 129) (omega (arith, f.sink)),
      );
  most = λ v l. elim (ℕ_discrete v 129) [ yes e ↦ rw e (omega (arith, f.sink)) | no d ↦ omega (arith, f.others v l d) ];
  top = λ v l m. elim (ℕ_discrete v 129) [ yes e ↦ rw e (omega (arith, f.first)) | no d ↦ absurd (omega (arith, f.others v l d)) ];
  led = λ v l m d. absurd (omega (arith, f.others v l d));
}

-- ---- the labelled nodes go down by d
module _ (N : Network) (due : ℕ) (w : World N due) (t x rank via room : ℕ → ℕ) (count : ℕ) (nodes : Ends N)
    (f : Flows N t x) (g : Labels N t x rank via room count) (source : room 128 ≡ 0) (d : ℕ) (few : d ≤ t 129)
    (opens : (a : ℕ) → a < N.arcs → Open (N.gain a) (arc_of N t x room a) d) where
  -- no labelled node is below d
  live : (v : ℕ) → v < 130 → 0 < room v → d ≤ t v
  live v h l = elim (ℕ_discrete v 129) [ yes e ↦ rw e few | no n ↦ let q = g.led v h l n in by (via v) q.arc q.way ]
    where
      lowers : Lowers N t room d
      lowers = record {
        source = source;
        rises = λ a h. omega (arith, (f.fit a h).base);
        crosses = λ a h e l. omega (arith, ((opens a h).into e l).within, (f.fit a h).base);
      }

      by : (a : ℕ) → a < N.arcs → Way N t x rank via room a v → d ≤ t v
      by a h (on e q r) = rw e (w.live_tail t room d lowers a h (omega (arith, ap room e)))
      by a h (back e q r) = rw e (w.live_head t room d lowers a h (omega (arith, ap room e)))

  module _ (t' : ℕ → ℕ) (m : (v : ℕ) → v < 130 → Moved (t v) (room v) d (t' v)) where
    stays : (v : ℕ) → v < 130 → room v ≡ 0 → t' v ≡ t v
    stays v h e = (m v h).stays e

    goes : (v : ℕ) → v < 130 → 0 < room v → t' v + d ≡ t v
    goes v h l = (m v h).goes l (live v h l)

    pub low_sinks : (v : ℕ) → v < 130 → t' v ≤ t v
    low_sinks v h = elim (ℕ_discrete (room v) 0) [ yes e ↦ omega (arith, stays v h e) | no e ↦ omega (arith, goes v h (omega arith)) ]

    fits : (a : ℕ) → a < N.arcs → Fit N t' x a
    fits a h =
        let b = (f.fit a h).base in
        elim (ℕ_discrete (room (N.tail a)) 0) [
          | yes e ↦
              let u = stays (N.tail a) (nodes.tail_in a h) e in
              elim (ℕ_discrete (room (N.head a)) 0) [
                | yes k ↦ let v = stays (N.head a) (nodes.head_in a h) k in fit_moves N t x a (f.fit a h) t' d (omega arith) (omega arith)
                | no k ↦ let l : 0 < room (N.head a) = omega arith in fit_shrinks N t x a (f.fit a h) t' d ((opens a h).into e l) u (goes (N.head a) (nodes.head_in a h) l)
              ]
          | no e ↦
              let i : 0 < room (N.tail a) = omega arith in
              let u = goes (N.tail a) (nodes.tail_in a h) i in
              elim (ℕ_discrete (room (N.head a)) 0) [
                | yes k ↦ fit_stretches N t x a (f.fit a h) t' d ((opens a h).out i k) u (stays (N.head a) (nodes.head_in a h) k)
                | no k ↦ let v = goes (N.head a) (nodes.head_in a h) (omega arith) in fit_moves N t x a (f.fit a h) t' d (omega arith) (omega arith)
              ]
        ]

    pub low_flows : Flows N t' x
    low_flows = record { fit = fits; root = stays 128 (omega arith) source ∙ f.root; balanced = f.balanced }

    -- a way's two ends go down together
    same_ticks : (a : ℕ) → a < N.arcs → 0 < room (N.tail a) → 0 < room (N.head a) → ticks N t' a ≡ ticks N t a
    same_ticks a h i j = omega (arith, goes (N.tail a) (nodes.tail_in a h) i, goes (N.head a) (nodes.head_in a h) j, (f.fit a h).base)

    way_down : {a v : ℕ} → a < N.arcs → 0 < room v → Way N t x rank via room a v → Way N t' x rank via room a v
    way_down {a} {v} h l (on e q r) = on e (record { first = q.first; most = q.most }) (rw (same_ticks a h (omega (arith, ap room e)) (omega (arith, q.most))) r)
    way_down {a} {v} h l (back e q r) = back e (record { first = q.first; most = q.most }) (rw (same_ticks a h (omega (arith, q.most)) (omega (arith, ap room e))) r)

    pub low_labels : Labels N t' x rank via room count
    low_labels = record {
      sink = g.sink;
      few = g.few;
      most = g.most;
      top = g.top;
      led = λ v h l n. let q = g.led v h l n in record { arc = q.arc; way = way_down q.arc l q.way };
    }

    pub low_sink : t' 129 + d ≡ t 129
    low_sink = goes 129 (omega arith) g.sink

-- ---- load is carried over the arc that a label came along
module _ (N : Network) (t y rank via room : ℕ → ℕ) (count : ℕ) (g : Labels N t y rank via room count) (nodes : Ends N) (d : ℕ) (some : 0 < d) where
  pub carry_begins : Flows N t y → d ≤ room 128 → Carried N t y rank room d y 128
  carry_begins f l = record { node = omega arith; spare = l; near = λ a h i j. refl; fit = f.fit; flow = λ w. refl }

  module _ (x : ℕ → ℕ) (v : ℕ) (s : Carried N t y rank room d x v) (n : v ≢ 129) where
    abbrev b : ℕ
    b = via v

    led : Led N t y rank via room v
    led = g.led v s.node (omega (arith, s.spare)) n

    pub carry_arc : b < N.arcs
    carry_arc = led.arc

    untouched : Way N t y rank via room b v → x b ≡ y b
    untouched (on e q r) = s.near b carry_arc (omega (arith, ap rank e)) (omega (arith, q.first))
    untouched (back e q r) = s.near b carry_arc (omega (arith, q.first)) (omega (arith, ap rank e))

    pub carry_load : x b ≡ y b
    carry_load = untouched led.way

    covers : Way N t y rank via room b v → N.tail b ≢ v → d ≤ x b
    covers (on e q r) z = absurd (z (sym e))
    covers (back e q r) z = omega (arith, carry_load, s.spare, r.unused (ticks N t b) (omega arith))

    pub carry_covers : N.tail b ≢ v → d ≤ x b
    carry_covers = covers led.way

    module _ (x' : ℕ → ℕ) where
      -- what is the same for both ways of the arc
      arrives : (u y' : ℕ) → Put x b y' x' → After N t y rank via room u v → u < 130 →
          ((a : ℕ) → rank (N.tail a) ≤ rank u → rank (N.head a) ≤ rank u → a ≢ b) → Fit N t x' b →
          ((w : ℕ) → into N.arcs N.head x' w + into N.arcs N.tail y w + share 128 w d
          ≡ into N.arcs N.head y w + into N.arcs N.tail x' w + share u w d) →
          Carried N t y rank room d x' u
      arrives u y' q f h far fit flow = record {
        node = h;
        spare = omega (arith, f.most, s.spare);
        near = λ a l i j. q.there a (far a i j) ∙ s.near a l (omega (arith, f.first)) (omega (arith, f.first));
        fit = λ a l. elim (ℕ_discrete a b) [ yes e ↦ rw e fit | no e ↦ fit_same N t x a (s.fit a l) x' (q.there a e) ];
        flow = flow;
      }

      more : (f f' : ℕ → ℕ) → f' b ≡ f b + d → ((a : ℕ) → a ≢ b → f' a ≡ f a) → More N.arcs f f' b d
      more f f' e o = record {
        more = λ a h.
            elim (ℕ_discrete b a) [
              | yes i ↦ rw (← i) (omega (arith, e, share_eq {p = b} d refl))
              | no i ↦ omega (arith, o a (λ k. i (sym k)), share_ne d i)
            ];
      }

      on_way : Way N t y rank via room b v → N.tail b ≡ v → Put x b (x b + d) x' → Carried N t y rank room d x' (N.head b) × (rank (N.head b) < rank v)
      on_way (back e q r) z p = absurd (omega (arith, q.first, ap rank z))
      on_way (on e q r) z p =
          let m = more x x' p.here p.there in (
            arrives (N.head b) (x b + d) p q (nodes.head_in b carry_arc)
                (λ a i j k. omega (arith, q.first, ap (λ c. rank (N.tail c)) k, ap rank e))
                (fit_rises N t x b (s.fit b carry_arc) x' d (record { used = λ j l. omega (arith, carry_load, s.spare, r.used j l) }) p.here)
                (λ w. omega (arith, s.flow w, into_more N.head carry_arc m w, into_more N.tail carry_arc m w, ap (λ c. share c w d) z)),
            q.first,
          )

      back_way : Way N t y rank via room b v → N.tail b ≢ v → Put x b (x b - d) x' → Carried N t y rank room d x' (N.tail b) × (rank (N.tail b) < rank v)
      back_way (on e q r) z p = absurd (z (sym e))
      back_way (back e q r) z p =
          let c = carry_covers z in
          let m = more x' x (omega (arith, p.here)) (λ a k. sym (p.there a k)) in (
            arrives (N.tail b) (x b - d) p q (nodes.tail_in b carry_arc)
                (λ a i j k. omega (arith, q.first, ap (λ c. rank (N.head c)) k, ap rank e))
                (fit_falls N t x b (s.fit b carry_arc) x' d (record { unused = λ j l. omega (arith, carry_load, s.spare, r.unused j l) }) (omega (arith, p.here)))
                (λ w. omega (arith, s.flow w, into_more N.head carry_arc m w, into_more N.tail carry_arc m w, ap (λ c. share c w d) e)),
            q.first,
          )

      pub carry_on : N.tail b ≡ v → Put x b (x b + d) x' → Carried N t y rank room d x' (N.head b) × (rank (N.head b) < rank v)
      carry_on = on_way led.way

      pub carry_back : N.tail b ≢ v → Put x b (x b - d) x' → Carried N t y rank room d x' (N.tail b) × (rank (N.tail b) < rank v)
      carry_back = back_way led.way

  pub carry_ends : (x : ℕ → ℕ) → Flows N t y → Carried N t y rank room d x 129 → Flows N t x
  carry_ends x f s = record {
    fit = s.fit;
    root = f.root;
    balanced = record {
      balance = λ v h.
          omega (arith, f.balanced.balance v h, s.flow v, share_ne {p = 128} {i = v} d (omega arith), share_ne {p = 129} {i = v} d (omega arith));
    };
  }

-- ---- less is left to do
module _ (N : Network) (due : ℕ) (w : World N due) (t x : ℕ → ℕ) (count : ℕ) where
  pub left_labelled : (c : ℕ) → count < c → c ≤ 130 → left N t x c < left N t x count
  unfolding left
  left_labelled c l m = omega arith

  pub left_lowered : (t' : ℕ → ℕ) → t' 129 < t 129 → left N t' x count < left N t x count
  unfolding left
  left_lowered t' l = omega arith

  pub left_pushed : (rank room : ℕ → ℕ) (d : ℕ) (x' : ℕ → ℕ) → 0 < d → Flows N t x → Flows N t x' → due < t 129 → Carried N t x rank room d x' 129 → left N t x' 1 < left N t x count
  unfolding left
  left_pushed rank room d x' some f f' late s =
      omega (
        arith,
        s.flow 129,
        share_ne {p = 128} {i = 129} d (omega arith),
        share_eq {p = 129} {i = 129} d refl,
        w.bound t x f late,
        w.bound t x' f' late,
      )

-- ---- loads that agree on the arcs
module _ (N : Network) (due : ℕ) (x x' : ℕ → ℕ) (same : (a : ℕ) → a < N.arcs → x' a ≡ x a) where
  pub first_agrees : (t : ℕ → ℕ) → First N due x t → First N due x' t
  first_agrees t f = record {
    fit = λ a h. fit_same N t x a (f.fit a h) x' (same a h);
    root = f.root;
    end = f.end;
    least = λ u g l v h. f.least u (λ a i. fit_same N u x' a (g a i) x (sym (same a i))) l v h;
  }

module _ (N : Network) (x x' : ℕ → ℕ) (same : (a : ℕ) → a < N.arcs → x' a ≡ x a) where
  into_agrees : (end : ℕ → ℕ) (v : ℕ) → into N.arcs end x' v ≡ into N.arcs end x v
  unfolding into
  into_agrees end v = sum_ext N.arcs (λ a h. ap (share (end a) v) (same a h))

  pub sheet_agrees : Sheet N.arcs N.tail N.head x → Sheet N.arcs N.tail N.head x'
  sheet_agrees s = record {
    small = λ a h. omega (arith, same a h, s.small a h);
    balanced = record { balance = λ v h. into_agrees N.head v ∙ s.balanced.balance v h ∙ sym (into_agrees N.tail v) };
  }

-- ---- one verdict on loads
module _ (N : Network) (due : ℕ) (x : ℕ → ℕ) where
  -- the first times are one
  pub first_once : (t t' : ℕ → ℕ) → First N due x t → First N due x t' → (v : ℕ) → v < 130 → t v ≡ t' v
  first_once t t' f g v h =
      omega (arith, f.least t' g.fit (omega (arith, g.end)) v h, g.least t f.fit (omega (arith, f.end)) v h)

  -- where times fit the loads and end at the deadline, the verdict is not no
  pub flows_not_never : World N due → (t : ℕ → ℕ) → Flows N t x → t 129 ≡ due → Never N due x → ⊥
  flows_not_never w t f e n = n.none t f.fit f.root e (λ a h. omega (arith, e, w.inside t x f a h))

  pub first_not_never : World N due → Sheet N.arcs N.tail N.head x → (t : ℕ → ℕ) → First N due x t → Never N due x → ⊥
  first_not_never w s t f = flows_not_never w t (record { fit = f.fit; root = f.root; balanced = s.balanced }) f.end
