-- The main loop in the sheets: what each way out of a turn gives, and the turns one after another.
-- Assumes nothing.
use mathlib.Core.Path.{◌≡◌, ap, ◌∙◌}
use mathlib.Core.List.{List}
use Prim.Native.Nat.{ℕ, ◌+◌, ◌-◌, ◌≤◌, ◌<◌}
use native.Mathlib.Omega.{arith}
use mir.Syntax.{w64}
use mir.Val.{Fits}
use Rattle.theory.specs.Sum.{cells}
use Rattle.nets.specs.declared.Net.{Net}
use Rattle.nets.specs.declared.Work.{Work}
use Rattle.nets.specs.Flow.{Flows}
use Rattle.nets.specs.Crash.{Wide, Good}
use Rattle.nets.specs.Sheet.{net_in, gain_in, WideIn, GoodIn, ReadyIn, arc_within}
use Rattle.nets.specs.Judge.{Open}
use Rattle.nets.specs.Label.{Labels, arc_of}
use Rattle.mainloop.specs.Labelling.{LabelsIn, MarkedIn, FreshIn}
use Rattle.mainloop.specs.Judging.{FoundIn, ScanningIn, ScannedIn}
use Rattle.mainloop.specs.Lowering.{Shifted}
use Rattle.mainloop.specs.Pushing.{PushableIn, PushedIn}
use Rattle.mainloop.specs.Crashing.{left_in, StateIn, TurnedIn, RunningIn, CrashedIn}
use Rattle.mainloop.specs.declared.judging.Label.{Label}
use Rattle.mainloop.specs.declared.judging.Sight.{Sight}
use Rattle.mainloop.specs.declared.judging.Sight.TheVariants.{Label as Labelled, Slack}
use Rattle.mainloop.proofs.Places.{nodes, ready_stays}
use Rattle.mainloop.proofs.labelling.Labelling.{mark_node, mark_arc, mark_count, mark_labels, mark_apart, mark_source}
use Rattle.nets.proofs.Steps.{fresh_labels, low_sinks, low_flows, low_labels, low_sink, carry_ends, left_labelled, left_lowered, left_pushed}

-- labels from the sink alone
fresh_state : (net : Net) (w w' : Work) → Good (net_in net) w.time w.load → FreshIn w w' → StateIn net w' 1
unfolding GoodIn LabelsIn
fresh_state net w w' g f = record {
  good = rw (f.only.time, f.only.load) g;
  labels = fresh_labels (net_in net) _ _ _ _ _ f.fresh;
  source = f.fresh.others 128 (omega arith) (λ e. omega arith);
}

-- ---- a turn
module _ (net : Net) (w : Work) (due count : ℕ) (wide : WideIn net due) (s : StateIn net w count) where
  wider : Wide net.arcs net.tail net.head net.base net.length net.saving due
  unfolding WideIn
  wider = wide

  good : Good (net_in net) w.time w.load
  unfolding GoodIn
  good = s.good

  pub turn_ready : ReadyIn net w
  turn_ready = record { few = wider.sound.few; sound = wider.sound; curved = wider.curved; good = good }

  module _ (most : ℕ) (late : due < cells w.time 129) where
    labels : Labels (net_in net) (cells w.time) (cells w.load) (cells w.rank) (cells w.via) (cells w.room) count
    unfolding LabelsIn
    labels = s.labels

    -- ---- the labelled nodes go down
    module _ (d : ℕ) (k : ScanningIn net w most net.arcs d) (is : most ≡ cells w.time 129 - due) (t : List ℕ) (m : Shifted w.room d 130 w.time t) where
      opens : (a : ℕ) → a < net.arcs → Open (gain_in net a) (arc_of (net_in net) (cells w.time) (cells w.load) (cells w.room) a) d
      unfolding arc_within
      opens = k.opens

      within : d ≤ cells w.time 129
      within = omega (arith, k.within)

      sink : cells t 129 + d ≡ cells w.time 129
      sink = low_sink (net_in net) due wider.world _ _ _ _ _ count (nodes net w turn_ready) good.flows labels s.source d within opens _ m.moved

      lowered : TurnedIn net due w count (record w { time = t }) count
      unfolding GoodIn LabelsIn left_in
      lowered = record {
        state = record {
          good = record {
            flows = low_flows (net_in net) due wider.world _ _ _ _ _ count (nodes net w turn_ready) good.flows labels s.source d within opens _ m.moved;
            early = λ v h.
                omega (
                  arith,
                  good.early v h,
                  low_sinks (net_in net) due wider.world _ _ _ _ _ count (nodes net w turn_ready) good.flows labels s.source d within opens _ m.moved v h,
                );
            small = good.small;
          };
          labels = low_labels (net_in net) due wider.world _ _ _ _ _ count (nodes net w turn_ready) good.flows labels s.source d within opens _ m.moved;
          source = s.source;
        };
        due_le = omega (arith, sink, k.within);
        less = left_lowered (net_in net) due wider.world _ _ count _ (omega (arith, sink, k.some));
      }

    pub turn_lowered : (c : Sight) → ScannedIn net w most c → (d : ℕ) → c ≡ Slack d → most ≡ cells w.time 129 - due → (t : List ℕ) → Shifted w.room d 130 w.time t →
        TurnedIn net due w count (record w { time = t }) count
    turn_lowered c k d e is t m = lowered d (rw e at k) is t m

    -- ---- a node is labelled
    module _ (l : Label) (k : FoundIn net w l) where
      next : Fits w64 (count + 1)
      next = omega (arith, mark_count net w count turn_ready s.labels l k)

      module _ (w₁ : Work) (m : MarkedIn w l count w₁) where
        grown : LabelsIn net w₁ (count + 1)
        grown = mark_labels net w count turn_ready s.labels l k w₁ m

        ready : ReadyIn net w₁
        ready = ready_stays w w₁ m.only net turn_ready

        late₁ : due < cells w₁.time 129
        late₁ = rw m.only.time late

        labelled : (l.node ≡ 128 → ⊥) → TurnedIn net due w count w₁ (count + 1)
        unfolding GoodIn left_in
        labelled n = record {
          state = record { good = ready.good; labels = grown; source = mark_apart net w count turn_ready s.labels l k w₁ m n ∙ s.source };
          due_le = omega (arith, late₁);
          less =
              rw (m.only.time, m.only.load)
              (left_labelled (net_in net) due wider.world _ _ count (count + 1) (omega arith) (omega (arith, mark_count net w count turn_ready s.labels l k)));
        }

        -- ---- it is the source
        module _ (e : l.node ≡ 128) where
          some : 0 < cells w₁.room 128
          some = mark_source net w count turn_ready s.labels l k w₁ m e

          pushable : PushableIn net w₁
          pushable = record { ready = ready; count = count + 1; labels = grown; source = some }

          labels₁ : Labels (net_in net) (cells w₁.time) (cells w₁.load) (cells w₁.rank) (cells w₁.via) (cells w₁.room) (count + 1)
          unfolding LabelsIn
          labels₁ = grown

          module _ (w₂ : Work) (q : PushedIn net w₁ w₂) (w₃ : Work) (f : FreshIn w₂ w₃) where
            flows : Flows (net_in net) (cells w₁.time) (cells w₂.load)
            flows = carry_ends (net_in net) _ _ _ _ _ (count + 1) labels₁ (nodes net w₁ ready) (cells w₁.room 128) some _ ready.good.flows q.pushed.carried

            pushed : TurnedIn net due w count w₃ 1
            unfolding left_in
            pushed = record {
              state = fresh_state net w₂ w₃ (rw q.pushed.only.time (record { flows = flows; early = ready.good.early; small = wider.world.loads _ _ flows late₁ })) f;
              due_le = omega (arith, late₁, ap (λ (l : List ℕ). cells l 129) (f.only.time ∙ q.pushed.only.time));
              less =
                  rw (f.only.time, f.only.load, q.pushed.only.time, ← m.only.time, ← m.only.load)
                  (left_pushed (net_in net) due wider.world _ _ count _ _ (cells w₁.room 128) _ some ready.good.flows flows late₁ q.pushed.carried);
            }

    module _ (c : Sight) (j : ScannedIn net w most c) (l : Label) (is : c ≡ Labelled l) where
      found : FoundIn net w l
      found = rw is at j

      pub turn_node : l.node < 130
      turn_node = mark_node net w count turn_ready s.labels l found

      pub turn_arc : l.arc < 448
      turn_arc = mark_arc net w count turn_ready s.labels l found

      pub turn_count : count < 130
      turn_count = mark_count net w count turn_ready s.labels l found

      pub turn_next : Fits w64 (count + 1)
      turn_next = next l found

      module _ (w₁ : Work) (m : MarkedIn w l count w₁) where
        pub turn_labelled : (l.node ≡ 128 → ⊥) → TurnedIn net due w count w₁ (count + 1)
        turn_labelled n = labelled l found w₁ m n

        pub turn_pushable : l.node ≡ 128 → PushableIn net w₁
        turn_pushable e = pushable l found w₁ m e

        pub turn_pushed : l.node ≡ 128 → (w₂ : Work) → PushedIn net w₁ w₂ → (w₃ : Work) → FreshIn w₂ w₃ → TurnedIn net due w count w₃ 1
        turn_pushed e w₂ q w₃ f = pushed l found w₁ m e w₂ q w₃ f

-- ---- the turns
pub run_state : (net : Net) (w₀ w : Work) → GoodIn net w₀ → FreshIn w₀ w → StateIn net w 1
unfolding GoodIn
run_state net w₀ w g f = fresh_state net w₀ w g f

module _ (net : Net) (due : ℕ) (w₀ : Work) where
  pub run_more : (w : Work) (count : ℕ) (w' : Work) (count' : ℕ) → RunningIn net due w₀ w → due < cells w.time 129 → TurnedIn net due w count w' count' → RunningIn net due w₀ w'
  run_more w count w' count' r l u = record {
    above = λ h. u.due_le;
    same_times = λ h. absurd (late h);
    same_loads = λ h. absurd (late h);
  }
    where
      late : cells w₀.time 129 ≤ due → ⊥
      late h = omega (arith, ap (λ (xs : List ℕ). cells xs 129) (r.same_times h))

  pub run_ends : (w₁ w : Work) (count : ℕ) → FreshIn w₀ w₁ → RunningIn net due w₁ w → StateIn net w count → cells w.time 129 ≤ due → CrashedIn net due w₀ w
  unfolding GoodIn
  run_ends w₁ w count f r s l = record {
    crashed = rw (← f.only.time, ← f.only.load) (record {
      good = s.good;
      end = λ h. omega (arith, r.above h);
      same_times = r.same_times;
      same_loads = r.same_loads;
    });
  }

pub turned_state : (net : Net) (due : ℕ) (w : Work) (count : ℕ) (w' : Work) (count' : ℕ) → TurnedIn net due w count w' count' → StateIn net w' count'
turned_state net due w count w' count' t = t.state
