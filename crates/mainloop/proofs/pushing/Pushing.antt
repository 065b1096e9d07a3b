-- Pushes in the sheets: one arc of the way, and the whole of it. The way is never named: ranks fall along it, so no arc of it is met twice.
-- Assumes nothing.
use mathlib.Core.Path.{◌≡◌, ◌∙◌}
use Prim.Native.Nat.{ℕ, ◌<◌}
use native.Mathlib.Omega.{arith}
use native.Mathlib.Decide.{ℕ_discrete}
use Rattle.theory.specs.Sum.{cells}
use Rattle.nets.specs.declared.Net.{Net}
use Rattle.nets.specs.declared.Work.{Work}
use Rattle.nets.specs.Sheet.{net_in}
use Rattle.nets.specs.Label.{Labels}
use Rattle.mainloop.specs.Labelling.{LabelsIn}
use Rattle.mainloop.specs.Pushing.{Loading, CarriableIn, CarriesIn, PushableIn, CarriedIn}
use Rattle.mainloop.proofs.Places.{nodes, here}
use Rattle.nets.proofs.Steps.{carry_arc, carry_load, carry_covers, carry_on, carry_back}

-- ---- the loop of `push`
module _ (net : Net) (w : Work) (p : PushableIn net w) where
  labels : Labels (net_in net) (cells w.time) (cells w.load) (cells w.rank) (cells w.via) (cells w.room) p.count
  unfolding LabelsIn
  labels = p.labels

  module _ (d : ℕ) (is : d ≡ cells w.room 128) where
    some : 0 < d
    some = omega (arith, p.source)

    module _ (w' : Work) (v : ℕ) (s : CarriedIn net w d w' v) where
      module _ (n : v ≡ 129 → ⊥) where
        b : ℕ
        b = cells w.via v

        b_at : cells w'.via v ≡ b
        unfolding b
        b_at = rw s.only.via

        arc : b < net.arcs
        unfolding b
        arc = carry_arc (net_in net) _ _ _ _ _ p.count labels (nodes net w p.ready) d some _ v s.carried n

        pub push_carriable : CarriableIn net w' v d
        unfolding b
        push_carriable =
            let h = here net w p.ready b arc in
            record {
              node = s.carried.node;
              here = rw (b_at, s.only.time) (record { arc_in = h.arc_in; tail_in = h.tail_in; head_in = h.head_in; long = h.long; early = h.early });
              fits = rw b_at
                  (omega (
                    arith,
                    carry_load (net_in net) _ _ _ _ _ p.count labels (nodes net w p.ready) d some _ v s.carried n,
                    p.ready.good.small b arc,
                    labels.most 128 (omega arith),
                  ));
              covers = rw b_at (λ e. carry_covers (net_in net) _ _ _ _ _ p.count labels (nodes net w p.ready) d some _ v s.carried n e);
            }

        module _ (w'' : Work) (r : ℕ) (k : CarriesIn net w' v d w'' r) where
          only : Loading w w''
          only = record {
            time = k.only.time ∙ s.only.time;
            rank = k.only.rank ∙ s.only.rank;
            via = k.only.via ∙ s.only.via;
            room = k.only.room ∙ s.only.room;
          }

          next : CarriedIn net w d w'' r × (cells w.rank r < cells w.rank v)
          unfolding b
          next =
              elim (ℕ_discrete (cells net.tail b) v) [
                | yes z ↦
                    let i : cells net.tail (cells w'.via v) ≡ v = rw b_at z in
                    let c = carry_on (net_in net) _ _ _ _ _ p.count labels (nodes net w p.ready) d some _ v s.carried n _ z (rw b_at at (k.on_load i)) in
                    rw (rw b_at at (k.on i)) (record { carried = c.0; only = only }, c.1)
                | no z ↦
                    let i : (cells net.tail (cells w'.via v) ≡ v → ⊥) = rw b_at z in
                    let c = carry_back (net_in net) _ _ _ _ _ p.count labels (nodes net w p.ready) d some _ v s.carried n _ z (rw b_at at (k.back_load i)) in
                    rw (rw b_at at (k.back i)) (record { carried = c.0; only = only }, c.1)
              ]

          pub push_more : CarriedIn net w d w'' r
          push_more = next.0

          pub push_less : cells w.rank r < cells w.rank v
          push_less = next.1
