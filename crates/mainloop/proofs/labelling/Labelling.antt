-- Labels in the sheets: one more, and only the sink.
-- Assumes nothing.
use mathlib.Core.Path.{◌≡◌, sym, ap}
use Prim.Native.Nat.{ℕ, ◌+◌, ◌<◌}
use native.Mathlib.Omega.{arith}
use Rattle.theory.specs.Sum.{cells}
use Rattle.nets.specs.declared.Net.{Net}
use Rattle.nets.specs.declared.Work.{Work}
use Rattle.nets.specs.Sheet.{net_in, gain_in, ReadyIn, arc_within}
use Rattle.nets.specs.Judge.{Leads, Leads.on, Leads.back}
use Rattle.nets.specs.Label.{arc_of}
use Rattle.mainloop.specs.Labelling.{LabelsIn, MarkedIn}
use Rattle.mainloop.specs.Judging.{FoundIn}
use Rattle.mainloop.specs.declared.judging.Label.{Label}
use Rattle.mainloop.proofs.Places.{nodes}
use Rattle.nets.proofs.Steps.{labelled, count_less}

module _ (net : Net) (w : Work) (count : ℕ) (r : ReadyIn net w) (g : LabelsIn net w count) (l : Label) (c : FoundIn net w l) where
  abbrev a : ℕ
  a = l.arc

  abbrev v : ℕ
  v = l.node

  lead : Leads (gain_in net a) (arc_of (net_in net) (cells w.time) (cells w.load) (cells w.room) a) v l.room
  unfolding arc_within
  lead = c.leads

  node : Leads (gain_in net a) (arc_of (net_in net) (cells w.time) (cells w.load) (cells w.room) a) v l.room → v < 130
  node (on e z m f) = rw e (r.sound.tail_in a c.arc)
  node (back e z m f) = rw e (r.sound.head_in a c.arc)

  pub mark_node : l.node < 130
  mark_node = node lead

  pub mark_arc : l.arc < 448
  mark_arc = omega (arith, c.arc, r.few)

  pub mark_count : count < 130
  unfolding LabelsIn
  mark_count = count_less (net_in net) _ _ _ _ _ count g a v l.room lead c.some c.arc mark_node (nodes net w r)

  module _ (w' : Work) (m : MarkedIn w l count w') where
    pub mark_labels : LabelsIn net w' (count + 1)
    unfolding LabelsIn
    mark_labels =
        rw (m.only.time, m.only.load)
        (labelled (net_in net) _ _ _ _ _ count g a v l.room lead c.some c.arc mark_node (nodes net w r) _ m.room _ _ m.rank m.via)

    -- the source
    pub mark_apart : (v ≡ 128 → ⊥) → cells w'.room 128 ≡ cells w.room 128
    mark_apart d = m.room.there 128 (λ e. d (sym e))

    pub mark_source : v ≡ 128 → 0 < cells w'.room 128
    mark_source e = omega (arith, c.some, ap (cells w'.room) e, m.room.here)
