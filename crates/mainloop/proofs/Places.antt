-- An arc read out of the sheets, and what labelling leaves of them.
-- Assumes nothing.
use mathlib.Core.Path.{◌≡◌}
use Prim.Native.Nat.{ℕ, ◌<◌}
use native.Mathlib.Omega.{arith}
use lib.ListN.{length}
use Rattle.theory.specs.Sum.{cells}
use Rattle.nets.specs.declared.Net.{Net}
use Rattle.nets.specs.declared.Work.{Work}
use Rattle.nets.specs.declared.Arc.{Arc}
use Rattle.nets.specs.Sheet.{net_in, gain_in, BendsIn, ReadyIn, arc_within, Here}
use Rattle.nets.specs.Judge.{Calm}
use Rattle.mainloop.specs.Labelling.{Labelling}
use Rattle.nets.proofs.Steps.{Ends}
use Rattle.nets.proofs.Gains.{gain_falls}

pub nodes : (net : Net) (w : Work) → ReadyIn net w → Ends (net_in net)
nodes net w r = record { tail_in = r.sound.tail_in; head_in = r.sound.head_in }

module _ (net : Net) (w : Work) (r : ReadyIn net w) (a : ℕ) (h : a < net.arcs) where
  pub bends : BendsIn net a
  bends = r.curved.bends a h

  pub here : Here net w a
  here = record {
    arc_in = omega (arith, r.few);
    tail_in = r.sound.tail_in a h;
    head_in = r.sound.head_in a h;
    long = (r.good.flows.fit a h).base;
    early = r.good.early (cells net.head a) (r.sound.head_in a h);
  }

  pub calm : length net.length ≡ 256 → (k : Arc) → k ≡ arc_within net w a → Calm (gain_in net a) k
  unfolding arc_within
  calm room k is =
      rw is (record {
        suits = (r.good.flows.fit a h).suits;
        few = omega (arith, r.good.early (cells net.head a) (r.sound.head_in a h));
        falls = gain_falls net.length net.saving a (cells net.base a) room bends;
      })

-- ---- what labelling leaves
module _ (w w' : Work) (o : Labelling w w') where
  pub ready_stays : (net : Net) → ReadyIn net w → ReadyIn net w'
  ready_stays net r = record { few = r.few; sound = r.sound; curved = r.curved; good = rw (o.time, o.load) r.good }
