-- The two sheets, net and work, as the network, times and loads that they hold, and one arc as both say it.
-- Assumes nothing.
use Rattle.std.specs.Prelude.{replicate, ℕ, ◌+◌, ◌≤◌, ◌<◌}
use Rattle.theory.specs.Sum.{cells}
use Rattle.nets.specs.declared.Net.{Net}
use Rattle.nets.specs.declared.Work.{Work}
use Rattle.nets.specs.declared.Arc.{Arc}
use Rattle.nets.specs.Network.{Network, net_of, gain_of, Sound, Bends, Curved}
use Rattle.nets.specs.Crash.{Wide, Good}
use Rattle.nets.specs.Label.{arc_of}

-- ---- with nothing on them
abbrev pub no_net : Net
no_net = record {
  tail = replicate 448 0;
  head = replicate 448 0;
  base = replicate 448 0;
  length = replicate 256 0;
  saving = replicate 256 0;
  late = replicate 130 0;
  arcs = 0;
  parts = 0;
  due = 0;
}

abbrev pub no_work : Work
no_work = record { time = replicate 130 0; load = replicate 448 0; rank = replicate 130 0; via = replicate 130 0; room = replicate 130 0 }

-- ---- the net
-- the network that the sheet holds
abbrev pub net_in : Net → Network
net_in net = net_of net.arcs net.tail net.head net.base net.length net.saving

abbrev pub gain_in : Net → ℕ → ℕ → ℕ
gain_in net = gain_of net.length net.saving

abbrev pub BendsIn : Net → ℕ → Type 0
BendsIn net a = Bends (cells net.base a) net.length net.saving a

-- the arcs lie within the sheet, and their ends are nodes
abbrev pub SoundIn : Net → Type 0
SoundIn net = Sound net.arcs net.tail net.head

abbrev pub CurvedIn : Net → Type 0
CurvedIn net = Curved net.arcs net.base net.length net.saving

unfoldable pub WideIn : Net → ℕ → Type 0
WideIn net due = Wide net.arcs net.tail net.head net.base net.length net.saving due

-- ---- both
unfoldable pub GoodIn : Net → Work → Type 0
GoodIn net w = Good (net_in net) w.time w.load

-- a network that labels can grow on
pub record ReadyIn (net : Net) (w : Work) : Type 0 where
  pub few : net.arcs ≤ 448
  pub sound : SoundIn net
  pub curved : CurvedIn net
  pub good : Good (net_in net) w.time w.load

unfoldable pub arc_within : Net → Work → ℕ → Arc
arc_within net w a = arc_of (net_in net) (cells w.time) (cells w.load) (cells w.room) a

-- arc a and its ends lie within the sheets, and it is no shorter than its base
pub record Here (net : Net) (w : Work) (a : ℕ) : Type 0 where
  pub arc_in : a < 448
  pub tail_in : cells net.tail a < 130
  pub head_in : cells net.head a < 130
  pub long : cells w.time (cells net.tail a) + cells net.base a ≤ cells w.time (cells net.head a)
  pub early : cells w.time (cells net.head a) ≤ 262144
