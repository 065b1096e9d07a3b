-- Judging one arc by the run that one tick lies in: with l ticks past its base its load may rise up to what tick l - 1 saves, and fall to what tick l
-- saves. Where that is nothing, it may be shorter or longer up to that run's begin or end, a tick at least.
-- Assumes nothing.
use Rattle.std.specs.Prelude.{◌≡◌, ℕ, ◌≤◌, ◌<◌}
use Rattle.nets.specs.declared.Net.{Net}
use Rattle.nets.specs.declared.Work.{Work}
use Rattle.nets.specs.declared.Arc.{Arc}
use Rattle.nets.specs.Judge.{Leads, Open}
use Rattle.nets.specs.Sheet.{gain_in, arc_within}
use Rattle.mainloop.specs.declared.judging.Run.{Run}
use Rattle.mainloop.specs.declared.judging.Label.{Label}
use Rattle.mainloop.specs.declared.judging.Sight.{Sight}
use Rattle.mainloop.specs.declared.judging.Sight.TheVariants.{Label as Labelled, Slack}

-- tick j lies in run r
pub record RunAt (g : ℕ → ℕ) (j : ℕ) (r : Run) : Type 0 where
  pub begins : r.begin ≤ j
  pub ends : j < r.end
  pub saves : (i : ℕ) → r.begin ≤ i → i < r.end → g i ≡ r.saving

-- arc a, which is k and has gain g: a label passes, or the labelled nodes may go down
pub data Judged (g : ℕ → ℕ) (k : Arc) (a : ℕ) : Sight → Type 0 where
  found : {l : Label} → l.arc ≡ a → 0 < l.room → Leads g k l.node l.room → Judged g k a (Labelled l)
  shut : {s : ℕ} → 0 < s → Open g k s → Judged g k a (Slack s)

-- arc a lets the labelled nodes go down by d
abbrev pub OpenIn : Net → Work → ℕ → ℕ → Type 0
OpenIn net w a d = Open (gain_in net a) (arc_within net w a) d

-- a label passes along the arc that was found
pub record FoundIn (net : Net) (w : Work) (l : Label) : Type 0 where
  pub arc : l.arc < net.arcs
  pub some : 0 < l.room
  pub leads : Leads (gain_in net l.arc) (arc_within net w l.arc) l.node l.room

-- the first n arcs let the labelled nodes go down by d
pub record ScanningIn (net : Net) (w : Work) (most n d : ℕ) : Type 0 where
  pub within : d ≤ most
  pub some : 0 < d
  pub opens : (a : ℕ) → a < n → OpenIn net w a d

-- a label that passes, or where none does, how far all arcs let the labelled nodes go down
abbrev pub ScannedIn : Net → Work → ℕ → Sight → Type 0
ScannedIn net w most (Labelled l) = FoundIn net w l
ScannedIn net w most (Slack d) = ScanningIn net w most net.arcs d
