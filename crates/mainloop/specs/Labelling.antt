-- Labels in the sheets. Labelling writes ranks, ways and rooms, and nothing else.
-- Assumes nothing.
use Rattle.std.specs.Prelude.{◌≡◌, ℕ}
use Rattle.theory.specs.Sum.{cells}
use Rattle.nets.specs.declared.Net.{Net}
use Rattle.nets.specs.declared.Work.{Work}
use Rattle.nets.specs.Sheet.{net_in}
use Rattle.nets.specs.Steps.{Put}
use Rattle.nets.specs.Label.{Labels, Fresh}
use Rattle.mainloop.specs.declared.judging.Label.{Label}

unfoldable pub LabelsIn : Net → Work → ℕ → Type 0
LabelsIn net w count = Labels (net_in net) (cells w.time) (cells w.load) (cells w.rank) (cells w.via) (cells w.room) count

-- from w to w' only labels have changed
pub record Labelling (w w' : Work) : Type 0 where
  pub time : w'.time ≡ w.time
  pub load : w'.load ≡ w.load

-- the label's node is labelled
pub record MarkedIn (w : Work) (l : Label) (count : ℕ) (w' : Work) : Type 0 where
  pub rank : Put (cells w.rank) l.node count (cells w'.rank)
  pub via : Put (cells w.via) l.node l.arc (cells w'.via)
  pub room : Put (cells w.room) l.node l.room (cells w'.room)
  pub only : Labelling w w'

pub record FreshIn (w w' : Work) : Type 0 where
  pub fresh : Fresh (cells w'.rank) (cells w'.room)
  pub only : Labelling w w'
