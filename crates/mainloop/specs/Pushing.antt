-- Pushing load along the way from the source to the sink. A push writes loads and nothing else.
-- Assumes nothing.
use Rattle.std.specs.Prelude.{◌≡◌, ℕ, ◌+◌, ◌-◌, ◌≤◌, ◌<◌}
use Rattle.theory.specs.Sum.{cells}
use Rattle.nets.specs.declared.Net.{Net}
use Rattle.nets.specs.declared.Work.{Work}
use Rattle.nets.specs.Steps.{Put, Carried}
use Rattle.nets.specs.Sheet.{net_in, Here, ReadyIn}
use Rattle.mainloop.specs.Labelling.{LabelsIn}

-- from w to w' only loads have changed
pub record Loading (w w' : Work) : Type 0 where
  pub time : w'.time ≡ w.time
  pub rank : w'.rank ≡ w.rank
  pub via : w'.via ≡ w.via
  pub room : w'.room ≡ w.room

module _ (net : Net) (w : Work) where
  -- d can be carried over the arc that node v's label came along
  pub record CarriableIn (v d : ℕ) : Type 0 where
    pub node : v < 130
    pub here : Here net w (cells w.via v)
    pub fits : cells w.load (cells w.via v) + d ≤ 4000000
    pub covers : (cells net.tail (cells w.via v) ≡ v → ⊥) → d ≤ cells w.load (cells w.via v)

  -- d more where the arc begins at v, and d less where it ends there
  pub record CarriesIn (v d : ℕ) (w' : Work) (r : ℕ) : Type 0 where
    pub on : cells net.tail (cells w.via v) ≡ v → r ≡ cells net.head (cells w.via v)
    pub on_load : cells net.tail (cells w.via v) ≡ v → Put (cells w.load) (cells w.via v) (cells w.load (cells w.via v) + d) (cells w'.load)
    pub back : (cells net.tail (cells w.via v) ≡ v → ⊥) → r ≡ cells net.tail (cells w.via v)
    pub back_load : (cells net.tail (cells w.via v) ≡ v → ⊥) → Put (cells w.load) (cells w.via v) (cells w.load (cells w.via v) - d) (cells w'.load)
    pub only : Loading w w'

  -- the source has a label
  pub record PushableIn : Type 0 where
    pub ready : ReadyIn net w
    pub count : ℕ
    pub labels : LabelsIn net w count
    pub source : 0 < cells w.room 128

  -- d has come from the source as far as node v
  pub record CarriedIn (d : ℕ) (w' : Work) (v : ℕ) : Type 0 where
    pub carried : Carried (net_in net) (cells w.time) (cells w.load) (cells w.rank) (cells w.room) d (cells w'.load) v
    pub only : Loading w w'

  pub record PushedIn (w' : Work) : Type 0 where
    pub pushed : CarriedIn (cells w.room 128) w' 129
