-- The main loop: from times and loads that fit, and end too late, down to the deadline. `StateIn` is what every turn keeps; each turn leaves less to do
-- (`left` of the crate `nets`), since above the deadline no more than 64,000 can come to the sink.
-- Assumes nothing.
use Rattle.std.specs.Prelude.{◌≡◌, ℕ, ◌≤◌, ◌<◌}
use Rattle.theory.specs.Sum.{cells}
use Rattle.nets.specs.declared.Net.{Net}
use Rattle.nets.specs.declared.Work.{Work}
use Rattle.nets.specs.Steps.{left}
use Rattle.nets.specs.Crash.{Crashed}
use Rattle.nets.specs.Sheet.{net_in, GoodIn}
use Rattle.mainloop.specs.Labelling.{LabelsIn}

module _ (net : Net) where
  unfoldable pub left_in : Work → ℕ → ℕ
  left_in w count = left (net_in net) (cells w.time) (cells w.load) count

  -- what every turn keeps
  pub record StateIn (w : Work) (count : ℕ) : Type 0 where
    pub good : GoodIn net w
    pub labels : LabelsIn net w count
    pub source : cells w.room 128 ≡ 0

  pub record TurnedIn (due : ℕ) (w : Work) (count : ℕ) (w' : Work) (count' : ℕ) : Type 0 where
    pub state : StateIn w' count'
    pub due_le : due ≤ cells w'.time 129
    pub less : left_in w' count' < left_in w count

  -- between the first times and loads and those of now
  pub record RunningIn (due : ℕ) (w₀ w : Work) : Type 0 where
    pub above : due ≤ cells w₀.time 129 → due ≤ cells w.time 129
    pub same_times : cells w₀.time 129 ≤ due → w.time ≡ w₀.time
    pub same_loads : cells w₀.time 129 ≤ due → w.load ≡ w₀.load

  pub record CrashedIn (due : ℕ) (w w' : Work) : Type 0 where
    pub crashed : Crashed (net_in net) due w.time w.load w'.time w'.load
