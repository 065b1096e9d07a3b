-- Loads and times that prove each other: loads that anybody gave, where they are taken; or those of the main loop, from times that fit where nothing is
-- loaded. Its own times fit its loads, so the verdict on them is yes.
-- Assumes nothing.
use Rattle.std.specs.Prelude.{◌≡◌, Bool, true, false, ℕ, ◌≤◌, ◌<◌}
use Rattle.theory.specs.Sum.{cells}
use Rattle.nets.specs.declared.Net.{Net}
use Rattle.nets.specs.declared.Work.{Work}
use Rattle.nets.specs.Flow.{Fit, First, Never}
use Rattle.nets.specs.Sheet.{net_in, WideIn}
use Rattle.deciding.specs.Raising.{FairIn}
use Rattle.deciding.specs.Balancing.{SheetIn}

-- the loads are a sheet, and the times are the first that fit them: together they prove the times cheapest
pub record ProvesIn (net : Net) (due : ℕ) (w : Work) : Type 0 where
  pub sheet : SheetIn net w.load
  pub first : First (net_in net) due (cells w.load) (cells w.time)

-- from w to w' the loads stay. Yes, and they prove the times; or no, they are no sheet or have no times
pub record AnsweredIn (net : Net) (due : ℕ) (w w' : Work) (r : Bool) : Type 0 where
  pub loads : w'.load ≡ w.load
  pub yes : r ≡ true → ProvesIn net due w'
  pub no : r ≡ false → SheetIn net w.load → Never (net_in net) due (cells w.load)

-- a network with times that fit where nothing is loaded, and end no earlier than the deadline
pub record PreparedIn (net : Net) (due : ℕ) : Type 0 where
  pub fair : FairIn net due
  pub wide : WideIn net due
  pub fit : (a : ℕ) → a < net.arcs → Fit (net_in net) (cells net.late) (λ b. 0) a
  pub root : cells net.late 128 ≡ 0
  pub early : (v : ℕ) → v < 130 → cells net.late v ≤ 262144
  pub late : due ≤ cells net.late 129
