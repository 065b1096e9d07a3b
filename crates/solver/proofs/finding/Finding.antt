-- The ways of the room of loads.
-- Assumes nothing.
use Rattle.std.proofs.Common.{◌≡◌, ℕ, ◌≤◌, Bool, true, List, set, refl, arith}
use Rattle.curve.specs.declared.Ticks.{Ticks}
use Rattle.board.specs.declared.Board.{Board}
use Rattle.board.specs.Board.{WellFormed, view, usable}
use Rattle.board.proofs.UsableLaws.{usable_to}
use Rattle.times.specs.declared.Schedule.{Schedule}
use Rattle.times.specs.Times.{slowests_of, TimesOf, Loopless}
use Rattle.nets.specs.declared.Net.{Net}
use Rattle.nets.specs.declared.Work.{Work}
use Rattle.nets.specs.Flow.{World}
use Rattle.nets.specs.Sheet.{net_in, WideIn}
use Rattle.deciding.specs.Raising.{FairIn}
use Rattle.deciding.specs.Finding.{PreparedIn, ProvesIn, AnsweredIn}
use Rattle.solver.specs.Solve.{Solvable}
use Rattle.solver.specs.Finding.{Placed, Topped, Begun, Slowest, Prepared, Found}
use Rattle.solver.proofs.wiring.Wiring.{network_stays}
use Rattle.solver.proofs.wiring.Worlds.{board_world}
use Rattle.solver.proofs.finding.Placing.{begun_done}
use Rattle.solver.proofs.finding.Slowest.{slowest_fit, node_most}

-- ---- times to begin at
pub schedule_slowest : (b : Board) → Solvable b → (d : List Ticks) → (WellFormed b → d ≡ slowests_of b) → (s : Schedule) → (Loopless b → TimesOf (view b) d s) →
    TimesOf (view b) (slowests_of b) s
schedule_slowest b can d said s timed =
    let is : d ≡ slowests_of b = said can.formed in
    rw is at (timed (record { formed = can.formed; ranked = can.ranked }))

pub slowest_begun : (b : Board) (due : ℕ) (s : Schedule) → TimesOf (view b) (slowests_of b) s → (t : List ℕ) (most : ℕ) → Placed s.start s.end 64 t →
    Topped s.end due 64 most → Slowest b due (set t 129 most)
slowest_begun b due s timed t most is top = record { schedule = s; timed = timed; begun = begun_done s.start s.end due t most is top }

-- ---- what the sheet holds, whatever times are laid on it
module _ (b : Board) (due : ℕ) (net : Net) (ok : Prepared b net due) where
  due_few : due ≤ 4095
  due_few = omega (arith, ok.due_is, usable_to b ok.can.formed)

  fair : FairIn net due
  fair = record { sound = ok.network.sound; curved = ok.network.curved; due_most = due_few }

  world : World (net_in net) due
  world = rw ok.due_is (board_world b ok.can.formed (net_in net) ok.network.wired ok.can.fastest ok.can.in_time)

  wide : WideIn net due
  unfolding WideIn
  wide = record { sound = ok.network.sound; curved = ok.network.curved; world = world }

module _ (b : Board) (due : ℕ) (net : Net) (ok : Prepared b net due) (t : List ℕ) where
  abbrev net' : Net
  net' = record net { late = t }

  laid : Prepared b net' due
  laid = record { can = ok.can; network = network_stays b net t ok.network; due_is = ok.due_is }

  pub laid_fair : FairIn net' due
  laid_fair = fair b due net' laid

  pub found_taken : (w w' : Work) (r : Bool) → AnsweredIn net' due w w' r → r ≡ true → Found b due net' w'
  found_taken w w' r a e = record { prepared = laid; proves = a.yes e }

  pub found_late : (w' : Work) → ProvesIn net' due w' → Found b due net' w'
  found_late w' p = record { prepared = laid; proves = p }

  module _ (slow : Slowest b due t) where
    begun : Begun slow.schedule.start slow.schedule.end (usable b) t
    begun = rw ok.due_is at slow.begun

    -- the times as they stand on the sheet fit where nothing is loaded
    pub late_prepared : PreparedIn net' due
    late_prepared = record {
      fair = laid_fair;
      wide = wide b due net' laid;
      fit = slowest_fit b ok.can (net_in net') ok.network.wired (slowests_of b) refl slow.schedule slow.timed t begun (λ c. 0) (λ c. refl);
      root = slow.begun.placed.source;
      early = node_most b ok.can (net_in net') ok.network.wired (slowests_of b) refl slow.schedule slow.timed t begun;
      late = slow.begun.topped.due_late;
    }
