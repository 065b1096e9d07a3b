-- The ways of turning a net round in its sheet, and what its verdict comes to: the last times are the latest of the cheapest.
-- Assumes nothing.
use mathlib.Core.Path.{◌≡◌, refl, ap}
use mathlib.Core.Bool.{Bool, true, false}
use mathlib.Core.List.{List}
use Prim.Native.Nat.{ℕ, ◌<◌}
use native.Mathlib.Omega.{arith}
use Rattle.theory.specs.Sum.{cells}
use Rattle.theory.specs.Graph.{Graph, Times, Lawful, Feasible, Slack}
use Rattle.theory.specs.Latest.{Latest}
use Rattle.nets.specs.declared.Net.{Net}
use Rattle.nets.specs.declared.Work.{Work}
use Rattle.nets.specs.Flow.{Sheet}
use Rattle.nets.specs.Wired.{Wired, times_of, flow_of}
use Rattle.nets.specs.Sheet.{net_in, SoundIn}
use Rattle.nets.proofs.Bridge.{balanced_conserves}
use Rattle.deciding.specs.Raising.{FairIn}
use Rattle.deciding.specs.Balancing.{SheetIn}
use Rattle.deciding.specs.Finding.{AnsweredIn}
use Rattle.lasting.specs.Turned.{countdown, TurnedNet, TurnedIn, LastIn}
use Rattle.lasting.proofs.Last.{opposite_in, turned_sheet, turned_some, last_latest}

-- ---- the net turned round
module _ (net t : Net) (w : TurnedIn net t) where
  turned_net : SoundIn net → TurnedNet (net_in net) (net_in t)
  turned_net s = record {
    arcs = w.arcs;
    tail = λ a h. w.tail.side a (omega (arith, s.few));
    head = λ a h. w.head.side a (omega (arith, s.few));
    base = λ a h. ap (λ (l : List ℕ). cells l a) w.base;
    gain = λ a h j. rw (w.length, w.saving);
  }

  pub turned_fair : (due : ℕ) → FairIn net due → FairIn t due
  turned_fair due f =
      let inside : (a : ℕ) → a < t.arcs → a < net.arcs = λ a h. omega (arith, w.arcs) in
      record {
        sound = record {
          few = omega (arith, w.arcs, f.sound.few);
          tail_in = λ a h. omega (arith, w.tail.side a (omega (arith, inside a h, f.sound.few)), opposite_in (cells net.head a) (f.sound.head_in a (inside a h)));
          head_in = λ a h. omega (arith, w.head.side a (omega (arith, inside a h, f.sound.few)), opposite_in (cells net.tail a) (f.sound.tail_in a (inside a h)));
        };
        curved = rw (w.arcs, w.base, w.length, w.saving) f.curved;
        due_most = f.due_most;
      }

-- ---- `last_times`
pub last_answers : (net t : Net) (due : ℕ) → TurnedIn net t → (w w' : Work) (r : Bool) → AnsweredIn t due w w' r → LastIn net due w w' r
last_answers net t due k w w' r a = record { sheet = t; turned = k; answered = a }

-- With loads that balance, and that some times which keep the deadline are slack with, the verdict is yes, and the times counted down are the latest of
-- the cheapest.
module _ (G : Graph) (o : Lawful G) (net : Net) (wired : Wired G (net_in net)) (due : ℕ) (f : FairIn net due) (w w' : Work)
    (s : Sheet net.arcs (cells net.tail) (cells net.head) (cells w.load)) (τ₀ : Times) (f₀ : Feasible G due τ₀)
    (k₀ : Slack G due τ₀ (flow_of G (cells w.load)))
  where
    module _ (t : Net) (k : TurnedIn net t) where
      abbrev turned : TurnedNet (net_in net) (net_in t)
      turned = turned_net net t k f.sound

      sheet_turned : SheetIn t w.load
      unfolding SheetIn
      sheet_turned = turned_sheet (net_in net) (net_in t) turned f.sound.head_in f.sound.tail_in due (cells w.load) s

      yes_is : (r : Bool) → AnsweredIn t due w w' r → r ≡ true
      yes_is true a = refl
      yes_is false a =
          absurd
          (turned_some G o (net_in net) wired (net_in t) turned f.sound.head_in f.sound.tail_in due (cells w.load) τ₀ f₀ k₀
          (a.no refl sheet_turned))

      latest_by : (r : Bool) → AnsweredIn t due w w' r → Latest G due (times_of G (countdown due (cells w'.time)))
      latest_by r a =
          let first = (a.yes (yes_is r a)).first in
          last_latest G o (net_in net) wired (net_in t) turned f.sound.head_in f.sound.tail_in due (cells w.load) (cells w'.time)
          (rw a.loads at first) τ₀ f₀ k₀ (balanced_conserves G o (net_in net) wired (cells w.load) s.balanced)

    pub last_is_latest : (r : Bool) → LastIn net due w w' r → Latest G due (times_of G (countdown due (cells w'.time)))
    last_is_latest r l = latest_by l.sheet l.turned r l.answered
