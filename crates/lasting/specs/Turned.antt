-- The network turned round, for the last times: each arc goes the other way, a part's start and its end change places, and so do source and sink.
-- The idea: its first times, counted down from the deadline, are the last times of the network (proofs/Last).
-- Assumes nothing.
use Rattle.std.specs.Prelude.{◌≡◌, Bool, List, ℕ, ◌+◌, ◌-◌, ◌<◌, ltb}
use Rattle.base.specs.Pick.{pick}
use Rattle.theory.specs.Sum.{cells}
use Rattle.nets.specs.declared.Net.{Net}
use Rattle.nets.specs.declared.Work.{Work}
use Rattle.nets.specs.Network.{Network}
use Rattle.deciding.specs.Finding.{AnsweredIn}

-- the node on the other side
unfoldable pub opposite_of : ℕ → ℕ
opposite_of v = pick (ltb v 64) (64 + v) (pick (ltb v 128) (v - 64) (pick (ltb v 129) 129 128))

-- times of nodes counted down from the deadline, each at the node on the other side
unfoldable pub countdown : ℕ → (ℕ → ℕ) → ℕ → ℕ
countdown due t v = due - t (opposite_of v)

-- N' is N turned round
pub record TurnedNet (N N' : Network) : Type 0 where
  pub arcs : N'.arcs ≡ N.arcs
  pub tail : (a : ℕ) → a < N.arcs → N'.tail a ≡ opposite_of (N.head a)
  pub head : (a : ℕ) → a < N.arcs → N'.head a ≡ opposite_of (N.tail a)
  pub base : (a : ℕ) → a < N.arcs → N'.base a ≡ N.base a
  pub gain : (a : ℕ) → a < N.arcs → (j : ℕ) → N'.gain a j ≡ N.gain a j

-- ---- in the sheets
-- the ends of arcs, each on the other side
pub record Across (ends turned : List ℕ) : Type 0 where
  pub side : (a : ℕ) → a < 448 → cells turned a ≡ opposite_of (cells ends a)

-- tails are across from heads and heads from tails, and all else is as it was
pub record TurnedIn (net turned : Net) : Type 0 where
  pub tail : Across net.head turned.tail
  pub head : Across net.tail turned.head
  pub base : turned.base ≡ net.base
  pub length : turned.length ≡ net.length
  pub saving : turned.saving ≡ net.saving
  pub late : turned.late ≡ net.late
  pub arcs : turned.arcs ≡ net.arcs
  pub parts : turned.parts ≡ net.parts
  pub due : turned.due ≡ net.due

-- the verdict on the loads of w by the net turned round
pub record LastIn (net : Net) (due : ℕ) (w w' : Work) (r : Bool) : Type 0 where
  pub sheet : Net
  pub turned : TurnedIn net sheet
  pub answered : AnsweredIn sheet due w w' r
