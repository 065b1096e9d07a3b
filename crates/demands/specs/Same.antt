-- Two results that are the same but for the advice: a flow that the next solve may begin from, and on which no answer depends.
-- Assumes nothing.
use Rattle.std.specs.Prelude.{◌≡◌, Some, None}
use Rattle.desk.specs.declared.Held.{Held}
use Rattle.desk.specs.declared.Desk.{Desk}
use Rattle.desk.specs.declared.Loaded.{Loaded}
use Rattle.desk.specs.declared.Ordered.{Ordered}

pub record SameHeld (h h' : Held) : Type 0 where
  pub board : h.board ≡ h'.board
  pub budget : h.budget ≡ h'.budget

-- both hold nothing, or both hold the same
pub data SameDesk (d d' : Desk) : Type 0 where
  empty : d.held ≡ None → d'.held ≡ None → SameDesk d d'
  holding : {h h' : Held} → d.held ≡ Some h → d'.held ≡ Some h' → SameHeld h h' → SameDesk d d'

pub record SameLoaded (r r' : Loaded) : Type 0 where
  pub answer : r.answer ≡ r'.answer
  pub path : r.path ≡ r'.path
  pub desk : SameDesk r.desk r'.desk
  pub tally : r.tally ≡ r'.tally

pub record SameOrdered (r r' : Ordered) : Type 0 where
  pub answer : r.answer ≡ r'.answer
  pub took : r.took ≡ r'.took
  pub path : r.path ≡ r'.path
  pub desk : SameDesk r.desk r'.desk
  pub tally : r.tally ≡ r'.tally

-- where two lists of orders end: all that is held, and the tally
pub record SameEnd (r r' : Ordered) : Type 0 where
  pub desk : SameDesk r.desk r'.desk
  pub tally : r.tally ≡ r'.tally
