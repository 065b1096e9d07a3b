-- Demand 2: "A load is accepted, and holds the board that its file describes, exactly when no listed refusal applies."
-- Assumes nothing.
use Rattle.std.specs.Prelude.{◌≡◌, ◌≢◌, List, [], ℕ, Ok, Err}
use Rattle.refusal.specs.Refusal.{Answer, refusal}
use Rattle.board.specs.declared.Rule.{Rule}
use Rattle.board.specs.declared.Board.{Board}
use Rattle.board.specs.Board.{rule_number}
use Rattle.slow.specs.Walk.{trail_of}
use Rattle.groups.specs.Parse.{Parse}
use Rattle.design.specs.Design.{design_of}
use Rattle.desk.specs.declared.Tally.{Tally}
use Rattle.desk.specs.declared.Desk.{Desk}
use Rattle.desk.specs.declared.Loaded.{Loaded}
use Rattle.desk.specs.Judged.{BoardJudged}

-- "when accepted, sets both counts to zero"
abbrev pub no_tally : Tally
no_tally = record { taken = 0; refused = 0 }

-- a refused load changes nothing
abbrev pub load_refused : Answer Unit → List ℕ → Desk → Tally → Loaded
load_refused answer path d t = record { answer = answer; path = trail_of path; desk = d; tally = t }

abbrev pub tally_loaded : Answer Unit → Tally → Tally
tally_loaded (Ok done) t = no_tally
tally_loaded (Err e) t = t

-- the file was read as the board b
pub record LoadJudged (b : Board) (d : Desk) (t : Tally) (r : Loaded) : Type 0 where
  pub judged : BoardJudged b d r.answer r.path r.desk
  pub tally : r.tally ≡ tally_loaded r.answer t

-- what a load of the bytes s comes to: the first of 1 to 8, or what the board described comes to
abbrev pub LoadParsed : Parse Board → Desk → Tally → Loaded → Type 0
LoadParsed (Err e) d t r = r ≡ load_refused (Err e) [] d t
LoadParsed (Ok read) d t r = LoadJudged read.value d t r

-- .. under a rule
pub record LoadRead (d : Desk) (rule : Rule) (s : List ℕ) (t : Tally) (r : Loaded) : Type 0 where
  pub parsed : LoadParsed (design_of rule s) d t r

-- 02, Req 06: "the caller of a load names the rule"; "Refusals: 22, a rule that is neither A nor B, place 0, before all reading"
pub data LoadSaid (d : Desk) (rule : ℕ) (s : List ℕ) (t : Tally) (r : Loaded) : Type 0 where
  unruled : ((named : Rule) → rule ≢ rule_number named) → r ≡ load_refused (refusal 22 0) [] d t → LoadSaid d rule s t r
  ruled : (named : Rule) → rule ≡ rule_number named → LoadRead d named s t r → LoadSaid d rule s t r
