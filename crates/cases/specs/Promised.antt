-- What the contracts promise of a row. The idea: whatever desk and tally a load is lent, and whatever results the contracts of load, order and
-- questions allow from there on, the answers are those of the row.
-- Assumes nothing.
use Rattle.std.specs.Prelude.{◌≡◌, List, [], ◌∷◌, ℕ, ◌≤◌, ◌<◌, length, Ok, IsSomeAnd}
use Rattle.std.specs.Int.Count.{ones}
use Rattle.theory.specs.Sum.{cells}
use Rattle.refusal.specs.Refusal.{Answer, refusal}
use Rattle.groups.specs.Parse.{got}
use Rattle.groups.specs.Number.{number_at}
use Rattle.board.specs.declared.Rule.TheVariants.{A}
use Rattle.board.specs.declared.Board.{Board}
use Rattle.slow.specs.Walk.{trail_of}
use Rattle.curve.specs.declared.Ticks.{Ticks}
use Rattle.curve.specs.declared.Microwatts.{Microwatts}
use Rattle.curve.specs.Rows.{ticks_at, ticks_row}
use Rattle.budget.specs.declared.Budget.{Budget}
use Rattle.budget.specs.Budget.{Allowed}
use Rattle.design.specs.Design.{design_of, file_of}
use Rattle.desk.specs.declared.Tally.{Tally}
use Rattle.desk.specs.declared.Desk.{Desk}
use Rattle.desk.specs.declared.Loaded.{Loaded}
use Rattle.desk.specs.declared.Ordered.{Ordered}
use Rattle.desk.specs.Load.{LoadSaid}
use Rattle.desk.specs.Order.{OrderSaid}
use Rattle.questions.specs.declared.Marked.{Marked}
use Rattle.questions.specs.declared.FamilyHeld.{FamilyHeld}
use Rattle.questions.specs.Sets.{UpstreamSaid, DownstreamSaid, FamilySaid}
use Rattle.questions.specs.Numbers.{PowerSaid}
use Rattle.cases.specs.Rows.{Step, Case}
use Rattle.cases.specs.Rows as row

-- the ticks of the parts, and 0 at the places past them
unfoldable pub padded : List ℕ → List Ticks
padded xs = ticks_row (length xs) (cells xs)

-- what a call comes to: its contract allows a result, and every result that it allows is so
pub record Comes {R : Type 0} (Said Is : R → Type 0) : Type 0 where
  pub result : R
  pub said : Said result
  pub only : (r : R) → Said r → Is r

-- ---- budgets
pub record Shows (r : Budget) (delays ends : List ℕ) (total : ℕ) : Type 0 where
  pub delays_are : r.delay ≡ padded delays
  pub ends_are : r.end ≡ padded ends
  pub total_is : r.total.0 ≡ total

-- "arrive later": no end is earlier, and one is later
pub record Later (e e' : List Ticks) : Type 0 where
  pub none_earlier : (p : ℕ) → p < 64 → ticks_at e p ≤ ticks_at e' p
  pub part : ℕ
  pub later : ticks_at e part < ticks_at e' part

-- "cost the same and arrive later"
pub record Another (b : Board) (held : Budget) (delays ends : List ℕ) (total : ℕ) : Type 0 where
  pub other : Budget
  pub allowed : Allowed b other
  pub shows : Shows other delays ends total
  pub same : other.total.0 ≡ held.total.0
  pub arrives : Later held.end other.end

-- ---- questions
-- the question has this answer, in full, and no other
abbrev pub Answers : {R : Type 0} → (R → Type 0) → R → Type 0
Answers Said r = Comes Said (λ r'. r' ≡ r)

-- "the number of parts marked"
abbrev pub marks : ℕ → ℕ → Marked
marks set count = record { set = set; count = count }

abbrev pub power_is : ℕ → Answer Microwatts
power_is watts = Ok (record { 0 = watts })

abbrev pub cone_is : ℕ → ℕ → Answer Marked
cone_is set count = Ok (marks set count)

abbrev pub family_is : ℕ → ℕ → Answer FamilyHeld
family_is parents children = Ok (record { parents = marks parents (ones parents); children = marks children (ones children) })

-- ---- loads and orders
pub record LoadRefused (d : Desk) (t : Tally) (r : Loaded) (number place : ℕ) (path : List ℕ) : Type 0 where
  pub refused : r.answer ≡ refusal number place
  pub path_is : r.path ≡ trail_of path
  pub desk_stays : r.desk ≡ d
  pub tally_stays : r.tally ≡ t

pub record OrderMade (bytes : List ℕ) (r : Ordered) : Type 0 where
  pub done : r.answer ≡ Ok tt
  pub took_all : r.took ≡ length bytes
  pub path_is : r.path ≡ trail_of []

pub record OrderRefused (bytes : List ℕ) (d : Desk) (r : Ordered) (number place : ℕ) (path : List ℕ) : Type 0 where
  pub refused : r.answer ≡ refusal number place
  pub took_all : r.took ≡ length bytes
  pub path_is : r.path ≡ trail_of path
  pub desk_stays : r.desk ≡ d

pub record Counts (t : Tally) (taken refused : ℕ) : Type 0 where
  pub taken_are : t.taken ≡ taken
  pub refused_are : t.refused ≡ refused

-- a step at a desk with its tally, and what is promised next
abbrev pub StepPromised : Step → (Desk → Tally → Type 0) → Desk → Tally → Type 0
StepPromised (row.holds delays ends total) next d t = IsSomeAnd d.held (λ held. Shows held.budget delays ends total) × next d t
StepPromised (row.also delays ends total) next d t = IsSomeAnd d.held (λ held. Another held.board held.budget delays ends total) × next d t
StepPromised (row.costs part delay watts) next d t = Answers (PowerSaid d part delay) (power_is watts) × next d t
StepPromised (row.costs_not part delay number place) next d t = Answers (PowerSaid d part delay) (refusal number place) × next d t
StepPromised (row.upstream part set count) next d t = Answers (UpstreamSaid d part) (cone_is set count) × next d t
StepPromised (row.downstream part set count) next d t = Answers (DownstreamSaid d part) (cone_is set count) × next d t
StepPromised (row.kin part parents children) next d t = Answers (FamilySaid d part) (family_is parents children) × next d t
StepPromised (row.order bytes) next d t = Comes (OrderSaid d bytes t) (λ r. OrderMade bytes r × next r.desk r.tally)
StepPromised (row.order_not bytes number place path) next d t =
    Comes (OrderSaid d bytes t) (λ r. OrderRefused bytes d r number place path × next r.desk r.tally)
StepPromised (row.tally taken refused) next d t = Counts t taken refused × next d t

unfoldable pub StepsPromised : List Step → Desk → Tally → Type 0
StepsPromised [] d t = Unit
StepsPromised (s ∷ steps) d t = StepPromised s (StepsPromised steps) d t

-- a row of the table; boards are loaded under rule A, whose number is 0
unfoldable pub Promised : Case → Type 0
Promised (row.file b bytes) = (file_of b ≡ bytes) × (design_of A bytes ≡ got b (length bytes))
Promised (row.board b steps) =
    (d : Desk) (t : Tally) → Comes (LoadSaid d 0 (file_of b) t) (λ r. (r.answer ≡ Ok tt) × StepsPromised steps r.desk r.tally)
Promised (row.board_not b number place path) =
    (d : Desk) (t : Tally) → Comes (LoadSaid d 0 (file_of b) t) (λ r. LoadRefused d t r number place path)
Promised (row.number bytes value) = number_at bytes 0 ≡ got value (length bytes)
Promised (row.number_not bytes number place) = number_at bytes 0 ≡ refusal number place
Promised (row.both one other) = Promised one × Promised other

-- every row of a table
unfoldable pub All : {A : Type 0} → (A → Type 0) → List A → Type 0
All P [] = Unit
All P (x ∷ xs) = P x × All P xs
