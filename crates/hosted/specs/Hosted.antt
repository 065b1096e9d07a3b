-- What a host is given: a total, a set of marks or powers of the board that its file describes.
-- Assumes nothing.
use Rattle.std.specs.Prelude.{◌≡◌, ◌⊎◌, List, ℕ, zero, suc, ◌+◌, ◌-◌, ◌<◌, ◌≤◌, length, take, drop, Ok, Err}
use Rattle.refusal.specs.Refusal.{Answer}
use Rattle.curve.specs.declared.Curve.{Curve}
use Rattle.curve.specs.declared.Microwatts.{Microwatts}
use Rattle.curve.specs.Answers.{power_at_of}
use Rattle.board.specs.Board.{curve_at}
use Rattle.desk.specs.declared.Tally.{Tally}
use Rattle.desk.specs.declared.Desk.{Desk}
use Rattle.desk.specs.declared.Loaded.{Loaded}
use Rattle.desk.specs.declared.Ordered.{Ordered}
use Rattle.desk.specs.Held.{where_held}
use Rattle.desk.specs.Order.{OrderSaid}
use Rattle.desk.specs.Empty.{empty_desk}
use Rattle.desk.specs.Load.{no_tally, LoadSaid}
use Rattle.questions.specs.declared.Marked.{Marked}
use Rattle.questions.specs.Sets.{UpstreamSaid}

-- the desk after a load of the bytes s on an empty one, under rule A
pub record LoadOf (s : List ℕ) (d : Desk) : Type 0 where
  pub load : Loaded
  pub said : LoadSaid empty_desk 0 s no_tally load
  pub desk : d ≡ load.desk

-- the total of what is held; an empty desk's is 0
abbrev pub total_in : Desk → ℕ
total_in d = where_held d.held 0 (λ h. h.budget.total.0)

-- the total that is held after it
pub record TotalOf (s : List ℕ) (r : ℕ) : Type 0 where
  pub held : Desk
  pub load : LoadOf s held
  pub total : r ≡ total_in held

-- a set as a number; 0 where the question is refused
abbrev pub set_of : Answer Marked → ℕ
set_of (Ok marked) = marked.set
set_of (Err e) = 0

-- the set upstream of a part
pub record UpstreamOf (d : Desk) (part r : ℕ) : Type 0 where
  pub asked : Answer Marked
  pub said : UpstreamSaid d part asked
  pub set : r ≡ set_of asked

-- what was found the last of so many times, or 0 where nothing was asked
pub data LastOf (Is : ℕ → Type 0) (times r : ℕ) : Type 0 where
  never : times ≡ 0 → r ≡ 0 → LastOf Is times r
  found : 0 < times → Is r → LastOf Is times r

pub record UpstreamAsked (s : List ℕ) (part times r : ℕ) : Type 0 where
  pub held : Desk
  pub load : LoadOf s held
  pub last : LastOf (UpstreamOf held part) times r

-- the bytes from place `at` on
abbrev pub bytes_from : List ℕ → ℕ → List ℕ
bytes_from s at = take (length s - at) (drop at s)

-- the orders of the bytes s, each made on the desk and with the tally that the one before left, until one takes no bytes or more than there are
pub data Orders : List ℕ → Desk → Tally → Desk → Type 0 where
  ended : {s : List ℕ} {d : Desk} {t : Tally} {q : Ordered} → OrderSaid d s t q → (q.took ≡ 0) ⊎ (length s < q.took) → Orders s d t d
  made :
      {s : List ℕ} {d r : Desk} {t : Tally} {q : Ordered} → OrderSaid d s t q → Orders (bytes_from s q.took) q.desk q.tally r → Orders s d t r

-- the total that is held after a load of the bytes s and the orders in s'
pub record OrdersOf (s s' : List ℕ) (r : ℕ) : Type 0 where
  pub before : Desk
  pub load : LoadOf s before
  pub held : Desk
  pub made : Orders s' before no_tally held
  pub total : r ≡ total_in held

-- a power as a number; 0 where it is refused
abbrev pub watts_of : Answer Microwatts → ℕ
watts_of (Ok power) = power.0
watts_of (Err e) = 0

-- the powers on a curve at the first n delays, together
unfoldable pub powers_to : Curve → ℕ → ℕ
powers_to c zero = 0
powers_to c (suc k) = powers_to c k + watts_of (power_at_of c k)

-- the powers of a part after a load of the bytes s; 0 for a number that is no place of a part, or where nothing is held
pub data PowersOf (s : List ℕ) (part n r : ℕ) : Type 0 where
  past : 64 ≤ part → r ≡ 0 → PowersOf s part n r
  powers : {d : Desk} → LoadOf s d → part < 64 → r ≡ where_held d.held 0 (λ h. powers_to (curve_at h.board part) n) → PowersOf s part n r
