-- The ways through the functions that a host calls.
-- Assumes nothing.
use mathlib.Core.Path.{◌≡◌, refl, ap, ◌∙◌}
use mathlib.Core.List.{List}
use mathlib.Core.Logic.{inl, inr}
use Prim.Native.Nat.{ℕ, ◌+◌, ◌<◌, ◌≤◌}
use native.Mathlib.Nat.{le_antisymm}
use native.Mathlib.Numerals.{add-one}
use native.Mathlib.Omega.{arith}
use lib.ListN.{length}
use Rattle.base.proofs.Cases.{finished}
use Rattle.std.specs.Prelude.{Option, Some, None, MatchOption}
use Rattle.curve.specs.declared.Curve.{Curve}
use Rattle.curve.specs.Answers.{power_at_of}
use Rattle.board.specs.declared.Rule.TheVariants.{A}
use Rattle.board.specs.Board.{WellFormed, curve_at, rule_number}
use Rattle.budget.proofs.BudgetLaws.{holds_once}
use Rattle.solver.specs.declared.Solved.{Solved}
use Rattle.solver.specs.Solve.{Sound}
use Rattle.desk.specs.declared.Tally.{Tally}
use Rattle.desk.specs.declared.Ordered.{Ordered}
use Rattle.desk.specs.Held.{Standing, where_held}
use Rattle.desk.specs.Order.{OrderGiven}
use Rattle.desk.proofs.Judging.{empty_stands}
use Rattle.desk.specs.declared.Held.{Held}
use Rattle.desk.proofs.Tried.{standing_kept}
use Rattle.demands.proofs.ReachedLaws.{load_standing, order_standing}
use Rattle.desk.specs.declared.Desk.{Desk}
use Rattle.desk.specs.declared.Loaded.{Loaded}
use Rattle.desk.specs.Empty.{empty_desk}
use Rattle.desk.specs.Load.{no_tally, LoadSaid}
use Rattle.hosted.specs.Hosted.{LoadOf, total_in, TotalOf, LastOf, never, found, bytes_from, Orders, ended, made, OrdersOf, watts_of, powers_to, PowersOf, past, powers}

pub load_of : (s : List ℕ) (e : Desk) (rule : ℕ) (l : Loaded) → e ≡ empty_desk → rule ≡ rule_number A → LoadSaid e rule s no_tally l → LoadOf s l.desk
load_of s e rule l is named said = record { load = l; said = rw (is, named) at said; desk = refl }

pub total_held : (d : Desk) (h : Held) → d.held ≡ Some h → h.budget.total.0 ≡ total_in d
total_held d h is = rw is

pub total_of : (s : List ℕ) (d : Desk) (r : ℕ) → LoadOf s d → r ≡ total_in d → TotalOf s r
total_of s d r load is = record { held = d; load = load; total = is }

-- ---- what is found so many times
pub none_yet : {Is : ℕ → Type 0} → LastOf Is 0 0
none_yet = never refl refl

pub once_more : (Is : ℕ → Type 0) (k r : ℕ) → Is r → LastOf Is (k + 1) r
once_more Is k r is = found (omega arith) is

pub all_asked : (Is : ℕ → Type 0) (k n r : ℕ) → LastOf Is k r → k ≤ n → n ≤ k → LastOf Is n r
all_asked Is k n r last below done = rw (le_antisymm below done) at last

pub last_as : (Is Is' : ℕ → Type 0) (n r : ℕ) → ((x : ℕ) → Is x → Is' x) → LastOf Is n r → LastOf Is' n r
last_as Is Is' n r each (never z is) = never z is
last_as Is Is' n r each (found some is) = found some (each r is)

-- ---- what is held after a load stands
pub load_stands : (s : List ℕ) (d : Desk) → LoadOf s d → Standing d
load_stands s d l = rw l.desk (load_standing empty_desk no_tally empty_stands 0 s l.load l.said)

-- ---- orders: what comes of those that are left comes of all
pub record SoFar (s : List ℕ) (d e : Desk) (t : Tally) (left : List ℕ) : Type 0 where
  pub stands : Standing d → Standing e
  pub rest : Standing d → (r : Desk) → Orders left e t r → Orders s d no_tally r

pub orders_begun : (s : List ℕ) (d : Desk) → SoFar s d d no_tally s
orders_begun s d = record { stands = λ st. st; rest = λ st r o. o }

module _ (s : List ℕ) (d e : Desk) (t : Tally) (left : List ℕ) (q : Ordered) where
  pub order_last : SoFar s d e t left → OrderGiven e left t q → q.took ≡ 0 → Standing d → Orders s d no_tally e
  order_last so given none st = so.rest st e (ended (given.said (so.stands st)) (inl none))

  pub order_over : SoFar s d e t left → OrderGiven e left t q → length left < q.took → Standing d → Orders s d no_tally e
  order_over so given over st = so.rest st e (ended (given.said (so.stands st)) (inr over))

  pub order_more : SoFar s d e t left → OrderGiven e left t q → SoFar s d q.desk q.tally (bytes_from left q.took)
  order_more so given = record {
    stands = λ st. order_standing e t (so.stands st) left q (given.said (so.stands st));
    rest = λ st r o. so.rest st r (made (given.said (so.stands st)) o);
  }

pub orders_of : (s s' : List ℕ) (d e : Desk) (r : ℕ) → LoadOf s d → (Standing d → Orders s' d no_tally e) → r ≡ total_in e → OrdersOf s s' r
orders_of s s' d e r load all is = record { before = d; load = load; held = e; made = all (load_stands s d load); total = is }

-- ---- a board that is held, solved anew
module _ (d : Desk) (h : Held) (is : d.held ≡ Some h) where
  pub solved_anew : (x : Solved) → (WellFormed h.board → Sound h.board x) → Standing d → x.budget.total.0 ≡ total_in d
  solved_anew x solves st =
      let kept = standing_kept st is in
      ap (λ b. b.total.0) (holds_once h.board kept.formed x.budget h.budget (solves kept.formed).holds kept.holds) ∙ total_held d h is

pub total_anew : (s : List ℕ) (d : Desk) (r : ℕ) → LoadOf s d → (Standing d → r ≡ total_in d) → TotalOf s r
total_anew s d r load is = record { held = d; load = load; total = is (load_stands s d load) }

-- ---- powers
pub no_powers : (c : Curve) → 0 ≡ powers_to c 0
unfolding powers_to
no_powers c = refl

pub more_powers : (c : Curve) (sum k x : ℕ) → sum ≡ powers_to c k → x ≡ watts_of (power_at_of c k) → sum + x ≡ powers_to c (k + 1)
unfolding powers_to
more_powers c sum k x is new = rw (add-one, ← is, ← new)

pub all_powers : (c : Curve) (sum k n : ℕ) → sum ≡ powers_to c k → k ≤ n → n ≤ k → sum ≡ powers_to c n
all_powers c sum k n is below done = finished (powers_to c) below done is

pub powers_past : (s : List ℕ) (part n : ℕ) → 64 ≤ part → PowersOf s part n 0
powers_past s part n far = past far refl

pub powers_of :
    (s : List ℕ) (part n r : ℕ) (d : Desk) (P : Held → Type 0) → LoadOf s d → part < 64 → ((h : Held) → P h → r ≡ powers_to (curve_at h.board part) n) →
    MatchOption d.held (r ≡ 0) P → PowersOf s part n r
powers_of s part n r d P load here each so = powers load here (of_held d.held so)
  where
    of_held : (o : Option Held) → MatchOption o (r ≡ 0) P → r ≡ where_held o 0 (λ h. powers_to (curve_at h.board part) n)
    of_held None none = none
    of_held (Some h) is = each h is
