-- The ways through the functions that answer a question of a held board, in plain values.
-- Assumes nothing.
use mathlib.Core.Path.{◌≡◌, refl, sym, ap, ◌∙◌}
use mathlib.Core.Bool.{Bool}
use Prim.Native.Nat.{ℕ, ◌≤◌, ◌<◌}
use native.Mathlib.Omega.{arith}
use Rattle.std.proofs.Math.Nat.{lt_of_not-le}
use borrow.Author.Tests.{lt-ltb, le-ltb, ltb-true}
use Rattle.std.specs.Prelude.{Option, Some, None, Ok, Err, IsOkAnd, IsErrAnd}
use Rattle.base.specs.Pick.{pick}
use Rattle.refusal.specs.declared.Refusal.{Refusal}
use Rattle.refusal.specs.declared.Why.TheVariants.{OffCurve}
use Rattle.refusal.specs.Refusal.{Answer, refusal_at, by}
use Rattle.curve.specs.declared.Curve.{Curve}
use Rattle.curve.specs.declared.Microwatts.{Microwatts}
use Rattle.curve.specs.Curve.{Good, slowest_of}
use Rattle.curve.specs.Answers.{power_at_of}
use Rattle.curve.proofs.CurveLaws.{power_at_past, slowest_to}
use Rattle.board.specs.declared.Board.{Board}
use Rattle.board.specs.Board.{WellFormed, curve_at, link_at}
use Rattle.kin.specs.declared.Kin.{Kin}
use Rattle.kin.specs.Kin.{KinOf}
use Rattle.kin.specs.Critical.{critical_at}
use Rattle.desk.specs.declared.Held.{Held}
use Rattle.desk.specs.declared.Desk.{Desk}
use Rattle.desk.specs.Held.{Standing, ◌>>=◌, held_in}
use Rattle.desk.specs.Order.{part_on}
use Rattle.desk.proofs.Tried.{never, exits, same_ok, same_err, in_some, went, passes, standing_kept}
use Rattle.questions.specs.declared.Marked.{Marked}
use Rattle.questions.specs.declared.LinkHeld.{LinkHeld}
use Rattle.questions.specs.Tried.{part_tried, Said, PlaceSaid}
use Rattle.questions.specs.Sets.{counted_of, ConeGiven, ConeSaid, CriticalIn, FamilySaid}
use Rattle.questions.specs.Numbers.{PowerSaid, part_of, PartSaid}
use Rattle.questions.specs.Links.{link_told, LinkSaid}

-- ---- a question that was tried
module _ {R : Type 0} (d : Desk) (a : Answer Held) (Is : Held → Answer R → Type 0) (r : Answer R) where
  pub turned : (e : Refusal) → Err e ≡ a → IsErrAnd r (λ x. x ≡ e) → Said a d Is r
  turned e is exit = rw (← is) (exits r e exit)

  pub told : (h : Held) → Ok h ≡ a → (Standing d → Is h r) → Said a d Is r
  told h is so = rw (← is) so

-- what a question asks for may be put in other words
pub put_so :
    {R : Type 0} (d : Desk) (a : Answer Held) (Is Is' : Held → Answer R → Type 0) (r : Answer R) →
    ((h : Held) → Ok h ≡ a → Standing d → Is h r → Is' h r) → Said a d Is r → Said a d Is' r
put_so d (Err e) Is Is' r so said = said
put_so d (Ok h) Is Is' r so said = λ st. so h refl st (said st)

-- a question that goes by the part's place is turned away as the place is
pub off_place :
    {R : Type 0} (d : Desk) (p : ℕ) (Is : Held → Answer R → Type 0) (r : Answer R) (e : Refusal) →
    PlaceSaid d p (Err e) → IsErrAnd r (λ x. x ≡ e) → Said (part_tried d p) d Is r
unfolding PlaceSaid
off_place d p Is r e place exit = off (part_tried d p) place
  where
    off : (a : Answer Held) → Said a d (λ held x. x ≡ Ok held) (Err e) → Said a d Is r
    off (Err x) is = exits r e exit ∙ ap Err (same_err is)
    off (Ok h) is = λ st. never (is st)

-- ---- questions of a part
module _ (d : Desk) (p : ℕ) (h : Held) (is : Ok h ≡ part_tried d p) where
  here : (d.held ≡ Some h) × (p < h.board.parts)
  unfolding part_tried
  here =
      let a = went (held_in d) (λ held. part_on held.board p >>= (λ _. Ok held)) h (sym is) in
      let b = went (part_on a.value.board p) (λ _. Ok a.value) h a.rest in
      let same = same_ok b.rest in
      (in_some d a.first ∙ rw same, rw same at (ltb-true _ _ (passes _ _ _ b.first).0))

  formed : Standing d → WellFormed h.board
  formed st = (standing_kept st here.0).formed

  past : {A : Type 0} → 64 ≤ p → Standing d → A
  past far st = absurd (let w = formed st in omega (arith, here.1, w.parts_to))

  pub cone_given : (C : Board → ℕ → Type 0) (set : ℕ) (m : Marked) → C h.board set → m ≡ counted_of set → ConeSaid C d p (Ok m)
  unfolding counted_of
  cone_given C set m cone counted = rw (← is, counted) (λ st. record { set = cone; count = refl })

  pub family_given :
      (k : Kin) (u v : Marked) → KinOf (CriticalIn h) p k → u ≡ counted_of k.parents → v ≡ counted_of k.children →
      FamilySaid d p (Ok (record { parents = u; children = v }))
  unfolding FamilySaid counted_of
  family_given k u v kin eu ev = rw (← is, eu, ev) (λ st. record { sets = kin; parent_count = refl; child_count = refl })

  module _ (delay : ℕ) (r : Answer Microwatts) where
    pub power_given : (Good (curve_at h.board p) → r ≡ power_at_of (curve_at h.board p) delay) → PowerSaid d p delay r
    unfolding PowerSaid
    power_given so = rw (← is) (λ st. so ((formed st).curves p here.1))

  pub part_given : PartSaid d p (Ok (part_of h.budget p))
  unfolding PartSaid
  part_given = rw (← is) (λ st. refl)

  pub place_given : PlaceSaid d p (Ok h)
  unfolding PlaceSaid
  place_given = rw (← is) (λ st. refl)

  pub place_past : (r : Answer Held) → 64 ≤ p → PlaceSaid d p r
  unfolding PlaceSaid
  place_past r far = rw (← is) (past far)

-- a cone of a board without a fault
pub cone_formed :
    (d : Desk) (p : ℕ) (C C' : Board → ℕ → Type 0) (r : Answer Marked) → ((b : Board) (s : ℕ) → C b s → WellFormed b → C' b s) →
    ConeSaid C d p r → ConeSaid C' d p r
cone_formed d p C C' r so =
    put_so d (part_tried d p) _ _ r (λ h is st given. and_so r (λ s c. so h.board s c (formed d p h is st)) given)
  where
    and_so : {A B : ℕ → Type 0} (r : Answer Marked) → ((s : ℕ) → A s → B s) → IsOkAnd r (ConeGiven A) → IsOkAnd r (ConeGiven B)
    and_so (Ok m) so given = record { set = so m.set given.set; count = given.count }
    and_so (Err e) so given = given

-- a delay that 32 bits do not hold
pub power_wide :
    (c : Curve) (delay : ℕ) (e : Refusal) → (delay < 4294967296 → ⊥) → e ≡ refusal_at OffCurve delay → Good c → Err e ≡ power_at_of c delay
power_wide c delay e wide is good =
    let past : slowest_of c < delay = omega (arith, lt_of_not-le wide, slowest_to c good) in
    rw is (sym (power_at_past c delay past))

-- ---- `link`
pub link_none : (d : Desk) (l : ℕ) (e : Refusal) → d.held ≡ None → e ≡ refusal_at (by 11) 0 → LinkSaid d l (Err e)
unfolding LinkSaid
link_none d l e is why = rw (is, why) refl

module _ (d : Desk) (h : Held) (is : d.held ≡ Some h) (l : ℕ) where
  told_held : Ok h ≡ held_in d
  told_held = rw is refl

  pub link_past : h.board.links ≤ l → LinkSaid d l (Ok None)
  unfolding LinkSaid link_told pick
  link_past past = rw (← told_held, le-ltb l h.board.links past) (λ st. refl)

  pub link_wide : (r : Answer (Option LinkHeld)) → l < h.board.links → 256 ≤ l → LinkSaid d l r
  unfolding LinkSaid
  link_wide r here wide =
      rw (← told_held) (λ st. absurd (let k = (standing_kept st is).formed.links_to in omega (arith, k)))

  pub link_there : (t : Bool) → l < h.board.links → t ≡ critical_at h.board h.budget l →
      LinkSaid d l (Ok (Some (record { from = (link_at h.board l).from; to = (link_at h.board l).to; critical = t })))
  unfolding LinkSaid link_told pick
  link_there t here e = rw (← told_held, lt-ltb l h.board.links here, e) (λ st. refl)
