-- What is known of a number that was read, and of one that was refused: where it ends, how great it is, its place; and that reading goes
-- by the bytes from its place on. Each is shown group by group, for any groups left.
-- Assumes nothing.
use mathlib.Core.Path.{◌≡◌, refl, sym, ap, ◌∙◌}
use mathlib.Core.Bool.{Bool, true, false}
use mathlib.Core.Logic.{◌⊎◌, inl, inr, ⊎_elim}
use mathlib.Core.List.{List, ◌++◌}
use Prim.Native.Nat.{ℕ, zero, suc, ◌+◌, ◌-◌, ◌*◌, ◌%◌, ◌<◌, ◌≤◌}
use native.Mathlib.Omega.{arith}
use native.Mathlib.Nat.{add_assoc}
use lib.ListN.{length, get_or, length-append, get_or-append}
use lib.Seq.{get_or-append-add}
use lib.Dec.{ltb}
use borrow.Author.Tests.{lt-ltb, le-ltb, eq-eqb, ne_eqb}
use Rattle.base.specs.Pick.{pick}
use Rattle.base.proofs.Cases.{lt_or_le, eq_or_ne}
use Rattle.std.specs.Prelude.{Ok, Err}
use Rattle.refusal.specs.declared.Why.{Why}
use Rattle.refusal.specs.declared.Why.TheVariants.{CutShort, NotShortest}
use Rattle.refusal.specs.Refusal.{refused}
use Rattle.groups.specs.Parse.{Parse, got}
use Rattle.groups.specs.Number.{groups, shortest_end, groups_from, number_at}
use Rattle.groups.proofs.Groups.{input_ends, number_ends, longer_than_needed, goes_on}

true_or_false : (t : Bool) → (t ≡ true) ⊎ (t ≡ false)
true_or_false true = inl refl
true_or_false false = inr refl

-- the four ways that a group can go
pub by_group : (s : List ℕ) (first at : ℕ) (Q : Type 0)
    → (length s ≤ at → Q)
    → (at < length s → get_or s at 0 < 128 → shortest_end first at (get_or s at 0) ≡ true → Q)
    → (at < length s → get_or s at 0 < 128 → shortest_end first at (get_or s at 0) ≡ false → Q)
    → (at < length s → 128 ≤ get_or s at 0 → Q)
    → Q
by_group s first at Q ends last longer on = ⊎_elim
    (λ (more : at < length s). ⊎_elim
    (λ (small : get_or s at 0 < 128). ⊎_elim (last more small) (longer more small) (true_or_false (shortest_end first at (get_or s at 0))))
    (on more)
    (lt_or_le (get_or s at 0) 128))
    ends
    (lt_or_le at (length s))

-- ---- where a refusal's place is
unfoldable pub Placed : List ℕ → ℕ → Parse ℕ → Type 0
Placed s first (Ok r) = Unit {0}
Placed s first (Err e) = ((e.why ≡ CutShort) × (e.place ≡ length s)) ⊎ ((e.why ≡ NotShortest) × (e.place ≡ first))

groups_placed : (left : ℕ) (s : List ℕ) (first at scale sum : ℕ) → Placed s first (groups_from left s first at scale sum)
unfolding Placed groups_from
groups_placed zero s first at scale sum = inr (refl, refl)
groups_placed (suc left) s first at scale sum = by_group
    s first at (Placed s first (groups_from (suc left) s first at scale sum))
    (λ ends. rw (input_ends left s first at scale sum ends) (inl (refl, refl)))
    (λ more last short. rw (number_ends left s first at scale sum more last short) tt)
    (λ more last long. rw (longer_than_needed left s first at scale sum more last long) (inr (refl, refl)))
    (λ more on. rw (goes_on left s first at scale sum more on) (groups_placed left s first (at + 1) (scale * 128) (sum + get_or s at 0 % 128 * scale)))

-- 01, What is refused, 1: "input length"; 2: "number's first byte"
pub refused_place : (s : List ℕ) (at : ℕ) (w : Why) (p : ℕ) → number_at s at ≡ refused w p → ((w ≡ CutShort) × (p ≡ length s)) ⊎ ((w ≡ NotShortest) × (p ≡ at))
unfolding number_at Placed
refused_place s at w p is = rw is at (groups_placed groups s at at 1 0)

-- where the bytes are used up, nothing is left of a number
pub nothing_left : (s : List ℕ) (at : ℕ) → length s ≤ at → number_at s at ≡ refused CutShort (length s)
unfolding number_at
nothing_left s at ends = input_ends (groups - 1) s at at 1 0 ends

pub place_le : (s : List ℕ) (at : ℕ) (w : Why) (p : ℕ) → at ≤ length s → number_at s at ≡ refused w p → p ≤ length s
place_le s at w p within is = ⊎_elim (λ cut. omega (arith, cut.1)) (λ long. omega (arith, long.1)) (refused_place s at w p is)

-- ---- reading goes by the bytes from its place on: what stands before them only moves the places
unfoldable pub moved : ℕ → Parse ℕ → Parse ℕ
moved k (Ok r) = got r.value (k + r.next)
moved k (Err e) = refused e.why (k + e.place)

moved_number : (k v n : ℕ) → moved k (got v n) ≡ got v (k + n)
unfolding moved
moved_number k v n = refl

moved_refused : (k : ℕ) (w : Why) (p : ℕ) → moved k (refused w p) ≡ refused w (k + p)
unfolding moved
moved_refused k w p = refl

moved_pick : (k : ℕ) (t : Bool) (a b : Parse ℕ) → moved k (pick t a b) ≡ pick t (moved k a) (moved k b)
unfolding pick
moved_pick k true a b = refl
moved_pick k false a b = refl

within_moved : (k at m : ℕ) → ltb (k + at) (k + m) ≡ ltb at m
within_moved k at m = ⊎_elim
    (λ (more : at < m). lt-ltb (k + at) (k + m) (omega arith) ∙ sym (lt-ltb _ _ more))
    (λ (ends : m ≤ at). le-ltb (k + at) (k + m) (omega arith) ∙ sym (le-ltb _ _ ends))
    (lt_or_le at m)

shortest_moved : (k first at g : ℕ) → shortest_end (k + first) (k + at) g ≡ shortest_end first at g
unfolding shortest_end
shortest_moved k first at g = ap (λ (t : Bool). pick t true (ltb 0 g)) (⊎_elim
    (λ (same : at ≡ first). eq-eqb (k + at) (k + first) (omega arith) ∙ sym (eq-eqb _ _ same))
    (λ (other : at ≡ first → ⊥). ne_eqb _ _ (λ (e : k + at ≡ k + first). other (omega arith)) ∙ sym (ne_eqb _ _ other))
    (eq_or_ne at first))

groups_moved : (left : ℕ) (pre s : List ℕ) (first at scale sum : ℕ) → groups_from left (pre ++ s) (length pre + first) (length pre + at) scale sum ≡ moved (length pre) (groups_from left s first at scale sum)
unfolding groups_from
groups_moved zero pre s first at scale sum = sym (moved_refused (length pre) NotShortest first)
groups_moved (suc left) pre s first at scale sum = simp
    (moved_pick, moved_number, moved_refused, within_moved, get_or-append-add, shortest_moved, length-append, add_assoc (length pre) at 1)
    (rw (groups_moved left pre s first (at + 1) (scale * 128) (sum + get_or s at 0 % 128 * scale)))

pub number_moved : (pre s : List ℕ) (at : ℕ) → number_at (pre ++ s) (length pre + at) ≡ moved (length pre) (number_at s at)
unfolding number_at
number_moved pre s at = groups_moved groups pre s at at 1 0

longer : (s post : List ℕ) (at : ℕ) → at < length s → at < length (s ++ post)
longer s post at more = rw length-append (omega arith)

-- a number that was read stays the same if more bytes follow
groups_kept : (left : ℕ) (s post : List ℕ) (first at scale sum v n : ℕ) → groups_from left s first at scale sum ≡ got v n → groups_from left (s ++ post) first at scale sum ≡ got v n
unfolding groups_from
groups_kept zero s post first at scale sum v n is = is
groups_kept (suc left) s post first at scale sum v n is = by_group
    s first at (groups_from (suc left) (s ++ post) first at scale sum ≡ got v n)
    (λ ends. let never : refused CutShort (length s) ≡ got v n = sym (input_ends left s first at scale sum ends) ∙ is in let z : ◌≡◌ {A = ℕ} 0 1 = cc in absurd (omega arith))
    (λ more last short.
    let byte : get_or (s ++ post) at 0 ≡ get_or s at 0 = get_or-append s post 0 at more in
    let found : got (sum + get_or s at 0 % 128 * scale) (at + 1) ≡ got v n = sym (number_ends left s first at scale sum more last short) ∙ is in
    number_ends left (s ++ post) first at scale sum (longer s post at more) (rw byte last) (rw byte short) ∙ rw byte found)
    (λ more last long. let never : refused NotShortest first ≡ got v n = sym (longer_than_needed left s first at scale sum more last long) ∙ is in let z : ◌≡◌ {A = ℕ} 0 1 = cc in absurd (omega arith))
    (λ more on.
    let byte : get_or (s ++ post) at 0 ≡ get_or s at 0 = get_or-append s post 0 at more in
    let rest : groups_from left s first (at + 1) (scale * 128) (sum + get_or s at 0 % 128 * scale) ≡ got v n = sym (goes_on left s first at scale sum more on) ∙ is in
    goes_on left (s ++ post) first at scale sum (longer s post at more) (rw byte on) ∙ rw byte (groups_kept left s post first (at + 1) (scale * 128) (sum + get_or s at 0 % 128 * scale) v n rest))

pub number_kept : (s post : List ℕ) (at v n : ℕ) → number_at s at ≡ got v n → number_at (s ++ post) at ≡ got v n
unfolding number_at
number_kept s post at v n is = groups_kept groups s post at at 1 0 v n is
