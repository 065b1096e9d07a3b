-- What one more group does to a reading, and that its sums stay below the limit: the ways through `read_number`.
-- Assumes nothing.
use mathlib.Core.Path.{◌≡◌, sym, ap, ◌∙◌}
use mathlib.Core.Bool.{Bool, true, false}
use mathlib.Core.List.{List}
use Prim.Native.Nat.{ℕ, zero, suc, ◌+◌, ◌-◌, ◌*◌, ◌%◌, ◌^◌, ◌<◌, ◌≤◌}
use native.Mathlib.Omega.{arith}
use native.Mathlib.Nat.{pow-succ', one-le-pow, mul_assoc, mul-le-mul_left, mul-le-mul_right}
use mir.Val.{Fits}
use mir.Syntax.{w32}
use lib.ListN.{length, get_or}
use borrow.Author.Tests.{lt-ltb, le-ltb}
use Rattle.std.specs.Prelude.{Err}
use Rattle.base.specs.Pick.{pick}
use Rattle.refusal.specs.declared.Why.TheVariants.{CutShort, NotShortest}
use Rattle.refusal.specs.declared.Refusal.{Refusal}
use Rattle.refusal.specs.Refusal.{refusal_at, refused}
use Rattle.groups.specs.Parse.{got}
use Rattle.groups.specs.Number.{limit, shortest_end, groups_from, number_at}

-- ---- the four ways that a group can go
module _ (left : ℕ) (s : List ℕ) (first at scale sum : ℕ) where
  pub input_ends : length s ≤ at → groups_from (suc left) s first at scale sum ≡ refused CutShort (length s)
  unfolding groups_from pick
  input_ends ends = rw (le-ltb _ _ ends)

  module _ (more : at < length s) where
    pub number_ends : get_or s at 0 < 128 → shortest_end first at (get_or s at 0) ≡ true → groups_from (suc left) s first at scale sum ≡ got (sum + get_or s at 0 % 128 * scale) (at + 1)
    unfolding groups_from pick
    number_ends last short = rw (lt-ltb _ _ more, lt-ltb _ _ last, short)

    pub longer_than_needed : get_or s at 0 < 128 → shortest_end first at (get_or s at 0) ≡ false → groups_from (suc left) s first at scale sum ≡ refused NotShortest first
    unfolding groups_from pick
    longer_than_needed last long = rw (lt-ltb _ _ more, lt-ltb _ _ last, long)

    pub goes_on : 128 ≤ get_or s at 0 → groups_from (suc left) s first at scale sum ≡ groups_from left s first (at + 1) (scale * 128) (sum + get_or s at 0 % 128 * scale)
    unfolding groups_from pick
    goes_on on = rw (lt-ltb _ _ more, le-ltb _ _ on)

-- ---- the ways through `read_number`: what stands at the loop's head is the number asked for, so what the way finds is
one_more : (left : ℕ) → 0 < left → left ≡ suc (left - 1)
one_more left some = omega arith

module _ (s : List ℕ) (first at scale sum left : ℕ) (is : groups_from left s first at scale sum ≡ number_at s first) (some : 0 < left) where
  -- with the group to come counted apart
  head : groups_from (suc (left - 1)) s first at scale sum ≡ number_at s first
  head = rw (one_more left some) at is

  pub cut_short : (e : Refusal) → e ≡ refusal_at CutShort (length s) → length s ≤ at → Err e ≡ number_at s first
  cut_short e is_refused ends = ap Err is_refused ∙ sym (input_ends (left - 1) s first at scale sum ends) ∙ head

  module _ (more : at < length s) where
    pub not_shortest : (e : Refusal) (t : Bool) → e ≡ refusal_at NotShortest first → get_or s at 0 < 128 → t ≡ shortest_end first at (get_or s at 0) → t ≡ false → Err e ≡ number_at s first
    not_shortest e t is_refused last test long = ap Err is_refused ∙ sym (longer_than_needed (left - 1) s first at scale sum more last (sym test ∙ long)) ∙ head

    pub number_read : (r : Bool) (h : ℕ) → get_or s at 0 < 128 → r ≡ shortest_end first at (get_or s at 0) → r ≡ true → h ≡ get_or s at 0 % 128 → got (sum + h * scale) (at + 1) ≡ number_at s first
    number_read r h last test short bits = rw bits (sym (number_ends (left - 1) s first at scale sum more last (sym test ∙ short)) ∙ head)

    pub group_read : (h : ℕ) → 128 ≤ get_or s at 0 → h ≡ get_or s at 0 % 128 → groups_from (left - 1) s first (at + 1) (scale * 128) (sum + h * scale) ≡ number_at s first
    group_read h on bits = rw bits (sym (goes_on (left - 1) s first at scale sum more on) ∙ head)

pub groups_spent : (s : List ℕ) (first at scale sum left : ℕ) (e : Refusal) → e ≡ refusal_at NotShortest first → groups_from left s first at scale sum ≡ number_at s first → left ≤ 0 → Err e ≡ number_at s first
unfolding groups_from
groups_spent s first at scale sum zero e is_refused is none = ap Err is_refused ∙ is
groups_spent s first at scale sum (suc left) e is_refused is none = absurd (omega arith)

-- ---- the sums stay below the limit, while a group may come that is worth `scale` a unit and what came before is worth less than one
pub scale_next : (scale left : ℕ) → 0 < left → scale * 128 ^ left ≤ limit → scale * 128 * 128 ^ (left - 1) ≤ limit
scale_next scale zero some most = absurd (omega arith)
scale_next scale (suc left) some most = let one_less : suc left - 1 ≡ left = omega arith in rw (mul_assoc, one_less) (rw pow-succ' at most)

pub scale_le : (scale left : ℕ) → 0 < left → scale * 128 ^ left ≤ limit → scale * 128 ≤ limit
scale_le scale left some most = omega (arith, scale_next scale left some most, mul-le-mul_left (scale * 128) (one-le-pow (left - 1) 128 (omega arith)))

module _ (scale left sum h : ℕ) (some : 0 < left) (most : scale * 128 ^ left ≤ limit) (small : h < 128) where
  group_le : h * scale + scale ≤ scale * 128
  group_le = omega (arith, mul-le-mul_right scale small)

  pub group_fits : Fits w32 (h * scale)
  group_fits = omega (arith, group_le, scale_le scale left some most)

  pub sum_fits : sum < scale → Fits w32 (sum + h * scale)
  sum_fits less = omega (arith, group_le, scale_le scale left some most)

  pub sum_next : sum < scale → sum + h * scale < scale * 128
  sum_next less = omega (arith, group_le)

pub scale_fits : (scale left : ℕ) → 0 < left → scale * 128 ^ left ≤ limit → Fits w32 (scale * 128)
scale_fits scale left some most = omega (arith, scale_le scale left some most)
