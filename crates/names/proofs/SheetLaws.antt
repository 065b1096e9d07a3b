-- The ways of the functions that look a label up, in plain values.
-- Assumes nothing.
use mathlib.Core.Path.{◌≡◌, refl, sym, ap, ◌∙◌}
use mathlib.Core.Logic.{⊎_elim, ◌↔◌}
use mathlib.Core.Bool.{Bool, true, false}
use mathlib.Core.List.{List, [], ◌∷◌}
use Prim.Native.Nat.{ℕ, zero, suc, ◌+◌, ◌-◌, ◌≤◌, ◌<◌, min}
use native.Mathlib.Decide.{ℕ_discrete}
use native.Mathlib.Omega.{arith}
use native.Mathlib.Numerals.{add-one}
use lib.ListN.{length, get_or, take, drop, drop_of_length-le, length-take, length-drop}
use lib.Seq.{drop-cons}
use lib.Dec.{eqb}
use borrow.Author.Tests.{eqb-true, eq-eqb, ne_eqb, le-leb, lt-leb, lt-ltb, le-ltb}
use Rattle.std.specs.Prelude.{Option, unwrap_or, position, cond, Ok, Err}
use Rattle.std.specs.List.{list_all, position_or_len}
use Rattle.std.proofs.lemmas.List.{take_all}
use Rattle.std.proofs.lemmas.List.Recursion.{is_position_or_len}
use Rattle.base.specs.Pick.{pick}
use Rattle.base.proofs.Cases.{lt_or_le}
use Rattle.refusal.specs.declared.Refusal.{Refusal}
use Rattle.refusal.specs.Refusal.{by, refusal_at, refusal}
use Rattle.names.specs.Sheet.{first_line, past_line, from_line, line_of, plain, good_label, label_of, label_place, label_answer}

-- ---- `line_start`: the lines left from `at` on are those that were left from the start
from_empty : (n : ℕ) → from_line [] n ≡ []
unfolding from_line past_line
from_empty zero = refl
from_empty (suc n) = from_empty n

module _ (s : List ℕ) (at left n : ℕ) (is : from_line (drop at s) left ≡ from_line s n) where
  pub line_here : left ≡ 0 → drop at s ≡ from_line s n
  unfolding from_line
  line_here e = rw e at is

  line_none : length s ≤ at → drop at s ≡ from_line s n
  line_none h = let e : drop at s ≡ [] = drop_of_length-le s h in e ∙ sym (from_empty left) ∙ sym (ap (λ l. from_line l left) e) ∙ is

pub line_over : (s : List ℕ) (at left n : ℕ) → from_line (drop at s) left ≡ from_line s n → length s ≤ at → drop (length s) s ≡ from_line s n
line_over s at left n is h = drop_of_length-le s (omega arith) ∙ sym (drop_of_length-le s h) ∙ line_none s at left n is h

-- past a byte 10 there is one line fewer, past any other byte there are as many
past_end : (x : ℕ) (r : List ℕ) (k : ℕ) → x ≡ 10 → from_line (x ∷ r) (suc k) ≡ from_line r k
unfolding from_line past_line pick
past_end x r k e = rw (eq-eqb x 10 e)

past_other : (x : ℕ) (r : List ℕ) (k : ℕ) → (x ≡ 10 → ⊥) → from_line (x ∷ r) (suc k) ≡ from_line r (suc k)
unfolding from_line past_line pick
past_other x r k d = rw (ne_eqb x 10 d)

module _ (s : List ℕ) (at left n r : ℕ) (is : from_line (drop at s) left ≡ from_line s n) (h : at < length s) where
  pub line_passed : (left ≡ 0 → ⊥) → get_or s at 0 ≡ 10 → r ≡ left - 1 → from_line (drop (at + 1) s) r ≡ from_line s n
  line_passed some e less =
      let more : left ≡ suc r = omega arith in
      rw add-one
      (sym (past_end (get_or s at 0) (drop (suc at) s) r e) ∙ sym (ap (λ l. from_line l (suc r)) (drop-cons s at 0 h)) ∙ (rw more at is))

  pub line_goes_on : (left ≡ 0 → ⊥) → (get_or s at 0 ≡ 10 → ⊥) → r ≡ left → from_line (drop (at + 1) s) r ≡ from_line s n
  line_goes_on some d same =
      let more : left ≡ suc (left - 1) = omega arith in
      rw (add-one, same, more)
      (sym (past_other (get_or s at 0) (drop (suc at) s) (left - 1) d) ∙ sym (ap (λ l. from_line l (suc (left - 1))) (drop-cons s at 0 h)) ∙ (rw more at is))

-- ---- `line_end`: the bytes passed and the line from `at` on are the whole line
line_cut : (x : ℕ) (r : List ℕ) → x ≡ 10 → first_line (x ∷ r) ≡ []
unfolding first_line pick
line_cut x r e = rw (eq-eqb x 10 e)

line_on : (x : ℕ) (r : List ℕ) → (x ≡ 10 → ⊥) → first_line (x ∷ r) ≡ x ∷ first_line r
unfolding first_line pick
line_on x r d = rw (ne_eqb x 10 d)

first_nil : first_line [] ≡ []
unfolding first_line
first_nil = refl

length_more : (x : ℕ) (r : List ℕ) → length (first_line (x ∷ r)) ≡ cond (eqb x 10) 0 (1 + length (first_line r))
length_more x r = elim (ℕ_discrete x 10) [ yes e ↦ rw (line_cut x r e, eq-eqb x 10 e) | no d ↦ rw (line_on x r d, ne_eqb x 10 d) (omega arith) ]

pub first_take : (l : List ℕ) → take (length (first_line l)) l ≡ first_line l
first_take [] = rw first_nil
first_take (x ∷ r) =
    elim (ℕ_discrete x 10) [ yes e ↦ rw (line_cut x r e) | no d ↦ rw (line_on x r d) (ap (λ l. x ∷ l) (first_take r)) ]

-- the line is as long as the bytes before the first byte 10, or as all of them
length_is : (l : List ℕ) → length (first_line l) ≡ position_or_len (λ x. eqb x 10) l
length_is = is_position_or_len (λ l. length (first_line l)) (λ x. eqb x 10) (ap length first_nil) length_more

length_found : (l : List ℕ) → unwrap_or (position (λ x. eqb x 10) l) (length l) ≡ length (first_line l)
length_found l =
    let short : min (length (first_line l)) (length l) ≡ length (first_line l) = sym (length-take (length (first_line l)) l) ∙ ap length (first_take l) in
    let long = length_is l in
    ⊎_elim
    (λ (h : position_or_len (λ x. eqb x 10) l < length l). rw (lt-ltb _ _ h) (sym long))
    (λ (h : length l ≤ position_or_len (λ x. eqb x 10) l). rw (le-ltb _ _ h) (omega arith))
    (lt_or_le (position_or_len (λ x. eqb x 10) l) (length l))

module _
    (s : List ℕ) (start r : ℕ) (o : Option ℕ) (inside : start ≤ length s) (found : o ≡ position (λ x. eqb x 10) (take (length s - start) (drop start s)))
    (is : r ≡ unwrap_or o (length (take (length s - start) (drop start s))))
  where
    whole : take (length s - start) (drop start s) ≡ drop start s
    whole = take_all (length s - start) (drop start s) (omega (arith, length-drop start s))

    line_long : r ≡ length (first_line (drop start s))
    line_long = is ∙ rw (found, whole) (length_found (drop start s))

    pub line_taken : take (start + r - start) (drop start s) ≡ first_line (drop start s)
    line_taken = let q : start + r - start ≡ length (first_line (drop start s)) = omega (arith, line_long) in rw q (first_take (drop start s))

    pub line_within : start + r ≤ length s
    line_within =
        let short : min (length (first_line (drop start s))) (length (drop start s)) ≡ length (first_line (drop start s)) = sym (length-take (length (first_line (drop start s))) (drop start s)) ∙ ap length (first_take (drop start s)) in
        omega (arith, line_long, length-drop start s)

-- ---- `label`
good_short : (l : List ℕ) → length l < 1 → good_label l ≡ false
unfolding good_label pick
good_short l h = rw (lt-leb 1 (length l) h)

good_long : (l : List ℕ) → 16 < length l → good_label l ≡ false
unfolding good_label pick
good_long l h = let k : 1 ≤ length l = omega arith in rw (le-leb 1 (length l) k, lt-leb (length l) 16 h)

good_plain : (l : List ℕ) → 1 ≤ length l → length l ≤ 16 → good_label l ≡ list_all plain l
unfolding good_label pick
good_plain l h k = rw (le-leb 1 (length l) h, le-leb (length l) 16 k)

module _
    (s : List ℕ) (n start end : ℕ) (inside : start ≤ length s) (begins : drop start s ≡ from_line s n) (after : start ≤ end) (whole : end ≤ length s)
    (line : take (end - start) (drop start s) ≡ first_line (drop start s))
  where
    is_line : take (end - start) (drop start s) ≡ line_of s n
    unfolding line_of
    is_line = line ∙ ap first_line begins

    line_length : length (line_of s n) ≡ end - start
    line_length = sym (ap length is_line) ∙ simp (length-take, length-drop) (omega arith)

    begun : length s - length (from_line s n) ≡ start
    begun = omega (arith, sym (ap length begins) ∙ length-drop start s)

    module _ (bad : good_label (line_of s n) ≡ false) where
      none : [] ≡ label_of s n
      unfolding label_of pick
      none = rw bad

      nowhere : (q : ℕ) → q ≡ q + label_place s n
      unfolding label_place pick
      nowhere q = rw bad (omega arith)

    -- an empty line, and one that is too long
    short_bad : end - start < 1 → good_label (line_of s n) ≡ false
    short_bad h = good_short (line_of s n) (omega (arith, line_length))

    long_bad : 16 < end - start → good_label (line_of s n) ≡ false
    long_bad h = good_long (line_of s n) (omega (arith, line_length))

    pub short_none : end - start < 1 → [] ≡ label_of s n
    short_none h = none (short_bad h)

    pub short_nowhere : (q : ℕ) → end - start < 1 → q ≡ q + label_place s n
    short_nowhere q h = nowhere (short_bad h) q

    pub long_none : 16 < end - start → [] ≡ label_of s n
    long_none h = none (long_bad h)

    pub long_nowhere : (q : ℕ) → 16 < end - start → q ≡ q + label_place s n
    long_nowhere q h = nowhere (long_bad h) q

    -- a line of the right length, by the test of its bytes
    module _ (some : 1 ≤ end - start) (few : end - start ≤ 16) (r : Bool) (tests : r ≡ list_all plain (take (end - start) (drop start s))) where
      good_is : good_label (line_of s n) ≡ r
      good_is =
          good_plain (line_of s n) (omega (arith, line_length)) (omega (arith, line_length)) ∙ sym (ap (list_all plain) is_line) ∙ sym tests

      pub odd_none : r ≡ false → [] ≡ label_of s n
      odd_none e = none (good_is ∙ e)

      pub odd_nowhere : (q : ℕ) → r ≡ false → q ≡ q + label_place s n
      odd_nowhere q e = nowhere (good_is ∙ e) q

      pub good_line : r ≡ true → take (end - start) (drop start s) ≡ label_of s n
      unfolding label_of pick
      good_line e = rw (good_is, e) is_line

      pub good_place : (q : ℕ) → r ≡ true → start + q ≡ q + label_place s n
      unfolding label_place pick
      good_place q e = rw (good_is, e, begun) (omega arith)

-- ---- `label_answer`: a good label has a byte, so the stretch is empty exactly where there is none
good_some : (l : List ℕ) → good_label l ≡ true → 1 ≤ length l
good_some l good =
    ⊎_elim
    (λ (h : length l < 1).
    let off : false ≡ true = sym (good_short l h) ∙ good in
    absurd (let z : ◌≡◌ {A = ℕ} 0 1 = cc in omega arith))
    (λ (h : 1 ≤ length l). h)
    (lt_or_le (length l) 1)

module _ (s : List ℕ) (n : ℕ) where
  label_good : good_label (line_of s n) ≡ true → (label_of s n ≡ line_of s n) × (label_answer s n ≡ Ok tt)
  unfolding label_of label_answer pick
  label_good good = (rw good, rw good)

  label_bad : good_label (line_of s n) ≡ false → (label_of s n ≡ []) × (label_answer s n ≡ refusal 20 0)
  unfolding label_of label_answer pick
  label_bad bad = (rw bad, rw bad)

  empty_by : (t : Bool) → good_label (line_of s n) ≡ t → length (label_of s n) ≡ 0 → label_answer s n ≡ refusal 20 0
  empty_by true good none = absurd (omega (arith, good_some (line_of s n) good, ap length (label_good good).0))
  empty_by false bad none = (label_bad bad).1

  some_by : (t : Bool) → good_label (line_of s n) ≡ t → (length (label_of s n) ≡ 0 → ⊥) → label_answer s n ≡ Ok tt
  some_by true good some = (label_good good).1
  some_by false bad some = absurd (some (ap length (label_bad bad).0))

  refused_by : (t : Bool) → good_label (line_of s n) ≡ t → label_answer s n ≡ refusal 20 0 → label_of s n ≡ []
  refused_by true good e =
      let off : Ok tt ≡ refusal 20 0 = sym (label_good good).1 ∙ e in
      absurd (let z : ◌≡◌ {A = ℕ} 0 1 = cc in omega arith)
  refused_by false bad e = (label_bad bad).0

  pub no_label : (l : List ℕ) (t : Bool) (e : Refusal) → l ≡ label_of s n → t ≡ eqb (length l) 0 → t ≡ true → e ≡ refusal_at (by 20) 0 → Err e ≡ label_answer s n
  no_label l t e is test empty fault =
      let none : length l ≡ 0 = eqb-true (length l) 0 (sym test ∙ empty) in
      ap Err fault ∙ sym (empty_by (good_label (line_of s n)) refl (sym (ap length is) ∙ none))

  pub a_label : (l : List ℕ) (t : Bool) → l ≡ label_of s n → t ≡ eqb (length l) 0 → t ≡ false → Ok tt ≡ label_answer s n
  a_label l t is test some =
      sym (some_by (good_label (line_of s n)) refl (λ none. let z : true ≡ false = sym (eq-eqb _ _ (ap length is ∙ none)) ∙ sym test ∙ some in cc))

  -- "20 .. an empty stretch": refused exactly where the stretch is empty
  pub label_refused : (label_answer s n ≡ refusal 20 0) ↔ (label_of s n ≡ [])
  label_refused = (
    refused_by (good_label (line_of s n)) refl,
    λ none. empty_by (good_label (line_of s n)) refl (ap length none),
  )
