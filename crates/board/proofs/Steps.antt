-- The ways through the functions, and a test of every numbers below n.
-- Assumes nothing.
use mathlib.Core.Path.{◌≡◌, sym, ap, ◌∙◌}
use mathlib.Core.List.{List, map}
use mathlib.Core.Bool.{Bool, true, false, not}
use Prim.Native.Nat.{ℕ, ◌+◌, ◌-◌, ◌/◌, ◌≤◌, ◌<◌}
use native.Mathlib.Omega.{arith}
use lib.ListN.{length, get_or, replicate, length-map}
use borrow.Author.Tests.{lt-leb, lt-ltb, le-ltb, eq-eqb, ne_eqb, not-true}
use Rattle.std.specs.Prelude.{Ok, Err, Some, ltb}
use Rattle.std.specs.Ordering.{nat_cmp, partial_lt, partial_ordering_then, MatchOrdering}
use Rattle.std.specs.declared.cmp.Ordering.{Ordering}
use Rattle.std.specs.declared.cmp.Ordering.TheVariants.{Less, Equal, Greater}
use Rattle.std.specs.Cmp.{ranks}
use Rattle.base.specs.Pick.{pick}
use Rattle.refusal.specs.Refusal.{refusal_at}
use Rattle.refusal.specs.declared.Refusal.{Refusal}
use Rattle.refusal.specs.declared.Why.TheVariants.{NoRule}
use Rattle.base.proofs.Cases.{finished}
use Rattle.curve.specs.Answers.{flat_of}
use Rattle.curve.specs.Tests.{every}
use Rattle.curve.proofs.GoodLaws.{every_more, every_fails}
use Rattle.curve.specs.declared.Ticks.{Ticks}
use Rattle.curve.specs.declared.Curve.{Curve}
use Rattle.board.specs.declared.Rule.{Rule}
use Rattle.board.specs.declared.Rule.TheVariants.{A, B}
use Rattle.board.specs.declared.Link.{Link}
use Rattle.board.specs.declared.Board.{Board}
use Rattle.board.specs.Board.{plain_link, no_link, blank_curve, link_at, curve_at, rule_number, rule_of, rule_named, usable_under, usable}
use Rattle.board.specs.Tests.{blank_curves, blank_links, empty_of, below_of, link_held, link_good, link_test, links_test, curve_good, curve_test, curves_test}

-- ---- one curve more, one link more: each place passed so far
module _ (b : Board) (k : ℕ) (t : Bool) where
  module _ (new : t ≡ curve_good b.parts k (curve_at b k)) where
    pub one_curve : every k (curve_test b) ≡ true → not t ≡ false → every (k + 1) (curve_test b) ≡ true
    unfolding curve_test
    one_curve is passes = every_more (curve_test b) k t is new passes

    pub curve_fails : k < 64 → not t ≡ true → false ≡ curves_test b
    unfolding curves_test curve_test
    curve_fails h fails = sym (every_fails (curve_test b) 64 k h (sym new ∙ not-true t fails))

  module _ (before : Link) (at : before ≡ link_at b (k - 1)) (new : t ≡ link_good b.parts b.links k before (link_at b k)) where
    pub one_link : every k (link_test b) ≡ true → not t ≡ false → every (k + 1) (link_test b) ≡ true
    unfolding link_test
    one_link is passes = every_more (link_test b) k t is (rw at at new) passes

    pub link_fails : k < 256 → not t ≡ true → false ≡ links_test b
    unfolding links_test link_test
    link_fails h fails = sym (every_fails (link_test b) 256 k h (sym (rw at at new) ∙ not-true t fails))

module _ (b : Board) (k : ℕ) where
  pub all_curves : k ≤ 64 → 64 ≤ k → every k (curve_test b) ≡ true → true ≡ curves_test b
  unfolding curves_test
  all_curves l h is = finished (λ m. every m (curve_test b)) l h (sym is)

  pub all_links : k ≤ 256 → 256 ≤ k → every k (link_test b) ≡ true → true ≡ links_test b
  unfolding links_test
  all_links l h is = finished (λ m. every m (link_test b)) l h (sym is)

pub link_before : (links : List Link) (k : ℕ) → get_or links k no_link ≡ get_or links (k + 1 - 1) no_link
link_before links k = let one : k ≡ k + 1 - 1 = omega arith in ap (λ (l : ℕ). get_or links l no_link) one

pub emptied : (d : Ticks) (n : ℕ) (curve : Curve) (link : Link) → curve ≡ blank_curve → link ≡ plain_link 0 0
    → record { rule = A; deadline = d; parts = n; curve = replicate 64 curve; links = 0; link = replicate 256 link } ≡ empty_of d n
unfolding empty_of blank_curves blank_links
emptied d n curve link blank none = rw (blank, none)

-- the last way through `link_held`
pub in_order : (parts l : ℕ) (before x : Link) (r : Bool) → x.from < parts → x.to < parts → (x.from ≡ x.to → ⊥) → x.delay.0 ≤ 0 → (l ≡ 0 → ⊥)
    → r ≡ below_of before x → r ≡ link_held parts l before x
unfolding link_held pick
in_order parts l before x r from to apart plain later is = rw (lt-leb _ _ from, lt-leb _ _ to, ne_eqb _ _ apart, le-ltb _ _ plain, ne_eqb _ _ later, is)

pub flat_blank : (c : Curve) → c ≡ flat_of (record { 0 = 0 }) (record { 0 = 0 }) → c ≡ blank_curve
unfolding flat_of blank_curve
flat_blank c is = is

-- an array of structs is as long as what stands in memory for it
pub length_mapped : (X Y : Type 0) (f : X → Y) (l : List X) (n : ℕ) → length (map f l) ≡ n → length l ≡ n
length_mapped X Y f l n e = sym (length-map l f) ∙ e

-- ---- the order of two pairs of numbers is by the first, then by the second
module _ (f g t u : ℕ) where
  pairs_by : (r s : Ordering) → MatchOrdering r (f < g) (f ≡ g) (g < f) → MatchOrdering s (t < u) (t ≡ u) (u < t)
      → partial_lt (λ (x y : ℕ). partial_ordering_then (Some r) (Some s)) 0 0 ≡ pick (ltb f g) true (pick (ltb g f) false (ltb t u))
  unfolding pick
  pairs_by Less s h l = rw (lt-ltb f g h)
  pairs_by Greater s h l = let k : g ≤ f = omega arith in rw (le-ltb f g k, lt-ltb g f h)
  pairs_by Equal Less h l = let k : g ≤ f = omega arith in let m : f ≤ g = omega arith in rw (le-ltb f g k, le-ltb g f m, lt-ltb t u l)
  pairs_by Equal Equal h l = let k : g ≤ f = omega arith in let m : f ≤ g = omega arith in let n : u ≤ t = omega arith in rw (le-ltb f g k, le-ltb g f m, le-ltb t u n)
  pairs_by Equal Greater h l = let k : g ≤ f = omega arith in let m : f ≤ g = omega arith in let n : u ≤ t = omega arith in rw (le-ltb f g k, le-ltb g f m, le-ltb t u n)

pub pairs_below : (a x : Link)
    → partial_lt (λ (p q : ℕ × ℕ). partial_ordering_then (Some (nat_cmp p.0 q.0)) (Some (nat_cmp p.1 q.1))) (a.from, a.to) (x.from, x.to) ≡ below_of a x
unfolding below_of
pairs_below a x = pairs_by a.from x.from a.to x.to (nat_cmp a.from x.from) (nat_cmp a.to x.to) (ranks a.from x.from) (ranks a.to x.to)

-- ---- the ways through the functions of rules
module _ (r : Rule) (d : ℕ) where
  pub rule_a : r ≡ A → d ≡ usable_under r d
  unfolding usable_under
  rule_a e = rw e

  pub rule_b : r ≡ B → d - d / 64 ≡ usable_under r d
  unfolding usable_under
  rule_b e = rw e

module _ (r : Rule) where
  pub number_a : r ≡ A → 0 ≡ rule_number r
  number_a e = rw e

  pub number_b : r ≡ B → 1 ≡ rule_number r
  number_b e = rw e

module _ (n : ℕ) where
  pub is_a : n ≡ 0 → Ok A ≡ rule_named n
  unfolding rule_named pick
  is_a e = rw (eq-eqb n 0 e)

  pub is_b : n ≡ 1 → Ok B ≡ rule_named n
  unfolding rule_named pick
  is_b e = rw e

  pub of_a : n ≡ 0 → A ≡ rule_of n
  unfolding rule_of pick
  of_a e = rw (eq-eqb n 0 e)

  pub of_b : (n ≡ 0 → ⊥) → B ≡ rule_of n
  unfolding rule_of pick
  of_b ne = rw (ne_eqb n 0 ne)

  pub is_none : (e : Refusal) → (n ≡ 0 → ⊥) → (n ≡ 1 → ⊥) → e ≡ refusal_at NoRule 0 → Err e ≡ rule_named n
  unfolding rule_named pick
  is_none e none one is = rw (ne_eqb n 0 none, ne_eqb n 1 one, is)

pub under_rule_lem : (b : Board) (r : ℕ) → r ≡ usable_under b.rule b.deadline.0 → r ≡ usable b
unfolding usable
under_rule_lem b r is = is
