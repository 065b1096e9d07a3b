-- The tests of a board's curves say what `WellFormed` asks of them, and all tests together decide `WellFormed`.
-- Assumes nothing.
use mathlib.Core.Path.{◌≡◌, refl, sym, ◌∙◌}
use mathlib.Core.Logic.{◌⊎◌, inl, inr, ⊎_elim}
use mathlib.Core.Bool.{Bool, true, false, not}
use mathlib.Core.List.{List}
use Prim.Native.Nat.{ℕ, ◌≤◌, ◌<◌}
use native.Mathlib.Omega.{arith}
use lib.ListN.{length, replicate}
use lib.Pointwise.{pointwise_decides}
use borrow.Author.Tests.{lt-ltb, le-ltb, eq-eqb, eqb-true, not-true, not-false}
use Rattle.base.specs.Pick.{pick}
use Rattle.base.proofs.Cases.{lt_or_le, eq_or_ne}
use Rattle.curve.specs.declared.Run.{Run}
use Rattle.curve.specs.declared.Curve.{Curve}
use Rattle.curve.specs.Curve.{Good, no_run}
use Rattle.curve.proofs.GoodLaws.{every_at, every_all, goodb_good, good_goodb, decides_goodb}
use Rattle.board.specs.declared.Link.{Link}
use Rattle.board.specs.declared.Board.{Board}
use Rattle.board.specs.Board.{WellFormed, curve_at, blank_curve, plain_link}
use Rattle.board.specs.Tests.{Decides, same_link, same_run, same_curve, link_held, link_good, curve_good, curve_test, curves_test, links_test}
use Rattle.board.proofs.LinkLaws.{clash, and_true, held_of, blank_of, ascends_of, links_pass}

-- ---- a blank curve
made : (f p n : ℕ) (r s : List Run) → f ≡ 0 → p ≡ 0 → n ≡ 0 → r ≡ s
    → ◌≡◌ {A = Curve} (record { fastest = record { 0 = f }; power = record { 0 = p }; count = n; runs = r })
    (record { fastest = record { 0 = 0 }; power = record { 0 = 0 }; count = 0; runs = s })
made f p n r s fast power count runs = rw (fast, power, count, runs)

run_made : (a b s t : ℕ) → a ≡ b → s ≡ t
    → ◌≡◌ {A = Run} (record { length = record { 0 = a }; saving = record { 0 = s } }) (record { length = record { 0 = b }; saving = record { 0 = t } })
run_made a b s t length saving = rw (length, saving)

run_decided : (a x : Run) → (same_run a x ≡ true → a ≡ x) × (a ≡ x → same_run a x ≡ true)
run_decided a x = (
  λ e. let p = and_true _ _ e in run_made a.length.0 x.length.0 a.saving.0 x.saving.0 (eqb-true _ _ p.0) (eqb-true _ _ p.1),
  λ e. rw (e, eq-eqb x.length.0 x.length.0 refl, eq-eqb x.saving.0 x.saving.0 refl),
)

pub blank_curve_is : (c : Curve) → same_curve c blank_curve ≡ true → c ≡ blank_curve
unfolding blank_curve
blank_curve_is c e =
    let fast = and_true _ _ e in
    let power = and_true _ _ fast.1 in
    let count = and_true _ _ power.1 in
    made c.fastest.0 c.power.0 c.count c.runs (replicate 4 no_run) (eqb-true _ _ fast.0) (eqb-true _ _ power.0) (eqb-true _ _ count.0)
    ((pointwise_decides run_decided c.runs (replicate 4 no_run)).0 count.1)

pub is_blank_curve : same_curve blank_curve blank_curve ≡ true
unfolding blank_curve
is_blank_curve = refl

-- ---- all curves
module _ (b : Board) (good : curves_test b ≡ true) where
  curve_of : (p : ℕ) → p < b.parts → p < 64 → Good (curve_at b p)
  unfolding curves_test curve_test curve_good pick
  curve_of p h r = goodb_good (curve_at b p) (rw (lt-ltb p b.parts h) at (every_at (curve_test b) 64 good p r))

  blank_curve_of : (p : ℕ) → b.parts ≤ p → p < 64 → curve_at b p ≡ blank_curve
  unfolding curves_test curve_test curve_good pick
  blank_curve_of p h r = blank_curve_is (curve_at b p) (rw (le-ltb p b.parts h) at (every_at (curve_test b) 64 good p r))

module _ (b : Board) (w : WellFormed b) where
  curve_passes : (p : ℕ) → p < 64 → curve_test b p ≡ true
  unfolding curve_test curve_good pick
  curve_passes p r =
      ⊎_elim
      (λ (h : p < b.parts). rw (lt-ltb _ _ h) (good_goodb (curve_at b p) (w.curves p h)))
      (λ (h : b.parts ≤ p). rw (le-ltb _ _ h, w.blank_curves p h r) is_blank_curve)
      (lt_or_le p b.parts)

  pub curves_pass : curves_test b ≡ true
  unfolding curves_test
  curves_pass = every_all (curve_test b) 64 curve_passes

-- ---- the ways of `curve_good` and `link_good`
pub curve_good_is : (parts p : ℕ) (c : Curve) (r : Bool) → p < parts → Decides r (Good c) → r ≡ curve_good parts p c
unfolding curve_good pick
curve_good_is parts p c r h good = rw (lt-ltb p parts h) (decides_goodb r c good)

pub curve_blank_is : (parts p : ℕ) (c blank : Curve) (r : Bool) → parts ≤ p → blank ≡ blank_curve → r ≡ same_curve c blank → r ≡ curve_good parts p c
unfolding curve_good pick
curve_blank_is parts p c blank r h none is = is ∙ rw (none, le-ltb p parts h)

module _ (parts links l : ℕ) (before x : Link) (r : Bool) where
  pub link_held_is : l < links → r ≡ link_held parts l before x → r ≡ link_good parts links l before x
  unfolding link_good pick
  link_held_is h is = rw (lt-ltb l links h) is

  pub link_blank_is : (blank : Link) → links ≤ l → blank ≡ plain_link 0 0 → r ≡ same_link x blank → r ≡ link_good parts links l before x
  unfolding link_good pick
  link_blank_is blank h none is = is ∙ rw (none, le-ltb l links h)

-- ---- the ways of `well_formed`
refuses : (b : Board) → (WellFormed b → ⊥) → Decides false (WellFormed b)
refuses b none = record { yes = clash; no = λ w. absurd (none w) }

module _ (b : Board) where
  pub deadline_low : b.deadline.0 < 1 → Decides false (WellFormed b)
  deadline_low h = refuses b (λ w. omega (arith, w.deadline_from))

  pub deadline_high : 4095 < b.deadline.0 → Decides false (WellFormed b)
  deadline_high h = refuses b (λ w. omega (arith, w.deadline_to))

  pub parts_none : b.parts < 1 → Decides false (WellFormed b)
  parts_none h = refuses b (λ w. omega (arith, w.parts_from))

  pub parts_many : 64 < b.parts → Decides false (WellFormed b)
  parts_many h = refuses b (λ w. omega (arith, w.parts_to))

  pub links_many : 256 < b.links → Decides false (WellFormed b)
  links_many h = refuses b (λ w. omega (arith, w.links_to))

  pub curves_bad : (r : Bool) → r ≡ curves_test b → not r ≡ true → Decides false (WellFormed b)
  curves_bad r is bad = refuses b (λ w. let e = sym (not-true r bad) ∙ is ∙ curves_pass b w in clash e)

  pub links_decide : (s r : Bool) → length b.curve ≡ 64 → length b.link ≡ 256 → 1 ≤ b.deadline.0 → b.deadline.0 ≤ 4095 → 1 ≤ b.parts → b.parts ≤ 64 → b.links ≤ 256
      → s ≡ curves_test b → not s ≡ false → r ≡ links_test b → Decides r (WellFormed b)
  links_decide s r long wide d₁ d₂ p₁ p₂ few is good ir =
      let curves : curves_test b ≡ true = sym is ∙ not-false s good in
      record {
        yes = λ e.
            let links : links_test b ≡ true = sym ir ∙ e in
            record {
              deadline_from = d₁;
              deadline_to = d₂;
              parts_from = p₁;
              parts_to = p₂;
              curves = λ p h. curve_of b curves p h (omega arith);
              links_to = few;
              from_in = λ l h. (held_of b p₂ links l h (omega arith)).from_in;
              to_in = λ l h. (held_of b p₂ links l h (omega arith)).to_in;
              apart = λ l h. (held_of b p₂ links l h (omega arith)).apart;
              plain = λ l h. (held_of b p₂ links l h (omega arith)).plain;
              ascends = λ l h. ascends_of b p₂ links l h (omega arith);
              blank_curves = blank_curve_of b curves;
              blank_links = blank_of b p₂ links;
              curve_room = long;
              link_room = wide;
            };
        no = λ w. ir ∙ links_pass b w;
      }

-- ---- so every value is well formed or not
module _ (b : Board) where
  by_tests : length b.curve ≡ 64 → length b.link ≡ 256 → 1 ≤ b.deadline.0 → b.deadline.0 ≤ 4095 → 1 ≤ b.parts → b.parts ≤ 64 → b.links ≤ 256 →
      (s r : Bool) → s ≡ curves_test b → r ≡ links_test b → WellFormed b ⊎ (WellFormed b → ⊥)
  by_tests long wide d₁ d₂ p₁ p₂ few false r is ir = inr (λ w. clash (is ∙ curves_pass b w))
  by_tests long wide d₁ d₂ p₁ p₂ few true false is ir = inr (λ w. clash (ir ∙ links_pass b w))
  by_tests long wide d₁ d₂ p₁ p₂ few true true is ir = inl ((links_decide b true true long wide d₁ d₂ p₁ p₂ few is refl ir).yes refl)

  pub formed_or_not : WellFormed b ⊎ (WellFormed b → ⊥)
  formed_or_not =
      ⊎_elim
      (λ (long : length b.curve ≡ 64).
      ⊎_elim
      (λ (wide : length b.link ≡ 256).
      ⊎_elim (λ (h : b.deadline.0 < 1). inr (λ w. omega (arith, w.deadline_from)))
      (λ (d₁ : 1 ≤ b.deadline.0).
      ⊎_elim (λ (h : 4095 < b.deadline.0). inr (λ w. omega (arith, w.deadline_to)))
      (λ (d₂ : b.deadline.0 ≤ 4095).
      ⊎_elim (λ (h : b.parts < 1). inr (λ w. omega (arith, w.parts_from)))
      (λ (p₁ : 1 ≤ b.parts).
      ⊎_elim (λ (h : 64 < b.parts). inr (λ w. omega (arith, w.parts_to)))
      (λ (p₂ : b.parts ≤ 64).
      ⊎_elim (λ (h : 256 < b.links). inr (λ w. omega (arith, w.links_to)))
      (λ (few : b.links ≤ 256). by_tests long wide d₁ d₂ p₁ p₂ few (curves_test b) (links_test b) refl refl) (lt_or_le 256 b.links))
      (lt_or_le 64 b.parts)) (lt_or_le b.parts 1)) (lt_or_le 4095 b.deadline.0)) (lt_or_le b.deadline.0 1))
      (λ (ne : length b.link ≡ 256 → ⊥). inr (λ w. ne w.link_room)) (eq_or_ne (length b.link) 256))
      (λ (ne : length b.curve ≡ 64 → ⊥). inr (λ w. ne w.curve_room)) (eq_or_ne (length b.curve) 64)
