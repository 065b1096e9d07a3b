-- The test `goodb` is true exactly of the good curves: `goodb_good` and `good_goodb`.
-- Assumes nothing.
use mathlib.Core.Path.{◌≡◌, refl, sym, ◌∙◌}
use mathlib.Core.Bool.{Bool, true, false, not}
use mathlib.Core.Logic.{⊎_elim}
use Prim.Native.Nat.{ℕ, zero, suc, ◌+◌, ◌-◌, ◌≤◌, ◌<◌}
use native.Mathlib.Omega.{arith}
use native.Mathlib.Numerals.{add-one}
use lib.Dec.{ltb, eqb}
use borrow.Author.Tests.{not-false, ltb-true, leb-true, eqb-true, lt-ltb, le-leb, lt-leb, eq-eqb, ne_eqb}
use Rattle.base.specs.Pick.{pick}
use Rattle.base.specs.Decides.{Decides}
use Rattle.base.proofs.Cases.{lt_or_le}
use Rattle.base.proofs.Deciding.{decides_same}
use Rattle.theory.proofs.SumLaws.{below_suc}
use Rattle.curve.specs.declared.Run.{Run}
use Rattle.curve.specs.declared.Curve.{Curve}
use Rattle.curve.specs.Curve.{no_run, run_at, length_at, saving_at, Good}
use Rattle.curve.specs.Tests.{both, every, blankb, rangedb, placeb, goodb}

-- ---- both of two tests, and a test at every number below n
both_left : (a b : Bool) → both a b ≡ true → a ≡ true
unfolding pick
both_left true b h = refl
both_left false b h = h

both_right : (a b : Bool) → both a b ≡ true → b ≡ true
unfolding pick
both_right true b h = h
both_right false b h = absurd (let z : ◌≡◌ {A = ℕ} 0 1 = cc in omega arith)

both_true : (a b : Bool) → a ≡ true → b ≡ true → both a b ≡ true
unfolding pick
both_true a b p q = rw (p, q)

-- what is not true is false
not_true_false : (t : Bool) → (t ≡ true → ⊥) → t ≡ false
not_true_false true h = absurd (h refl)
not_true_false false h = refl

module _ (p : ℕ → Bool) where
  pub every_none : every 0 p ≡ true
  unfolding every
  every_none = refl

  pub every_more : (k : ℕ) (t : Bool) → every k p ≡ true → t ≡ p k → not t ≡ false → every (k + 1) p ≡ true
  unfolding every
  every_more k t h is here = rw add-one (both_true _ _ h (sym is ∙ not-false t here))

  pub every_at : (n : ℕ) → every n p ≡ true → (i : ℕ) → i < n → p i ≡ true
  unfolding every
  every_at zero h = λ i l. absurd (omega arith)
  every_at (suc n) h = below_suc (every_at n (both_left _ _ h)) (both_right _ _ h)

  pub every_all : (n : ℕ) → ((i : ℕ) → i < n → p i ≡ true) → every n p ≡ true
  unfolding every
  every_all zero h = refl
  every_all (suc n) h = both_true _ _ (every_all n (λ i l. h i (omega arith))) (h n (omega arith))

  -- a test that fails once fails for good
  pub every_fails : (n k : ℕ) → k < n → p k ≡ false → every n p ≡ false
  every_fails n k l fails =
      not_true_false (every n p) (λ h. let here = every_at n h k l in let z : ◌≡◌ {A = ℕ} 0 1 = cc in omega arith)

-- ---- a run
record Ranged (run : Run) : Type 0 where
  length_from : 1 ≤ run.length.0
  length_to : run.length.0 ≤ 255
  saving_from : 1 ≤ run.saving.0
  saving_to : run.saving.0 ≤ 1000

rangedb_ranged : (run : Run) → rangedb run ≡ true → Ranged run
unfolding rangedb
rangedb_ranged run h =
    let h₁ = both_right _ _ h in
    let h₂ = both_right _ _ h₁ in
    record {
      length_from = leb-true _ _ (both_left _ _ h);
      length_to = leb-true _ _ (both_left _ _ h₁);
      saving_from = leb-true _ _ (both_left _ _ h₂);
      saving_to = leb-true _ _ (both_right _ _ h₂);
    }

ranged_rangedb : (run : Run) → Ranged run → rangedb run ≡ true
unfolding rangedb
ranged_rangedb run h =
    both_true _ _ (le-leb _ _ h.length_from)
    (both_true _ _ (le-leb _ _ h.length_to) (both_true _ _ (le-leb _ _ h.saving_from) (le-leb _ _ h.saving_to)))

run_eq : (a b x y : ℕ) → a ≡ b → x ≡ y
    → ◌≡◌ {A = Run} (record { length = record { 0 = a }; saving = record { 0 = x } }) (record { length = record { 0 = b }; saving = record { 0 = y } })
run_eq a b x y p q = rw (p, q)

blankb_blank : (run : Run) → blankb run ≡ true → run ≡ no_run
unfolding blankb
blankb_blank run h = run_eq _ _ _ _ (eqb-true _ _ (both_left _ _ h)) (eqb-true _ _ (both_right _ _ h))

no_run_blankb : blankb no_run ≡ true
unfolding blankb pick
no_run_blankb = refl

-- ---- a place
module _ (c : Curve) where
  -- the savings fall to place i
  abbrev fallsb : ℕ → Bool
  fallsb i = pick (eqb i 0) true (ltb (saving_at c i) (saving_at c (i - 1)))

  place_run : (i : ℕ) → i < c.count → placeb c i ≡ both (rangedb (run_at c i)) (fallsb i)
  unfolding placeb pick
  place_run i h = rw (lt-leb c.count i h)

  place_blank : (i : ℕ) → c.count ≤ i → placeb c i ≡ blankb (run_at c i)
  unfolding placeb pick
  place_blank i h = rw (le-leb c.count i h)

  falls_test : (i : ℕ) → fallsb (suc i) ≡ ltb (saving_at c (suc i)) (saving_at c i)
  unfolding pick
  falls_test i =
      let later : eqb (suc i) 0 ≡ false = ne_eqb (suc i) 0 (λ z. omega arith) in
      let back : suc i - 1 ≡ i = omega arith in
      rw (later, back)

  falls_fallsb : Good c → (i : ℕ) → i < c.count → fallsb i ≡ true
  unfolding pick
  falls_fallsb good zero h = refl
  falls_fallsb good (suc i) h = falls_test i ∙ lt-ltb _ _ (good.falls i h)

  module _ (ok : every 4 (placeb c) ≡ true) (few : c.count ≤ 4) where
    at_run : (i : ℕ) → i < c.count → both (rangedb (run_at c i)) (fallsb i) ≡ true
    at_run i h = sym (place_run i h) ∙ every_at (placeb c) 4 ok i (omega arith)

    ranged_at : (i : ℕ) → i < c.count → Ranged (run_at c i)
    ranged_at i h = rangedb_ranged (run_at c i) (both_left _ _ (at_run i h))

  place_good : Good c → (i : ℕ) → i < 4 → placeb c i ≡ true
  unfolding length_at saving_at
  place_good good i h =
      ⊎_elim
      (λ l. place_run i l ∙ both_true _ _ (ranged_rangedb (run_at c i) (record {
        length_from = good.length_from i l;
        length_to = good.length_to i l;
        saving_from = good.saving_from i l;
        saving_to = good.saving_to i l;
      })) (falls_fallsb good i l))
      (λ l. place_blank i l ∙ rw (good.blank i l h) no_run_blankb)
      (lt_or_le i c.count)

  pub goodb_good : goodb c ≡ true → Good c
  unfolding goodb length_at saving_at
  goodb_good h =
      let h₁ = both_right _ _ h in
      let h₂ = both_right _ _ h₁ in
      let h₃ = both_right _ _ h₂ in
      let h₄ = both_right _ _ h₃ in
      let h₅ = both_right _ _ h₄ in
      let few : c.count ≤ 4 = leb-true _ _ (both_left _ _ h₃) in
      let ok : every 4 (placeb c) ≡ true = both_left _ _ h₄ in
      record {
        fastest_from = leb-true _ _ (both_left _ _ h);
        fastest_to = leb-true _ _ (both_left _ _ h₁);
        power_to = leb-true _ _ (both_left _ _ h₂);
        count_to = few;
        length_from = λ i l. (ranged_at ok few i l).length_from;
        length_to = λ i l. (ranged_at ok few i l).length_to;
        saving_from = λ i l. (ranged_at ok few i l).saving_from;
        saving_to = λ i l. (ranged_at ok few i l).saving_to;
        falls = λ i l. ltb-true _ _ (sym (falls_test i) ∙ both_right _ _ (at_run ok few (suc i) l));
        affords = leb-true _ _ (both_left _ _ h₅);
        blank = λ i l u. blankb_blank (run_at c i) (sym (place_blank i l) ∙ every_at (placeb c) 4 ok i u);
        room = eqb-true _ _ (both_right _ _ h₅);
      }

  pub good_goodb : Good c → goodb c ≡ true
  unfolding goodb
  good_goodb good =
      both_true _ _ (le-leb _ _ good.fastest_from)
      (both_true _ _ (le-leb _ _ good.fastest_to)
      (both_true _ _ (le-leb _ _ good.power_to)
      (both_true _ _ (le-leb _ _ good.count_to)
      (both_true _ _ (every_all (placeb c) 4 (place_good good))
      (both_true _ _ (le-leb _ _ good.affords) (eq-eqb _ _ good.room))))))

-- so it decides, and what decides is it
pub goodb_decides : (r : Bool) (c : Curve) → r ≡ goodb c → Decides r (Good c)
goodb_decides r c is = record { yes = λ e. goodb_good c (sym is ∙ e); no = λ good. is ∙ good_goodb c good }

pub decides_goodb : (r : Bool) (c : Curve) → Decides r (Good c) → r ≡ goodb c
decides_goodb r c good = decides_same r (goodb c) (Good c) good (goodb_decides (goodb c) c refl)
