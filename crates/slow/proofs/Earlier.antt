-- How many parts end before a part: a number below that of the parts, which falls with the end. A walk back has no more steps.
-- Assumes nothing.
use mathlib.Core.Path.{◌≡◌}
use mathlib.Core.Logic.{⊎_elim}
use Prim.Native.Nat.{ℕ, ◌≤◌, ◌<◌}
use native.Mathlib.Omega.{arith}
use lib.Dec.{ltb}
use borrow.Author.Tests.{lt-ltb, le-ltb}
use Rattle.base.specs.Pick.{pick}
use Rattle.base.proofs.Cases.{lt_or_le}
use Rattle.theory.specs.Sum.{sum}
use Rattle.theory.proofs.SumLaws.{sum_eq, sum_const}

-- sums in order term by term, one of them strictly
sum_lt : (n : ℕ) {f g : ℕ → ℕ} → ((i : ℕ) → i < n → f i ≤ g i) → (i : ℕ) → i < n → f i < g i → sum n f < sum n g
sum_lt n {f} {g} le i h less = ⊎_elim (λ (l : sum n f < sum n g). l) (λ (l : sum n g ≤ sum n f). absurd (omega (arith, sum_eq n le l i h))) (lt_or_le (sum n f) (sum n g))

-- 1 where x is below y, else 0
unfoldable pub below : ℕ → ℕ → ℕ
below x y = pick (ltb x y) 1 0

below_yes : (x y : ℕ) → x < y → below x y ≡ 1
unfolding below pick
below_yes x y h = rw (lt-ltb x y h)

below_no : (x y : ℕ) → y ≤ x → below x y ≡ 0
unfolding below pick
below_no x y h = rw (le-ltb x y h)

below_to : (x y : ℕ) → below x y ≤ 1
below_to x y = ⊎_elim (λ (l : x < y). omega (arith, below_yes x y l)) (λ (l : y ≤ x). omega (arith, below_no x y l)) (lt_or_le x y)

below_mono : (x y z : ℕ) → y ≤ z → below x y ≤ below x z
below_mono x y z h =
    ⊎_elim (λ (l : x < y). omega (arith, below_yes x y l, below_yes x z (omega arith))) (λ (l : y ≤ x). omega (arith, below_no x y l))
    (lt_or_le x y)

module _ (n : ℕ) (e : ℕ → ℕ) where
  unfoldable pub earlier : ℕ → ℕ
  earlier p = sum n (λ q. below (e q) (e p))

  pub earlier_lt : (p : ℕ) → p < n → earlier p < n
  unfolding earlier
  earlier_lt p h =
      omega (
        arith,
        sum_lt n {f = λ q. below (e q) (e p)} {g = λ q. 1} (λ i l. below_to (e i) (e p)) p h (omega (arith, below_no (e p) (e p) (omega arith))),
        sum_const n 1,
      )

  pub earlier_falls : (q p : ℕ) → q < n → e q < e p → earlier q < earlier p
  unfolding earlier
  earlier_falls q p h less =
      sum_lt n (λ i l. below_mono (e i) (e q) (e p) (omega arith)) q h
      (omega (arith, below_no (e q) (e q) (omega arith), below_yes (e q) (e p) less))
