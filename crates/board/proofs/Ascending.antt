-- Numbers in strictly ascending order: two such rows with the same members are the same, and how many stand below a number.
-- Assumes nothing.
use mathlib.Core.Path.{◌≡◌, sym}
use mathlib.Core.Logic.{⊎_elim}
use Prim.Native.Nat.{ℕ, zero, suc, ◌+◌, ◌≤◌, ◌<◌}
use native.Mathlib.Omega.{arith}
use native.Mathlib.Decide.{ℕ_discrete}
use Rattle.base.proofs.Cases.{lt_or_le}
use Rattle.theory.specs.Sum.{sum}

-- the first n values of f ascend
abbrev pub Ascends : ℕ → (ℕ → ℕ) → Type 0
Ascends n f = (l : ℕ) → suc l < n → f l < f (suc l)

-- v is one of the first n values of f
pub record Within (n : ℕ) (f : ℕ → ℕ) (v : ℕ) : Type 0 where
  pub at : ℕ
  pub here : at < n
  pub is : f at ≡ v

module _ (n : ℕ) (f : ℕ → ℕ) (up : Ascends n f) where
  pub rises : (i j : ℕ) → i < j → j < n → f i < f j
  rises i zero h l = absurd (omega arith)
  rises i (suc j) h l = elim (ℕ_discrete i j) [
    | yes same ↦ rw same (up j l)
    | no other ↦ omega (arith, rises i j (omega arith) (omega arith), up j l)
  ]

  pub rises_le : (i j : ℕ) → i ≤ j → j < n → f i ≤ f j
  rises_le i j h l = elim (ℕ_discrete i j) [
    | yes same ↦ rw same (omega arith)
    | no other ↦ omega (arith, rises i j (omega arith) l)
  ]

-- the first k values of f and of g are the same
pub record Agree (k n : ℕ) (f g : ℕ → ℕ) : Type 0 where
  pub fits : k ≤ n
  pub same : (i : ℕ) → i < k → f i ≡ g i

module _ (m n : ℕ) (f g : ℕ → ℕ) (up : Ascends m f) (vp : Ascends n g) where
  -- a value of g that equals f k stands no earlier
  later : (k : ℕ) → k < m → Agree k n f g → (w : Within n g (f k)) → k ≤ w.at
  later k h a w = ⊎_elim (λ (l : w.at < k). absurd (omega (arith, rises m f up w.at k l h, a.same w.at l, w.is))) (λ (l : k ≤ w.at). l) (lt_or_le w.at k)

module _ (m n : ℕ) (f g : ℕ → ℕ) (up : Ascends m f) (vp : Ascends n g) (there : (i : ℕ) → i < m → Within n g (f i)) (back : (j : ℕ) → j < n → Within m f (g j)) where
  next : (k : ℕ) → k < m → Agree k n f g → Agree (suc k) n f g
  next k h a =
      let w = there k h in
      let l : k ≤ w.at = later m n f g up vp k h a w in
      let in_g : k < n = omega (arith, w.here) in
      let v = back k in_g in
      let b : Agree k m g f = record { fits = omega arith; same = λ i s. sym (a.same i s) } in
      let u : k ≤ v.at = later n m g f vp up k in_g b v in
      let here : f k ≡ g k = omega (arith, rises_le m f up k v.at u v.here, rises_le n g vp k w.at l w.here, v.is, w.is) in
      record {
        fits = in_g;
        same = λ i s. elim (ℕ_discrete i k) [
          | yes e ↦ rw e here
          | no e ↦ a.same i (omega arith)
        ];
      }

  pub agree : (k : ℕ) → k ≤ m → Agree k n f g
  agree zero h = record { fits = omega arith; same = λ i l. absurd (omega arith) }
  agree (suc k) h = next k h (agree k (omega arith))

-- ---- how many of the first values stand below x, where t tells of each whether it does
pub record Parted (f : ℕ → ℕ) (x m k : ℕ) : Type 0 where
  pub under : k ≤ m
  pub below : (l : ℕ) → l < k → f l < x
  pub above : (l : ℕ) → k ≤ l → l < m → x ≤ f l

module _ (n : ℕ) (f t : ℕ → ℕ) (x : ℕ) (up : Ascends n f) (one : (l : ℕ) → l < n → f l < x → t l ≡ 1) (none : (l : ℕ) → l < n → x ≤ f l → t l ≡ 0) where
  counted : (m k : ℕ) → m < n → Parted f x m k → f m < x → k ≡ m
  counted m k h p l = ⊎_elim (λ (s : k < m). absurd (omega (arith, p.above k (omega arith) s, rises n f up k m s h))) (λ (s : m ≤ k). omega (arith, p.under)) (lt_or_le k m)

  all_below : (m : ℕ) → m < n → f m < x → Parted f x (suc m) (suc m)
  all_below m h s = record {
    under = omega arith;
    below = λ l b. omega (arith, rises_le n f up l m (omega arith) h);
    above = λ l a b. absurd (omega arith);
  }

  one_above : (m k : ℕ) → Parted f x m k → x ≤ f m → Parted f x (suc m) k
  one_above m k p s = record {
    under = omega (arith, p.under);
    below = p.below;
    above = λ l a b. elim (ℕ_discrete l m) [
      | yes e ↦ rw e s
      | no e ↦ p.above l a (omega arith)
    ];
  }

  pub parted : (m : ℕ) → m ≤ n → Parted f x m (sum m t)
  unfolding sum
  parted zero h = record { under = omega arith; below = λ l b. absurd (omega arith); above = λ l a b. absurd (omega arith) }
  parted (suc m) h =
      let p = parted m (omega arith) in
      ⊎_elim
      (λ (s : f m < x). let e : sum m t + t m ≡ suc m = omega (arith, one m h s, counted m (sum m t) h p s) in rw e (all_below m h s))
      (λ (s : x ≤ f m). let e : sum m t + t m ≡ sum m t = omega (arith, none m h s) in rw e (one_above m (sum m t) p s))
      (lt_or_le (f m) x)
