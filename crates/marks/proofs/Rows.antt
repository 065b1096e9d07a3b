-- Rows of marks: bit q of row p is set exactly where one that passes the test leads from p to q.
-- Assumes nothing.
use mathlib.Core.Path.{◌≡◌, refl, sym, ◌∙◌}
use mathlib.Core.Logic.{◌≢◌, ⊎_elim}
use mathlib.Core.Bool.{Bool, true, false}
use mathlib.Core.List.{List}
use Prim.Native.Nat.{ℕ, zero, suc, ◌+◌, ◌≤◌, ◌<◌, ◌^◌}
use native.Mathlib.Omega.{arith}
use native.Mathlib.Numerals.{add-one}
use lib.ListN.{length, get_or, set, replicate, length-replicate, length-set}
use lib.Seq.{get_or-set_same, get_or-set_other}
use lib.Dec.{lit<}
use borrow.Author.Tests.{lt-ltb, le-ltb}
use Rattle.base.specs.Pick.{pick}
use Rattle.base.proofs.Cases.{lt_or_le, eq_or_ne}
use Rattle.marks.specs.Marks.{bit, insert_of}
use Rattle.marks.specs.Rows.{no_rows, with_mark, marks_up_to}
use Rattle.marks.proofs.Bits.{bit_none, insert_same, insert_other, insert_keeps, insert_fits}

-- ---- the ways of `mark`
module _ (rows : List ℕ) (p q : ℕ) where
  pub mark_put : (x : ℕ) → p < 64 → x ≡ insert_of (get_or rows p 0) q → set rows p x ≡ with_mark rows p q
  unfolding with_mark pick
  mark_put x h e = rw (e, lt-ltb p 64 h)

  pub mark_past : 64 ≤ p → rows ≡ with_mark rows p q
  unfolding with_mark pick
  mark_past h = rw (le-ltb p 64 h)

zeros_at : (n p : ℕ) → get_or {A = ℕ} (replicate n 0) p 0 ≡ 0
zeros_at zero p = refl
zeros_at (suc n) zero = refl
zeros_at (suc n) (suc p) = zeros_at n p

-- ---- one mark more: the row stays, or it is row p and gets mark q
module _ (P : List ℕ → Type 0) (rows : List ℕ) (p q : ℕ) where
  -- what holds of the rows as they were and of those with the mark put holds of the result
  marked_elim : (add : Bool) → P rows → (add ≡ true → p < 64 → P (set rows p (insert_of (get_or rows p 0) q))) → P (pick add (with_mark rows p q) rows)
  unfolding with_mark pick
  marked_elim false was put = was
  marked_elim true was put =
      ⊎_elim (λ h. rw (lt-ltb p 64 h) (put refl h)) (λ h. rw (le-ltb p 64 h) was) (lt_or_le p 64)

-- the element at r of rows with another row p
module _ (P : ℕ → Type 0) (rows : List ℕ) (room : length rows ≡ 64) (p x r : ℕ) where
  set_elim : p < 64 → (p ≡ r → P x) → (p ≢ r → P (get_or rows r 0)) → P (get_or (set rows p x) r 0)
  set_elim h same other =
      ⊎_elim
      (λ e. rw (← e, get_or-set_same rows p x 0 (omega arith)) (same e))
      (λ ne. rw (get_or-set_other rows p r x 0 (λ e. ne (sym e))) (other ne))
      (eq_or_ne p r)

-- ---- the rows after the first k
module _ (test : ℕ → Bool) (from to : ℕ → ℕ) where
  pub marks_room : (k : ℕ) → length (marks_up_to test from to k) ≡ 64
  unfolding marks_up_to no_rows
  marks_room zero = length-replicate {A = ℕ} 64 0
  marks_room (suc k) =
      let rows = marks_up_to test from to k in
      marked_elim (λ (x : List ℕ). length x ≡ 64) rows (from k) (to k) (test k) (marks_room k) (λ e h. length-set rows (from k) _ ∙ marks_room k)

  pub marks_fit : (k p : ℕ) → get_or (marks_up_to test from to k) p 0 < 2 ^ 64
  unfolding marks_up_to no_rows
  marks_fit zero p = rw (zeros_at 64 p) (lit< tt)
  marks_fit (suc k) p =
      let rows = marks_up_to test from to k in
      marked_elim (λ (x : List ℕ). get_or x p 0 < 2 ^ 64) rows (from k) (to k) (test k) (marks_fit k p)
      (λ e h. set_elim (λ (x : ℕ). x < 2 ^ 64) rows (marks_room k) (from k) _ p h (λ same. insert_fits _ (to k) (marks_fit k (from k))) (λ ne. marks_fit k p))

  -- one among the first k passes, and leads from p to q
  pub record Entry (k p q : ℕ) : Type 0 where
    pub link : ℕ
    pub here : link < k
    pub leaves : from link ≡ p
    pub enters : to link ≡ q
    pub passes : test link ≡ true

  entry_more : (k p q : ℕ) → Entry k p q → Entry (suc k) p q
  entry_more k p q e = record { link = e.link; here = omega (arith, e.here); leaves = e.leaves; enters = e.enters; passes = e.passes }

  -- a mark comes from one
  pub mark_entry : (k p q : ℕ) → bit (get_or (marks_up_to test from to k) p 0) q ≡ 1 → Entry k p q
  unfolding marks_up_to no_rows
  mark_entry zero p q h = let z : bit (get_or {A = ℕ} (replicate 64 0) p 0) q ≡ 0 = rw (zeros_at 64 p) (bit_none q) in absurd (omega arith)
  mark_entry (suc k) p q h =
      let rows = marks_up_to test from to k in
      let before : bit (get_or rows p 0) q ≡ 1 → Entry (suc k) p q = λ g. entry_more k p q (mark_entry k p q g) in
      marked_elim (λ (x : List ℕ). bit (get_or x p 0) q ≡ 1 → Entry (suc k) p q) rows (from k) (to k) (test k) before
      (λ passes below.
      set_elim (λ (x : ℕ). bit x q ≡ 1 → Entry (suc k) p q) rows (marks_room k) (from k) _ p below
      (λ same got.
      ⊎_elim
      (λ e. record { link = k; here = omega arith; leaves = same; enters = e; passes = passes })
      (λ ne. before (rw (← same) (sym (insert_other (get_or rows (from k) 0) (to k) q ne) ∙ got)))
      (eq_or_ne (to k) q))
      (λ ne. before))
      h

  -- a mark stays
  mark_stays : (k p q : ℕ) → bit (get_or (marks_up_to test from to k) p 0) q ≡ 1 → bit (get_or (marks_up_to test from to (suc k)) p 0) q ≡ 1
  unfolding marks_up_to
  mark_stays k p q was =
      let rows = marks_up_to test from to k in
      marked_elim (λ (x : List ℕ). bit (get_or x p 0) q ≡ 1) rows (from k) (to k) (test k) was
      (λ e h. set_elim (λ (x : ℕ). bit x q ≡ 1) rows (marks_room k) (from k) _ p h (λ same. insert_keeps _ (to k) q (rw same was)) (λ ne. was))

  -- one that passes makes a mark
  mark_made : (k : ℕ) → test k ≡ true → from k < 64 → to k < 64 → bit (get_or (marks_up_to test from to (suc k)) (from k) 0) (to k) ≡ 1
  unfolding marks_up_to with_mark pick
  mark_made k passes f t =
      let rows = marks_up_to test from to k in
      rw (passes, lt-ltb (from k) 64 f, get_or-set_same rows (from k) (insert_of (get_or rows (from k) 0) (to k)) 0 (omega (arith, marks_room k)))
      (insert_same (get_or rows (from k) 0) (to k) t)

  pub entry_mark : (k i : ℕ) → i < k → test i ≡ true → from i < 64 → to i < 64 → bit (get_or (marks_up_to test from to k) (from i) 0) (to i) ≡ 1
  entry_mark zero i h passes f t = absurd (omega arith)
  entry_mark (suc k) i h passes f t =
      ⊎_elim (λ new. rw (← new) (mark_made i passes f t)) (λ ne. mark_stays k (from i) (to i) (entry_mark k i (omega arith) passes f t)) (eq_or_ne i k)

  -- the rows that a loop makes
  pub marks_none : replicate 64 0 ≡ marks_up_to test from to 0
  unfolding marks_up_to no_rows
  marks_none = refl

  pub marks_more : (rows rows' : List ℕ) (k : ℕ) → rows ≡ marks_up_to test from to k → test k ≡ true → rows' ≡ with_mark rows (from k) (to k)
      → rows' ≡ marks_up_to test from to (k + 1)
  unfolding marks_up_to pick
  marks_more rows rows' k is passes new = rw (add-one, passes, ← is) new

  pub marks_passed : (rows : List ℕ) (k : ℕ) → rows ≡ marks_up_to test from to k → test k ≡ false → rows ≡ marks_up_to test from to (k + 1)
  unfolding marks_up_to pick
  marks_passed rows k is fails = rw (add-one, fails) is

-- rows go by what leads where, and by nothing else
pub marks_alike : (test : ℕ → Bool) (from to from' to' : ℕ → ℕ) (k : ℕ) → ((l : ℕ) → l < k → from l ≡ from' l) → ((l : ℕ) → l < k → to l ≡ to' l)
    → marks_up_to test from to k ≡ marks_up_to test from' to' k
unfolding marks_up_to
marks_alike test from to from' to' zero f t = refl
marks_alike test from to from' to' (suc k) f t =
    rw (f k (omega arith), t k (omega arith), marks_alike test from to from' to' k (λ l h. f l (omega arith)) (λ l h. t l (omega arith)))
