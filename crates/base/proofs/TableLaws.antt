-- Laws of tables: their length, their elements, a store into one, and lists that are tables; then tables of the first parts.
-- Assumes nothing.
use mathlib.Core.Path.{◌≡◌, refl, sym, ap, ◌∙◌}
use mathlib.Core.Logic.{⊎_elim}
use mathlib.Core.Bool.{Bool}
use mathlib.Core.List.{List}
use Prim.Native.Nat.{ℕ, zero, suc, min, ◌+◌, ◌≤◌, ◌<◌}
use native.Mathlib.Decide.{ℕ_discrete}
use native.Mathlib.Numerals.{add-one}
use native.Mathlib.Omega.{arith}
use lib.Dec.{ltb}
use lib.ListN.{length, get_or, set, replicate, length-set, get_or-eq_default}
use lib.Seq.{ext_get_or, get_or-set_same, get_or-set_other}
use borrow.Author.Tests.{lt-ltb, le-ltb}
use Rattle.base.specs.Pick.{pick}
use Rattle.base.specs.Table.{table, firsts}
use Rattle.base.proofs.Cases.{finished, lt_or_le}

-- one part more
ltb_other : (j k : ℕ) → (j ≡ k → ⊥) → ltb j k ≡ ltb j (suc k)
ltb_other j k d =
    ⊎_elim (λ (h : j < k). lt-ltb j k h ∙ sym (lt-ltb j (suc k) (omega arith))) (λ (h : k ≤ j). le-ltb j k h ∙ sym (le-ltb j (suc k) (omega arith)))
    (lt_or_le j k)

ltb_cut : (p n : ℕ) → p < 64 → ltb p (min n 64) ≡ ltb p n
ltb_cut p n h =
    ⊎_elim (λ (l : p < n). lt-ltb p (min n 64) (omega arith) ∙ sym (lt-ltb p n l)) (λ (l : n ≤ p). le-ltb p (min n 64) (omega arith) ∙ sym (le-ltb p n l))
    (lt_or_le p n)

pub table_length : {A : Type 0} (n : ℕ) (f : ℕ → A) → length (table n f) ≡ n
unfolding table
table_length zero f = refl
table_length (suc n) f = ap suc (table_length n (λ i. f (suc i)))

-- as many of one value
pub all_table : {A : Type 0} (n : ℕ) (v : A) → replicate n v ≡ table n (λ p. v)
unfolding table
all_table zero v = refl
all_table (suc n) v = rw (all_table n v)

module _ {A : Type 0} (none : A) where
  pub table_at : (n : ℕ) (f : ℕ → A) (i : ℕ) → i < n → get_or (table n f) i none ≡ f i
  unfolding table
  table_at zero f i h = absurd (omega arith)
  table_at (suc n) f zero h = refl
  table_at (suc n) f (suc i) h = table_at n (λ j. f (suc j)) i (omega arith)

  pub table_past : (n : ℕ) (f : ℕ → A) (i : ℕ) → n ≤ i → get_or (table n f) i none ≡ none
  table_past n f i h = get_or-eq_default (table n f) none {n = i} (rw (table_length n f) h)

  -- a list that agrees with f at each place is f's table
  pub table_is : (n : ℕ) (f : ℕ → A) (xs : List A) → length xs ≡ n → ((i : ℕ) → i < n → get_or xs i none ≡ f i) → xs ≡ table n f
  table_is n f xs room at =
      ext_get_or none xs (table n f) (room ∙ sym (table_length n f))
      (λ i h. let k : i < n = omega (arith, room) in at i k ∙ sym (table_at n f i k))

  pub table_ext : (n : ℕ) (f g : ℕ → A) → ((i : ℕ) → i < n → f i ≡ g i) → table n f ≡ table n g
  table_ext n f g same = table_is n g (table n f) (table_length n f) (λ i h. table_at n f i h ∙ same i h)

  -- a store makes the table of what differs at that place alone
  pub table_set : (n : ℕ) (f g : ℕ → A) (i : ℕ) (v : A) → i < n → v ≡ g i → ((j : ℕ) → j < n → (j ≡ i → ⊥) → f j ≡ g j)
      → set (table n f) i v ≡ table n g
  table_set n f g i v h is others =
      table_is n g (set (table n f) i v) (length-set (table n f) i v ∙ table_length n f)
      (λ j k. elim (ℕ_discrete j i) [
        | yes e ↦ rw e (get_or-set_same (table n f) i v none (rw (table_length n f) h) ∙ is)
        | no d ↦ get_or-set_other (table n f) i j v none d ∙ table_at n f j k ∙ others j k d
      ])

  -- two lists of 64 places that hold the same at the first n and nothing past them
  pub same_places : (n : ℕ) (xs ys : List A) → length xs ≡ 64 → length ys ≡ 64 → ((p : ℕ) → p < n → get_or xs p none ≡ get_or ys p none) →
      ((p : ℕ) → n ≤ p → get_or xs p none ≡ none) → ((p : ℕ) → n ≤ p → get_or ys p none ≡ none) → xs ≡ ys
  same_places n xs ys lx ly at past past' =
      ext_get_or none xs ys (lx ∙ sym ly) (λ p _. ⊎_elim (at p) (λ (h : n ≤ p). past p h ∙ sym (past' p h)) (lt_or_le p n))

  -- ---- tables of the first parts
  module _ (f : ℕ → A) where
    pub firsts_none : (xs : List A) → xs ≡ table 64 (λ p. none) → xs ≡ firsts none 0 f
    unfolding firsts pick
    firsts_none xs is = is ∙ table_ext 64 _ _ (λ p h. rw (le-ltb p 0 (omega arith)))

    pub firsts_more : (xs : List A) (k : ℕ) (v : A) → k < 64 → xs ≡ firsts none k f → v ≡ f k → set xs k v ≡ firsts none (k + 1) f
    unfolding firsts pick
    firsts_more xs k v h is new =
        rw (add-one, is)
        (table_set 64 _ _ k v h (new ∙ rw (lt-ltb k (suc k) (omega arith))) (λ j l d. ap (λ (t : Bool). pick t (f j) none) (ltb_other j k d)))

    -- a count cut to the places there are makes no difference
    pub firsts_cut : (n : ℕ) → firsts none (min n 64) f ≡ firsts none n f
    unfolding firsts
    firsts_cut n = table_ext 64 _ _ (λ p h. ap (λ (t : Bool). pick t (f p) none) (ltb_cut p n h))

    pub firsts_done : (xs : List A) (k n : ℕ) → k ≤ n → n ≤ k → xs ≡ firsts none k f → xs ≡ firsts none n f
    firsts_done xs k n = finished (λ i. firsts none i f)

    module _ (n : ℕ) where
      pub firsts_at : n ≤ 64 → (p : ℕ) → p < n → get_or (firsts none n f) p none ≡ f p
      unfolding firsts pick
      firsts_at to p h = table_at 64 _ p (omega arith) ∙ rw (lt-ltb p n h)

      pub firsts_past : (p : ℕ) → n ≤ p → get_or (firsts none n f) p none ≡ none
      unfolding firsts pick
      firsts_past p h = ⊎_elim (λ (l : p < 64). table_at 64 _ p l ∙ rw (le-ltb p n h)) (table_past 64 _ p) (lt_or_le p 64)

      pub firsts_room : length (firsts none n f) ≡ 64
      unfolding firsts
      firsts_room = table_length 64 _
