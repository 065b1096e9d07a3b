-- Where a link stands: the place that is counted parts the links into those before it and the others, and a link that is there stands at its
-- place. And what a row filled place by place holds.
-- Assumes nothing.
use mathlib.Core.Path.{◌≡◌, refl, sym, ◌∙◌}
use mathlib.Core.Logic.{◌⊎◌, inl, inr, ⊎_elim}
use mathlib.Core.Bool.{Bool, true, false}
use mathlib.Core.List.{List}
use Prim.Native.Nat.{ℕ, zero, suc, ◌-◌, ◌≤◌, ◌<◌}
use native.Mathlib.Omega.{arith}
use native.Mathlib.Decide.{ℕ_discrete}
use native.Mathlib.Numerals.{add-one}
use lib.ListN.{length, get_or, length-set}
use lib.Seq.{get_or-set_same, get_or-set_other}
use borrow.Author.Tests.{lt-ltb, le-ltb, le-leb, eq-eqb, ne_eqb, eqb-true}
use Rattle.base.specs.Pick.{pick}
use Rattle.base.proofs.Cases.{lt_or_le}
use Rattle.board.specs.declared.Link.{Link}
use Rattle.board.specs.declared.Board.{Board}
use Rattle.board.specs.Board.{WellFormed, Linked, plain_link, link_at, no_link, order}
use Rattle.board.specs.Tests.{Decides, below_of}
use Rattle.board.proofs.LinkLaws.{clash, below_one, below_none, both_hold}
use Rattle.board.proofs.Ascending.{Parted, parted, rises}
use Rattle.board.proofs.SameBoard.{orders, to_below}
use Rattle.edits.specs.Edits.{count_before, place_of, some, same_ends, has_link_of, filled, inserted_at, inserted_of, removed_at, removed_of}
use Rattle.edits.proofs.Ways.{ends_at, link_found}

not_so : (t : Bool) → (t ≡ true → ⊥) → t ≡ false
not_so true h = absurd (h refl)
not_so false h = refl

-- ---- the place
module _ (b : Board) (w : WellFormed b) (x : Link) (small : x.to < 64) where
  pub place_parts : Parted (orders b) (order x) b.links (place_of b x)
  unfolding place_of count_before pick
  place_parts = rw (le-leb _ _ w.links_to)
      (parted b.links (orders b) (λ l. pick (below_of (link_at b l) x) 1 0) (order x) w.ascends
      (λ l h s. rw (below_one (link_at b l) x (to_below b w l h) small s))
      (λ l h s. rw (below_none (link_at b l) x (to_below b w l h) small s))
      b.links (omega arith))

  -- a link with the order of x stands at its place
  pub place_is : (l : ℕ) → l < b.links → orders b l ≡ order x → place_of b x ≡ l
  place_is l h e =
      let p = place_parts in
      let le : place_of b x ≤ l = ⊎_elim (λ (s : l < place_of b x). absurd (omega (arith, p.below l s))) (λ (s : place_of b x ≤ l). s) (lt_or_le l (place_of b x)) in
      ⊎_elim
      (λ (s : place_of b x < l). absurd (omega (arith, p.above (place_of b x) (omega arith) (omega arith), rises b.links (orders b) w.ascends (place_of b x) l s h)))
      (λ (s : l ≤ place_of b x). omega arith)
      (lt_or_le (place_of b x) l)

-- ---- a board has a link exactly where some link has its ends
record Found (n : ℕ) (p : ℕ → Bool) : Type 0 where
  at : ℕ
  here : at < n
  passes : p at ≡ true

either_one : (t u : Bool) → pick t true u ≡ true → (t ≡ true) ⊎ (u ≡ true)
unfolding pick
either_one true u e = inl refl
either_one false u e = inr e

some_found : (n : ℕ) (p : ℕ → Bool) → some n p ≡ true → Found n p
unfolding some
some_found zero p e = clash e
some_found (suc n) p e = ⊎_elim
    (λ (h : p n ≡ true). record { at = n; here = omega arith; passes = h })
    (λ (h : some n p ≡ true). let f = some_found n p h in record { at = f.at; here = omega (arith, f.here); passes = f.passes })
    (either_one (p n) (some n p) e)

pub has_linked : (b : Board) (from to : ℕ) → has_link_of b (plain_link from to) ≡ true → Linked b from to
unfolding has_link_of same_ends
has_linked b from to e =
    let f = some_found b.links (λ l. same_ends (link_at b l) (plain_link from to)) (both_hold _ _ e).1 in
    let ends = both_hold _ _ f.passes in
    record { link = f.at; here = f.here; from = eqb-true _ _ ends.0; to = eqb-true _ _ ends.1 }

module _ (b : Board) (w : WellFormed b) (from to : ℕ) (k : Linked b from to) where
  pub ends_small : to < 64
  ends_small = omega (arith, to_below b w k.link k.here, k.to)

  pub linked_place : place_of b (plain_link from to) ≡ k.link
  linked_place = place_is b w (plain_link from to) ends_small k.link k.here (omega (arith, k.from, k.to))

  linked_ends : ends_at b from to k.link ≡ true
  unfolding same_ends pick
  linked_ends = rw (eq-eqb _ _ k.from, eq-eqb _ _ k.to)

  pub linked_has : has_link_of b (plain_link from to) ≡ true
  linked_has = sym (link_found b from to k.link true w.links_to k.here (sym linked_ends) refl)

pub has_link_decides : (b : Board) → WellFormed b → (from to : ℕ) → Decides (has_link_of b (plain_link from to)) (Linked b from to)
has_link_decides b w from to = record { yes = has_linked b from to; no = linked_has b w from to }

pub missing_false : (b : Board) (from to : ℕ) → (Linked b from to → ⊥) → has_link_of b (plain_link from to) ≡ false
missing_false b from to none = not_so (has_link_of b (plain_link from to)) (λ e. none (has_linked b from to e))

-- ---- rows
module _ (old : List Link) (f : ℕ → Link) where
  pub filled_length : (n : ℕ) → length (filled old f n) ≡ length old
  unfolding filled
  filled_length zero = refl
  filled_length (suc n) = length-set (filled old f n) n (f n) ∙ filled_length n

  pub filled_at : (n k : ℕ) → n ≤ length old → k < n → get_or (filled old f n) k no_link ≡ f k
  unfolding filled
  filled_at zero k long h = absurd (omega arith)
  filled_at (suc n) k long h = elim (ℕ_discrete k n) [
    | yes same ↦ rw same (get_or-set_same (filled old f n) n (f n) no_link (rw (filled_length n) long))
    | no other ↦ get_or-set_other (filled old f n) n k (f n) no_link other ∙ filled_at n k (omega arith) (omega arith)
  ]

module _ (old : List Link) (long : length old ≡ 256) (at : ℕ) where
  module _ (x : Link) where
    pub inserted_at_lem : (k : ℕ) → k < 256 → get_or (inserted_of old at x) k no_link ≡ inserted_at old at x k
    unfolding inserted_of
    inserted_at_lem k h = filled_at old (inserted_at old at x) 256 k (rw long (omega arith)) h

    pub inserted_length : length (inserted_of old at x) ≡ 256
    unfolding inserted_of
    inserted_length = filled_length old (inserted_at old at x) 256 ∙ long

    pub inserted_below : (k : ℕ) → k < 256 → k < at → get_or (inserted_of old at x) k no_link ≡ get_or old k no_link
    unfolding inserted_at pick
    inserted_below k h l = inserted_at_lem k h ∙ rw (lt-ltb _ _ l)

    pub inserted_here : at < 256 → get_or (inserted_of old at x) at no_link ≡ x
    unfolding inserted_at pick
    inserted_here h = inserted_at_lem at h ∙ rw (le-ltb at at (omega arith), eq-eqb at at refl)

    pub inserted_above : (k : ℕ) → suc k < 256 → at ≤ k → get_or (inserted_of old at x) (suc k) no_link ≡ get_or old k no_link
    unfolding inserted_at pick
    inserted_above k h l =
        let past : at ≤ suc k = omega arith in
        let other : suc k ≡ at → ⊥ = λ e. omega arith in
        let less : suc k - 1 ≡ k = omega arith in
        inserted_at_lem (suc k) h ∙ rw (le-ltb _ _ past, ne_eqb _ _ other, less)

  pub removed_at_lem : (k : ℕ) → k < 256 → get_or (removed_of old at) k no_link ≡ removed_at old at k
  unfolding removed_of
  removed_at_lem k h = filled_at old (removed_at old at) 256 k (rw long (omega arith)) h

  pub removed_length : length (removed_of old at) ≡ 256
  unfolding removed_of
  removed_length = filled_length old (removed_at old at) 256 ∙ long

  pub removed_below : (k : ℕ) → k < 256 → k < at → get_or (removed_of old at) k no_link ≡ get_or old k no_link
  unfolding removed_at pick
  removed_below k h l = removed_at_lem k h ∙ rw (lt-ltb _ _ l)

  pub removed_above : (k : ℕ) → k < 256 → at ≤ k → get_or (removed_of old at) k no_link ≡ get_or old (suc k) no_link
  unfolding removed_at pick
  removed_above k h l = removed_at_lem k h ∙ rw (le-ltb _ _ l, add-one)
