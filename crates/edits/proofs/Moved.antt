-- Rows of links with one more or one less, as slices are copied.
-- Assumes nothing.
use mathlib.Core.Path.{◌≡◌, refl, sym, ap, ◌∙◌}
use mathlib.Core.Logic.{⊎_elim}
use mathlib.Core.Bool.{Bool, true, false, not}
use mathlib.Core.List.{List}
use Prim.Native.Nat.{ℕ, zero, suc, ◌+◌, ◌-◌, ◌≤◌, ◌<◌}
use native.Mathlib.Omega.{arith}
use lib.ListN.{length, get_or, set, take, drop, length-set, get_or-eq_default}
use lib.Seq.{ext_get_or, get_or-set_same, get_or-set_other}
use borrow.Rule.Slice.PartMut.{put_mid}
use borrow.Author.Tests.{lt-ltb, le-ltb, eq-eqb, ne_eqb, le-leb, leb-true, not-false}
use Rattle.std.proofs.Common.{rules}
use Rattle.std.proofs.lemmas.List.{places}
use Rattle.base.specs.Pick.{pick}
use Rattle.base.proofs.Cases.{lt_or_le, eq_or_ne}
use Rattle.board.specs.declared.Link.{Link}
use Rattle.board.specs.declared.Board.{Board}
use Rattle.board.specs.Board.{Linked, plain_link, link_at, no_link}
use Rattle.board.specs.Tests.{below_of}
use Rattle.theory.specs.Sum.{sum}
use Rattle.edits.specs.Edits.{count_before, place_of, has_link_of, inserted_at, inserted_of, removed_at, removed_of}
use Rattle.edits.proofs.Places.{inserted_at_lem, inserted_length, removed_at_lem, removed_length, has_linked}
use Rattle.board.proofs.LinkLaws.{both_hold}
use Rattle.edits.proofs.Ways.{one_or_none, before_le}

same_rows : (xs ys : List Link) → length xs ≡ 256 → length ys ≡ 256 → ((k : ℕ) → k < 256 → get_or xs k no_link ≡ get_or ys k no_link) → xs ≡ ys
same_rows xs ys lx ly at = ext_get_or no_link xs ys (lx ∙ sym ly) (λ k h. at k (omega (arith, lx)))

module _ (old : List Link) (long : length old ≡ 256) (at : ℕ) (h : at < 256) where
  module _ (x : Link) (ys : List Link) (is : ys ≡ take (255 - at) (drop at old)) where
    abbrev more : List Link
    more = put_mid (at + 1) (256 - (at + 1)) old ys

    more_length : length more ≡ 256
    more_length = rw is (search (rules, places))

    more_below : (k : ℕ) → k < at → get_or more k no_link ≡ get_or old k no_link
    more_below k l = rw is (search (rules, places))

    more_above : (k : ℕ) → k < 256 → at < k → get_or more k no_link ≡ get_or old (k - 1) no_link
    more_above k r l = rw is (search (rules, places))

    pub put_in : set more at x ≡ inserted_of old at x
    unfolding inserted_at pick
    put_in =
        same_rows _ _ (length-set more at x ∙ more_length) (inserted_length old long at x)
        (λ k r.
        ⊎_elim
        (λ (l : k < at).
        let other : k ≡ at → ⊥ = λ e. omega arith in
        get_or-set_other more at k x no_link other ∙ more_below k l ∙ sym (inserted_at_lem old long at x k r ∙ rw (lt-ltb k at l)))
        (λ (l : at ≤ k).
        ⊎_elim
        (λ (e : k ≡ at). rw e (get_or-set_same more at x no_link (omega (arith, more_length)) ∙ sym (inserted_at_lem old long at x at h ∙ rw (le-ltb at at (omega arith), eq-eqb at at refl))))
        (λ (d : k ≡ at → ⊥).
        get_or-set_other more at k x no_link d ∙ more_above k r (omega arith)
        ∙ sym (inserted_at_lem old long at x k r ∙ rw (le-ltb k at l, ne_eqb k at d)))
        (eq_or_ne k at))
        (lt_or_le k at))

  module _ (x : Link) (blank : x ≡ plain_link 0 0) (ys : List Link) (is : ys ≡ take (256 - (at + 1)) (drop (at + 1) old)) where
    abbrev less : List Link
    less = put_mid at (255 - at) old ys

    less_length : length less ≡ 256
    less_length = rw is (search (rules, places))

    less_below : (k : ℕ) → k < at → get_or less k no_link ≡ get_or old k no_link
    less_below k l = rw is (search (rules, places))

    less_above : (k : ℕ) → k < 255 → at ≤ k → get_or less k no_link ≡ get_or old (k + 1) no_link
    less_above k r l = rw is (search (rules, places))

    pub put_out : set less 255 x ≡ removed_of old at
    unfolding removed_at pick
    put_out =
        same_rows _ _ (length-set less 255 x ∙ less_length) (removed_length old long at)
        (λ k r.
        ⊎_elim
        (λ (e : k ≡ 255).
        let past : length old ≤ 255 + 1 = omega arith in
        rw e
        (get_or-set_same less 255 x no_link (omega (arith, less_length)) ∙ blank
        ∙ sym (removed_at_lem old long at 255 (omega arith) ∙ rw (le-ltb 255 at (omega arith)) (get_or-eq_default old no_link {n = 256} past))))
        (λ (d : k ≡ 255 → ⊥).
        get_or-set_other less 255 k x no_link d
        ∙ ⊎_elim
        (λ (l : k < at). less_below k l ∙ sym (removed_at_lem old long at k r ∙ rw (lt-ltb k at l)))
        (λ (l : at ≤ k). less_above k (omega arith) l ∙ sym (removed_at_lem old long at k r ∙ rw (le-ltb k at l)))
        (lt_or_le k at))
        (eq_or_ne k 255))

-- ---- a link that the board has stands below its end
below_none_same : (a x : Link) → a.from ≡ x.from → a.to ≡ x.to → below_of a x ≡ false
unfolding below_of pick
below_none_same a x f t =
    let from : x.from ≤ a.from = omega arith in
    let back : a.from ≤ x.from = omega arith in
    let to : x.to ≤ a.to = omega arith in
    rw (le-ltb _ _ from, le-ltb _ _ back, le-ltb _ _ to)

counted_less : (b : Board) (x : Link) (l : ℕ) → below_of (link_at b l) x ≡ false → (n : ℕ) → l < n → count_before b x n < n
unfolding count_before sum pick
counted_less b x l off zero h = absurd (omega arith)
counted_less b x l off (suc n) h =
    ⊎_elim
    (λ (k : l < n). omega (arith, counted_less b x l off n k, one_or_none (below_of (link_at b n) x)))
    (λ (k : n ≤ l).
    let same : n ≡ l = omega arith in
    let none : ◌≡◌ {A = ℕ} (pick (below_of (link_at b n) x) 1 0) 0 = rw (same, off) in
    omega (arith, none, before_le b x n))
    (lt_or_le l n)

module _ (b : Board) (from to : ℕ) where
  few_linked : has_link_of b (plain_link from to) ≡ true → b.links ≤ 256
  unfolding has_link_of
  few_linked e = leb-true _ _ (both_hold _ _ e).0

  place_below : b.links ≤ 256 → Linked b from to → place_of b (plain_link from to) < b.links
  unfolding place_of pick
  place_below few k = rw (le-leb _ _ few) (counted_less b (plain_link from to) k.link (below_none_same _ _ k.from k.to) b.links k.here)

  pub place_out : (there : Bool) (x : Link) (at : ℕ) → there ≡ has_link_of b (plain_link from to) → not there ≡ false → x ≡ plain_link from to
      → at ≡ place_of b x → at < 256
  place_out there x at is passes named place =
      let has : has_link_of b (plain_link from to) ≡ true = sym is ∙ not-false there passes in
      let few = few_linked has in
      omega (arith, place ∙ ap (place_of b) named, place_below few (has_linked b from to has))

pub place_in : (b : Board) (x : Link) (at : ℕ) → b.links < 256 → at ≡ place_of b x → at < 256
unfolding place_of pick
place_in b x at room place = let few : b.links ≤ 256 = omega arith in omega (arith, rw (le-leb _ _ few) at place, before_le b x b.links)
