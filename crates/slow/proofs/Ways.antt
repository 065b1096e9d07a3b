-- The ways through the loops and the walk, in plain values.
-- Assumes nothing.
use mathlib.Core.Path.{◌≡◌, refl, sym, ap, ◌∙◌}
use mathlib.Core.List.{List, []}
use Prim.Native.Nat.{ℕ, zero, suc, ◌+◌, ◌-◌, ◌%◌, ◌≤◌, ◌<◌}
use native.Mathlib.Omega.{arith}
use native.Mathlib.Numerals.{add-one, sub-one}
use lib.Dec.{eqb, ltb}
use lib.ListN.{length, get_or, set, take, replicate}
use mathlib.Core.Logic.{◌⊎◌, ⊎_elim}
use mathlib.Core.Bool.{Bool, true, false}
use Rattle.std.specs.Prelude.{Option, Some, None}
use Rattle.std.proofs.lemmas.List.{length-take-le, get_or-take}
use borrow.Author.Tests.{le-leb, lt-leb, eq-eqb, ne_eqb}
use Rattle.base.specs.Pick.{pick}
use Rattle.base.proofs.Cases.{eq_or_ne, finished, pick_elim}
use Rattle.base.proofs.TableLaws.{all_table, table_at, table_ext, table_set}
use Rattle.curve.specs.declared.Ticks.{Ticks}
use Rattle.curve.specs.Rows.{ticks_at}
use Rattle.board.specs.declared.Link.{Link}
use Rattle.board.specs.Board.{no_link, delay_of}
use Rattle.times.specs.Rounds.{InPlaces}
use Rattle.slow.specs.declared.Trail.{Trail}
use Rattle.slow.specs.Walk.{last_of, lower_of, back_of, backs_of, trail_of, pushed_of, walk_of}

-- ---- last_part
module _ (e : List Ticks) where
  pub last_none : 0 ≡ last_of e 0
  unfolding last_of
  last_none = refl

  pub last_below : (k : ℕ) → k ≤ 64 → last_of e k < 64
  unfolding last_of
  last_below zero h = omega arith
  last_below (suc k) h = pick_elim (λ i. i < 64) _ k (last_of e k) (omega arith) (last_below k (omega arith))

  module _ (last k n : ℕ) (is : last ≡ last_of e k) where
    pub last_in : k ≤ n → n ≤ 64 → last < 64
    last_in h l = rw is (last_below k (omega arith))

    pub last_more : (r : ℕ) → r ≡ pick (ltb (ticks_at e last) (ticks_at e k)) k last → r ≡ last_of e (k + 1)
    unfolding last_of
    last_more r new = rw (add-one, ← is) new

    pub last_done : k ≤ n → n ≤ k → last ≡ last_of e n
    last_done h l = finished (last_of e) h l is

-- ---- backs
module _ (link : List Link) (s e : List Ticks) (k : ℕ) where
  abbrev pub l : Link
  l = get_or link k no_link

  back_there : (j : ℕ) → (l.to ≡ j → ⊥) → back_of link s e k j ≡ back_of link s e (suc k) j
  unfolding back_of pick
  back_there j d = rw (ne_eqb l.to j d)

  back_lower : eqb (ticks_at e l.from + delay_of l) (ticks_at s l.to) ≡ true → lower_of (back_of link s e k l.to) l.from ≡ back_of link s e (suc k) l.to
  unfolding back_of pick
  back_lower is = rw (eq-eqb l.to l.to refl, is)

  back_kept : eqb (ticks_at e l.from + delay_of l) (ticks_at s l.to) ≡ false → (j : ℕ) → back_of link s e k j ≡ back_of link s e (suc k) j
  unfolding back_of pick
  back_kept is j = ⊎_elim (λ (q : l.to ≡ j). rw (← q, eq-eqb l.to l.to refl, is)) (λ (d : l.to ≡ j → ⊥). rw (ne_eqb l.to j d)) (eq_or_ne l.to j)

module _ (link : List Link) (s e : List Ticks) where
  pub backs_none : replicate 64 None ≡ backs_of link s e 0
  unfolding backs_of back_of
  backs_none = all_table 64 None

  module _ (k : ℕ) (h : k < length link) (back : List (Option ℕ)) (w : Ticks) (t : Bool) (isw : w.0 ≡ delay_of (get_or link k no_link))
      (ist : t ≡ eqb (ticks_at e ((get_or link k no_link).from % 64) + w.0) (ticks_at s ((get_or link k no_link).to % 64)))
      (before : InPlaces link (length link) → back ≡ backs_of link s e k) (ok : InPlaces link (length link)) where
    to-is : (get_or link k no_link).to % 64 ≡ (get_or link k no_link).to
    to-is = omega (arith, ok.to_in k h)

    from-is : (get_or link k no_link).from % 64 ≡ (get_or link k no_link).from
    from-is = omega (arith, ok.from_in k h)

    test : t ≡ eqb (ticks_at e (get_or link k no_link).from + delay_of (get_or link k no_link)) (ticks_at s (get_or link k no_link).to)
    test = ist ∙ rw (to-is, from-is, isw)

    pub backs_more : (v : Option ℕ) → t ≡ true → v ≡ lower_of (get_or back ((get_or link k no_link).to % 64) None) ((get_or link k no_link).from % 64)
        → set back ((get_or link k no_link).to % 64) v ≡ backs_of link s e (k + 1)
    unfolding backs_of
    backs_more v hit isv =
        let to = (get_or link k no_link).to in
        let is = before ok in
        let v-is : v ≡ lower_of (get_or back to None) (get_or link k no_link).from = isv ∙ rw (to-is, from-is) in
        rw (add-one, to-is, is)
        (table_set None 64 (back_of link s e k) (back_of link s e (suc k)) to v (ok.to_in k h)
        (v-is ∙ rw (is, table_at None 64 (back_of link s e k) to (ok.to_in k h)) (back_lower link s e k (sym test ∙ hit)))
        (λ j i d. back_there link s e k j (λ q. d (sym q))))

    pub backs_kept : t ≡ false → back ≡ backs_of link s e (k + 1)
    unfolding backs_of
    backs_kept miss = rw add-one (before ok ∙ table_ext None 64 _ _ (λ j i. back_kept link s e k (sym test ∙ miss) j))

  pub backs_done : (back : List (Option ℕ)) (k : ℕ) → k ≤ length link → length link ≤ k → (InPlaces link (length link) → back ≡ backs_of link s e k)
      → InPlaces link (length link) → back ≡ backs_of link s e (length link)
  backs_done back k h i is ok = finished (backs_of link s e) h i (is ok)

-- by the first links of a row
module _ (link : List Link) (m : ℕ) (room : m ≤ length link) (s e : List Ticks) where
  back_held : (k p : ℕ) → k ≤ m → back_of (take m link) s e k p ≡ back_of link s e k p
  unfolding back_of
  back_held zero p h = refl
  back_held (suc k) p h = rw (get_or-take m link k no_link (omega arith), back_held k p (omega arith))

  pub backs_held : backs_of (take m link) s e (length (take m link)) ≡ backs_of link s e m
  unfolding backs_of
  backs_held = rw (length-take-le m link room) (table_ext None 64 _ _ (λ p h. back_held m p (omega arith)))

  pub places_held : InPlaces link m → InPlaces (take m link) (length (take m link))
  places_held ok = record {
    from_in = λ l h. let i : l < m = omega (arith, length-take-le m link room) in rw (get_or-take m link l no_link i) (ok.from_in l i);
    to_in = λ l h. let i : l < m = omega (arith, length-take-le m link room) in rw (get_or-take m link l no_link i) (ok.to_in l i);
  }

-- ---- pushed, walk
module _ (back : List (Option ℕ)) where
  pub nowhere : (left : ℕ) (at : Option ℕ) (r : Trail) → r ≡ trail_of [] → at ≡ None → r ≡ walk_of left back at
  unfolding walk_of
  nowhere zero at r is e = is
  nowhere (suc n) at r is e = rw e is

  module _ (p : ℕ) (at : Option ℕ) (here : at ≡ Some p) where
    pub spent : (left : ℕ) (r : Trail) → r ≡ trail_of [] → left ≡ 0 → r ≡ walk_of left back at
    unfolding walk_of
    spent left r is e = rw e is

    pub no_part : (left : ℕ) (r : Trail) → r ≡ trail_of [] → 64 ≤ p → r ≡ walk_of left back at
    unfolding walk_of pick
    no_part zero r is h = is
    no_part (suc n) r is h = rw (here, le-leb 64 p h) is

    pub stopped : (left : ℕ) (r : Trail) → r ≡ trail_of [] → (left ≡ 0) ⊎ ((left ≡ 0 → ⊥) × (64 ≤ p)) → r ≡ walk_of left back at
    stopped left r is either = ⊎_elim (λ e. spent left r is e) (λ h. no_part left r is h.1) either

    pub onward : (left : ℕ) (before r : Trail) → (left ≡ 0 → ⊥) → p < 64 → before ≡ walk_of (left - 1) back (get_or back p None)
        → r ≡ pushed_of before p → r ≡ walk_of left back at
    unfolding walk_of pick
    onward zero before r ne h q new = absurd (ne refl)
    onward (suc n) before r ne h q new = rw (here, lt-leb 64 p h) (new ∙ ap (λ (t : Trail). pushed_of t p) (rw sub-one at q))

pub less : (left t : ℕ) → (left ≡ 0 → ⊥) → left ≡ t → left - 1 < t
less left t ne e = omega arith
