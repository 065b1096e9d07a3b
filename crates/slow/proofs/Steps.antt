-- What the loops find: the last part, and the steps back.
-- Assumes nothing.
use mathlib.Core.Path.{◌≡◌, refl, sym, ap, ◌∙◌}
use mathlib.Core.Logic.{inl, inr, ⊎_elim}
use mathlib.Core.List.{List}
use Prim.Native.Nat.{ℕ, zero, suc, min, ◌+◌, ◌≤◌, ◌<◌}
use native.Mathlib.Omega.{arith}
use lib.ListN.{get_or}
use borrow.Author.Tests.{lt-ltb, le-ltb, eq-eqb, ne_eqb}
use Rattle.base.specs.Pick.{pick}
use Rattle.base.proofs.Cases.{lt_or_le, eq_or_ne, pick_elim}
use Rattle.theory.specs.Sum.{share}
use Rattle.theory.specs.Graph.{Graph}
use Rattle.theory.specs.Budget.{greatest, arrive, Timed}
use Rattle.theory.proofs.SumLaws.{below_suc, share_eq, share_ne}
use Rattle.theory.proofs.ArriveLaws.{arrive_ge}
use Rattle.curve.specs.declared.Ticks.{Ticks}
use Rattle.curve.specs.Rows.{ticks_at}
use Rattle.board.specs.declared.Link.{Link}
use Rattle.board.specs.declared.Board.{Board}
use Rattle.board.specs.Board.{no_link, link_at, view, WellFormed, delay_of}
use Rattle.slow.specs.Slow.{First, LastPart, StepBack}
use Rattle.std.specs.Prelude.{Option, Some, None}
use Rattle.slow.specs.Walk.{last_of, lower_of, back_of}

-- ---- the last part
module _ (e : List Ticks) where
  last_later : (k : ℕ) → ticks_at e (last_of e k) < ticks_at e k → last_of e (suc k) ≡ k
  unfolding last_of pick
  last_later k h = rw (lt-ltb _ _ h)

  last_stays : (k : ℕ) → ticks_at e k ≤ ticks_at e (last_of e k) → last_of e (suc k) ≡ last_of e k
  unfolding last_of pick
  last_stays k h = rw (le-ltb _ _ h)

  last_le : (k : ℕ) → last_of e k ≤ k
  unfolding last_of
  last_le zero = omega arith
  last_le (suc k) = pick_elim (λ i. i ≤ suc k) _ k (last_of e k) (omega arith) (omega (arith, last_le k))

  last_lt : (k : ℕ) → last_of e (suc k) ≤ k
  unfolding last_of
  last_lt k = pick_elim (λ i. i ≤ k) _ k (last_of e k) (omega arith) (last_le k)

  last_greatest : (k q : ℕ) → q < k → ticks_at e q ≤ ticks_at e (last_of e k)
  last_greatest zero = λ q h. absurd (omega arith)
  last_greatest (suc k) =
      ⊎_elim
      (λ (l : ticks_at e (last_of e k) < ticks_at e k). rw (last_later k l) (below_suc (λ q h. omega (arith, last_greatest k q h)) (omega arith)))
      (λ (l : ticks_at e k ≤ ticks_at e (last_of e k)). rw (last_stays k l) (below_suc (last_greatest k) l))
      (lt_or_le (ticks_at e (last_of e k)) (ticks_at e k))

  last_lowest : (k q : ℕ) → q < k → ticks_at e q ≡ ticks_at e (last_of e k) → last_of e k ≤ q
  last_lowest zero = λ q h. absurd (omega arith)
  last_lowest (suc k) =
      ⊎_elim
      (λ (l : ticks_at e (last_of e k) < ticks_at e k). rw (last_later k l) (below_suc (λ q h same. absurd (omega (arith, last_greatest k q h))) (λ same. omega arith)))
      (λ (l : ticks_at e k ≤ ticks_at e (last_of e k)). rw (last_stays k l) (below_suc (last_lowest k) (λ same. last_le k)))
      (lt_or_le (ticks_at e (last_of e k)) (ticks_at e k))

  pub last_is : (b : Board) → WellFormed b → LastPart (view b) (ticks_at e) (last_of e b.parts)
  unfolding view
  last_is b ok = record { here = in_board b.parts ok.parts_from; greatest = last_greatest b.parts; lowest = last_lowest b.parts }
    where
      in_board : (k : ℕ) → 1 ≤ k → last_of e k < k
      in_board zero h = absurd (omega arith)
      in_board (suc k) h = omega (arith, last_lt k)

-- ---- a start that is not 0 is an arrival
pub record Arrival (G : Graph) (e : ℕ → ℕ) (p : ℕ) : Type 0 where
  pub link : ℕ
  pub here : link < G.links
  pub to : G.to link ≡ p
  pub is : e (G.from link) + G.wire link ≡ arrive G e p

pub record Greatest (m : ℕ) (f : ℕ → ℕ) : Type 0 where
  pub at : ℕ
  pub here : at < m
  pub is : f at ≡ greatest m f

greatest_at : (m : ℕ) (f : ℕ → ℕ) → 0 < greatest m f → Greatest m f
unfolding greatest
greatest_at zero f h = absurd (omega arith)
greatest_at (suc m) f h =
    ⊎_elim
    (λ (l : greatest m f < f m). record { at = m; here = omega arith; is = omega arith })
    (λ (l : f m ≤ greatest m f). let g = greatest_at m f (omega arith) in record { at = g.at; here = omega arith; is = omega (arith, g.is) })
    (lt_or_le (greatest m f) (f m))

pub arrival : (G : Graph) (e : ℕ → ℕ) (p : ℕ) → 0 < arrive G e p → Arrival G e p
unfolding arrive
arrival G e p h =
    let g = greatest_at G.links (λ l. share (G.to l) p (e (G.from l) + G.wire l)) h in
    ⊎_elim
    (λ (q : G.to g.at ≡ p). record { link = g.at; here = g.here; to = q; is = sym (share_eq (e (G.from g.at) + G.wire g.at) q) ∙ g.is })
    (λ (d : G.to g.at ≡ p → ⊥). absurd (omega (arith, g.is, share_ne (e (G.from g.at) + G.wire g.at) d)))
    (eq_or_ne (G.to g.at) p)

-- ---- the steps back
module _ (link : List Link) (s e : List Ticks) (p : ℕ) where
  -- the k-th link's part arrives at p's start
  abbrev Arrives : ℕ → Type 0
  Arrives k = ticks_at e (get_or link k no_link).from + delay_of (get_or link k no_link) ≡ ticks_at s p

  pub record Awaits (k q : ℕ) : Type 0 where
    pub at : ℕ
    pub here : at < k
    pub from : (get_or link at no_link).from ≡ q
    pub to : (get_or link at no_link).to ≡ p
    pub is : ticks_at e q + delay_of (get_or link at no_link) ≡ ticks_at s p

  longer : (k q : ℕ) → Awaits k q → Awaits (suc k) q
  longer k q a = record { at = a.at; here = omega (arith, a.here); from = a.from; to = a.to; is = a.is }

  -- what is found among the first k links
  Searched : ℕ → Option ℕ → Type 0
  Searched k None = (l : ℕ) → l < k → (get_or link l no_link).to ≡ p → Arrives l → ⊥
  Searched k (Some q) = Awaits k q × ((l : ℕ) → l < k → (get_or link l no_link).to ≡ p → Arrives l → q ≤ (get_or link l no_link).from)

  searched_hit : (k : ℕ) (o : Option ℕ) → Searched k o → (get_or link k no_link).to ≡ p → Arrives k → Searched (suc k) (lower_of o (get_or link k no_link).from)
  unfolding Searched
  searched_hit k None none to is = (
    record { at = k; here = omega arith; from = refl; to = to; is = is },
    below_suc (λ l h t i. absurd (none l h t i)) (λ t i. omega arith),
  )
  searched_hit k (Some q) found to is =
      let f = (get_or link k no_link).from in
      ⊎_elim
      (λ (h : q ≤ f).
      let same : min q f ≡ q = omega arith in
      rw same (longer k q found.0, below_suc found.1 (λ t i. h)))
      (λ (h : f < q).
      let same : min q f ≡ f = omega arith in
      rw same (record { at = k; here = omega arith; from = refl; to = to; is = is }, below_suc (λ l j t i. omega (arith, found.1 l j t i)) (λ t i. omega arith)))
      (⊎_elim (λ (h : q < f). inl (omega arith)) (λ (h : f ≤ q). ⊎_elim (λ (e : q ≡ f). inl (omega arith)) (λ (d : q ≡ f → ⊥). inr (omega arith)) (eq_or_ne q f)) (lt_or_le q f))

  searched_miss : (k : ℕ) (o : Option ℕ) → Searched k o → ((get_or link k no_link).to ≡ p → Arrives k → ⊥) → Searched (suc k) o
  unfolding Searched
  searched_miss k None none miss = below_suc none miss
  searched_miss k (Some q) found miss = (longer k q found.0, below_suc found.1 (λ t i. absurd (miss t i)))

  searched_none : Searched 0 None
  unfolding Searched
  searched_none = λ l h. absurd (omega arith)

  searched : (k : ℕ) → Searched k (back_of link s e k p)
  unfolding back_of pick
  searched zero = searched_none
  searched (suc k) =
      let o = back_of link s e k p in
      ⊎_elim
      (λ (to : (get_or link k no_link).to ≡ p).
      ⊎_elim
      (λ (is : Arrives k). rw (eq-eqb _ _ to, eq-eqb _ _ is) (searched_hit k o (searched k) to is))
      (λ (d : Arrives k → ⊥). rw (eq-eqb _ _ to, ne_eqb _ _ d) (searched_miss k o (searched k) (λ t i. d i)))
      (eq_or_ne (ticks_at e (get_or link k no_link).from + delay_of (get_or link k no_link)) (ticks_at s p)))
      (λ (d : (get_or link k no_link).to ≡ p → ⊥). rw (ne_eqb _ _ d) (searched_miss k o (searched k) (λ t i. d t)))
      (eq_or_ne (get_or link k no_link).to p)

  pub back_none : (k : ℕ) → back_of link s e k p ≡ None → (l : ℕ) → l < k → (get_or link l no_link).to ≡ p → Arrives l → ⊥
  unfolding Searched
  back_none k is = rw is at (searched k)

  pub back_is : (k q : ℕ) → back_of link s e k p ≡ Some q → Awaits k q
  unfolding Searched
  back_is k q is = (rw is at (searched k)).0

  pub back_le : (k q : ℕ) → back_of link s e k p ≡ Some q → (l : ℕ) → l < k → (get_or link l no_link).to ≡ p → Arrives l → q ≤ (get_or link l no_link).from
  unfolding Searched
  back_le k q is = (rw is at (searched k)).1

module _ (b : Board) (ok : WellFormed b) (s e : List Ticks) (t : Timed (view b) (view b).fastest (ticks_at s) (ticks_at e)) where
  abbrev back : ℕ → Option ℕ
  back p = back_of b.link s e b.links p

  -- a part that no start waits for has none before it: every part takes time
  pub back_first : (p : ℕ) → p < b.parts → back p ≡ None → First (view b) p
  unfolding view delay_of
  back_first p h none = record {
    none = λ l k q.
        let f = ok.from_in l k in
        let starts = arrive_ge (view b) (ticks_at e) l k in
        let here = ap (arrive (view b) (ticks_at e)) q in
        let ends = t.ends (link_at b l).from f in
        let a = arrival (view b) (ticks_at e) p (omega (arith, (ok.curves (link_at b l).from f).fastest_from)) in
        back_none b.link s e p b.links none a.link a.here a.to (a.is ∙ sym (t.starts p h));
  }

  pub back_step : (p q : ℕ) → p < b.parts → back p ≡ Some q → StepBack (view b) (ticks_at e) p q
  unfolding view delay_of
  back_step p q h some =
      let a = back_is b.link s e p b.links q some in
      record {
        by = record { link = a.at; here = a.here; from = a.from; to = a.to };
        greatest = λ l k to. omega (arith, a.is, t.starts p h, arrive_ge (view b) (ticks_at e) l k, ap (arrive (view b) (ticks_at e)) to);
        lowest = λ l k to same. back_le b.link s e p b.links q some l k to (same ∙ a.is);
      }
