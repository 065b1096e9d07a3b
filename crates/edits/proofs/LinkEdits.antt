-- A link added and a link removed: the board stays well formed, and exactly that link is there or gone.
-- Assumes nothing.
use mathlib.Core.Path.{◌≡◌, refl, sym, ap, ◌∙◌, subst}
use mathlib.Core.Logic.{⊎_elim, ◌⊎◌, inl, inr, ◌≢◌}
use mathlib.Core.Bool.{true, false}
use Prim.Native.Nat.{ℕ, zero, suc, ◌+◌, ◌-◌, ◌≤◌, ◌<◌}
use native.Mathlib.Omega.{arith}
use lib.ListN.{get_or-eq_default}
use Rattle.base.proofs.Cases.{lt_or_le, eq_or_ne}
use Rattle.board.specs.declared.Link.{Link}
use Rattle.board.specs.declared.Board.{Board}
use Rattle.board.specs.Board.{WellFormed, Linked, Has, plain_link, link_at, no_link, delay_of, order}
use Rattle.board.proofs.LinkLaws.{order_ends}
use Rattle.board.proofs.Ascending.{Parted, rises}
use Rattle.board.proofs.SameBoard.{orders, to_below}
use Rattle.edits.specs.Edits.{place_of, inserted_of, removed_of, with_link_of, without_link_of}
use Rattle.edits.specs.Changes.{Ends, Addable, LinkAdded, LinkRemoved}
use Rattle.edits.proofs.Ways.{linked, link_added, link_removed}
use Rattle.edits.proofs.Places.{place_parts, missing_false, linked_place, linked_has, inserted_length, inserted_below, inserted_here, inserted_above, removed_length, removed_below, removed_above}

-- ---- a link more
module _ (b : Board) (w : WellFormed b) (from to : ℕ) (may : Addable b from to) where
  abbrev x : Link
  x = plain_link from to

  abbrev at : ℕ
  at = place_of b x

  abbrev after : Board
  after = linked b (b.links + 1) (inserted_of b.link at x)

  small : to < 64
  small = omega (arith, may.to_in, w.parts_to)

  parts_at : Parted (orders b) (order x) b.links at
  parts_at = place_parts b w x small

  below : (k : ℕ) → k < at → link_at after k ≡ link_at b k
  below k h = inserted_below b.link w.link_room at x k (omega (arith, parts_at.under, may.room)) h

  here : link_at after at ≡ x
  here = inserted_here b.link w.link_room at x (omega (arith, parts_at.under, may.room))

  above : (k : ℕ) → suc k < 256 → at ≤ k → link_at after (suc k) ≡ link_at b k
  above k h l = inserted_above b.link w.link_room at x k h l

  -- what holds of x and of every link held holds of every link after
  each : (P : Link → Type 0) → P x → ((l : ℕ) → l < b.links → P (link_at b l)) → (l : ℕ) → l < b.links + 1 → P (link_at after l)
  each P new old l h = ⊎_elim
      (λ (s : l < at). rw (below l s) (old l (omega (arith, parts_at.under))))
      (λ (s : at ≤ l). ⊎_elim (λ (e : at ≡ l). subst (λ (k : ℕ). P (link_at after k)) e (rw here new)) (λ (e : at ≡ l → ⊥). later l h (omega arith)) (eq_or_ne at l))
      (lt_or_le l at)
    where
      later : (l : ℕ) → l < b.links + 1 → at < l → P (link_at after l)
      later zero h s = absurd (omega arith)
      later (suc l) h s = rw (above l (omega (arith, may.room)) (omega arith)) (old l (omega arith))

  -- x and the link after it are two links
  strict : at < b.links → order x < orders b at
  strict h = ⊎_elim
      (λ (e : order x ≡ orders b at).
      let same = order_ends (link_at b at) x (to_below b w at h) small (sym e) in
      absurd (may.missing (record { link = at; here = h; from = same.0; to = same.1 })))
      (λ (e : order x ≡ orders b at → ⊥). omega (arith, parts_at.above at (omega arith) h))
      (eq_or_ne (order x) (orders b at))

  ascends : (l : ℕ) → suc l < b.links + 1 → order (link_at after l) < order (link_at after (suc l))
  ascends l h = ⊎_elim
      (λ (s : suc l < at). rw (below l (omega arith), below (suc l) s) (w.ascends l (omega (arith, parts_at.under))))
      (λ (s : at ≤ suc l). ⊎_elim
      (λ (t : at < suc l). rw (above l (omega (arith, may.room)) (omega arith)) (⊎_elim
      (λ (e : at ≡ l). subst (λ (k : ℕ). order (link_at after k) < orders b k) e (rw here (strict (omega arith))))
      (λ (e : at ≡ l → ⊥). later l h (omega arith))
      (eq_or_ne at l)))
      (λ (t : suc l ≤ at). let e : at ≡ suc l = omega arith in rw (below l (omega arith)) (subst (λ (k : ℕ). orders b l < order (link_at after k)) e (rw here (parts_at.below l (omega arith)))))
      (lt_or_le at (suc l)))
      (lt_or_le (suc l) at)
    where
      later : (l : ℕ) → suc l < b.links + 1 → at < l → order (link_at after l) < orders b l
      later zero h s = absurd (omega arith)
      later (suc l) h s = rw (above l (omega (arith, may.room)) (omega arith)) (w.ascends l (omega arith))

  blank : (l : ℕ) → b.links + 1 ≤ l → l < 256 → link_at after l ≡ no_link
  blank zero h r = absurd (omega arith)
  blank (suc l) h r = above l r (omega (arith, parts_at.under)) ∙ w.blank_links l (omega arith) (omega arith)

  plain_new : delay_of x ≡ 0
  unfolding delay_of
  plain_new = refl

  after_well : WellFormed after
  after_well = record {
    deadline_from = w.deadline_from;
    deadline_to = w.deadline_to;
    parts_from = w.parts_from;
    parts_to = w.parts_to;
    curves = w.curves;
    links_to = omega (arith, may.room);
    from_in = each (λ l. l.from < b.parts) may.from_in w.from_in;
    to_in = each (λ l. l.to < b.parts) may.to_in w.to_in;
    apart = each (λ l. l.from ≢ l.to) may.apart w.apart;
    plain = each (λ l. delay_of l ≡ 0) plain_new w.plain;
    ascends = ascends;
    blank_curves = w.blank_curves;
    blank_links = blank;
    curve_room = w.curve_room;
    link_room = inserted_length b.link w.link_room at x;
  }

  after_kept : (y : Link) → Has b y → Has after y
  after_kept y k = ⊎_elim
      (λ (s : k.at < at). record { at = k.at; here = omega (arith, k.here); is = below k.at s ∙ k.is })
      (λ (s : at ≤ k.at). record { at = suc k.at; here = omega (arith, k.here); is = above k.at (omega (arith, k.here, may.room)) s ∙ k.is })
      (lt_or_le k.at at)

  after_only : (y : Link) → Has after y → Has b y ⊎ (y ≡ x)
  after_only y k =
      each (λ l. l ≡ y → Has b y ⊎ (y ≡ x)) (λ e. inr (sym e)) (λ l h e. inl (record { at = l; here = h; is = e }))
      k.at k.here k.is

  after_added : LinkAdded b after from to
  after_added = record {
    rest = record { rule = refl; deadline = refl; parts = refl; curve = refl };
    count = refl;
    new = record { at = at; here = omega (arith, parts_at.under); is = here };
    kept = after_kept;
    only = after_only;
  }

  is_after : after ≡ with_link_of b from to
  is_after = link_added b from to false (sym (missing_false b from to may.missing)) x at (inserted_of b.link at x) refl may.room refl refl refl

  -- a board with one link more is well formed, and has exactly that one more
  pub with_link_well : WellFormed (with_link_of b from to)
  with_link_well = subst WellFormed is_after after_well

  pub with_link_added : LinkAdded b (with_link_of b from to) from to
  with_link_added = subst (λ (c : Board). LinkAdded b c from to) is_after after_added

-- ---- a link less
module _ (b : Board) (w : WellFormed b) (from to : ℕ) (there : Linked b from to) where
  abbrev out : ℕ
  out = place_of b (plain_link from to)

  abbrev left : Board
  left = linked b (b.links - 1) (removed_of b.link out)

  out_is : out ≡ there.link
  out_is = linked_place b w from to there

  before : (k : ℕ) → k < out → link_at left k ≡ link_at b k
  before k h = removed_below b.link w.link_room out k (omega (arith, out_is, there.here, w.links_to)) h

  beyond : (k : ℕ) → k < 256 → out ≤ k → link_at left k ≡ link_at b (suc k)
  beyond k h l = removed_above b.link w.link_room out k h l

  -- where a link that is left stood
  record Came (l : ℕ) : Type 0 where
    pub at : ℕ
    pub here : at < b.links
    pub other : at ≢ out
    pub is : link_at left l ≡ link_at b at

  came : (l : ℕ) → l < b.links - 1 → Came l
  came l h = ⊎_elim
      (λ (s : l < out). record { at = l; here = omega arith; other = λ e. omega arith; is = before l s })
      (λ (s : out ≤ l). record { at = suc l; here = omega arith; other = λ e. omega arith; is = beyond l (omega (arith, w.links_to)) s })
      (lt_or_le l out)

  each_left : (P : Link → Type 0) → ((l : ℕ) → l < b.links → P (link_at b l)) → (l : ℕ) → l < b.links - 1 → P (link_at left l)
  each_left P old l h = let c = came l h in rw c.is (old c.at c.here)

  left_ascends : (l : ℕ) → suc l < b.links - 1 → order (link_at left l) < order (link_at left (suc l))
  left_ascends l h = ⊎_elim
      (λ (s : suc l < out). rw (before l (omega arith), before (suc l) s) (w.ascends l (omega arith)))
      (λ (s : out ≤ suc l). rw (beyond (suc l) (omega (arith, w.links_to)) s) (⊎_elim
      (λ (t : l < out). rw (before l t) (rises b.links (orders b) w.ascends l (suc (suc l)) (omega arith) (omega arith)))
      (λ (t : out ≤ l). rw (beyond l (omega (arith, w.links_to)) t) (w.ascends (suc l) (omega arith)))
      (lt_or_le l out)))
      (lt_or_le (suc l) out)

  left_blank : (l : ℕ) → b.links - 1 ≤ l → l < 256 → link_at left l ≡ no_link
  left_blank l h r = beyond l r (omega (arith, out_is, there.here)) ∙ ⊎_elim
      (λ (s : suc l < 256). w.blank_links (suc l) (omega arith) s)
      (λ (s : 256 ≤ suc l). get_or-eq_default b.link no_link {n = suc l} (rw w.link_room s))
      (lt_or_le (suc l) 256)

  left_well : WellFormed left
  left_well = record {
    deadline_from = w.deadline_from;
    deadline_to = w.deadline_to;
    parts_from = w.parts_from;
    parts_to = w.parts_to;
    curves = w.curves;
    links_to = omega (arith, w.links_to);
    from_in = each_left (λ l. l.from < b.parts) w.from_in;
    to_in = each_left (λ l. l.to < b.parts) w.to_in;
    apart = each_left (λ l. l.from ≢ l.to) w.apart;
    plain = each_left (λ l. delay_of l ≡ 0) w.plain;
    ascends = left_ascends;
    blank_curves = w.blank_curves;
    blank_links = left_blank;
    curve_room = w.curve_room;
    link_room = removed_length b.link w.link_room out;
  }

  -- two links with the same ends stand at one place
  left_gone : Linked left from to → ⊥
  left_gone k =
      let c = came k.link k.here in
      let f = ap (λ (l : Link). l.from) c.is in
      let t = ap (λ (l : Link). l.to) c.is in
      c.other (sym (linked_place b w from to (record { link = c.at; here = c.here; from = sym f ∙ k.from; to = sym t ∙ k.to })))

  left_only : (y : Link) → Has left y → Has b y
  left_only y k = let c = came k.at k.here in record { at = c.at; here = c.here; is = sym c.is ∙ k.is }

  left_kept : (y : Link) → Has b y → (Ends y from to → ⊥) → Has left y
  left_kept y k ne = ⊎_elim
      (λ (s : k.at < out). record { at = k.at; here = omega (arith, out_is, there.here); is = before k.at s ∙ k.is })
      (λ (s : out ≤ k.at). later k.at k.here k.is s)
      (lt_or_le k.at out)
    where
      same : (l : ℕ) → l ≡ there.link → link_at b l ≡ y → Ends y from to
      same l e is = record { starts = rw (← is, e) there.from; ends = rw (← is, e) there.to }

      later : (l : ℕ) → l < b.links → link_at b l ≡ y → out ≤ l → Has left y
      later zero h is s = absurd (ne (same zero (omega (arith, out_is)) is))
      later (suc l) h is s = ⊎_elim
          (λ (r : l < out). absurd (ne (same (suc l) (omega (arith, out_is)) is)))
          (λ (r : out ≤ l). record { at = l; here = omega arith; is = beyond l (omega (arith, w.links_to)) r ∙ is })
          (lt_or_le l out)

  left_removed : LinkRemoved b left from to
  left_removed = record {
    rest = record { rule = refl; deadline = refl; parts = refl; curve = refl };
    count = omega (arith, there.here);
    gone = left_gone;
    kept = left_kept;
    only = left_only;
  }

  is_left : left ≡ without_link_of b from to
  is_left = link_removed b from to true (sym (linked_has b w from to there)) (plain_link from to) out (removed_of b.link out) refl refl refl refl

  -- a board with one link less is well formed, and has exactly that one less
  pub without_link_well : WellFormed (without_link_of b from to)
  without_link_well = subst WellFormed is_left left_well

  pub without_link_removed : LinkRemoved b (without_link_of b from to) from to
  without_link_removed = subst (λ (c : Board). LinkRemoved b c from to) is_left left_removed
