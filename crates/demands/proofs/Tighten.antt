-- Two orders that only tighten, at different places: where one way is accepted, so is the other, up to the same end.
-- The idea: a board in between has fewer links and faster parts than the board at the end, so what is not refused there is not refused here.
-- Assumes nothing.
use mathlib.Core.Path.{◌≡◌, refl, sym, ap, subst, ◌∙◌}
use mathlib.Core.Logic.{⊎_elim, ◌≢◌}
use mathlib.Core.List.{List}
use Prim.Native.Nat.{ℕ, ◌+◌, ◌≤◌, ◌<◌}
use native.Mathlib.Omega.{arith}
use native.Mathlib.Nat.{le_refl}
use lib.ListN.{get_or}
use Rattle.base.proofs.Cases.{eq_or_ne}
use Rattle.theory.proofs.Tightening.{Tighter, tighter_possible}
use Rattle.board.specs.declared.Link.{Link}
use Rattle.board.specs.declared.Board.{Board}
use Rattle.board.specs.Board.{plain_link, no_link, curve_at, link_at, delay_of, usable, view, Linked, Has, WellFormed}
use Rattle.board.proofs.UsableLaws.{usable_lower}
use Rattle.board.proofs.SameBoard.{linked_whole}
use Rattle.board.specs.Leads.{Leads, one, more, LoopFree}
use Rattle.board.proofs.Lawful.{lawful}
use Rattle.edits.specs.Changes.{Addable}
use Rattle.orders.specs.declared.Order.TheVariants.{Deadline, AddLink, RemoveLink, NewCurve}
use Rattle.orders.specs.declared.Order.{Order}
use Rattle.orders.specs.Order.{Orderly}
use Rattle.orders.proofs.OrderLaws.{order_orderly}
use Rattle.desk.specs.declared.Tally.{Tally}
use Rattle.desk.specs.declared.Desk.{Desk}
use Rattle.desk.specs.declared.Ordered.{Ordered}
use Rattle.desk.specs.Held.{Holding}
use Rattle.desk.specs.Order.{changed_of, OrderSaid}
use Rattle.demands.specs.Boards.{Plannable}
use Rattle.demands.specs.Orders.{OtherWay, the_link, the_curve, place_of, Apart, ChangesOnly, Tightens, Reads, Makes}
use Rattle.desk.proofs.Tried.{Passed, Fits, fits_tried, changed_well}
use Rattle.demands.proofs.Tried.{changed_only}
use Rattle.demands.proofs.Steps.{kept_plannable, Stepped, makes_stepped, said_makes, stepped_fits, stepped_board}
use Rattle.demands.proofs.Commute.{boards_commute, fits_next, board_next, steps_commute}

-- ---- a board that is tighter than another
-- it has a link with the ends of x that takes no less
pub record Longer (b : Board) (x : Link) : Type 0 where
  at : ℕ
  here : at < b.links
  from : (link_at b at).from ≡ x.from
  to : (link_at b at).to ≡ x.to
  long : delay_of x ≤ delay_of (link_at b at)

pub record TighterBoard (b b' : Board) : Type 0 where
  pub parts : b'.parts ≡ b.parts
  pub slower : (p : ℕ) → (curve_at b p).fastest.0 ≤ (curve_at b' p).fastest.0
  pub longer : (x : Link) → Has b x → Longer b' x
  pub links : b.links ≤ b'.links
  pub usable_le : usable b' ≤ usable b

-- the same links
same_has : (b b' : Board) → b'.links ≡ b.links → b'.link ≡ b.link → (x : Link) → Has b x → Has b' x
same_has b b' count row x k = record { at = k.at; here = rw count k.here; is = ap (λ (l : List Link). get_or l k.at no_link) row ∙ k.is }

has_longer : (b : Board) (x : Link) → Has b x → Longer b x
has_longer b x k = record {
  at = k.at;
  here = k.here;
  from = ap (λ (l : Link). l.from) k.is;
  to = ap (λ (l : Link). l.to) k.is;
  long = rw k.is (le_refl _);
}

-- links by their ends, where whole links stay
linked_by : (b b' : Board) → ((x : Link) → Has b x → Longer b' x) → (p q : ℕ) → Linked b p q → Linked b' p q
linked_by b b' goes p q k =
    let l = goes (link_at b k.link) (linked_whole b p q k) in
    record { link = l.at; here = l.here; from = l.from ∙ k.from; to = l.to ∙ k.to }

same_linked : (b b' : Board) → b'.links ≡ b.links → b'.link ≡ b.link → (p q : ℕ) → Linked b p q → Linked b' p q
same_linked b b' count row = linked_by b b' (λ x k. has_longer b' x (same_has b b' count row x k))

same_fastest : (b b' : Board) → b'.curve ≡ b.curve → (p : ℕ) → (curve_at b p).fastest.0 ≤ (curve_at b' p).fastest.0
same_fastest b b' e p = rw e (le_refl _)

module _ (b b' : Board) where
  pub seen_tighter : (o : Order) → ChangesOnly b b' o → Tightens b o → TighterBoard b b'
  seen_tighter (Deadline d) s h = record {
    parts = s.parts;
    slower = same_fastest b b' s.curve;
    longer = λ x l. has_longer b' x (same_has b b' s.links s.link x l);
    links = rw s.links (le_refl _);
    usable_le = usable_lower b b' s.rule (rw s.deadline h);
  }
  seen_tighter (AddLink from to) s h = record {
    parts = s.rest.parts;
    slower = same_fastest b b' s.rest.curve;
    longer = λ x l. has_longer b' x (s.kept x l);
    links = omega (arith, s.count);
    usable_le = usable_lower b b' s.rest.rule (rw s.rest.deadline (le_refl _));
  }
  seen_tighter (RemoveLink from to) s h = absurd h
  seen_tighter (NewCurve part c) s h = record {
    parts = s.parts;
    slower = λ p.
        ⊎_elim
        (λ (e : p ≡ part). rw (e, s.here) h)
        (λ (ne : p ≢ part). rw (s.elsewhere p ne) (le_refl _))
        (eq_or_ne p part);
    longer = λ x l. has_longer b' x (same_has b b' s.links s.link x l);
    links = rw s.links (le_refl _);
    usable_le = usable_lower b b' s.rule (rw s.deadline (le_refl _));
  }

module _ (b b' : Board) (tight : TighterBoard b b') where
  path_stays : {p q : ℕ} → Leads b p q → Leads b' p q
  path_stays (one l) = one (linked_by b b' tight.longer _ _ l)
  path_stays (more l rest) = more (linked_by b b' tight.longer _ _ l) (path_stays rest)

  free_too : LoopFree b' → LoopFree b
  free_too free = record { none = λ p h loop. free.none p (rw tight.parts h) (path_stays loop) }

  tighter_view : Tighter (view b) (view b')
  unfolding view
  tighter_view = record {
    parts_in = λ p h. rw tight.parts h;
    slower = λ p h. tight.slower p;
    joined = λ l h.
        let k = tight.longer (link_at b l) (record { at = l; here = h; is = refl }) in
        record { link = k.at; there = k.here; from_eq = k.from; to_eq = k.to; long = k.long };
  }

  -- what the tighter board is not refused for, the other is not
  pub tighter_plannable : WellFormed b → Plannable b' → Plannable b
  tighter_plannable w ok =
      let so = tighter_possible tighter_view (lawful b w) (lawful b' ok.formed) tight.usable_le ok.times ok.budget in
      record { formed = w; free = free_too ok.free; times = so.0; budget = so.1 }

-- ---- an order that tightens does so after another at a different place
module _ (b b' : Board) where
  tightens_after : (o o' : Order) → Apart o o' → ChangesOnly b b' o' → Tightens b o → Tightens b' o
  tightens_after (Deadline d) (Deadline d') ne s h = absurd (ne refl)
  tightens_after (Deadline d) (AddLink from to) ne s h = rw s.rest.deadline h
  tightens_after (Deadline d) (RemoveLink from to) ne s h = rw s.rest.deadline h
  tightens_after (Deadline d) (NewCurve part c) ne s h = rw s.deadline h
  tightens_after (AddLink from to) o' ne s h = tt
  tightens_after (RemoveLink from to) o' ne s h = h
  tightens_after (NewCurve part c) (Deadline d) ne s h = rw s.curve h
  tightens_after (NewCurve part c) (AddLink from to) ne s h = rw s.rest.curve h
  tightens_after (NewCurve part c) (RemoveLink from to) ne s h = rw s.rest.curve h
  tightens_after (NewCurve part c) (NewCurve part' c') ne s h = rw (s.elsewhere part (λ e. ne (ap the_curve e))) h

-- ---- it fits the board before it,
fits_before : (b b' : Board) (o : Order) → TighterBoard b b' → Tightens b o → Fits b' o → Fits b o
fits_before b b' (Deadline d) tight h f = tt
fits_before b b' (AddLink from to) tight h f = record {
  from_in = rw tight.parts at f.from_in;
  to_in = rw tight.parts at f.to_in;
  apart = f.apart;
  missing = λ l. f.missing (linked_by b b' tight.longer from to l);
  room = omega (arith, f.room, tight.links);
}
fits_before b b' (RemoveLink from to) tight h f = absurd h
fits_before b b' (NewCurve part c) tight h f = rw tight.parts at f

-- a link with given ends that is there
ended : (b : Board) (x : Link) (from to : ℕ) → x.from ≡ from → x.to ≡ to → Has b x → Linked b from to
ended b x from to f t k = record { link = k.at; here = k.here; from = ap (λ (l : Link). l.from) k.is ∙ f; to = ap (λ (l : Link). l.to) k.is ∙ t }

-- and the board after the other
module _ (b b₁ b₂ : Board) (from to : ℕ) (f : Addable b from to) (count : b₁.links ≡ b.links + 1) where
  addable_after : (o : Order) → the_link from to ≢ place_of o → ChangesOnly b b₂ o → Tightens b o → Fits b₁ o → Addable b₂ from to
  addable_after (Deadline d) ne s h g = record {
    from_in = rw s.parts f.from_in;
    to_in = rw s.parts f.to_in;
    apart = f.apart;
    missing = λ l. f.missing (same_linked b₂ b (sym s.links) (sym s.link) from to l);
    room = rw s.links f.room;
  }
  addable_after (AddLink from' to') ne s h g = record {
    from_in = rw s.rest.parts f.from_in;
    to_in = rw s.rest.parts f.to_in;
    apart = f.apart;
    missing = λ l.
        ⊎_elim
        (λ (there : Has b (link_at b₂ l.link)). f.missing (ended b _ from to l.from l.to there))
        (λ (e : link_at b₂ l.link ≡ plain_link from' to'). ne (let x = sym l.from ∙ ap (λ (y : Link). y.from) e in let z = sym l.to ∙ ap (λ (y : Link). y.to) e in cc))
        (s.only (link_at b₂ l.link) (linked_whole b₂ from to l));
    room = omega (arith, s.count, count, g.room);
  }
  addable_after (RemoveLink from' to') ne s h g = absurd h
  addable_after (NewCurve part c) ne s h g = record {
    from_in = rw s.parts f.from_in;
    to_in = rw s.parts f.to_in;
    apart = f.apart;
    missing = λ l. f.missing (same_linked b₂ b (sym s.links) (sym s.link) from to l);
    room = rw s.links f.room;
  }

module _ (b b₁ b₂ : Board) where
  fits_after : (o o' : Order) → Apart o o' → Fits b o → ChangesOnly b b₁ o → Tightens b o → ChangesOnly b b₂ o' → Tightens b o' → Fits b₁ o' → Fits b₂ o
  fits_after (Deadline d) o' ne f s h s' h' g = tt
  fits_after (AddLink from to) o' ne f s h s' h' g = addable_after b b₁ b₂ from to f s.count o' ne s' h' g
  fits_after (RemoveLink from to) o' ne f s h s' h' g = absurd h
  fits_after (NewCurve part c) o' ne f s h s' h' g = rw (seen_tighter b b₂ o' s' h').parts f

-- ---- desks
module _ (d : Desk) (holds : Holding d) (t : Tally) (o o' : Order) (orderly' : Orderly o') (ne : Apart o o') (tight : Tightens holds.held.board o)
    (tight' : Tightens holds.held.board o') (r₁ r₁₂ : Ordered) (a : Stepped d t o r₁) (a₂ : Stepped r₁.desk r₁.tally o' r₁₂)
  where
    abbrev b : Board
    b = holds.held.board

    abbrev b₁ : Board
    b₁ = changed_of b o

    abbrev b₂ : Board
    b₂ = changed_of b o'

    w : WellFormed b
    w = holds.kept.formed

    fits : Fits b o
    fits = stepped_fits d t o r₁ holds a

    seen : ChangesOnly b b₁ o
    seen = changed_only b w o fits

    next : Fits b₁ o'
    next = fits_next d holds t o o' r₁ r₁₂ a a₂

    fits' : Fits b o'
    fits' = fits_before b b₁ o' (seen_tighter b b₁ o seen tight) tight' next

    seen' : ChangesOnly b b₂ o'
    seen' = changed_only b w o' fits'

    w₂ : WellFormed b₂
    w₂ = changed_well b w o' fits' orderly'

    next' : Fits b₂ o
    next' = fits_after b b₁ b₂ o o' ne fits seen tight seen' tight' next

    -- the board at the end, by the other way
    ends_plannable : Plannable (changed_of b₂ o)
    ends_plannable =
        let same = boards_commute b w o o' ne fits next fits' next' in
        rw (board_next d holds t o o' r₁ r₁₂ a a₂ ∙ same) at (kept_plannable a₂.holding.held.board a₂.holding.held.budget a₂.holding.kept)

    -- the board in between
    between_plannable : Plannable b₂
    between_plannable =
        let still = tightens_after b b₂ o o' ne seen' tight in
        tighter_plannable b₂ (changed_of b₂ o) (seen_tighter b₂ (changed_of b₂ o) o (changed_only b₂ w₂ o next') still) w₂ ends_plannable

    -- the tally has room for two
    room : t.taken + 1 + t.refused < 65535
    room = rw a.tally at a₂.passed.room

    first_passed : Passed d t o' holds.held
    first_passed = record { held = holds.is; room = omega (arith, room); place = fits_tried b w o' fits' }

    module _ (s s' : List ℕ) (reads : Reads s o) (reads' : Reads s' o') (r₂ r₂₁ : Ordered) (said : OrderSaid d s' t r₂) (said₂ : OrderSaid r₂.desk s r₂.tally r₂₁) where
      first_made : Makes d s' t r₂
      first_made = said_makes d t o' r₂ s' reads' holds.held first_passed between_plannable said

      first_stepped : Stepped d t o' r₂
      first_stepped = makes_stepped d t o' r₂ s' reads' first_made

      there : first_stepped.holding.held.board ≡ b₂
      there = stepped_board d t o' r₂ holds first_stepped

      second_passed : Passed r₂.desk r₂.tally o first_stepped.holding.held
      second_passed = record {
        held = first_stepped.holding.is;
        room = rw first_stepped.tally room;
        place = rw there (fits_tried b₂ w₂ o next');
      }

      second_made : Makes r₂.desk s r₂.tally r₂₁
      second_made =
          said_makes r₂.desk r₂.tally o r₂₁ s reads first_stepped.holding.held second_passed
          (subst (λ (c : Board). Plannable (changed_of c o)) (sym there) ends_plannable) said₂

      pub tightening_steps : OtherWay r₁₂ r₂ r₂₁
      tightening_steps = record {
        first = first_made.done;
        second = second_made.done;
        end = steps_commute d holds t o o' ne r₁ r₁₂ r₂ r₂₁ a a₂ first_stepped (makes_stepped r₂.desk r₂.tally o r₂₁ s reads second_made);
      }

-- demand 3: "if both only tighten and one sequence is accepted, so is the other, up to the same end"
pub tightening_commutes :
    (d : Desk) (h : Holding d) (t : Tally) (s s' : List ℕ) (o o' : Order) → Reads s o → Reads s' o' → Apart o o' → Tightens h.held.board o →
    Tightens h.held.board o' →
    (r₁ r₁₂ : Ordered) → Makes d s t r₁ → Makes r₁.desk s' r₁.tally r₁₂ →
    (r₂ r₂₁ : Ordered) → OrderSaid d s' t r₂ → OrderSaid r₂.desk s r₂.tally r₂₁ → OtherWay r₁₂ r₂ r₂₁
tightening_commutes d h t s s' o o' reads reads' ne tight tight' r₁ r₁₂ m₁ m₁₂ r₂ r₂₁ said said₂ =
    tightening_steps d h t o o' (order_orderly s' o' reads'.took reads'.read) ne tight tight' r₁ r₁₂
    (makes_stepped d t o r₁ s reads m₁)
    (makes_stepped r₁.desk r₁.tally o' r₁₂ s' reads' m₁₂)
    s s' reads reads' r₂ r₂₁ said said₂
