-- Two orders at different places end alike, whichever is made first.
-- Assumes nothing.
use mathlib.Core.Path.{◌≡◌, refl, sym, ap, ◌∙◌}
use mathlib.Core.List.{List}
use Prim.Native.Nat.{ℕ}
use Rattle.board.specs.declared.Board.{Board}
use Rattle.board.specs.Board.{WellFormed}
use Rattle.edits.proofs.Commute.{add_add, add_remove, remove_remove, deadline_curve, deadline_add, deadline_remove, curve_add, curve_remove, curve_curve}
use Rattle.orders.specs.declared.Order.TheVariants.{Deadline, AddLink, RemoveLink, NewCurve}
use Rattle.orders.specs.declared.Order.{Order}
use Rattle.desk.specs.declared.Tally.{Tally}
use Rattle.desk.specs.declared.Desk.{Desk}
use Rattle.desk.specs.declared.Ordered.{Ordered}
use Rattle.desk.specs.Held.{Holding}
use Rattle.desk.specs.Order.{changed_of, one_taken}
use Rattle.demands.specs.Same.{SameEnd}
use Rattle.demands.specs.Orders.{the_curve, Apart, Reads, Makes}
use Rattle.desk.proofs.Tried.{Fits}
use Rattle.demands.proofs.Once.{one_board}
use Rattle.demands.proofs.Steps.{Stepped, makes_stepped, stepped_fits, stepped_board}

-- ---- boards
module _ (b : Board) (w : WellFormed b) where
  pub boards_commute :
      (o o' : Order) → Apart o o' → Fits b o → Fits (changed_of b o) o' → Fits b o' → Fits (changed_of b o') o →
      changed_of (changed_of b o) o' ≡ changed_of (changed_of b o') o
  unfolding changed_of
  boards_commute (Deadline d) (Deadline d') ne f f₂ g g₂ = absurd (ne refl)
  boards_commute (Deadline d) (AddLink from to) ne f f₂ g g₂ = deadline_add b d from to
  boards_commute (Deadline d) (RemoveLink from to) ne f f₂ g g₂ = deadline_remove b d from to
  boards_commute (Deadline d) (NewCurve part c) ne f f₂ g g₂ = deadline_curve b d part c
  boards_commute (AddLink from to) (Deadline d) ne f f₂ g g₂ = sym (deadline_add b d from to)
  boards_commute (AddLink from to) (AddLink from' to') ne f f₂ g g₂ = add_add b w from to from' to' f f₂ g g₂
  boards_commute (AddLink from to) (RemoveLink from' to') ne f f₂ g g₂ = add_remove b w from to from' to' f f₂ g g₂
  boards_commute (AddLink from to) (NewCurve part c) ne f f₂ g g₂ = sym (curve_add b part c from to)
  boards_commute (RemoveLink from to) (Deadline d) ne f f₂ g g₂ = sym (deadline_remove b d from to)
  boards_commute (RemoveLink from to) (AddLink from' to') ne f f₂ g g₂ = sym (add_remove b w from' to' from to g g₂ f f₂)
  boards_commute (RemoveLink from to) (RemoveLink from' to') ne f f₂ g g₂ = remove_remove b w from to from' to' f f₂ g g₂
  boards_commute (RemoveLink from to) (NewCurve part c) ne f f₂ g g₂ = sym (curve_remove b part c from to)
  boards_commute (NewCurve part c) (Deadline d) ne f f₂ g g₂ = sym (deadline_curve b d part c)
  boards_commute (NewCurve part c) (AddLink from to) ne f f₂ g g₂ = curve_add b part c from to
  boards_commute (NewCurve part c) (RemoveLink from to) ne f f₂ g g₂ = curve_remove b part c from to
  boards_commute (NewCurve part c) (NewCurve part' c') ne f f₂ g g₂ = curve_curve b part part' c c' (λ e. ne (ap the_curve e))

-- ---- desks
module _ (d : Desk) (h : Holding d) (t : Tally) (o o' : Order) (r r₂ : Ordered) (so : Stepped d t o r) (so₂ : Stepped r.desk r.tally o' r₂) where
  -- an order fits the board that another left
  pub fits_next : Fits (changed_of h.held.board o) o'
  fits_next = rw (stepped_board d t o r h so) at (stepped_fits r.desk r.tally o' r₂ so.holding so₂)

  pub board_next : so₂.holding.held.board ≡ changed_of (changed_of h.held.board o) o'
  board_next = stepped_board r.desk r.tally o' r₂ so.holding so₂ ∙ ap (λ (b : Board). changed_of b o') (stepped_board d t o r h so)

module _ (d : Desk) (h : Holding d) (t : Tally) (o o' : Order) (ne : Apart o o') (r₁ r₁₂ r₂ r₂₁ : Ordered) where
  pub steps_commute : Stepped d t o r₁ → Stepped r₁.desk r₁.tally o' r₁₂ → Stepped d t o' r₂ → Stepped r₂.desk r₂.tally o r₂₁ → SameEnd r₁₂ r₂₁
  steps_commute a a₂ c c₂ =
      let one = stepped_fits d t o r₁ h a in
      let other = stepped_fits d t o' r₂ h c in
      let same = boards_commute h.held.board h.kept.formed o o' ne one (fits_next d h t o o' r₁ r₁₂ a a₂) other (fits_next d h t o' o r₂ r₂₁ c c₂) in
      record {
        desk = one_board r₁₂.desk r₂₁.desk a₂.holding c₂.holding
            (board_next d h t o o' r₁ r₁₂ a a₂ ∙ same ∙ sym (board_next d h t o' o r₂ r₂₁ c c₂));
        tally = a₂.tally ∙ ap one_taken a.tally ∙ sym (c₂.tally ∙ ap one_taken c.tally);
      }

-- demand 3: "Two orders at different places commute where all four steps are accepted"
pub orders_commute :
    (d : Desk) → Holding d → (t : Tally) (s s' : List ℕ) (o o' : Order) → Reads s o → Reads s' o' → Apart o o' → (r₁ r₁₂ r₂ r₂₁ : Ordered) →
    Makes d s t r₁ → Makes r₁.desk s' r₁.tally r₁₂ → Makes d s' t r₂ → Makes r₂.desk s r₂.tally r₂₁ → SameEnd r₁₂ r₂₁
orders_commute d h t s s' o o' reads reads' ne r₁ r₁₂ r₂ r₂₁ m₁ m₁₂ m₂ m₂₁ =
    steps_commute d h t o o' ne r₁ r₁₂ r₂ r₂₁
    (makes_stepped d t o r₁ s reads m₁)
    (makes_stepped r₁.desk r₁.tally o' r₁₂ s' reads' m₁₂)
    (makes_stepped d t o' r₂ s' reads' m₂)
    (makes_stepped r₂.desk r₂.tally o r₂₁ s reads m₂₁)
