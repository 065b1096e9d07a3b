-- Two results that the contract of a lent tally allows are the same but for the advice, and leave one tally; and what 01 says of the tally left.
-- Assumes nothing.
use mathlib.Core.Path.{◌≡◌, sym, ◌∙◌}
use mathlib.Core.List.{List}
use Prim.Native.Nat.{ℕ}
use Rattle.std.specs.Prelude.{Ok, Err}
use Rattle.refusal.specs.declared.Refusal.{Refusal}
use Rattle.desk.specs.declared.Tally.{Tally}
use Rattle.desk.specs.declared.Desk.{Desk}
use Rattle.desk.specs.declared.Loaded.{Loaded}
use Rattle.desk.specs.declared.Ordered.{Ordered}
use Rattle.desk.specs.Held.{Standing}
use Rattle.desk.specs.Load.{no_tally}
use Rattle.desk.specs.Order.{refused_tally}
use Rattle.demands.specs.Same.{SameLoaded, SameOrdered}
use Rattle.demands.proofs.Once.{load_once, load_refused_stays, order_once}
use Rattle.demands.proofs.LoadLaws.{load_accepted}
use Rattle.tally.specs.Lent.{LentLoad, LentOrder}

module _ (d : Desk) (rule : ℕ) (s : List ℕ) (t : Tally) where
  pub lent_load_once : (r r' : Loaded) (t₁ t₂ : Tally) → LentLoad d rule s t r t₁ → LentLoad d rule s t r' t₂ → SameLoaded r r' × (t₁ ≡ t₂)
  lent_load_once r r' t₁ t₂ one two =
      let same = load_once d t rule s r r' one.said two.said in
      (same, one.left ∙ same.tally ∙ sym two.left)

  -- "when accepted, sets both counts to zero"
  pub lent_load_clears : (r : Loaded) (t' : Tally) → LentLoad d rule s t r t' → r.answer ≡ Ok tt → t' ≡ no_tally
  lent_load_clears r t' lent done = lent.left ∙ (load_accepted d t r rule s lent.said done).so.tally

  -- a refused load leaves the tally, as all else
  pub lent_load_stays : (r : Loaded) (t' : Tally) (e : Refusal) → LentLoad d rule s t r t' → r.answer ≡ Err e → t' ≡ t
  lent_load_stays r t' e lent refused = lent.left ∙ (load_refused_stays d t rule s r lent.said refused).1

module _ (d : Desk) (s : List ℕ) (t : Tally) where
  -- on a desk that stands, as every desk does that loads and orders gave
  pub lent_order_once :
      Standing d → (r r' : Ordered) (t₁ t₂ : Tally) → LentOrder d s t r t₁ → LentOrder d s t r' t₂ → SameOrdered r r' × (t₁ ≡ t₂)
  lent_order_once so r r' t₁ t₂ one two =
      let same = order_once d t so s r r' (one.given.said so) (two.given.said so) in
      (same, one.counted ∙ same.tally ∙ sym two.counted)

  -- a refused order counts itself at most
  pub lent_order_stays : (r : Ordered) (t' : Tally) (e : Refusal) → LentOrder d s t r t' → r.answer ≡ Err e → t' ≡ refused_tally e.why t
  lent_order_stays r t' e lent refused = lent.counted ∙ (lent.given.stays e refused).1
