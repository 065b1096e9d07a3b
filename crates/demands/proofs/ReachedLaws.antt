-- After any list of orders the desk holds the board as it stands with the budget that is its own, and the tally counts the orders.
-- Assumes nothing.
use mathlib.Core.Path.{◌≡◌, refl, ap}
use mathlib.Core.Bool.{Bool, true, false}
use mathlib.Core.List.{List, [], ◌∷◌}
use Prim.Native.Nat.{ℕ, ◌+◌}
use native.Mathlib.Omega.{arith}
use Rattle.base.specs.Pick.{pick}
use Rattle.refusal.specs.declared.Refusal.{Refusal}
use Rattle.desk.specs.declared.Held.{Held}
use Rattle.refusal.specs.Refusal.{Answer}
use Rattle.std.specs.Prelude.{Ok, Err}
use Rattle.board.specs.declared.Board.{Board}
use Rattle.slow.specs.declared.Trail.{Trail}
use Rattle.budget.specs.Budget.{Holds}
use Rattle.groups.specs.Parse.{Parse}
use Rattle.design.specs.Design.{design_of}
use Rattle.orders.specs.declared.Order.{Order}
use Rattle.orders.specs.Order.{order_of}
use Rattle.desk.specs.declared.Tally.{Tally}
use Rattle.desk.specs.declared.Desk.{Desk}
use Rattle.desk.specs.declared.Loaded.{Loaded}
use Rattle.desk.specs.declared.Ordered.{Ordered}
use Rattle.desk.specs.Held.{Holding, Standing, holding}
use Rattle.desk.specs.Judged.{BoardJudged}
use Rattle.desk.specs.Load.{no_tally, LoadParsed, LoadSaid}
use Rattle.desk.specs.Load as load
use Rattle.desk.specs.Order.{changed_of, tried_of, counts, refused_tally, tally_ordered, order_refused, OrderJudged, OrderTried, OrderParsed, OrderSaid}
use Rattle.demands.specs.Reached.{Reached, loaded, ordered, Counting, since, after, taken_by, refused_by, taken_in, refused_in, Tallied}
use Rattle.demands.proofs.LoadLaws.{load_accepted}

-- ---- an order: what it leaves, and what it counts
refused_counts : (counted : Bool) (t : Tally) → ((pick counted (record { taken = t.taken; refused = t.refused + 1 }) t).taken ≡ t.taken + 0) × ((pick counted (record { taken = t.taken; refused = t.refused + 1 }) t).refused ≡ t.refused + pick counted 1 0)
unfolding pick
refused_counts true t = (omega arith, refl)
refused_counts false t = (omega arith, omega arith)

-- counted as its answer says
pub record Counted (t t' : Tally) (a : Answer Unit) : Type 0 where
  pub taken : t'.taken ≡ t.taken + taken_by a
  pub refused : t'.refused ≡ t.refused + refused_by a

pub record Leaves (t : Tally) (r : Ordered) : Type 0 where
  pub holding : Holding r.desk
  pub counted : Counted t r.tally r.answer

ordered_counts : (a : Answer Unit) (t : Tally) → Counted t (tally_ordered a t) a
unfolding refused_tally
ordered_counts (Ok done) t = record { taken = refl; refused = omega arith }
ordered_counts (Err e) t = record { taken = (refused_counts (counts e.why) t).0; refused = (refused_counts (counts e.why) t).1 }

-- what a board was judged by leaves a desk as it should be, or holds the board
module _ {b : Board} {d : Desk} {p : Trail} {e : Desk} where
  answer_holding : {a : Answer Unit} (given : Answer Unit) → a ≡ given → BoardJudged b d a p e → Holding d → Holding e
  answer_holding (Ok done) is j h = j.holding is
  answer_holding (Err x) is j h = rw (j.stays x is) h

  judged_holding : {a : Answer Unit} → BoardJudged b d a p e → Holding d → Holding e
  judged_holding {a} j h = answer_holding a refl j h

  answer_standing : {a : Answer Unit} (given : Answer Unit) → a ≡ given → BoardJudged b d a p e → Standing d → Standing e
  answer_standing (Ok done) is j so = holding (j.holding is)
  answer_standing (Err x) is j so = rw (j.stays x is) so

  judged_standing : {a : Answer Unit} → BoardJudged b d a p e → Standing d → Standing e
  judged_standing {a} j so = answer_standing a refl j so

module _ (d : Desk) (h : Holding d) (t : Tally) (r : Ordered) where
  refused_leaves : (e : Refusal) (took : ℕ) (path : List ℕ) → r ≡ order_refused e took path d t → Leaves t r
  unfolding refused_tally
  refused_leaves e took path is =
      rw is (record { holding = h; counted = record { taken = (refused_counts (counts e.why) t).0; refused = (refused_counts (counts e.why) t).1 } })

  judged_leaves : (b : Board) (took : ℕ) → OrderJudged b d t took r → Leaves t r
  judged_leaves b took j = record { holding = judged_holding j.judged h; counted = rw j.tally (ordered_counts r.answer t) }

  tried_leaves : (a : Answer Held) (o : Order) (took : ℕ) → OrderTried a d t o took r → Leaves t r
  tried_leaves (Err e) o took is = refused_leaves e took [] is
  tried_leaves (Ok on) o took j = judged_leaves (changed_of on.board o) took j

  parsed_leaves : (p : Parse Order) → OrderParsed p d t r → Leaves t r
  parsed_leaves (Err e) is = refused_leaves e 0 [] is
  parsed_leaves (Ok x) j = tried_leaves (tried_of d t x.value) x.value x.next j

  pub order_leaves : (s : List ℕ) → OrderSaid d s t r → Leaves t r
  order_leaves s said = parsed_leaves (order_of s) said.parsed

-- ---- any list of orders, whoever writes to the tally
pub reached_holding : {d : Desk} → Reached d → Holding d
reached_holding (loaded {d = d} {rule = rule} {s = s} {t = t} {r = r} said done) = (load_accepted d t r rule s said done).so.holding
reached_holding (ordered {d = d} {s = s} {t = t} {r = r} before said) = (order_leaves d (reached_holding before) t r s said).holding

-- "After any list of orders the held budget is the one that demand 2 gives the board as it then stands."
pub reached_budget : {d : Desk} (so : Reached d) → Holds (reached_holding so).held.board (reached_holding so).held.budget
reached_budget so = (reached_holding so).kept.holds

-- ---- where nobody else writes to it
pub counting_reached : {d : Desk} {t : Tally} {answers : List (Answer Unit)} → Counting d t answers → Reached d
counting_reached (since said done) = loaded said done
counting_reached (after before said) = ordered (counting_reached before) said

one_more : (t t' : Tally) (a : Answer Unit) (answers : List (Answer Unit)) → Tallied t answers → Counted t t' a → Tallied t' (a ∷ answers)
unfolding taken_in refused_in
one_more t t' a answers so new = record { taken = omega (arith, so.taken, new.taken); refused = omega (arith, so.refused, new.refused) }

none_yet : (t : Tally) → t ≡ no_tally → Tallied t []
unfolding taken_in refused_in
none_yet t is = rw is (record { taken = refl; refused = refl })

-- "the sum is the number of counted orders since the load"
pub counting_tally : {d : Desk} {t : Tally} {answers : List (Answer Unit)} → Counting d t answers → Tallied t answers
counting_tally (since {d = d} {rule = rule} {s = s} {t = t} {r = r} said done) = none_yet r.tally (load_accepted d t r rule s said done).so.tally
counting_tally (after {d = d} {t = t} {answers = answers} {s = s} {r = r} before said) =
    one_more t r.tally r.answer answers (counting_tally before)
    (order_leaves d (reached_holding (counting_reached before)) t r s said).counted

-- ---- a desk that holds nothing, or what it should, stays so
module _ (d : Desk) (t : Tally) (so : Standing d) where
  kept_standing : {d' : Desk} → d' ≡ d → Standing d'
  kept_standing e = rw e so

  pub load_standing : (rule : ℕ) (s : List ℕ) (r : Loaded) → LoadSaid d rule s t r → Standing r.desk
  load_standing rule s r (load.unruled none is) = kept_standing (ap (λ (x : Loaded). x.desk) is)
  load_standing rule s r (load.ruled named e read) = parsed (design_of named s) read.parsed
    where
      parsed : (p : Parse Board) → LoadParsed p d t r → Standing r.desk
      parsed (Err e) is = kept_standing (ap (λ (x : Loaded). x.desk) is)
      parsed (Ok x) j = judged_standing j.judged so

  pub order_standing : (s : List ℕ) (r : Ordered) → OrderSaid d s t r → Standing r.desk
  order_standing s r said = parsed (order_of s) said.parsed
    where
      tried : (a : Answer Held) (o : Order) (took : ℕ) → OrderTried a d t o took r → Standing r.desk
      tried (Err e) o took is = kept_standing (ap (λ (x : Ordered). x.desk) is)
      tried (Ok h) o took j = judged_standing j.judged so

      parsed : (p : Parse Order) → OrderParsed p d t r → Standing r.desk
      parsed (Err e) is = kept_standing (ap (λ (x : Ordered). x.desk) is)
      parsed (Ok x) j = tried (tried_of d t x.value) x.value x.next j
