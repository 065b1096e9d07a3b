-- Demand 2: "A well-formed, loop-free board is refused for time exactly when some path at its fastest is too slow, and that path is shown", of
-- loads and of orders.
-- Assumes nothing.
use mathlib.Core.Path.{◌≡◌, refl, sym, ap, subst}
use mathlib.Core.List.{List}
use Prim.Native.Nat.{ℕ}
use Rattle.refusal.specs.declared.Why.TheVariants.{Looped, TooSlow}
use Rattle.std.specs.Prelude.{Ok}
use Rattle.refusal.specs.declared.Refusal.{Refusal}
use Rattle.refusal.specs.Refusal.{Answer, refusal, refused}
use Rattle.board.specs.declared.Rule.{Rule}
use Rattle.board.specs.declared.Board.{Board}
use Rattle.board.specs.Board.{WellFormed, rule_number}
use Rattle.board.specs.Leads.{LoopFree}
use Rattle.cone.proofs.Cones.{path_from}
use Rattle.slow.specs.declared.Trail.{Trail}
use Rattle.slow.specs.Slow.{SlowPath}
use Rattle.slow.specs.Walk.{trail_of}
use Rattle.slow.proofs.SlowLaws.{slow_path_is, in_time_no_path}
use Rattle.groups.specs.Parse.{Parse}
use Rattle.design.proofs.DesignLaws.{design_well_formed}
use Rattle.orders.specs.declared.Order.{Order}
use Rattle.orders.proofs.OrderLaws.{order_orderly}
use Rattle.solver.specs.Verdict.{Verdict, looped, slow, fine}
use Rattle.solver.proofs.VerdictLaws.{free_loopless}
use Rattle.desk.specs.declared.Tally.{Tally}
use Rattle.desk.specs.declared.Desk.{Desk}
use Rattle.desk.specs.declared.Loaded.{Loaded}
use Rattle.desk.specs.declared.Ordered.{Ordered}
use Rattle.desk.specs.declared.Held.{Held}
use Rattle.desk.specs.Held.{Standing}
use Rattle.desk.specs.Judged.{BoardJudged}
use Rattle.desk.specs.Load.{LoadJudged, LoadParsed, LoadSaid}
use Rattle.desk.specs.Order.{changed_of, tried_of, OrderTried, OrderParsed, OrderSaid}
use Rattle.desk.proofs.Tried.{never, same_err}
use Rattle.demands.specs.Loads.{Describes}
use Rattle.demands.specs.Orders.{Reads}
use Rattle.demands.specs.Slow.{SlowShown, TimeRefusal}
use Rattle.demands.proofs.Once.{judged_well}
use Rattle.demands.proofs.LoadLaws.{said_read}

loop_not_slow : {A : Type 0} {p q : ℕ} → ◌≡◌ {A = Answer Unit} (refused Looped p) (refused TooSlow q) → A
loop_not_slow e = let same : Looped ≡ TooSlow = ap (λ (x : Refusal). x.why) (same_err e) in absurd (cc)

module _ (b : Board) (w : WellFormed b) (free : LoopFree b) where
  slow_shown : {ticks : ℕ} {path : List ℕ} → SlowPath b ticks path → SlowShown b (refusal 10 ticks) (trail_of path)
  slow_shown {ticks} {path} x = record {
    path = path;
    ticks = ticks;
    fixed = x;
    is = slow_path_is b (free_loopless b w free) x;
    answered = refl;
    listed = refl;
  }

  verdict_time : {a : Answer Unit} {path : List ℕ} → Verdict b a path → TimeRefusal b a (trail_of path)
  verdict_time (looped {p = p} x) = record {
    given = λ way. absurd (free.none p (path_from b w x.on) x.on);
    only = λ place e. loop_not_slow e;
  }
  verdict_time (slow f x) = record { given = λ way. slow_shown x; only = λ place e. slow_shown x }
  verdict_time (fine f k) = record {
    given = λ way. in_time_no_path b (free_loopless b w free) k way;
    only = λ place e. never (sym e);
  }

  judged_time : {d d' : Desk} {a : Answer Unit} {shown : Trail} → BoardJudged b d a shown d' → TimeRefusal b a shown
  judged_time j = rw j.listed (verdict_time j.verdict)

-- of a load whose file describes a board without a loop
pub load_slow :
    (d : Desk) (t : Tally) (r : Loaded) (named : Rule) (s : List ℕ) (b : Board) → Describes named s b → LoopFree b → LoadSaid d (rule_number named) s t r →
    TimeRefusal b r.answer r.path
load_slow d t r named s b file free said =
    let j : LoadJudged b d t r = subst (λ (p : Parse Board). LoadParsed p d t r) file.read (said_read d t r named s said).parsed in
    judged_time b (design_well_formed named s b file.size file.read) free j.judged

-- of an order that none of 11, 18, 17, 7, 13, 14 and 15 meets, where the board as it would be has no loop
pub order_slow :
    (d : Desk) → Standing d → (t : Tally) (r : Ordered) (s : List ℕ) (o : Order) → Reads s o → (h : Held) → tried_of d t o ≡ Ok h →
    LoopFree (changed_of h.board o) → OrderSaid d s t r → TimeRefusal (changed_of h.board o) r.answer r.path
order_slow d so t r s o reads h tried free said =
    let parsed : OrderTried (tried_of d t o) d t o reads.took r = subst (λ (p : Parse Order). OrderParsed p d t r) reads.read said.parsed in
    let j : OrderTried (Ok h) d t o reads.took r = subst (λ (a : Answer Held). OrderTried a d t o reads.took r) tried parsed in
    let w = judged_well d t so o (order_orderly s o reads.took reads.read) h tried in
    judged_time (changed_of h.board o) w free j.judged
