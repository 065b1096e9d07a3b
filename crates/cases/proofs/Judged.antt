-- What a load and an order come to, of boards that were worked out: where a budget is known to be held, and where a path is known to be too slow.
-- Assumes nothing.
use mathlib.Core.Path.{◌≡◌, refl, sym, ap, ◌∙◌, subst}
use mathlib.Core.Bool.{true}
use mathlib.Core.List.{List, []}
use Prim.Native.Nat.{ℕ, suc, ◌+◌, ◌<◌}
use lib.ListN.{length}
use Rattle.base.specs.Pick.{pick}
use Rattle.std.specs.Prelude.{Some, Ok, replicate}
use Rattle.refusal.specs.Refusal.{Answer, refusal, among}
use Rattle.theory.specs.Graph.{Ranked}
use Rattle.theory.specs.Budget as theory
use Rattle.theory.proofs.TimedLaws.{possible}
use Rattle.theory.proofs.Rounds.{round, timed_is}
use Rattle.board.specs.declared.Rule.TheVariants.{A}
use Rattle.board.specs.declared.Board.{Board}
use Rattle.board.specs.Board.{usable, view, WellFormed}
use Rattle.board.specs.Leads.{LoopFree}
use Rattle.board.proofs.Lawful.{lawful}
use Rattle.cone.proofs.Loops.{ranked_loop_free}
use Rattle.slow.specs.declared.Trail.{Trail}
use Rattle.slow.specs.Slow.{InTime, SlowPath}
use Rattle.slow.specs.Walk.{trail_of}
use Rattle.budget.specs.declared.Budget.{Budget}
use Rattle.budget.specs.Budget.{Holds}
use Rattle.budget.specs.Made.{value_of}
use Rattle.budget.proofs.BudgetLaws.{holds_once, value_holds}
use Rattle.groups.specs.Parse.{Parse, got}
use Rattle.design.specs.Design.{design_of, file_of}
use Rattle.design.proofs.DesignLaws.{design_well_formed}
use Rattle.orders.specs.declared.Order.{Order}
use Rattle.orders.specs.Order.{order_of}
use Rattle.solver.specs.Verdict.{Verdict}
use Rattle.solver.specs.Verdict as verdict
use Rattle.solver.proofs.VerdictLaws.{verdict_once, verdict_done}
use Rattle.desk.specs.declared.Tally.{Tally}
use Rattle.desk.specs.declared.Desk.{Desk}
use Rattle.desk.specs.declared.Loaded.{Loaded}
use Rattle.desk.specs.declared.Ordered.{Ordered}
use Rattle.desk.specs.Held.{Holding}
use Rattle.desk.specs.declared.Held.{Held}
use Rattle.desk.specs.Judged.{BoardJudged}
use Rattle.desk.specs.Load.{no_tally, load_refused, tally_loaded, LoadJudged, LoadParsed, LoadSaid}
use Rattle.desk.specs.Load as load
use Rattle.demands.proofs.LoadLaws.{said_read}
use Rattle.desk.specs.Order.{changed_of, place_tried, tried_of, one_taken, one_refused, refused_tally, tally_ordered, OrderJudged, OrderTried, OrderParsed, OrderSaid}
use Rattle.desk.proofs.Tried.{never, passed_tried}
use Rattle.cases.specs.Promised.{Comes, LoadRefused}
use Rattle.cases.proofs.Best.{times_by, best, best_budget, best_ranked, best_held}

-- ---- what calls come to
pub comes_then : {R : Type 0} {Said Is Is' : R → Type 0} → Comes Said Is → ((r : R) → Is r → Is' r) → Comes Said Is'
comes_then c f = record { result = c.result; said = c.said; only = λ r said. f r (c.only r said) }

-- ---- a board whose file reads back, and for which the test of delays passed
pub record Known (b : Board) (delays : List ℕ) : Type 0 where
  pub read : design_of A (file_of b) ≡ got b (length (file_of b))
  pub test : best (view b) (usable b) delays ≡ true

module _ (b : Board) (delays : List ℕ) (k : Known b delays) where
  pub known_formed : WellFormed b
  known_formed = design_well_formed A (file_of b) b (length (file_of b)) k.read

  known_budget : theory.Budget (view b) (usable b) (times_by (view b) delays)
  known_budget = best_budget (view b) (lawful b known_formed) (usable b) delays k.test

  pub known_ranked : Ranked (view b) (suc (usable b))
  known_ranked = best_ranked (view b) (lawful b known_formed) (usable b) delays k.test

  known_free : LoopFree b
  known_free = ranked_loop_free b (suc (usable b)) known_ranked

  known_done : {a : Answer Unit} {path : List ℕ} → Verdict b a path → a ≡ Ok tt
  known_done = verdict_done b known_formed known_free known_budget

  -- all at fastest it is in time, since it has a budget
  known_in_time : InTime b
  unfolding view
  known_in_time =
      let t = timed_is (view b) (view b).fastest known_ranked in
      record {
        end = λ p. round (view b) (view b).fastest (suc (usable b)) p + (view b).fastest p;
        ends = record { start = round (view b) (view b).fastest (suc (usable b)); timed = t };
        within = (possible (view b) (lawful b known_formed) t).0 (times_by (view b) delays, known_budget);
      }

  known_fine : Verdict b (Ok tt) []
  known_fine = verdict.fine known_free known_in_time

  pub known_holds : Holds b (value_of b (times_by (view b) delays))
  known_holds =
      value_holds b known_formed (times_by (view b) delays)
      (best_held (view b) (lawful b known_formed) (usable b) delays k.test)

  -- a desk that holds the board
  known_held : Held
  known_held = record { board = b; budget = value_of b (times_by (view b) delays); flow = replicate 448 0 }

  pub known_desk : Desk
  known_desk = record { held = Some known_held }

  -- so it is put on any desk
  known_judged : (d : Desk) → BoardJudged b d (Ok tt) (trail_of []) known_desk
  unfolding known_held known_desk
  known_judged d = record {
    shown = [];
    verdict = known_fine;
    listed = refl;
    stays = λ x e. never (sym e);
    holding = λ e. record { held = known_held; is = refl; kept = record { formed = known_formed; free = known_free; holds = known_holds } };
    board = λ e. refl;
  }

-- ---- a board that shows a path too slow
pub record Slow (b : Board) (ticks : ℕ) (path : List ℕ) : Type 0 where
  pub formed : WellFormed b
  pub free : LoopFree b
  pub shown : SlowPath b ticks path

module _ (b : Board) (ticks : ℕ) (path : List ℕ) (k : Slow b ticks path) (d : Desk) where
  slow_judged : BoardJudged b d (refusal 10 ticks) (trail_of path) d
  slow_judged = record {
    shown = path;
    verdict = verdict.slow k.free k.shown;
    listed = refl;
    stays = λ x e. refl;
    holding = λ e. never e;
    board = λ e. never e;
  }

  module _ {a : Answer Unit} {shown : Trail} {d' : Desk} (j : BoardJudged b d a shown d') where
    slow_answer : a ≡ refusal 10 ticks
    slow_answer = (verdict_once b k.formed j.verdict (verdict.slow k.free k.shown)).answer

    slow_path : shown ≡ trail_of path
    slow_path = j.listed ∙ ap trail_of (verdict_once b k.formed j.verdict (verdict.slow k.free k.shown)).listed

    slow_stays : d' ≡ d
    slow_stays = j.stays _ slow_answer

-- ---- a desk that holds the board b, with so many orders counted
pub record At (b : Board) (counted : Tally) (d : Desk) (t : Tally) : Type 0 where
  pub holding : Holding d
  pub board : holding.held.board ≡ b
  pub tally : t ≡ counted

pub at_budget :
    (b : Board) (delays : List ℕ) → Known b delays → {n : Tally} {d : Desk} {t : Tally} (a : At b n d t) →
    a.holding.held.budget ≡ value_of b (times_by (view b) delays)
at_budget b delays k {d = d} a =
    holds_once b (known_formed b delays k) a.holding.held.budget (value_of b (times_by (view b) delays))
    (subst (λ (x : Board). Holds x a.holding.held.budget) a.board a.holding.kept.holds)
    (known_holds b delays k)

-- ---- loads
module _ (b : Board) (d : Desk) (t : Tally) (read : design_of A (file_of b) ≡ got b (length (file_of b))) where
  load_judged : (r : Loaded) → LoadSaid d 0 (file_of b) t r → LoadJudged b d t r
  load_judged r said = subst (λ (p : Parse Board). LoadParsed p d t r) read (said_read d t r A (file_of b) said).parsed

  load_said : (r : Loaded) → LoadJudged b d t r → LoadSaid d 0 (file_of b) t r
  load_said r j = load.ruled A refl (record { parsed = subst (λ (p : Parse Board). LoadParsed p d t r) (sym read) j })

module _ (b : Board) (delays : List ℕ) (k : Known b delays) (d : Desk) (t : Tally) where
  accepted : (r : Loaded) → LoadJudged b d t r → (r.answer ≡ Ok tt) × At b no_tally r.desk r.tally
  accepted r j =
      let done = known_done b delays k j.judged.verdict in (
        done,
        record {
          holding = j.judged.holding done;
          board = j.judged.board done;
          tally = j.tally ∙ ap (λ (a : Answer Unit). tally_loaded a t) done;
        },
      )

  pub load_accepted : Comes (LoadSaid d 0 (file_of b) t) (λ r. (r.answer ≡ Ok tt) × At b no_tally r.desk r.tally)
  load_accepted = record {
    result = record { answer = Ok tt; path = trail_of []; desk = known_desk b delays k; tally = no_tally };
    said = load_said b d t k.read _ (record { judged = known_judged b delays k d; tally = refl });
    only = λ r said. accepted r (load_judged b d t k.read r said);
  }

module _ (b : Board) (read : design_of A (file_of b) ≡ got b (length (file_of b))) (ticks : ℕ) (path : List ℕ) (k : Slow b ticks path) (d : Desk) (t : Tally) where
  refused : (r : Loaded) → LoadJudged b d t r → LoadRefused d t r 10 ticks path
  refused r j = record {
    refused = slow_answer b ticks path k d j.judged;
    path_is = slow_path b ticks path k d j.judged;
    desk_stays = slow_stays b ticks path k d j.judged;
    tally_stays = j.tally ∙ ap (λ (a : Answer Unit). tally_loaded a t) (slow_answer b ticks path k d j.judged);
  }

  pub load_refused_lem : Comes (LoadSaid d 0 (file_of b) t) (λ r. LoadRefused d t r 10 ticks path)
  load_refused_lem = record {
    result = load_refused (refusal 10 ticks) path d t;
    said = load_said b d t read _ (record { judged = slow_judged b ticks path k d; tally = refl });
    only = λ r said. refused r (load_judged b d t read r said);
  }

-- ---- orders, from a desk that holds b
pub record Made (r : Ordered) (took : ℕ) (b : Board) (counted : Tally) : Type 0 where
  pub done : r.answer ≡ Ok tt
  pub took_is : r.took ≡ took
  pub path_is : r.path ≡ trail_of []
  pub at : At b counted r.desk r.tally

pub record Turned (r : Ordered) (took ticks : ℕ) (path : List ℕ) (d : Desk) (b : Board) (counted : Tally) : Type 0 where
  pub refused : r.answer ≡ refusal 10 ticks
  pub took_is : r.took ≡ took
  pub path_is : r.path ≡ trail_of path
  pub desk_stays : r.desk ≡ d
  pub at : At b counted r.desk r.tally

counted_slow : (ticks : ℕ) (t : Tally) → tally_ordered (refusal 10 ticks) t ≡ one_refused t
unfolding refused_tally among pick
counted_slow ticks t = refl

done_path : (b : Board) → WellFormed b → Verdict b (Ok tt) [] → {a : Answer Unit} {path : List ℕ} → Verdict b a path → path ≡ []
done_path b w accepted v = (verdict_once b w v accepted).listed

module _ (b : Board) (n : Tally) (d : Desk) (t : Tally) (at : At b n d t) (room : n.taken + n.refused < 65535) (bytes : List ℕ) (o : Order) (took : ℕ)
    (reads : order_of bytes ≡ got o took) (fits : place_tried b o ≡ Ok tt) (b' : Board) (changed : changed_of b o ≡ b')
  where
    abbrev held : Held
    held = at.holding.held

    tried : tried_of d t o ≡ Ok held
    tried = passed_tried d t o held (record {
      held = at.holding.is;
      room = rw at.tally room;
      place = ap (λ (x : Board). place_tried x o) at.board ∙ fits;
    })

    as_ordered : changed_of held.board o ≡ b'
    as_ordered = ap (λ (x : Board). changed_of x o) at.board ∙ changed

    order_judged : (r : Ordered) → OrderSaid d bytes t r → OrderJudged b' d t took r
    order_judged r said =
        let parsed : OrderTried (tried_of d t o) d t o took r = subst (λ (p : Parse Order). OrderParsed p d t r) reads said.parsed in
        let judged : OrderJudged (changed_of held.board o) d t took r = subst (λ (a : Answer Held). OrderTried a d t o took r) tried parsed in
        subst (λ (x : Board). OrderJudged x d t took r) as_ordered judged

    order_said : (r : Ordered) → OrderJudged b' d t took r → OrderSaid d bytes t r
    order_said r j =
        let judged : OrderTried (Ok held) d t o took r = subst (λ (x : Board). OrderJudged x d t took r) (sym as_ordered) j in
        let parsed : OrderParsed (got o took) d t r = subst (λ (a : Answer Held). OrderTried a d t o took r) (sym tried) judged in
        record { parsed = subst (λ (p : Parse Order). OrderParsed p d t r) (sym reads) parsed }

    module _ (delays : List ℕ) (k : Known b' delays) where
      made : (r : Ordered) → OrderJudged b' d t took r → Made r took b' (one_taken n)
      made r j =
          let done = known_done b' delays k j.judged.verdict in
          record {
            done = done;
            took_is = j.took_is;
            path_is = j.judged.listed ∙ ap trail_of (done_path b' (known_formed b' delays k) (known_fine b' delays k) j.judged.verdict);
            at = record {
              holding = j.judged.holding done;
              board = j.judged.board done;
              tally = j.tally ∙ ap (λ (a : Answer Unit). tally_ordered a t) done ∙ ap one_taken at.tally;
            };
          }

      pub order_made : Comes (OrderSaid d bytes t) (λ r. Made r took b' (one_taken n))
      order_made = record {
        result = record { answer = Ok tt; took = took; path = trail_of []; desk = known_desk b' delays k; tally = one_taken t };
        said = order_said _ (record { judged = known_judged b' delays k d; took_is = refl; tally = refl });
        only = λ r said. made r (order_judged r said);
      }

    module _ (ticks : ℕ) (path : List ℕ) (k : Slow b' ticks path) where
      turned : (r : Ordered) → OrderJudged b' d t took r → Turned r took ticks path d b (one_refused n)
      turned r j =
          let answer = slow_answer b' ticks path k d j.judged in
          let stays = slow_stays b' ticks path k d j.judged in
          record {
            refused = answer;
            took_is = j.took_is;
            path_is = slow_path b' ticks path k d j.judged;
            desk_stays = stays;
            at = record {
              holding = record { held = at.holding.held; is = ap (λ (x : Desk). x.held) stays ∙ at.holding.is; kept = at.holding.kept };
              board = at.board;
              tally = j.tally ∙ ap (λ (a : Answer Unit). tally_ordered a t) answer ∙ counted_slow ticks t ∙ ap one_refused at.tally;
            };
          }

      pub order_refused_lem : Comes (OrderSaid d bytes t) (λ r. Turned r took ticks path d b (one_refused n))
      order_refused_lem = record {
        result = record { answer = refusal 10 ticks; took = took; path = trail_of path; desk = d; tally = tally_ordered (refusal 10 ticks) t };
        said = order_said _ (record { judged = slow_judged b' ticks path k d; took_is = refl; tally = refl });
        only = λ r said. turned r (order_judged r said);
      }
