-- The ways of `solve`: a board refused; and loads that conserve with their first times, which are the budget held and its reason.
-- Assumes nothing.
use Rattle.std.proofs.Common.{◌≡◌, ℕ, ◌+◌, ◌<◌, ◌≤◌, Bool, true, false, not, List, [], arith, w64, Fits}
use borrow.Author.Tests.{not-true, not-false}
use Rattle.std.specs.Prelude.{Result, Ok}
use Rattle.theory.specs.Sum.{cells}
use Rattle.theory.specs.Graph.{Graph, Times, Flow, Lawful, Slack}
use Rattle.theory.specs.Budget.{Held}
use Rattle.theory.proofs.Alike.{Alike}
use Rattle.board.specs.declared.Board.{Board}
use Rattle.board.specs.Board.{WellFormed, view, usable}
use Rattle.board.specs.Tests.{Decides}
use Rattle.board.proofs.Lawful.{lawful}
use Rattle.cone.proofs.Loops.{loop_free_ranked, ranked_loop_free}
use Rattle.budget.specs.declared.Budget.{Budget}
use Rattle.budget.specs.Budget.{Holds}
use Rattle.budget.specs.Made.{value_of}
use Rattle.budget.specs.Reason.{Reason, loads_of}
use Rattle.budget.proofs.BudgetLaws.{value_alike, value_holds}
use Rattle.nets.specs.Network.{Network}
use Rattle.nets.specs.Flow.{Sheet, First}
use Rattle.nets.specs.Wired.{Wired, times_of}
use Rattle.nets.specs.declared.Net.{Net}
use Rattle.nets.specs.declared.Work.{Work}
use Rattle.nets.specs.Sheet.{net_in}
use Rattle.nets.proofs.Bridge.{balanced_conserves}
use Rattle.nets.proofs.Nodes.{first_held, first_slack}
use Rattle.nets.proofs.Steps.{first_agrees, sheet_agrees}
use Rattle.deciding.specs.Balancing.{SheetIn}
use Rattle.solver.specs.declared.Solved.{Solved}
use Rattle.solver.specs.declared.Unsolved.{Unsolved}
use Rattle.solver.specs.Verdict.{Verdict, fine}
use Rattle.solver.specs.Solve.{Solvable, Sound, Solves}
use Rattle.solver.specs.Wiring.{NetworkIn}
use Rattle.solver.specs.Finding.{Prepared, Found, Answers}
use Rattle.solver.specs.Reading.{Budgeted, FlowIn}

-- times that agree are slack with the same loads
alike_slack : (G : Graph) → Lawful G → {τ τ' : Times} → Alike G τ τ' → {T : ℕ} {φ : Flow} → Slack G T τ φ → Slack G T τ' φ
alike_slack G o {τ} {τ'} same k = record {
  suits = λ p h. rw (same.used_eq p h) at (k.suits p h);
  tight = λ l h y. omega (arith, k.tight l h y, same.end_eq (G.from l) (o.from_in l h), same.start_eq (G.to l) (o.to_in l h));
  starts = λ p h y. omega (arith, k.starts p h y, same.start_eq p h);
  stops = λ p h y. omega (arith, k.stops p h y, same.end_eq p h);
}

-- ---- the verdict
off_on : {A : Type 0} {t : Bool} → t ≡ false → t ≡ true → A
off_on off on = absurd (let z : ◌≡◌ {A = ℕ} 0 1 = cc in omega arith)

solvable_fine : (b : Board) → Solvable b → Verdict b (Ok tt) []
solvable_fine b can =
    fine (ranked_loop_free b 65 can.ranked)
    (record { end = can.end; ends = record { start = can.start; timed = can.fastest }; within = can.in_time })

pub verdict_solvable : (b : Board) → WellFormed b → Verdict b (Ok tt) [] → Solvable b
verdict_solvable b w (fine free k) = record {
  formed = w;
  ranked = loop_free_ranked b w free;
  start = k.ends.start;
  end = k.end;
  fastest = k.ends.timed;
  in_time = k.within;
}

-- ---- `solve`
module _ (b : Board) (q : Bool) (d : Decides q (WellFormed b)) where
  pub not_formed : (r : Result Solved Unsolved) → not q ≡ true → WellFormed b → Solves b r
  not_formed r off w = off_on (not-true q off) (d.no w)

  pub is_formed : not q ≡ false → WellFormed b
  is_formed on = d.yes (not-false q on)

-- ---- a board that can be solved
pub so_prepared : (b : Board) → Solvable b → (due : ℕ) → due ≡ usable b → (net : Net) → NetworkIn b net → Prepared b net due
so_prepared b can due e net n = record { can = can; network = n; due_is = e }

pub so_answers : (b : Board) (due : ℕ) → due ≡ usable b → (net : Net) (w : Work) → Found b due net w → Answers b w
so_answers b due e net w f = record { net = net; found = rw e at f }

-- loads and their first times
module _ (b : Board) (can : Solvable b) (N : Network) (w : Wired (view b) N) (t x : List ℕ) (f : First N (usable b) (cells x) (cells t))
    (s : Sheet N.arcs N.tail N.head (cells x)) where
  abbrev τ : Times
  τ = times_of (view b) (cells t)

  held : Held (view b) (usable b) τ
  held = first_held (view b) (lawful b can.formed) N w (usable b) (cells x) (cells t) f s.balanced

  first_settled : Budgeted b t
  first_settled = record { formed = can.formed; budget = held.budget }

  first_holds : (r : Budget) → r ≡ value_of b τ → Holds b r
  first_holds r e = rw e (value_holds b can.formed τ held)

  first_reason : (r : Budget) → r ≡ value_of b τ → ((a : ℕ) → loads_of b ≤ a → cells x a ≡ 0) → Reason b r x
  unfolding view
  first_reason r e past =
      let o = lawful b can.formed in
      let same = value_alike b can.formed τ held.budget in
      rw e
      (record {
        conserves = balanced_conserves (view b) o N w (cells x) s.balanced;
        slack = alike_slack (view b) o same (first_slack (view b) o N w (usable b) (cells x) (cells t) f);
        small = λ a h. s.small a (omega (arith, w.arcs));
        past = past;
      })

-- ---- `answer_of`
module _ (b : Board) (w : Work) (ans : Answers b w) where
  abbrev can : Solvable b
  can = ans.found.prepared.can

  abbrev M : Network
  M = net_in ans.net

  wired : Wired (view b) M
  wired = ans.found.prepared.network.wired

  sheet : Sheet M.arcs M.tail M.head (cells w.load)
  unfolding SheetIn
  sheet = ans.found.proves.sheet

  pub answers_settled : Budgeted b w.time
  answers_settled = first_settled b can M wired w.time w.load ans.found.proves.first sheet

  pub loads_fit_2 : Fits w64 (b.parts + b.links)
  loads_fit_2 = omega (arith, can.formed.parts_to, can.formed.links_to)

  pub loads_fit_3 : Fits w64 (b.parts + b.links + b.parts)
  loads_fit_3 = omega (arith, can.formed.parts_to, can.formed.links_to)

  pub loads_fit : Fits w64 (b.parts + b.links + b.parts + b.parts)
  loads_fit = omega (arith, can.formed.parts_to, can.formed.links_to)

  pub loads_few : b.parts + b.links + b.parts + b.parts ≤ 448
  loads_few = omega (arith, can.formed.parts_to, can.formed.links_to)

  module _ (r : Budget) (flow : List ℕ) (e : r ≡ value_of b (times_of (view b) (cells w.time)))
      (read : FlowIn w.load (b.parts + b.links + b.parts + b.parts) flow) where
    same_load : (a : ℕ) → a < M.arcs → cells flow a ≡ cells w.load a
    unfolding view
    same_load a h = read.loads a (omega (arith, wired.arcs))

    flow_first : First M (usable b) (cells flow) (cells w.time)
    flow_first = first_agrees M (usable b) (cells w.load) (cells flow) same_load (cells w.time) ans.found.proves.first

    flow_sheet : Sheet M.arcs M.tail M.head (cells flow)
    flow_sheet = sheet_agrees M (cells w.load) (cells flow) same_load sheet

    pub answers_solves : Sound b (record { budget = r; flow = flow })
    answers_solves = record {
      verdict = solvable_fine b can;
      holds = first_holds b can M wired w.time flow flow_first flow_sheet r e;
      reason = first_reason b can M wired w.time flow flow_first flow_sheet r e (λ a h. read.past a (omega arith));
    }
