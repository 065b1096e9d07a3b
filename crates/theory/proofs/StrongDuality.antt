-- Strong duality: where some times keep the deadline, there are times and a flow that are slack, with a value no greater than the parts'
-- first savings together. They are found by lowering the deadline from where every part may take its slowest delay.
-- Assumes nothing.
use mathlib.Core.Path.{◌≡◌, ◌∙◌}
use Prim.Native.Nat.{ℕ, zero, suc, ◌+◌, ◌≤◌, ◌<◌}
use native.Mathlib.Decide.{dec_le}
use native.Mathlib.Omega.{arith}
use Rattle.theory.specs.Sum.{into}
use Rattle.theory.specs.Graph.{Graph, Times, Flow, Lawful, Feasible, Conserves, Slack, value}
use Rattle.theory.specs.Budget.{greatest}
use Rattle.theory.proofs.SumLaws.{sum_ext, sum_zero, share_scale}
use Rattle.theory.proofs.ArriveLaws.{greatest_ge}
use Rattle.theory.proofs.TimedLaws.{timed_budget, budget_feasible}
use Rattle.theory.proofs.Rounds.{rounds, timed_is, feasible_ranked}
use Rattle.theory.proofs.ValueBounds.{tops, value_tops}
use Rattle.theory.proofs.Lowering.{Labels, Closed, lower, lower_feasible, lower_slack, closed_room}
use Rattle.theory.proofs.Pushing.{source, sink, Walk, augment}
use Rattle.theory.proofs.Search.{search_walk, stuck, reached}

unfoldable pub no_load : Flow
no_load = record { part = λ p. 0; link = λ l. 0; entry = λ p. 0; exit = λ p. 0 }

module _ (G : Graph) where
  open G use {parts, links, from, to, fastest, ticks}

  -- times and a flow that are slack at deadline F
  pub record State (F : ℕ) : Type 0 where
    pub times : Times
    pub flow : Flow
    pub feasible : Feasible G F times
    pub conserves : Conserves G flow
    pub slack : Slack G F times flow
    pub small : value G flow ≤ tops G

  module _ (o : Lawful G) where
    none_into : (end : ℕ → ℕ) (p : ℕ) → into links end (λ l. 0) p ≡ 0
    unfolding into
    none_into end p = sum_ext links (λ l h. omega (arith, share_scale 0 (end l) p 0)) ∙ sum_zero links

    -- times in which every part takes its slowest delay, or longer, are slack with no load
    pub slowest_state : {F : ℕ} {τ : Times} → Feasible G F τ → ((p : ℕ) → p < parts → ticks p ≤ τ.used p) → State F
    unfolding no_load value
    slowest_state {F} {τ} f slow = record {
      times = τ;
      flow = no_load;
      feasible = f;
      conserves = record {
        arrives = λ p h. omega (arith, none_into to p);
        leaves = λ p h. omega (arith, none_into from p);
      };
      slack = record {
        suits = λ p h. record { used = λ j l. omega arith; unused = λ j l. omega (arith, o.past p h j (omega (arith, slow p h))) };
        tight = λ l h y. omega arith;
        starts = λ p h y. omega arith;
        stops = λ p h y. omega arith;
      };
      small = omega (arith, sum_zero parts);
    }

  module _ (o : Lawful G) {T : ℕ} {τ⁰ : Times} (f⁰ : Feasible G T τ⁰) where
    abbrev slowest : Times
    slowest = rounds G ticks (suc T)

    abbrev far : ℕ
    far = T + greatest parts slowest.end

    begin : State far
    unfolding rounds
    begin =
        slowest_state o
        (budget_feasible G o
        (timed_budget G {T = far} {τ = slowest} (timed_is G (λ p. fastest p + ticks p) (feasible_ranked G o f⁰))
        (λ p h. omega (arith, greatest_ge parts slowest.end p h)) (λ p h. omega arith)))
        (λ p h. omega arith)

    -- ---- one tick less
    -- the labels are closed: lower
    lower_one : {F : ℕ} (st : State (suc F)) {labels : Labels} → Closed G (suc F) st.times st.flow labels → State F
    lower_one {F} st {labels} c =
        let r = closed_room G st.feasible c in
        record {
          times = lower G labels 1 st.times;
          flow = st.flow;
          feasible = lower_feasible G o st.feasible st.slack r F (omega arith);
          conserves = st.conserves;
          slack = lower_slack G o st.feasible st.slack r F (omega arith);
          small = st.small;
        }

    -- a walk is found: one unit more
    one_more :
        {F : ℕ} → T < F → (st : State F) (φ' : Flow) → Walk G F st.times 1 st.flow φ' (source G) (sink G) →
        (st' : State F) × (value G st'.flow ≡ value G st.flow + 1)
    one_more {F} l st φ' w =
        let a = augment G F st.times 1 o w st.conserves st.slack in (
          record {
            times = st.times;
            flow = φ';
            feasible = st.feasible;
            conserves = a.0;
            slack = a.1;
            small = value_tops G o st.feasible f⁰ l φ' a.0 a.1;
          },
          a.2,
        )

    -- k bounds the walks that are left
    down : (k F : ℕ) → T ≤ F → (st : State (suc F)) → tops G ≤ value G st.flow + k → State F
    down zero F l st less =
        elim (search_walk G (suc F) st.times st.flow st.feasible o) [
          | stuck labels c ↦ lower_one st c
          | reached φ' w ↦ let a = one_more (omega arith) st φ' w in absurd (omega (arith, a.1, a.0.small))
        ]
    down (suc k) F l st less =
        elim (search_walk G (suc F) st.times st.flow st.feasible o) [
          | stuck labels c ↦ lower_one st c
          | reached φ' w ↦ let a = one_more (omega arith) st φ' w in down k F l a.0 (omega (arith, a.1))
        ]

    -- ---- down to the deadline
    to_deadline : (F : ℕ) → T ≤ F → State F → State T
    to_deadline zero l st = let ε : T ≡ zero = omega arith in rw ε st
    to_deadline (suc F) l st =
        elim (dec_le T F) [
          | yes l' ↦ to_deadline F l' (down (tops G) F l' st (omega arith))
          | no l' ↦ let ε : T ≡ suc F = omega arith in rw ε st
        ]

    -- STRONG DUALITY. Where some times keep the deadline, there are times and a flow that are slack.
    pub strong : State T
    strong = to_deadline far (omega arith) begin
