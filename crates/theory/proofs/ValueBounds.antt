-- How great loads can get: the bounds that make a search for a flow end, and that make its numbers fit.
-- Assumes nothing.
use mathlib.Core.Path.{◌≡◌, ap}
use mathlib.Core.Bool.{cond}
use Prim.Native.Nat.{ℕ, suc, pred, max, ◌+◌, ◌*◌, ◌-◌, ◌≤◌, ◌<◌}
use native.Mathlib.Nat.{mul-le-mul_right}
use native.Mathlib.Decide.{ℕ_discrete, dec_lt}
use native.Mathlib.Omega.{arith}
use lib.Dec.{ltb}
use borrow.Author.Tests.{lt-ltb, le-ltb}
use Rattle.theory.specs.Sum.{sum, share, into}
use Rattle.theory.proofs.SumLaws.{share_eq, share_ne, into_ge, sum_le, sum_add, sum_scale, sum_mono, sum_share}
use Rattle.theory.specs.Saving.{saves}
use Rattle.theory.specs.Graph.{Graph, Times, Flow, Lawful, Feasible, Conserves, Slack, saved, value}
use Rattle.theory.proofs.TotalLaws.{total_saved}
use Rattle.theory.proofs.Duality.{weigh, dual}
use Rattle.theory.proofs.TimedLaws.{budget_feasible, fastest_first, fastest_fits, fastest_budget}
use Rattle.theory.proofs.Rounds.{timed_is, feasible_ranked}

-- the parts' first savings together
unfoldable pub tops : Graph → ℕ
tops G = sum G.parts (λ p. G.saving p 0)

module _ (G : Graph) (o : Lawful G) where
  open G use {parts, links, from, to, fastest, saving}

  module _ (φ : Flow) (c : Conserves G φ) where
    open φ use {part, link, entry, exit}

    -- what the parts' numbers π weigh at the links' two ends differs by what they weigh at the exits and entries
    pub balance :
        (π : ℕ → ℕ) →
        sum links (λ l. π (from l) * link l) + sum parts (λ p. π p * exit p) ≡ sum links (λ l. π (to l) * link l) + sum parts (λ p. π p * entry p)
    balance π =
        omega (
          arith,
          weigh parts links from link exit part π o.from_in c.leaves,
          weigh parts links to link entry part π o.to_in c.arrives,
        )

    -- as much enters as leaves
    pub value_entry : value G φ ≡ sum parts entry
    unfolding value
    value_entry = omega (arith, balance (λ p. 1), sum_scale parts 1 exit, sum_scale parts 1 entry)

  -- While T is below F, and some times keep T, the value is at most what is saved at F.
  module _ (φ : Flow) (c : Conserves G φ) {F : ℕ} {τ : Times} (f : Feasible G F τ) (k : Slack G F τ φ) {T : ℕ} (below : T < F) where
    pub value_saved : {τ' : Times} → Feasible G T τ' → saved G τ' + value G φ ≤ saved G τ
    value_saved f' = omega (arith, dual G o φ c f k f', mul-le-mul_right (value G φ) below)

    -- so at most what all parts draw at their fastest
    pub value_power : {τ' : Times} → Feasible G T τ' → value G φ ≤ sum parts G.power
    value_power f' = omega (arith, value_saved f', total_saved G o τ)

  -- ---- a better bound: one tick less of deadline costs each part one tick at most
  -- one tick earlier than τ, but nowhere earlier than τ⁰
  unfoldable hasten : Times → Times → Times
  hasten τ τ⁰ = record {
    start = λ p. max (τ.start p - 1) (τ⁰.start p);
    end = λ p. max (τ.end p - 1) (τ⁰.end p);
    used = λ p. max (τ.end p - 1) (τ⁰.end p) - (max (τ.start p - 1) (τ⁰.start p) + fastest p);
  }

  module _ {F T : ℕ} {τ τ⁰ : Times} (f : Feasible G F τ) (f⁰ : Feasible G T τ⁰) (below : T < F) where
    hasten_feasible : Feasible G (pred F) (hasten τ τ⁰)
    unfolding hasten
    hasten_feasible = record {
      spans = λ p h. omega (arith, f.spans p h, f⁰.spans p h);
      waits = λ l h. omega (arith, f.waits l h, f⁰.waits l h);
      ends = λ p h. omega (arith, f.ends p h, f⁰.ends p h);
    }

    one_tick : (p : ℕ) → p < parts → τ⁰.start p ≤ τ.start p → τ.used p ≤ suc ((hasten τ τ⁰).used p)
    unfolding hasten
    one_tick p h first = omega (arith, f.spans p h, f⁰.spans p h)

    hasten_saved : ((p : ℕ) → p < parts → τ⁰.start p ≤ τ.start p) → saved G τ ≤ saved G (hasten τ τ⁰) + tops G
    unfolding saved sum tops
    hasten_saved first =
        let t' = (hasten τ τ⁰).used in
        omega (
          arith,
          sum_le parts {f = λ p. saves (saving p) (τ.used p)} {g = λ p. saves (saving p) (t' p) + saving p 0}
              (λ p h. omega (arith, sum_mono (saving p) (τ.used p) (suc (t' p)) (one_tick p h (first p h)), o.falls p h 0 (t' p) (omega arith))),
          sum_add parts (λ p. saves (saving p) (t' p)) (λ p. saving p 0),
        )

  -- While some times keep a lower deadline, the value is at most the parts' first savings together: go no earlier than all at their fastest.
  pub value_tops :
      {F T : ℕ} {τ τ⁰ : Times} → Feasible G F τ → Feasible G T τ⁰ → T < F → (φ : Flow) → Conserves G φ → Slack G F τ φ → value G φ ≤ tops G
  value_tops {F} {T} f f⁰ below φ c k =
      let t = timed_is G fastest (feasible_ranked G o f⁰) in
      let quick = budget_feasible G o (fastest_budget G t (fastest_fits G o t f⁰)) in
      omega (
        arith,
        value_saved φ c f k {T = pred F} (omega arith) (hasten_feasible f quick below),
        hasten_saved f quick below (λ p h. (fastest_first G o t f p h).0),
      )

  -- ---- no single load is greater than the value: the parts that end after p are a cut
  module _ (φ : Flow) (c : Conserves G φ) {T : ℕ} {τ : Times} (f : Feasible G T τ) where
    open φ use {part, link, entry, exit}
    open τ use {start, end, used}

    -- 1 where a part ends after p, else 0
    after : ℕ → ℕ → ℕ
    after p q = cond (ltb (end p) (end q)) 1 0

    after_1 : (p q : ℕ) → end p < end q → after p q ≡ 1
    unfolding after
    after_1 p q h = rw (lt-ltb (end p) (end q) h)

    after_0 : (p q : ℕ) → end q ≤ end p → after p q ≡ 0
    unfolding after
    after_0 p q h = rw (le-ltb (end p) (end q) h)

    later : (l : ℕ) → l < links → end (from l) < end (to l)
    later l h = omega (arith, f.waits l h, f.spans (to l) (o.to_in l h), o.takes (to l) (o.to_in l h))

    crosses : (p l : ℕ) → l < links → share (from l) p (link l) + after p (from l) * link l ≤ after p (to l) * link l
    crosses p l h =
        elim (dec_lt (end p) (end (from l))) [
          | yes a ↦
              rw (
                after_1 p (from l) a,
                after_1 p (to l) (omega (arith, later l h)),
                share_ne {p = from l} {i = p} (link l) (λ q. omega (arith, ap end q)),
              )
              (omega arith)
          | no a ↦
              rw (after_0 p (from l) (omega arith))
              (elim (ℕ_discrete (from l) p) [
                | yes q ↦ rw (share_eq (link l) q, after_1 p (to l) (omega (arith, later l h, ap end q))) (omega arith)
                | no d ↦ rw (share_ne (link l) d) (omega arith)
              ])
        ]

    outside : (p q : ℕ) → after p q * exit q + share p q (exit q) ≤ exit q
    outside p q =
        elim (dec_lt (end p) (end q)) [
          | yes a ↦ rw (after_1 p q a, share_ne {p = p} {i = q} (exit q) (λ r. omega (arith, ap end r))) (omega arith)
          | no a ↦
              rw (after_0 p q (omega arith))
              (elim (ℕ_discrete p q) [ yes r ↦ rw (share_eq (exit q) r) (omega arith) | no d ↦ rw (share_ne (exit q) d) (omega arith) ])
        ]

    pub part_value : (p : ℕ) → p < parts → part p ≤ value G φ
    unfolding into value
    part_value p h =
        omega (
          arith,
          c.leaves p h,
          balance φ c (after p),
          sum_le links (crosses p),
          sum_add links (λ l. share (from l) p (link l)) (λ l. after p (from l) * link l),
          sum_le parts (λ q k. outside p q),
          sum_add parts (λ q. after p q * exit q) (λ q. share p q (exit q)),
          sum_share parts p exit h,
        )

    pub link_value : (l : ℕ) → l < links → link l ≤ value G φ
    link_value l h =
        let k = o.from_in l h in
        omega (arith, into_ge links from link l h, c.leaves (from l) k, part_value (from l) k)
