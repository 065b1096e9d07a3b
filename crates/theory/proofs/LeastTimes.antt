-- The least times that are slack with a flow. A flow asks of each start and end that it be no earlier than another allows; times are
-- raised one by one, never past any that are slack, until nothing is asked for any more.
-- Assumes nothing.
use mathlib.Core.Path.{◌≡◌, ap}
use mathlib.Core.Bool.{cond}
use Prim.Native.Nat.{ℕ, zero, suc, pred, ◌+◌, ◌-◌, ◌≤◌, ◌<◌}
use native.Mathlib.Decide.{ℕ_discrete, dec_le, dec_lt}
use native.Mathlib.Omega.{arith}
use lib.Dec.{ltb}
use borrow.Author.Tests.{lt-ltb, le-ltb}
use Rattle.theory.specs.Sum.{sum}
use Rattle.theory.proofs.SumLaws.{sum_le, sum_more, share_eq, share_ne, below_suc}
use Rattle.theory.specs.Saving.{Suits, Falling}
use Rattle.theory.specs.Graph.{Graph, Times, Flow, Lawful, Feasible, Slack}
use Rattle.theory.specs.Budget.{NoLater}
use Rattle.theory.proofs.Finding.{look_for, dec_and, bump, bump_more}

-- ---- how many of the first k ticks save more than x, where savings fall
unfoldable pub above : (ℕ → ℕ) → ℕ → ℕ → ℕ
above g zero x = 0
above g (suc k) x = cond (ltb x (g k)) (suc k) (above g k x)

module _ {g : ℕ → ℕ} (falls : Falling g) (x : ℕ) where
  -- those ticks save more,
  pub above_more : (k j : ℕ) → j < above g k x → x < g j
  unfolding above
  above_more zero j h = omega arith
  above_more (suc k) j h =
      elim (dec_lt x (g k)) [
        | yes a ↦ let h' : j < suc k = rw (lt-ltb x (g k) a) at h in omega (arith, falls j k (omega arith))
        | no a ↦ let b : g k ≤ x = omega arith in let h' : j < above g k x = rw (le-ltb x (g k) b) at h in above_more k j h'
      ]

  -- and the others do not
  pub above_less : (k j : ℕ) → j < k → above g k x ≤ j → g j ≤ x
  unfolding above
  above_less zero j l h = omega arith
  above_less (suc k) j l h =
      elim (dec_lt x (g k)) [
        | yes a ↦ let h' : suc k ≤ j = rw (lt-ltb x (g k) a) at h in omega arith
        | no a ↦
            let b : g k ≤ x = omega arith in
            let h' : above g k x ≤ j = rw (le-ltb x (g k) b) at h in
            below_suc {P = λ j. above g k x ≤ j → g j ≤ x} (λ j l. above_less k j l) (λ h. b) j l h'
      ]

  -- nor do any more, where ticks from k on save nothing
  pub above_rest : (k : ℕ) → ((j : ℕ) → k ≤ j → g j ≡ 0) → (j : ℕ) → above g k x ≤ j → g j ≤ x
  above_rest k past j h =
      elim (dec_lt j k) [ yes l ↦ above_less k j l h | no l ↦ omega (arith, past j (omega arith)) ]

module _ (G : Graph) (T : ℕ) (φ : Flow) where
  open G use {parts, links, from, to, wire, fastest, ticks, saving}
  open φ use {part, link, entry, exit}

  -- the fewest and the most ticks that a part's load suits; where there is no load there is no most
  unfoldable pub fewest : ℕ → ℕ
  fewest p = above (saving p) (ticks p) (part p)

  unfoldable pub most : ℕ → ℕ
  most p = above (saving p) (ticks p) (pred (part p))

  -- ---- what the flow asks of the times, each no earlier than another allows
  pub record Asks (τ : Times) : Type 0 where
    pub long : (p : ℕ) → p < parts → τ.start p + (fastest p + fewest p) ≤ τ.end p
    pub brief : (p : ℕ) → p < parts → 0 < part p → τ.end p ≤ τ.start p + (fastest p + most p)
    pub waits : (l : ℕ) → l < links → τ.end (from l) + wire l ≤ τ.start (to l)
    pub pulls : (l : ℕ) → l < links → 0 < link l → τ.start (to l) ≤ τ.end (from l) + wire l
    pub stops : (p : ℕ) → p < parts → 0 < exit p → T ≤ τ.end p

  -- the ticks that the times leave a part
  unfoldable pub fill : Times → Times
  fill τ = record { start = τ.start; end = τ.end; used = λ p. τ.end p - (τ.start p + fastest p) }

  -- no later than any times that are slack
  abbrev pub Under : Times → Type 0
  Under τ = (τ' : Times) → Feasible G T τ' → Slack G T τ' φ → NoLater G τ τ'

  module _ (o : Lawful G) where
    module _ (p : ℕ) (h : p < parts) where
      past_fewest : (j : ℕ) → fewest p ≤ j → saving p j ≤ part p
      unfolding fewest
      past_fewest = above_rest (o.falls p h) (part p) (ticks p) (o.past p h)

      past_most : (j : ℕ) → most p ≤ j → saving p j ≤ pred (part p)
      unfolding most
      past_most = above_rest (o.falls p h) (pred (part p)) (ticks p) (o.past p h)

      suits_fewest : (t : ℕ) → Suits (saving p) t (part p) → fewest p ≤ t
      unfolding fewest
      suits_fewest t s =
          elim (dec_le (fewest p) t) [
            | yes l ↦ l
            | no l ↦ absurd (omega (arith, above_more (o.falls p h) (part p) (ticks p) t (omega arith), s.unused t (omega arith)))
          ]

      suits_most : (t : ℕ) → Suits (saving p) t (part p) → 0 < part p → t ≤ most p
      suits_most t s y =
          elim (dec_le t (most p)) [ yes l ↦ l | no l ↦ absurd (omega (arith, past_most (most p) (omega arith), s.used (most p) (omega arith))) ]

      between_suits : (t : ℕ) → fewest p ≤ t → (0 < part p → t ≤ most p) → Suits (saving p) t (part p)
      unfolding most
      between_suits t a b = record {
        used = λ j l.
            elim (dec_lt 0 (part p)) [
              | yes y ↦ omega (arith, above_more (o.falls p h) (pred (part p)) (ticks p) j (omega (arith, b y)))
              | no y ↦ omega arith
            ];
        unused = λ j l. past_fewest j (omega arith);
      }

    pub slack_asks : {τ : Times} → Feasible G T τ → Slack G T τ φ → Asks τ
    slack_asks {τ} f k = record {
      long = λ p h. omega (arith, f.spans p h, suits_fewest p h (τ.used p) (k.suits p h));
      brief = λ p h y. omega (arith, f.spans p h, suits_most p h (τ.used p) (k.suits p h) y);
      waits = f.waits;
      pulls = λ l h y. omega (arith, k.tight l h y);
      stops = λ p h y. omega (arith, k.stops p h y);
    }

    module _ {τ₁ : Times} (f₁ : Feasible G T τ₁) (k₁ : Slack G T τ₁ φ) where
      -- times that are, and that have what is asked, are the least that are slack
      module _ {τ : Times} (u : Under τ) (a : Asks τ) where
        pub least_feasible : Feasible G T (fill τ)
        unfolding fill
        least_feasible = record {
          spans = λ p h. omega (arith, a.long p h);
          waits = a.waits;
          ends = λ p h. omega (arith, (u τ₁ f₁ k₁).end_le p h, f₁.ends p h);
        }

        pub least_slack : Slack G T (fill τ) φ
        unfolding fill
        least_slack = record {
          suits = λ p h. between_suits p h ((fill τ).used p) (omega (arith, a.long p h)) (λ y. omega (arith, a.brief p h y));
          tight = λ l h y. omega (arith, a.waits l h, a.pulls l h y);
          starts = λ p h y. omega (arith, (u τ₁ f₁ k₁).start_le p h, k₁.starts p h y);
          stops = λ p h y. omega (arith, (u τ₁ f₁ k₁).end_le p h, f₁.ends p h, a.stops p h y);
        }

      -- ---- raising one time by one
      raise_start : Times → ℕ → Times
      raise_start τ p = record { start = bump τ.start p; end = τ.end; used = τ.used }

      raise_end : Times → ℕ → Times
      raise_end τ p = record { start = τ.start; end = bump τ.end p; used = τ.used }

      bump_le : {f f' : ℕ → ℕ} (p : ℕ) → ((q : ℕ) → q < parts → f q ≤ f' q) → f p < f' p → (q : ℕ) → q < parts → bump f p q ≤ f' q
      unfolding bump
      bump_le {f} {f'} p h l q k =
          elim (ℕ_discrete p q) [ yes ε ↦ omega (arith, share_eq 1 ε, ap f ε, ap f' ε) | no d ↦ omega (arith, share_ne 1 d, h q k) ]

      at_most : {a b : ℕ} → (a < b → ⊥) → b ≤ a
      at_most h = omega arith

      -- what is asked is there, or a start or end is earlier than in all times that are slack
      data Next (τ : Times) : Type 0 where
        there : Asks τ → Next τ
        early_start : (p : ℕ) → p < parts → ((τ' : Times) → Feasible G T τ' → Slack G T τ' φ → τ.start p < τ'.start p) → Next τ
        early_end : (p : ℕ) → p < parts → ((τ' : Times) → Feasible G T τ' → Slack G T τ' φ → τ.end p < τ'.end p) → Next τ

      next : (τ : Times) → Under τ → Next τ
      next τ u =
          look_for parts (λ p. dec_lt (τ.end p) (τ.start p + (fastest p + fewest p)))
          (λ p h a. early_end p h (λ τ' f k. omega (arith, (slack_asks f k).long p h, (u τ' f k).start_le p h)))
          (λ n₁.
          look_for parts (λ p. dec_and (dec_lt 0 (part p)) (dec_lt (τ.start p + (fastest p + most p)) (τ.end p)))
          (λ p h a. early_start p h (λ τ' f k. omega (arith, (slack_asks f k).brief p h a.0, (u τ' f k).end_le p h)))
          (λ n₂.
          look_for links (λ l. dec_lt (τ.start (to l)) (τ.end (from l) + wire l))
          (λ l h a. early_start (to l) (o.to_in l h) (λ τ' f k. omega (arith, f.waits l h, (u τ' f k).end_le (from l) (o.from_in l h))))
          (λ n₃.
          look_for links (λ l. dec_and (dec_lt 0 (link l)) (dec_lt (τ.end (from l) + wire l) (τ.start (to l))))
          (λ l h a. early_end (from l) (o.from_in l h) (λ τ' f k. omega (arith, k.tight l h a.0, (u τ' f k).start_le (to l) (o.to_in l h))))
          (λ n₄.
          look_for parts (λ p. dec_and (dec_lt 0 (exit p)) (dec_lt (τ.end p) T))
          (λ p h a. early_end p h (λ τ' f k. omega (arith, k.stops p h a.0)))
          (λ n₅.
          there record {
            long = λ p h. at_most (n₁ p h);
            brief = λ p h y. at_most (λ z. n₂ p h (y, z));
            waits = λ l h. at_most (n₃ l h);
            pulls = λ l h y. at_most (λ z. n₄ l h (y, z));
            stops = λ p h y. at_most (λ z. n₅ p h (y, z));
          })))))

      -- k bounds the raises that are left
      raise :
          (k : ℕ) (τ : Times) → Under τ → sum parts τ₁.start + sum parts τ₁.end ≤ sum parts τ.start + sum parts τ.end + k →
          (τ' : Times) × Under τ' × Asks τ'
      unfolding raise_start raise_end
      raise zero τ u less =
          let top = u τ₁ f₁ k₁ in
          elim (next τ u) [
            | there a ↦ (τ, u, a)
            | early_start p h a ↦
                let higher = sum_le parts (bump_le p top.start_le (a τ₁ f₁ k₁)) in
                absurd (omega (arith, higher, sum_le parts top.end_le, sum_more h (bump_more parts τ.start p)))
            | early_end p h a ↦
                let higher = sum_le parts (bump_le p top.end_le (a τ₁ f₁ k₁)) in
                absurd (omega (arith, higher, sum_le parts top.start_le, sum_more h (bump_more parts τ.end p)))
          ]
      raise (suc k) τ u less =
          elim (next τ u) [
            | there a ↦ (τ, u, a)
            | early_start p h a ↦
                raise k (raise_start τ p)
                (λ τ' f k. record { start_le = bump_le p (u τ' f k).start_le (a τ' f k); end_le = (u τ' f k).end_le })
                (omega (arith, sum_more h (bump_more parts τ.start p)))
            | early_end p h a ↦
                raise k (raise_end τ p)
                (λ τ' f k. record { start_le = (u τ' f k).start_le; end_le = bump_le p (u τ' f k).end_le (a τ' f k) })
                (omega (arith, sum_more h (bump_more parts τ.end p)))
          ]

      -- THE LEAST. Where some times are slack with a flow, there are least ones.
      pub least : (τ : Times) × Feasible G T τ × Slack G T τ φ × Under τ
      unfolding fill
      least =
          let zeros : Times = record { start = λ p. 0; end = λ p. 0; used = λ p. 0 } in
          let under : Under zeros = λ τ' f k. record { start_le = λ p h. omega arith; end_le = λ p h. omega arith } in
          let r = raise (sum parts τ₁.start + sum parts τ₁.end) zeros under (omega arith) in (
            fill r.0,
            least_feasible r.1 r.2,
            least_slack r.1 r.2,
            λ τ' f k. record { start_le = (r.1 τ' f k).start_le; end_le = (r.1 τ' f k).end_le },
          )
