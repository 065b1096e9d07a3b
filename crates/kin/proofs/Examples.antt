-- 01's case (12): "K: .. parents of 0 are set 1, children set 10", of any board with K's links and any times that begin with K's.
-- Assumes nothing.
use mathlib.Core.Path.{◌≡◌, refl}
use mathlib.Core.Bool.{true}
use Prim.Native.Nat.{ℕ, zero, suc, ◌<◌}
use native.Mathlib.Omega.{arith}
use lib.Dec.{lit<}
use Rattle.base.specs.Pick.{pick}
use Rattle.curve.specs.Rows.{ticks_at}
use Rattle.marks.specs.Marks.{bit}
use Rattle.marks.proofs.Bits.{bit_past}
use Rattle.board.specs.declared.Link.{Link}
use Rattle.board.specs.declared.Board.{Board}
use Rattle.budget.specs.declared.Budget.{Budget}
use Rattle.board.specs.Board.{plain_link, link_at, delay_of}
use Rattle.kin.specs.declared.Kin.{Kin}
use Rattle.kin.specs.Critical.{criticalb, critical_at, Critical}
use Rattle.kin.specs.Kin.{Closed, KinOf}
use Rattle.kin.proofs.CriticalLaws.{at_critical}
use Rattle.kin.proofs.KinLaws.{kin_once}

abbrev link : ℕ → ℕ → Link
link p q = plain_link p q

-- the marks of the set 10
ten : (P : ℕ → Type 0) → P 1 → P 3 → (n : ℕ) → bit 10 n ≡ 1 → P n
unfolding bit
ten P one three zero h = absurd (omega arith)
ten P one three (suc zero) h = one
ten P one three (suc (suc zero)) h = absurd (omega arith)
ten P one three (suc (suc (suc zero))) h = three
ten P one three (suc (suc (suc (suc n)))) h = absurd (omega (arith, bit_past 4 10 (suc (suc (suc (suc n)))) (lit< tt) (omega arith)))

-- the mark of the set 1
only : (P : ℕ → Type 0) → P 0 → (n : ℕ) → bit 1 n ≡ 1 → P n
unfolding bit
only P first zero h = first
only P first (suc n) h = absurd (omega (arith, bit_past 1 1 (suc n) (lit< tt) (omega arith)))

module _ (b : Board) (links : b.links ≡ 3) (l0 : link_at b 0 ≡ link 0 1) (l1 : link_at b 1 ≡ link 0 3) (l2 : link_at b 2 ≡ link 1 2) where
  module _ (held : Budget) (s1 : ticks_at held.start 1 ≡ 4) (s2 : ticks_at held.start 2 ≡ 7) (s3 : ticks_at held.start 3 ≡ 4) (e0 : ticks_at held.end 0 ≡ 4) (e1 : ticks_at held.end 1 ≡ 7) where
    -- all three links are critical
    all_critical : (l : ℕ) → l < 3 → critical_at b held l ≡ true
    unfolding critical_at criticalb delay_of pick
    all_critical zero h = rw (links, l0, e0, s1)
    all_critical (suc zero) h = rw (links, l1, e0, s3)
    all_critical (suc (suc zero)) h = rw (links, l2, e1, s2)
    all_critical (suc (suc (suc l))) h = absurd (omega arith)

    by_number : (P : ℕ → ℕ → Type 0) → P 0 1 → P 0 3 → P 1 2 → (l : ℕ) → l < 3 → P (link_at b l).from (link_at b l).to
    by_number P a c d zero h = rw l0 a
    by_number P a c d (suc zero) h = rw l1 c
    by_number P a c d (suc (suc zero)) h = rw l2 d
    by_number P a c d (suc (suc (suc l))) h = absurd (omega arith)

    by_link : (P : ℕ → ℕ → Type 0) → P 0 1 → P 0 3 → P 1 2 → (r q : ℕ) → Critical b held r q → P r q
    by_link P a c d r q k = rw (← k.from, ← k.to) (by_number P a c d k.link (omega (arith, (at_critical b held k.link k.critical).0, links)))

    critical_0_1 : Critical b held 0 1
    critical_0_1 = record { link = 0; from = rw l0; to = rw l0; critical = all_critical 0 (omega arith) }

    critical_0_3 : Critical b held 0 3
    critical_0_3 = record { link = 1; from = rw l1; to = rw l1; critical = all_critical 1 (omega arith) }

    closed_K : Closed (Critical b held) 0 1 10
    unfolding bit
    closed_K = record {
      begin = λ h. refl;
      child = λ r q h c. by_link (λ (x y : ℕ). bit 1 x ≡ 1 → bit 10 y ≡ 1) (λ g. refl) (λ g. refl) (λ g. absurd (omega arith)) r q c h;
      parent = λ r q h c. by_link (λ (x y : ℕ). bit 10 y ≡ 1 → bit 1 x ≡ 1) (λ g. refl) (λ g. refl) (λ g. absurd (omega arith)) r q c h;
    }

    pub kin_is : KinOf (Critical b held) 0 (record { parents = 1; children = 10 })
    kin_is = record {
      parents_fit = lit< tt;
      children_fit = lit< tt;
      closed = closed_K;
      least_parents = λ s t c. only (λ (n : ℕ). bit s n ≡ 1) (c.begin (omega arith));
      least_children = λ s t c. ten (λ (n : ℕ). bit t n ≡ 1) (c.child 0 1 (c.begin (omega arith)) critical_0_1) (c.child 0 3 (c.begin (omega arith)) critical_0_3);
    }

    -- so this is what `kin_of` gives
    pub kin_K : (k : Kin) → KinOf (Critical b held) 0 k → k ≡ record { parents = 1; children = 10 }
    kin_K k is = kin_once (Critical b held) 0 k (record { parents = 1; children = 10 }) is kin_is
