-- Sums of loads at nodes: over functions, and in the sheets.
-- Assumes nothing.
use mathlib.Core.Path.{◌≡◌, refl, sym, ◌∙◌}
use mathlib.Core.Bool.{Bool, true, false}
use mathlib.Core.List.{List}
use Prim.Native.Nat.{ℕ, suc, ◌+◌, ◌*◌, ◌-◌, ◌≤◌, ◌<◌}
use native.Mathlib.Omega.{arith}
use native.Mathlib.Decide.{ℕ_discrete}
use native.Mathlib.Numerals.{add-one}
use lib.ListN.{length, set, length-set, replicate, take}
use Rattle.std.specs.Prelude.{◌↔◌, IsTrue, EachIndex, slice_index}
use Rattle.std.proofs.lemmas.List.{get_or-take}
use Rattle.std.proofs.Common.{length-take-le}
use Rattle.theory.specs.Sum.{sum, share, into, cells}
use Rattle.theory.proofs.SumLaws.{sum_le, sum_const, share_eq, share_ne, below_suc}
use Rattle.nets.specs.declared.Net.{Net}
use Rattle.nets.specs.Sheet.{SoundIn}
use Rattle.nets.specs.Steps.{Put}
use Rattle.nets.proofs.Steps.{put_cell, fill_cell}
use Rattle.deciding.specs.Balancing.{LEVEL, Sums, SheetIn, Weighable, Weighs, Weighing, WeighedIn, BalancedIn}
use Rattle.deciding.proofs.Rising.{no_one}

-- ---- sums over functions
share_le : (p i v : ℕ) → share p i v ≤ v
share_le p i v = elim (ℕ_discrete p i) [ yes e ↦ omega (arith, share_eq v e) | no d ↦ omega (arith, share_ne v d) ]

into_few : (end x : ℕ → ℕ) (n v : ℕ) → ((a : ℕ) → a < n → x a ≤ 64000) → into n end x v ≤ 64000 * n
unfolding into
into_few end x n v small =
    omega (
      arith,
      sum_le n {f = λ l. share (end l) v (x l)} {g = λ l. 64000} (λ l h. omega (arith, share_le (end l) v (x l), small l h)),
      sum_const n 64000,
    )

module _ (tail head x : ℕ → ℕ) where
  sums_none : (s : ℕ → ℕ) → ((v : ℕ) → v < 130 → s v ≡ LEVEL) → Sums tail head x 0 s
  unfolding into sum
  sums_none s e = record { sums = λ v h. omega (arith, e v h) }

  module _ (n : ℕ) (s s₁ s₂ : ℕ → ℕ) (g : Sums tail head x n s) (p : Put s (head n) (s (head n) + x n) s₁) where
    to_head : (v : ℕ) → s₁ v ≡ s v + share (head n) v (x n)
    to_head v =
        elim (ℕ_discrete v (head n)) [
          | yes e ↦ rw e (omega (arith, p.here, share_eq {p = head n} (x n) refl))
          | no d ↦ omega (arith, p.there v d, share_ne (x n) (λ e. d (sym e)))
        ]

    -- what goes from a node is there
    enough : ((a : ℕ) → a < suc n → x a ≤ 64000) → n < 448 → (v : ℕ) → v < 130 → x n ≤ s₁ v
    enough small h v l = omega (arith, to_head v, g.sums v l, into_few tail x n v (λ a k. small a (omega arith)), small n (omega arith))

    sums_more : Put s₁ (tail n) (s₁ (tail n) - x n) s₂ → x n ≤ s₁ (tail n) → Sums tail head x (n + 1) s₂
    unfolding into sum
    sums_more q l = record { sums = λ v h. rw (add-one n) (omega (arith, g.sums v h, to_head v, from_tail v)) }
      where
        from_tail : (v : ℕ) → s₂ v + share (tail n) v (x n) ≡ s₁ v
        from_tail v =
            elim (ℕ_discrete v (tail n)) [
              | yes e ↦ rw e (omega (arith, q.here, share_eq {p = tail n} (x n) refl))
              | no d ↦ omega (arith, q.there v d, share_ne (x n) (λ e. d (sym e)))
            ]

-- ---- the sums in the sheet
module _ (net : Net) (x : List ℕ) where
  pub weigh_begins : (s₀ s : List ℕ) → length s₀ ≡ 130 → s ≡ replicate (length s₀) LEVEL → Weighing net x 0 s
  weigh_begins s₀ s long is = record {
    small = λ a h. absurd (omega arith);
    weighed = sums_none (cells net.tail) (cells net.head) (cells x) (cells s) (fill_cell 130 s₀ s LEVEL long is);
  }

  -- ---- the ways of `carry`
  module _ (s : List ℕ) (a : ℕ) (w : Weighable net x s a) (long : length s ≡ 130) where
    abbrev s₁ : List ℕ
    s₁ = set s (cells net.head a) (cells s (cells net.head a) + cells x a)

    put : Put (cells s) (cells net.head a) (cells s (cells net.head a) + cells x a) (cells s₁)
    put = put_cell 130 s (cells net.head a) _ long w.head_in

    pub carry_enough : cells x a ≤ cells s₁ (cells net.tail a)
    carry_enough = w.enough (cells s₁) put

    pub carry_ends : Weighs net x s a (set s₁ (cells net.tail a) (cells s₁ (cells net.tail a) - cells x a))
    carry_ends = record {
      between = cells s₁;
      head = put;
      tail = put_cell 130 s₁ (cells net.tail a) _ (length-set s (cells net.head a) _ ∙ long) w.tail_in;
    }

  -- ---- arc a, which lies within the sheets
  module _ (s : List ℕ) (a : ℕ) (f : Weighing net x a s) where
    pub weigh_able : SoundIn net → a < net.arcs → cells x a ≤ 64000 → Weighable net x s a
    weigh_able o h k = record {
      arc_in = omega (arith, o.few);
      tail_in = o.tail_in a h;
      head_in = o.head_in a h;
      fits = omega (arith, f.weighed.sums (cells net.head a) (o.head_in a h), into_few (cells net.head) (cells x) a (cells net.head a) f.small, o.few);
      enough = λ s' p.
          enough (cells net.tail) (cells net.head) (cells x) a (cells s) s' s' f.weighed p (below_suc f.small k) (omega (arith, o.few)) (cells net.tail a) (o.tail_in a h);
    }

    pub weigh_more : SoundIn net → a < net.arcs → cells x a ≤ 64000 → (s' : List ℕ) → Weighs net x s a s' → Weighing net x (a + 1) s'
    weigh_more o h k s' g = record {
      small = rw (add-one a) (below_suc f.small k);
      weighed =
          sums_more (cells net.tail) (cells net.head) (cells x) a (cells s) g.between (cells s') f.weighed g.head g.tail
          ((weigh_able o h k).enough g.between g.head);
    }

  pub weigh_large : (s : List ℕ) (a : ℕ) → a < net.arcs → 64000 < cells x a → WeighedIn net x s false
  unfolding SheetIn
  weigh_large s a h k = record { yes = λ z. no_one (sym z); no = λ z t. omega (arith, t.small a h) }

-- ---- all sums agree, or one does not
module _ (net : Net) (x s : List ℕ) (long : length s ≡ 130) (f : WeighedIn net x s true) where
  at : (v : ℕ) → v < 128 → slice_index (take 128 s) v ≡ cells s v
  at v h = get_or-take 128 s v 0 h

  level_all : EachIndex (take 128 s) (λ v. slice_index (take 128 s) v ≡ LEVEL) → SheetIn net x
  unfolding SheetIn
  level_all l = record {
    small = (f.yes refl).small;
    balanced = record { balance = λ v h. omega (arith, (f.yes refl).weighed.sums v (omega arith), at v h, l v (omega (arith, length-take-le 128 s (omega arith)))) };
  }

  all_level : SheetIn net x → EachIndex (take 128 s) (λ v. slice_index (take 128 s) v ≡ LEVEL)
  unfolding SheetIn
  all_level t v l =
      let h : v < 128 = omega (arith, length-take-le 128 s (omega arith)) in
      omega (arith, (f.yes refl).weighed.sums v (omega arith), at v h, t.balanced.balance v h)

  pub balance_ends : (b : Bool) → IsTrue b ↔ EachIndex (take 128 s) (λ v. slice_index (take 128 s) v ≡ LEVEL) → BalancedIn net x b
  balance_ends b e = record { yes = λ z. level_all (e.0 z); no = λ z t. no_one (sym (e.1 (all_level t)) ∙ z) }

pub balance_large : (net : Net) (x s : List ℕ) → WeighedIn net x s false → BalancedIn net x false
balance_large net x s f = record { yes = λ z. no_one (sym z); no = f.no }
