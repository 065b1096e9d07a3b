-- Looking through the numbers below n, and marking them one by one.
-- Assumes nothing.
use mathlib.Core.Path.{◌≡◌, refl, sym, ap, ◌∙◌}
use mathlib.Core.Logic.{◌≢◌}
use mathlib.Core.Bool.{Bool, true, false, cond, true≢false}
use Prim.Native.Nat.{ℕ, zero, suc, ◌+◌, ◌-◌, ◌<◌}
use native.Mathlib.Decide.{ℕ_discrete}
use native.Mathlib.Omega.{arith}
use lib.Dec.{eqb}
use borrow.Author.Tests.{eq-eqb, ne_eqb}
use Rattle.theory.specs.Sum.{sum, share, More}
use Rattle.theory.proofs.SumLaws.{sum_change, share_eq, share_ne, below_suc}

-- ---- one of the numbers below n has P, or none has
pub data Found (n : ℕ) (P : ℕ → Type 0) : Type 0 where
  found : (i : ℕ) → i < n → P i → Found n P
  none : ((i : ℕ) → i < n → P i → ⊥) → Found n P

pub look : (n : ℕ) {P : ℕ → Type 0} → ((i : ℕ) → Dec (P i)) → Found n P
look zero d = none (λ i h a. omega arith)
look (suc n) {P} d = more (look n d) (d n)
  where
    more : Found n P → Dec (P n) → Found (suc n) P
    more (found i h a) e = found i (omega arith) a
    more (none f) (yes a) = found n (omega arith) a
    more (none f) (no b) = none (below_suc {P = λ i. P i → ⊥} f b)

-- and what follows from either
pub look_for : (n : ℕ) {P : ℕ → Type 0} {A : Type 0} → ((i : ℕ) → Dec (P i)) → ((i : ℕ) → i < n → P i → A) → (((i : ℕ) → i < n → P i → ⊥) → A) → A
look_for n d f g = elim (look n d) [ found i h a ↦ f i h a | none r ↦ g r ]

pub dec_and : {A B : Type 0} → Dec A → Dec B → Dec (A × B)
dec_and (yes a) (yes b) = yes (a, b)
dec_and (yes a) (no b) = no (λ c. b c.1)
dec_and (no a) d = no (λ c. a c.0)

-- ---- labels
-- a label is set or not, and not both
pub set_or_not : {P : Type 0} (b : Bool) → (b ≡ true → P) → (b ≡ false → P) → P
set_or_not true f g = f refl
set_or_not false f g = g refl

pub clash : {P : Type 0} {b : Bool} → b ≡ false → b ≡ true → P
clash a b = absurd (true≢false (sym b ∙ a))

-- f with p marked too
unfoldable pub mark : (ℕ → Bool) → ℕ → ℕ → Bool
mark f p q = cond (eqb p q) true (f q)

pub mark_here : (f : ℕ → Bool) {p q : ℕ} → p ≡ q → mark f p q ≡ true
unfolding mark
mark_here f {p} {q} e = rw (eq-eqb p q e)

pub mark_there : (f : ℕ → Bool) {p q : ℕ} → p ≢ q → mark f p q ≡ f q
unfolding mark
mark_there f {p} {q} d = rw (ne_eqb p q d)

-- what is not marked now was not marked before, and is not p
pub mark_not : (f : ℕ → Bool) {p q : ℕ} → mark f p q ≡ false → (p ≢ q) × (f q ≡ false)
mark_not f {p} {q} e =
    elim (ℕ_discrete p q) [ yes a ↦ clash e (mark_here f a) | no d ↦ (d, sym (mark_there f d) ∙ e) ]

-- how many below n are not marked
abbrev pub lack : Bool → ℕ
lack true = 0
lack false = 1

unfoldable pub unmarked : ℕ → (ℕ → Bool) → ℕ
unmarked n f = sum n (λ p. lack (f p))

pub mark_fewer : (n : ℕ) (f : ℕ → Bool) (p : ℕ) → p < n → f p ≡ false → suc (unmarked n (mark f p)) ≡ unmarked n f
unfolding unmarked
mark_fewer n f p h e =
    omega (
      arith,
      sum_change n p (λ q. lack (mark f p q)) (λ q. lack (f q)) h (λ q k d. ap lack (mark_there f (λ r. d (sym r)))),
      ap lack e,
      ap lack (mark_here f {p = p} refl),
    )

-- ---- one more, or one less, at one place
unfoldable pub bump : (ℕ → ℕ) → ℕ → ℕ → ℕ
bump f i j = f j + share i j 1

unfoldable pub dip : (ℕ → ℕ) → ℕ → ℕ → ℕ
dip f i j = f j - share i j 1

pub bump_more : (n : ℕ) (f : ℕ → ℕ) (i : ℕ) → More n f (bump f i) i 1
unfolding bump
bump_more n f i = record { more = λ j h. refl }

pub dip_more : (n : ℕ) (f : ℕ → ℕ) (i : ℕ) → 0 < f i → More n (dip f i) f i 1
unfolding dip
dip_more n f i l = record {
  more = λ j h.
      elim (ℕ_discrete i j) [ yes e ↦ omega (arith, share_eq 1 e, ap f e) | no d ↦ omega (arith, share_ne 1 d) ];
}
