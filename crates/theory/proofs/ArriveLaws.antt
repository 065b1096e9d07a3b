-- Laws of the greatest of some numbers, and of the last arrival at a part.
-- Assumes nothing.
use mathlib.Core.Path.{◌≡◌, refl, ap}
use Prim.Native.Nat.{ℕ, zero, suc, max, ◌+◌, ◌≤◌, ◌<◌}
use native.Mathlib.Numerals.{add-one}
use native.Mathlib.Decide.{ℕ_discrete, dec_le}
use native.Mathlib.Omega.{arith}
use Rattle.theory.specs.Sum.{share}
use Rattle.theory.proofs.SumLaws.{share_eq, share_ne, below_suc}
use Rattle.theory.specs.Graph.{Graph}
use Rattle.theory.specs.Budget.{greatest, arrive}

pub greatest_ge : (m : ℕ) (f : ℕ → ℕ) (l : ℕ) → l < m → f l ≤ greatest m f
unfolding greatest
greatest_ge zero f = λ l h. omega arith
greatest_ge (suc m) f = below_suc (λ l h. omega (arith, greatest_ge m f l h)) (omega arith)

pub greatest_le : (m : ℕ) (f : ℕ → ℕ) (b : ℕ) → ((l : ℕ) → l < m → f l ≤ b) → greatest m f ≤ b
unfolding greatest
greatest_le zero f b h = omega arith
greatest_le (suc m) f b h = omega (arith, greatest_le m f b (λ l k. h l (omega arith)), h m (omega arith))

-- one number more, as a loop's counter goes on
pub greatest_next : (m : ℕ) (f : ℕ → ℕ) → greatest (m + 1) f ≡ max (greatest m f) (f m)
unfolding greatest
greatest_next m f = rw add-one

-- it is 0, or one of them
pub greatest_at : (m : ℕ) (f : ℕ → ℕ) → 0 < greatest m f → (l : ℕ) × (l < m) × (f l ≡ greatest m f)
unfolding greatest
greatest_at zero f h = absurd (omega arith)
greatest_at (suc m) f h =
    elim (dec_le (greatest m f) (f m)) [
      | yes a ↦ (m, omega arith, omega arith)
      | no a ↦ let r = greatest_at m f (omega arith) in (r.0, omega (arith, r.1), omega (arith, r.2))
    ]

module _ (G : Graph) where
  open G use {links, from, to, wire}

  pub arrive_ge : (e : ℕ → ℕ) (l : ℕ) → l < links → e (from l) + wire l ≤ arrive G e (to l)
  unfolding arrive
  arrive_ge e l h =
      omega (
        arith,
        greatest_ge links (λ k. share (to k) (to l) (e (from k) + wire k)) l h,
        share_eq {p = to l} (e (from l) + wire l) refl,
      )

  pub arrive_le : (e : ℕ → ℕ) (p b : ℕ) → ((l : ℕ) → l < links → to l ≡ p → e (from l) + wire l ≤ b) → arrive G e p ≤ b
  unfolding arrive
  arrive_le e p b h =
      greatest_le links (λ l. share (to l) p (e (from l) + wire l)) b
      (λ l k. elim (ℕ_discrete (to l) p) [
        | yes q ↦ omega (arith, share_eq (e (from l) + wire l) q, h l k q)
        | no d ↦ omega (arith, share_ne (e (from l) + wire l) d)
      ])

  -- the last arrival goes by the ends of the parts linked to p alone
  pub arrive_mono : (e e' : ℕ → ℕ) (p : ℕ) → ((l : ℕ) → l < links → to l ≡ p → e (from l) ≤ e' (from l)) → arrive G e p ≤ arrive G e' p
  arrive_mono e e' p h = arrive_le e p (arrive G e' p) (λ l k q. omega (arith, arrive_ge e' l k, ap (arrive G e') q, h l k q))

  pub arrive_ext : (e e' : ℕ → ℕ) (p : ℕ) → ((l : ℕ) → l < links → to l ≡ p → e (from l) ≡ e' (from l)) → arrive G e p ≡ arrive G e' p
  arrive_ext e e' p h =
      omega (arith, arrive_mono e e' p (λ l k q. omega (arith, h l k q)), arrive_mono e' e p (λ l k q. omega (arith, h l k q)))

  -- it is 0, or what one of those parts' links brings
  pub arrive_at :
      (e : ℕ → ℕ) (p : ℕ) → 0 < arrive G e p → (l : ℕ) × (l < links) × (to l ≡ p) × (e (from l) + wire l ≡ arrive G e p)
  unfolding arrive
  arrive_at e p h =
      let r = greatest_at links (λ l. share (to l) p (e (from l) + wire l)) h in
      let l = r.0 in
      elim (ℕ_discrete (to l) p) [
        | yes q ↦ (l, r.1, q, omega (arith, r.2, share_eq (e (from l) + wire l) q))
        | no d ↦ absurd (omega (arith, r.2, share_ne (e (from l) + wire l) d))
      ]
