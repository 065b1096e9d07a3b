-- Each number of the table is that of its row.
-- Assumes nothing.
use mathlib.Core.Path.{◌≡◌, refl}
use mathlib.Core.Bool.{Bool, true, false}
use mathlib.Core.List.{List, [], ◌∷◌}
use Prim.Native.Nat.{ℕ, zero, suc, ◌+◌, ◌-◌, ◌≤◌, ◌<◌}
use native.Mathlib.Omega.{arith}
use lib.Dec.{eqb}
use lib.ListN.{length, get_or}
use borrow.Author.Tests.{eqb-true}
use Rattle.base.specs.Pick.{pick}
use Rattle.refusal.specs.declared.Why.{Why}
use Rattle.refusal.specs.declared.Why.TheVariants.{NoLabel}
use Rattle.refusal.specs.Refusal.{number_of, rows, by}

-- the numbers of some rows go up one by one, past the first k
unfoldable in_order : ℕ → List Why → Bool
in_order k [] = true
in_order k (w ∷ ws) = pick (eqb (number_of w) (suc k)) (in_order (suc k) ws) false

here_and_on : (t u : Bool) → pick t u false ≡ true → (t ≡ true) × (u ≡ true)
unfolding pick
here_and_on true u h = (refl, h)
here_and_on false u h = absurd (let z : ◌≡◌ {A = ℕ} 0 1 = cc in omega arith)

in_order_at : (ws : List Why) (k i : ℕ) → in_order k ws ≡ true → i < length ws → number_of (get_or ws i NoLabel) ≡ suc (k + i)
unfolding in_order
in_order_at [] k i h l = absurd (omega arith)
in_order_at (w ∷ ws) k zero h l = let n = eqb-true (number_of w) (suc k) (here_and_on _ _ h).0 in omega (arith, n)
in_order_at (w ∷ ws) k (suc i) h l =
    let rest = in_order_at ws (suc k) i (here_and_on _ _ h).1 (omega arith) in
    omega (arith, rest)

rows_in_order : in_order 0 rows ≡ true
unfolding in_order pick
rows_in_order = refl

-- `by n` has number n
pub by_number : (n : ℕ) → 1 ≤ n → n ≤ length rows → number_of (by n) ≡ n
by_number n from to =
    let is = in_order_at rows 0 (n - 1) rows_in_order (omega arith) in
    omega (arith, is)
