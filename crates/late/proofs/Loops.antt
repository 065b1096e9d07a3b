-- The ways through the loop: what is left of the deadline part by part.
-- Assumes nothing.
use mathlib.Core.Path.{◌≡◌, ap}
use mathlib.Core.List.{List}
use Prim.Native.Nat.{ℕ, ◌+◌, ◌-◌, ◌≤◌, ◌<◌}
use native.Mathlib.Omega.{arith}
use lib.ListN.{set}
use Rattle.base.specs.Table.{table}
use Rattle.base.proofs.TableLaws.{firsts_none, firsts_more, firsts_done}
use Rattle.curve.specs.declared.Ticks.{Ticks}
use Rattle.curve.specs.Rows.{no_ticks, ticks_at}
use Rattle.curve.proofs.RowLaws.{ticks}
use Rattle.late.specs.Late.{left_of}

-- ---- left
module _ (due : ℕ) (s e : List Ticks) where
  pub left_none : e ≡ table 64 (λ p. no_ticks) → e ≡ left_of due s 0
  unfolding left_of
  left_none = firsts_none no_ticks _ e

  pub left_more : (k n : ℕ) (v : Ticks) → k < n → n ≤ 64 → v.0 ≡ due - ticks_at s k → e ≡ left_of due s k → set e k v ≡ left_of due s (k + 1)
  unfolding left_of
  left_more k n v h l new is = firsts_more no_ticks _ e k v (omega arith) is (ap ticks new)

  pub left_done : (k n : ℕ) → k ≤ n → n ≤ k → e ≡ left_of due s k → e ≡ left_of due s n
  unfolding left_of
  left_done = firsts_done no_ticks _ e
