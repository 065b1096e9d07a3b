-- The four blocks of arcs: what holds of each part, link, entry and exit holds of every arc. The one place that tells them apart by their numbers.
-- Assumes nothing.
use mathlib.Core.Path.{◌≡◌}
use Prim.Native.Nat.{ℕ, ◌+◌, ◌-◌, ◌<◌}
use native.Mathlib.Omega.{arith}
use native.Mathlib.Decide.{dec_lt}
use Rattle.theory.specs.Graph.{Graph}
use Rattle.nets.specs.Wired.{link_arc, entry_arc, exit_arc}

module _ (G : Graph) where
  open G use {parts, links}

  pub each_arc : (P : ℕ → Type 0) → ((p : ℕ) → p < parts → P p) → ((l : ℕ) → l < links → P (link_arc G l)) →
      ((p : ℕ) → p < parts → P (entry_arc G p)) → ((p : ℕ) → p < parts → P (exit_arc G p)) →
      (n : ℕ) → n ≡ parts + (links + (parts + parts)) → (a : ℕ) → a < n → P a
  each_arc P part link entry exit n count a h =
      elim (dec_lt a parts) [
        | yes l ↦ part a l
        | no l ↦
            elim (dec_lt a (parts + links)) [
              | yes l' ↦ let e : link_arc G (a - parts) ≡ a = omega arith in rw e at (link (a - parts) (omega arith))
              | no l' ↦
                  elim (dec_lt a (parts + (links + parts))) [
                    | yes l'' ↦
                        let q : ℕ = a - (parts + links) in
                        let e : entry_arc G q ≡ a = omega arith in
                        rw e at (entry q (omega arith))
                    | no l'' ↦
                        let q : ℕ = a - (parts + (links + parts)) in
                        let e : exit_arc G q ≡ a = omega arith in
                        rw e at (exit q (omega arith))
                  ]
            ]
      ]
