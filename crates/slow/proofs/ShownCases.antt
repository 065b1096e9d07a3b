-- The paths that 01 shows, by the definitions: case (9), K with link 3 to 1 and deadline 9, and case (7), one part with deadline 4.
-- Assumes nothing.
use mathlib.Core.Path.{◌≡◌, refl}
use mathlib.Core.List.{List, [], ◌∷◌}
use Prim.Native.Nat.{ℕ, zero, suc, ◌<◌}
use native.Mathlib.Omega.{arith}
use lib.ListN.{replicate}
use Rattle.std.specs.Prelude.{Option}
use Rattle.theory.specs.Sum.{share, cells}
use Rattle.theory.specs.Budget.{greatest, arrive}
use Rattle.curve.specs.declared.Run.{Run}
use Rattle.curve.specs.declared.Curve.{Curve}
use Rattle.curve.specs.Curve.{no_run}
use Rattle.board.specs.declared.Rule.TheVariants.{A}
use Rattle.board.specs.declared.Link.{Link}
use Rattle.board.specs.declared.Board.{Board}
use Rattle.board.specs.Board.{plain_link, no_link, blank_curve, usable_under, usable, delay_of, view}
use Rattle.slow.specs.declared.ShownPath.{ShownPath}
use Rattle.slow.specs.Slow.{First, LastPart, StepBack, first, next, Loopless, FastestEnds, SlowPath, shown, SlowOf, exceeded}
use Rattle.slow.proofs.SlowLaws.{slow_once}

abbrev run : ℕ → ℕ → Run
run ticks saving = record { length = record { 0 = ticks }; saving = record { 0 = saving } }

abbrev curve : ℕ → ℕ → ℕ → List Run → Curve
curve fastest power count runs = record { fastest = record { 0 = fastest }; power = record { 0 = power }; count = count; runs = runs }

abbrev link : ℕ → ℕ → Link
link from to = plain_link from to

-- ---- case (9)
unfoldable pub board_K : Board
board_K = record {
  rule = A;
  deadline = record { 0 = 9 };
  parts = 4;
  curve = curve 2 100 2 (run 2 20 ∷ run 1 5 ∷ no_run ∷ no_run ∷ [])
      ∷ curve 3 90 1 (run 3 12 ∷ no_run ∷ no_run ∷ no_run ∷ [])
      ∷ curve 1 50 1 (run 2 12 ∷ no_run ∷ no_run ∷ no_run ∷ [])
      ∷ curve 4 40 2 (run 1 6 ∷ run 1 2 ∷ no_run ∷ no_run ∷ [])
      ∷ replicate 60 blank_curve;
  links = 4;
  link = link 0 1 ∷ link 0 3 ∷ link 1 2 ∷ link 3 1 ∷ replicate 252 no_link;
}

below_4 : (P : ℕ → Type 0) → P 0 → P 1 → P 2 → P 3 → (p : ℕ) → p < 4 → P p
below_4 P a b c d zero h = a
below_4 P a b c d (suc zero) h = b
below_4 P a b c d (suc (suc zero)) h = c
below_4 P a b c d (suc (suc (suc zero))) h = d
below_4 P a b c d (suc (suc (suc (suc p)))) h = absurd (omega arith)

abbrev ends_K : ℕ → ℕ
ends_K = cells (2 ∷ 9 ∷ 10 ∷ 6 ∷ [])

fastest_K : FastestEnds board_K ends_K
unfolding board_K view delay_of arrive greatest share
fastest_K = record {
  start = cells (0 ∷ 6 ∷ 9 ∷ 2 ∷ []);
  timed = record { starts = below_4 _ refl refl refl refl; ends = below_4 _ refl refl refl refl };
}

last_k : LastPart (view board_K) ends_K 2
unfolding board_K view delay_of
last_k = record {
  here = omega arith;
  greatest = below_4 _ (omega arith) (omega arith) (omega arith) (omega arith);
  lowest = below_4 _ (λ q. omega arith) (λ q. omega arith) (λ q. omega arith) (λ q. omega arith);
}

abbrev StepK : ℕ → ℕ → Type 0
StepK p q = StepBack (view board_K) ends_K p q

step_2 : StepK 2 1
unfolding board_K view delay_of
step_2 = record {
  by = record { link = 2; here = omega arith; from = refl; to = refl };
  greatest = below_4 _ (λ q. omega arith) (λ q. omega arith) (λ q. omega arith) (λ q. omega arith);
  lowest = below_4 _ (λ q s. omega arith) (λ q s. omega arith) (λ q s. omega arith) (λ q s. omega arith);
}

step_1 : StepK 1 3
unfolding board_K view delay_of
step_1 = record {
  by = record { link = 3; here = omega arith; from = refl; to = refl };
  greatest = below_4 _ (λ q. omega arith) (λ q. omega arith) (λ q. omega arith) (λ q. omega arith);
  lowest = below_4 _ (λ q s. omega arith) (λ q s. omega arith) (λ q s. omega arith) (λ q s. omega arith);
}

step_3 : StepK 3 0
unfolding board_K view delay_of
step_3 = record {
  by = record { link = 1; here = omega arith; from = refl; to = refl };
  greatest = below_4 _ (λ q. omega arith) (λ q. omega arith) (λ q. omega arith) (λ q. omega arith);
  lowest = below_4 _ (λ q s. omega arith) (λ q s. omega arith) (λ q s. omega arith) (λ q s. omega arith);
}

first_0 : First (view board_K) 0
unfolding board_K view delay_of
first_0 = record { none = below_4 _ (λ q. omega arith) (λ q. omega arith) (λ q. omega arith) (λ q. omega arith) }

pub slow_K : SlowPath board_K 10 (0 ∷ 3 ∷ 1 ∷ 2 ∷ [])
unfolding board_K usable usable_under
slow_K = record {
  end = ends_K;
  part = 2;
  ends = fastest_K;
  last = last_k;
  walked = next step_2 (next step_1 (next step_3 (first first_0)));
  place = refl;
  over = omega arith;
}

pub case_9 : Loopless board_K → (r : Option ShownPath) → SlowOf board_K r → r ≡ shown 10 (0 ∷ 3 ∷ 1 ∷ 2 ∷ [])
case_9 ok r s = slow_once board_K ok r (shown 10 (0 ∷ 3 ∷ 1 ∷ 2 ∷ [])) s (exceeded slow_K refl)

-- ---- case (7)
unfoldable pub board1 : Board
board1 = record {
  rule = A;
  deadline = record { 0 = 4 };
  parts = 1;
  curve = curve 5 255 1 (run 255 1 ∷ no_run ∷ no_run ∷ no_run ∷ []) ∷ replicate 63 blank_curve;
  links = 0;
  link = replicate 256 no_link;
}

only_0 : (P : ℕ → Type 0) → P 0 → (p : ℕ) → p < 1 → P p
only_0 P a zero h = a
only_0 P a (suc p) h = absurd (omega arith)

pub slow_1 : SlowPath board1 5 (0 ∷ [])
unfolding board1 usable usable_under view delay_of arrive greatest
slow_1 = record {
  end = cells (5 ∷ []);
  part = 0;
  ends = record { start = λ p. 0; timed = record { starts = only_0 _ refl; ends = only_0 _ refl } };
  last = record { here = omega arith; greatest = only_0 _ (omega arith); lowest = only_0 _ (λ q. omega arith) };
  walked = first (record { none = λ l h q. omega arith });
  place = refl;
  over = omega arith;
}

pub case_7 : Loopless board1 → (r : Option ShownPath) → SlowOf board1 r → r ≡ shown 5 (0 ∷ [])
case_7 ok r s = slow_once board1 ok r (shown 5 (0 ∷ [])) s (exceeded slow_1 refl)
