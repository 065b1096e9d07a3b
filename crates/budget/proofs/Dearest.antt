-- The greatest total is reached: by 64 parts that are flat, each at the greatest power.
-- Assumes nothing.
use mathlib.Core.Path.{◌≡◌, refl, ap, ◌∙◌}
use mathlib.Core.List.{List}
use Prim.Native.Nat.{ℕ, ◌≤◌, ◌<◌}
use native.Mathlib.Omega.{arith}
use lib.ListN.{length, get_or, replicate, length-replicate, get_or-replicate}
use Rattle.theory.specs.Budget.{greatest, arrive, Timed}
use Rattle.theory.proofs.SumLaws.{sum_ext, sum_const}
use Rattle.curve.specs.declared.Ticks.{Ticks}
use Rattle.curve.specs.declared.Microwatts.{Microwatts}
use Rattle.curve.specs.declared.Curve.{Curve}
use Rattle.curve.specs.Curve.{power_max, slowest_of}
use Rattle.curve.specs.Answers.{flat_of}
use Rattle.curve.specs.Rows.{ticks_at, power_at}
use Rattle.curve.proofs.CurveLaws.{flat_good, flat_slowest, flat_power}
use Rattle.board.specs.declared.Rule.TheVariants.{A}
use Rattle.board.specs.declared.Link.{Link}
use Rattle.board.specs.declared.Board.{Board}
use Rattle.board.specs.Board.{WellFormed, no_curve, no_link, view, usable_under, usable}
use Rattle.budget.specs.declared.Budget.{Budget}
use Rattle.budget.specs.Budget.{total_max, Holds}
use Rattle.budget.proofs.BudgetLaws.{holds_exactly_one}

pub total_max_is : total_max ≡ 1280000000
total_max_is = refl

-- a flat curve of one tick, at the greatest power
abbrev one : Ticks
one = record { 0 = 1 }

abbrev most : Microwatts
most = record { 0 = power_max }

-- 64 of them, whatever lists hold them, without a link
module _ (cs : List Curve) (ls : List Link) (long : length cs ≡ 64) (is : (p : ℕ) → p < 64 → get_or cs p no_curve ≡ flat_of one most) (room : length ls ≡ 256) (none : (l : ℕ) → l < 256 → get_or ls l no_link ≡ no_link) where
  abbrev dear : Board
  dear = record { rule = A; deadline = one; parts = 64; curve = cs; links = 0; link = ls }

  dear_formed : WellFormed dear
  dear_formed = record {
    deadline_from = omega arith;
    deadline_to = omega arith;
    parts_from = omega arith;
    parts_to = omega arith;
    curves = λ p h. rw (is p h) (flat_good one most (omega arith) (omega arith) (omega arith));
    links_to = omega arith;
    from_in = λ l h. absurd (omega arith);
    to_in = λ l h. absurd (omega arith);
    apart = λ l h. absurd (omega arith);
    plain = λ l h. absurd (omega arith);
    ascends = λ l h. absurd (omega arith);
    blank_curves = λ p h k. absurd (omega arith);
    blank_links = λ l h k. none l k;
    curve_room = long;
    link_room = room;
  }

  fastest_one : (p : ℕ) → p < 64 → (view dear).fastest p ≡ 1
  unfolding view flat_of
  fastest_one p h = ap (λ (c : Curve). c.fastest.0) (is p h)

  dear_timed : Timed (view dear) (view dear).fastest (λ p. 0) (view dear).fastest
  unfolding view arrive greatest
  dear_timed = record { starts = λ p h. refl; ends = λ p h. omega arith }

  -- at its one delay a part draws all its power
  module _ (r : Budget) (h : Holds dear r) where
    power_most : (p : ℕ) → p < 64 → power_at r.power p ≡ power_max
    unfolding flat_of
    power_most p l =
        let from : 1 ≤ ticks_at r.delay p = rw (is p l) at (h.allowed.fastest p l) in
        let to : ticks_at r.delay p ≤ slowest_of (flat_of one most) = rw (is p l) at (h.allowed.slowest p l) in
        let delay : ticks_at r.delay p ≡ 1 = omega (arith, flat_slowest one most) in
        h.allowed.powers p l ∙ rw (is p l, delay) (flat_power one most)

    draws_most : r.total.0 ≡ total_max
    draws_most = h.allowed.total ∙ sum_ext 64 power_most ∙ sum_const 64 power_max

  dear_held : (b : Board) × WellFormed b × (r : Budget) × Holds b r × (r.total.0 ≡ total_max)
  unfolding usable usable_under view
  dear_held =
      let held = holds_exactly_one dear dear_formed {T = usable dear} dear_timed (λ p h. omega (arith, fastest_one p h)) in
      (dear, dear_formed, held.0, held.1, draws_most held.0 held.1)

-- "the greatest total 1,280,000,000": some board holds a budget that draws it
pub total_reached : (b : Board) × WellFormed b × (r : Budget) × Holds b r × (r.total.0 ≡ total_max)
total_reached =
    dear_held (replicate 64 (flat_of one most)) (replicate 256 no_link) (length-replicate 64 (flat_of one most)) (λ p h. get_or-replicate 64 p (flat_of one most) no_curve h)
    (length-replicate 256 no_link) (λ l h. get_or-replicate 256 l no_link no_link h)
