-- Where the main loop begins: all parts at their slowest, and no load. Every arc fits, since no tick past the slowest saves anything.
-- Assumes nothing.
use Rattle.std.proofs.Common.{◌≡◌, ℕ, ◌+◌, ◌-◌, ◌<◌, ◌≤◌, List, ap, ◌∙◌, ⊎_elim, arith}
use Rattle.base.proofs.Cases.{lt_or_le}
use Rattle.theory.specs.Sum.{cells}
use Rattle.theory.proofs.ArriveLaws.{arrive_ge}
use Rattle.theory.specs.Budget.{Timed}
use Rattle.curve.specs.declared.Ticks.{Ticks}
use Rattle.curve.specs.Curve.{slowest_of}
use Rattle.curve.specs.Rows.{ticks_at}
use Rattle.board.specs.declared.Board.{Board}
use Rattle.board.specs.Board.{WellFormed, view, usable, curve_at}
use Rattle.board.proofs.Lawful.{lawful}
use Rattle.board.proofs.UsableLaws.{usable_to}
use Rattle.times.specs.declared.Schedule.{Schedule}
use Rattle.times.specs.Times.{slowests_of, TimesOf, Loopless}
use Rattle.times.proofs.TimesLaws.{slowest_at_lem, slowest_few, times_timed, times_to}
use Rattle.nets.specs.Network.{Network}
use Rattle.nets.specs.Flow.{Fit}
use Rattle.nets.specs.Wired.{Wired, link_arc, entry_arc, exit_arc}
use Rattle.nets.proofs.Arcs.{each_arc}
use Rattle.solver.specs.Solve.{Solvable}
use Rattle.solver.specs.Finding.{Begun}

module _ (b : Board) (can : Solvable b) (N : Network) (w : Wired (view b) N) (d : List Ticks) (is : d ≡ slowests_of b) (s : Schedule) (times : TimesOf (view b) d s)
    (t : List ℕ) (begun : Begun s.start s.end (usable b) t) where
  abbrev ok : WellFormed b
  ok = can.formed

  abbrev loopless : Loopless b
  loopless = record { formed = can.formed; ranked = can.ranked }

  timed : Timed (view b) (ticks_at d) (ticks_at s.start) (ticks_at s.end)
  timed = times_timed b loopless d (slowest_few b loopless d is) s times

  start_at : (p : ℕ) → p < b.parts → cells t p ≡ ticks_at s.start p
  start_at p h = begun.placed.starts p (omega (arith, ok.parts_to))

  end_at : (p : ℕ) → p < b.parts → cells t (64 + p) ≡ ticks_at s.end p
  end_at p h = begun.placed.ends p (omega (arith, ok.parts_to))

  -- from start to end a part takes its slowest delay
  takes : (p : ℕ) → p < b.parts → ticks_at s.end p ≡ ticks_at s.start p + slowest_of (curve_at b p)
  unfolding view
  takes p h = omega (arith, timed.ends p h, ap (λ (row : List Ticks). ticks_at row p) is, slowest_at_lem b loopless p h)

  module _ (x : ℕ → ℕ) (none : (a : ℕ) → x a ≡ 0) where
    -- no load asks only that ticks further on save nothing
    idle_fit : (a : ℕ) → cells t (N.tail a) + N.base a ≤ cells t (N.head a) →
        ((j : ℕ) → cells t (N.head a) - (cells t (N.tail a) + N.base a) ≤ j → N.gain a j ≡ 0) → Fit N (cells t) x a
    idle_fit a base past = record {
      base = base;
      suits = record { used = λ j l. omega (arith, none a); unused = λ j l. omega (arith, past j l) };
    }

    idle_flat : (a : ℕ) → (view b).parts ≤ a → a < N.arcs → cells t (N.tail a) + N.base a ≤ cells t (N.head a) → Fit N (cells t) x a
    idle_flat a l h base = idle_fit a base (λ j _. w.flat a l h j)

    part_fits : (p : ℕ) → p < (view b).parts → Fit N (cells t) x p
    unfolding view slowest_of
    part_fits p h =
        let tail : cells t (N.tail p) ≡ ticks_at s.start p = ap (cells t) (w.part_tail p h) ∙ start_at p h in
        let head : cells t (N.head p) ≡ ticks_at s.end p = ap (cells t) (w.part_head p h) ∙ end_at p h in
        idle_fit p (omega (arith, w.part_base p h, takes p h))
        (λ j l. w.part_gain p h j ∙ (lawful b ok).past p h j (omega (arith, w.part_base p h, takes p h)))

    link_fits : (l : ℕ) → l < (view b).links → Fit N (cells t) x (link_arc (view b) l)
    unfolding view
    link_fits l h =
        let tail = ap (cells t) (w.link_tail l h) ∙ end_at ((view b).from l) (ok.from_in l h) in
        let head = ap (cells t) (w.link_head l h) ∙ start_at ((view b).to l) (ok.to_in l h) in
        idle_flat (link_arc (view b) l) (omega arith) (omega (arith, w.arcs))
        (omega (
          arith,
          tail,
          head,
          w.link_base l h,
          timed.starts ((view b).to l) (ok.to_in l h),
          arrive_ge (view b) (ticks_at s.end) l h,
        ))

    entry_fits : (p : ℕ) → p < (view b).parts → Fit N (cells t) x (entry_arc (view b) p)
    entry_fits p h =
        idle_flat (entry_arc (view b) p) (omega arith) (omega (arith, w.arcs))
        (omega (arith, ap (cells t) (w.entry_tail p h), w.entry_base p h, begun.placed.source))

    exit_fits : (p : ℕ) → p < (view b).parts → Fit N (cells t) x (exit_arc (view b) p)
    unfolding view
    exit_fits p h =
        idle_flat (exit_arc (view b) p) (omega arith) (omega (arith, w.arcs))
        (omega (
          arith,
          ap (cells t) (w.exit_tail p h) ∙ end_at p h,
          ap (cells t) (w.exit_head p h),
          w.exit_base p h,
          begun.topped.late p (omega (arith, ok.parts_to)),
        ))

    pub slowest_fit : (a : ℕ) → a < N.arcs → Fit N (cells t) x a
    slowest_fit = each_arc (view b) (Fit N (cells t) x) part_fits link_fits entry_fits exit_fits N.arcs w.arcs

  -- ---- none of them large
  end_most : (p : ℕ) → ticks_at s.end p ≤ 149370
  end_most = times_to b loopless d (slowest_few b loopless d is) s times

  start_most : (p : ℕ) → ticks_at s.start p ≤ 149370
  unfolding view
  start_most p =
      ⊎_elim (λ (h : p < b.parts). omega (arith, takes p h, end_most p)) (λ (h : b.parts ≤ p). omega (arith, times.start_blank p h))
      (lt_or_le p b.parts)

  pub node_most : (v : ℕ) → v < 130 → cells t v ≤ 262144
  node_most v h =
      ⊎_elim (λ (l : v < 64). omega (arith, begun.placed.starts v l, start_most v))
      (λ (l : 64 ≤ v).
      ⊎_elim (λ (k : v < 128).
      let e : 64 + (v - 64) ≡ v = omega arith in
      omega (arith, ap (cells t) e, begun.placed.ends (v - 64) (omega arith), end_most (v - 64)))
      (λ (k : 128 ≤ v).
      ⊎_elim (λ (i : v < 129). let e : v ≡ 128 = omega arith in omega (arith, ap (cells t) e, begun.placed.source))
      (λ (i : 129 ≤ v).
      let e : v ≡ 129 = omega arith in
      omega (arith, ap (cells t) e, begun.topped.early 149370 (omega (arith, usable_to b ok)) (λ p _. end_most p)))
      (lt_or_le v 129)) (lt_or_le v 128)) (lt_or_le v 64)
