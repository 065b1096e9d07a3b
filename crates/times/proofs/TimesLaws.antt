-- Two results that the contract of `times_of` allows are the same value. Of delays that parts can have no time is cut; all parts at their fastest, and
-- all at their slowest, are two cases.
-- Assumes nothing.
use mathlib.Core.Path.{◌≡◌, sym, ap, ◌∙◌}
use mathlib.Core.Logic.{⊎_elim}
use mathlib.Core.List.{List}
use Prim.Native.Nat.{ℕ, zero, suc, ◌+◌, ◌*◌, ◌≤◌, ◌<◌}
use native.Mathlib.Omega.{arith}
use Rattle.base.proofs.Cases.{lt_or_le}
use Rattle.theory.specs.Budget.{arrive, Timed}
use Rattle.theory.proofs.ArriveLaws.{arrive_le, arrive_ext}
use Rattle.theory.proofs.TimedLaws.{timed_once}
use Rattle.curve.specs.declared.Ticks.{Ticks}
use Rattle.curve.specs.Curve.{slowest_of}
use Rattle.curve.specs.Rows.{ticks_at}
use Rattle.curve.proofs.CurveLaws.{slowest_to}
use Rattle.curve.proofs.RowLaws.{ticks_at_lem, same_ticks}
use Rattle.board.specs.declared.Board.{Board}
use Rattle.board.specs.Board.{curve_at, link_at, view}
use Rattle.board.proofs.Lawful.{lawful, wire_to}
use Rattle.times.specs.declared.Schedule.{Schedule}
use Rattle.times.specs.Times.{fastests_of, slowest_at, slowests_of, in_ticks, graph_of, TimesOf, Loopless, LooplessBy}

-- ---- a board's own links
pub board_loopless : (b : Board) → Loopless b → LooplessBy b.link b.links b.parts
unfolding graph_of view
board_loopless b ok = record {
  parts_to = ok.formed.parts_to;
  links_to = ok.formed.links_to;
  from_in = ok.formed.from_in;
  to_in = ok.formed.to_in;
  ranked = record { rank = ok.ranked.rank; rises = ok.ranked.rises; below = ok.ranked.below };
}

-- the return of `times_of`
pub board_times : (b : Board) (delay : List Ticks) (r : Schedule) →
    (LooplessBy b.link b.links b.parts → TimesOf (graph_of b.link b.links b.parts) delay r) → Loopless b → TimesOf (view b) delay r
unfolding graph_of view arrive
board_times b delay r by ok =
    let t = by (board_loopless b ok) in
    record {
      start = t.start;
      end = t.end;
      timed = record { starts = t.timed.starts; ends = t.timed.ends };
      starts = t.starts;
      ends = t.ends;
      start_blank = t.start_blank;
      end_blank = t.end_blank;
      start_room = t.start_room;
      end_room = t.end_room;
    }

module _ (b : Board) (ok : Loopless b) where
  -- ---- one value
  pub times_once : (delay : List Ticks) (r r' : Schedule) → TimesOf (view b) delay r → TimesOf (view b) delay r' → r ≡ r'
  unfolding view
  times_once delay r r' t t' =
      let once = timed_once (view b) (lawful b ok.formed) ok.ranked t.timed t'.timed in
      let start = same_ticks b.parts r.start r'.start t.start_room t'.start_room
      (λ p h. t.starts p h ∙ ap (λ (n : ℕ). in_ticks n) (once p h).0 ∙ sym (t'.starts p h)) t.start_blank t'.start_blank in
      let end = same_ticks b.parts r.end r'.end t.end_room t'.end_room
      (λ p h. t.ends p h ∙ ap (λ (n : ℕ). in_ticks n) (once p h).1 ∙ sym (t'.ends p h)) t.end_blank t'.end_blank in
      ap (λ (s : List Ticks). record { start = s; end = r.end }) start ∙ ap (λ (e : List Ticks). record { start = r'.start; end = e }) end

  -- ---- delays that parts can have: no end is above 2298 ticks for each rank, so none is cut
  module _ (delay : List Ticks) (few : (p : ℕ) → p < b.parts → ticks_at delay p ≤ 2043) (r : Schedule) (t : TimesOf (view b) delay r) where
    end_to : (i p : ℕ) → p < b.parts → ok.ranked.rank p < i → t.end p ≤ 2298 * i
    unfolding view
    end_to zero p h l = absurd (omega arith)
    end_to (suc i) p h l =
        let start : t.start p ≤ 2298 * i + 255 =
        rw (t.timed.starts p h)
        (arrive_le (view b) t.end p (2298 * i + 255)
        (λ k m q.
        omega (
          arith,
          end_to i (link_at b k).from (ok.formed.from_in k m) (omega (arith, ok.ranked.rises k m, ap ok.ranked.rank q)),
          wire_to b ok.formed k m,
        ))) in
        omega (arith, t.timed.ends p h, few p h)

    end_is : (p : ℕ) → p < b.parts → ticks_at r.end p ≡ t.end p
    unfolding view
    end_is p h = omega (arith, t.ends p h, end_to 65 p h (ok.ranked.below p h))

    start_is : (p : ℕ) → p < b.parts → ticks_at r.start p ≡ t.start p
    unfolding view
    start_is p h = omega (arith, t.starts p h, t.timed.ends p h, end_to 65 p h (ok.ranked.below p h))

    pub times_timed : Timed (view b) (ticks_at delay) (ticks_at r.start) (ticks_at r.end)
    unfolding view
    times_timed = record {
      starts = λ p h.
          start_is p h ∙ t.timed.starts p h
          ∙ arrive_ext (view b) t.end (ticks_at r.end) p (λ k m q. sym (end_is (link_at b k).from (ok.formed.from_in k m)));
      ends = λ p h. omega (arith, start_is p h, end_is p h, t.timed.ends p h);
    }

    pub times_to : (p : ℕ) → ticks_at r.end p ≤ 149370
    unfolding view
    times_to p =
        ⊎_elim (λ (h : p < b.parts). omega (arith, end_is p h, end_to 65 p h (ok.ranked.below p h)))
        (λ (h : b.parts ≤ p). omega (arith, t.end_blank p h)) (lt_or_le p b.parts)

  -- ---- all at fastest
  pub fastest_at : (p : ℕ) → p < b.parts → ticks_at (fastests_of b) p ≡ (view b).fastest p
  unfolding fastests_of
  fastest_at = ticks_at_lem b.parts _ ok.formed.parts_to

  pub fastest_few : (d : List Ticks) → d ≡ fastests_of b → (p : ℕ) → p < b.parts → ticks_at d p ≤ 2043
  unfolding view
  fastest_few d is p h = rw is (omega (arith, fastest_at p h, (ok.formed.curves p h).fastest_to))

  pub fastest_timed : (d : List Ticks) → d ≡ fastests_of b → (r : Schedule) → TimesOf (view b) d r →
      Timed (view b) (view b).fastest (ticks_at r.start) (ticks_at r.end)
  unfolding view
  fastest_timed d is r t =
      let exact = times_timed d (fastest_few d is) r t in
      record { starts = exact.starts; ends = λ p h. omega (arith, exact.ends p h, fastest_at p h, ap (λ (row : List Ticks). ticks_at row p) is) }

  -- ---- all at slowest
  pub slowest_at_lem : (p : ℕ) → p < b.parts → ticks_at (slowests_of b) p ≡ slowest_of (curve_at b p)
  unfolding slowests_of slowest_at
  slowest_at_lem = ticks_at_lem b.parts _ ok.formed.parts_to

  pub slowest_few : (d : List Ticks) → d ≡ slowests_of b → (p : ℕ) → p < b.parts → ticks_at d p ≤ 2043
  slowest_few d is p h = rw is (omega (arith, slowest_at_lem p h, slowest_to (curve_at b p) (ok.formed.curves p h)))
