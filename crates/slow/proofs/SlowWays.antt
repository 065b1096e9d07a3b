-- The ways of `slow_path`, in plain values.
-- Assumes nothing.
use mathlib.Core.Path.{◌≡◌, refl, ◌∙◌}
use mathlib.Core.List.{List}
use Prim.Native.Nat.{ℕ, min, ◌≤◌, ◌<◌}
use native.Mathlib.Omega.{arith}
use Rattle.std.specs.Prelude.{Option, Some, None, length, take}
use Rattle.theory.specs.Budget.{Timed}
use Rattle.curve.specs.declared.Ticks.{Ticks}
use Rattle.curve.specs.Rows.{ticks_at}
use Rattle.board.specs.declared.Board.{Board}
use Rattle.board.specs.Board.{usable, view}
use Rattle.times.specs.declared.Schedule.{Schedule}
use Rattle.times.specs.Times.{fastests_of, TimesOf, Loopless}
use Rattle.times.specs.Rounds.{InPlaces}
use Rattle.times.proofs.TimesLaws.{fastest_timed}
use Rattle.slow.specs.declared.Trail.{Trail}
use Rattle.slow.specs.Slow.{LastPart, FastestEnds, shown, SlowOf, kept, exceeded}
use Rattle.slow.specs.Walk.{last_of, backs_of, trail_of, walk_of}
use Rattle.slow.proofs.Ways.{last_below, backs_held, places_held}
use Rattle.slow.proofs.Earlier.{earlier_lt}
use Rattle.slow.proofs.Steps.{last_is}
use Rattle.slow.proofs.WalkLaws.{walks}

pub last_place : (n : ℕ) (e : List Ticks) (m last : ℕ) → n ≡ min m 64 → last ≡ last_of e n → last < 64
last_place n e m last cut is = rw is (last_below e n (omega arith))

-- all at fastest they start and end at `t`, and `last` ends last
module _ (b : Board) (ok : Loopless b) (d : List Ticks) (isd : d ≡ fastests_of b) (t : Schedule) (times : TimesOf (view b) d t) (last : ℕ)
    (isl : last ≡ last_of t.end b.parts) where
  places : InPlaces b.link b.links
  places = record {
    from_in = λ l i. omega (arith, ok.formed.from_in l i, ok.formed.parts_to);
    to_in = λ l i. omega (arith, ok.formed.to_in l i, ok.formed.parts_to);
  }

  timed : Timed (view b) (view b).fastest (ticks_at t.start) (ticks_at t.end)
  timed = fastest_timed b ok d isd t times

  ends : FastestEnds b (ticks_at t.end)
  ends = record { start = ticks_at t.start; timed = timed }

  last_part : LastPart (view b) (ticks_at t.end) last
  last_part = rw isl (last_is t.end b ok.formed)

  keeps : (a : Ticks) → a.0 ≡ usable b → ticks_at t.end last ≤ a.0 → SlowOf b None
  unfolding view
  keeps a isa h = kept (record { end = ticks_at t.end; ends = ends; within = λ p k. omega (arith, last_part.greatest p k) }) refl

  exceeds : (a : Ticks) → a.0 ≡ usable b → a.0 < ticks_at t.end last → (back : List (Option ℕ))
      → (InPlaces b.link b.links → back ≡ backs_of b.link t.start t.end b.links)
      → (trail : Trail) → trail ≡ walk_of b.parts back (Some last)
      → SlowOf b (Some (record { ticks = ticks_at t.end last; path = trail }))
  unfolding shown view
  exceeds a isa h back isb trail walk =
      let w = walks b ok.formed t.start t.end timed b.parts last last_part.here (earlier_lt b.parts (ticks_at t.end) last last_part.here) in
      let is : trail ≡ trail_of w.path = walk ∙ rw (isb places) w.is in
      exceeded
      (record { end = ticks_at t.end; part = last; ends = ends; last = last_part; walked = w.walked; place = refl; over = omega arith })
      (rw is)

-- the returns: the counts that were cut are the board's own
module _ (b : Board) (n : ℕ) (cut : n ≡ min b.parts 64) (d : List Ticks) (isd : d ≡ fastests_of b) (t : Schedule) (last : ℕ)
    (isl : last ≡ last_of t.end n) (a : Ticks) (isa : a.0 ≡ usable b) (times : Loopless b → TimesOf (view b) d t) where
  parts_are : Loopless b → n ≡ b.parts
  parts_are ok = omega (arith, ok.formed.parts_to)

  pub in_time : ticks_at t.end last ≤ a.0 → Loopless b → SlowOf b None
  in_time h ok = keeps b ok d isd t (times ok) last (rw (parts_are ok) at isl) a isa h

  pub too_slow : a.0 < ticks_at t.end last → (m : ℕ) → m ≡ min b.links 256 → length b.link ≡ 256 → (back : List (Option ℕ))
      → (InPlaces (take m b.link) (length (take m b.link)) → back ≡ backs_of (take m b.link) t.start t.end (length (take m b.link)))
      → (trail : Trail) → trail ≡ walk_of n back (Some last) → Loopless b
      → SlowOf b (Some (record { ticks = ticks_at t.end last; path = trail }))
  too_slow h m cut' long back by trail walk ok =
      let links_are : m ≡ b.links = omega (arith, ok.formed.links_to) in
      let room : m ≤ length b.link = omega arith in
      let isb : InPlaces b.link m → back ≡ backs_of b.link t.start t.end m =
      λ places. by (places_held b.link m room t.start t.end places) ∙ backs_held b.link m room t.start t.end in
      exceeds b ok d isd t (times ok) last (rw (parts_are ok) at isl) a isa h back (rw links_are at isb) trail (rw (parts_are ok) at walk)
