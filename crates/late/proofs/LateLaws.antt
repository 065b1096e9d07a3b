-- What is left of the deadline after the turned links' starts are the board's latest ends, whatever the delays are, and they are one value.
-- The subtle point: a start past its type was cut to the type's greatest, but no deadline is later than that, so nothing is left either way.
-- Assumes nothing.
use mathlib.Core.Path.{◌≡◌, refl, ap, ◌∙◌}
use mathlib.Core.List.{List}
use Prim.Native.Nat.{ℕ, zero, suc, min, ◌+◌, ◌-◌, ◌≤◌, ◌<◌}
use native.Mathlib.Omega.{arith}
use lib.ListN.{get_or}
use Rattle.base.proofs.TableLaws.{firsts_room}
use Rattle.theory.specs.Sum.{share}
use Rattle.theory.specs.Graph.{Times, Feasible}
use Rattle.theory.specs.Budget.{greatest, arrive, Timed}
use Rattle.theory.proofs.ArriveLaws.{arrive_ge}
use Rattle.theory.proofs.Turning.{turned, turned_ranked}
use Rattle.theory.proofs.LatestEndsLaws.{turned_latest_ends, latest_ends_once, latest_ends_last, latest_ends_alike}
use Rattle.curve.specs.declared.Ticks.{Ticks}
use Rattle.curve.specs.Rows.{no_ticks, ticks_at}
use Rattle.curve.proofs.RowLaws.{ticks_at_lem, ticks_past, same_ticks}
use Rattle.board.specs.declared.Link.{Link}
use Rattle.board.specs.declared.Board.{Board}
use Rattle.board.specs.Board.{no_link, link_at, turned_link, delay_of, view, usable, WellFormed}
use Rattle.board.proofs.Lawful.{lawful}
use Rattle.board.proofs.UsableLaws.{usable_to}
use Rattle.times.specs.declared.Schedule.{Schedule}
use Rattle.times.specs.Times.{graph_of, TimesOf, Loopless, LooplessBy}
use Rattle.late.specs.Late.{Turned, left_of, LatestEndsOf}

greatest_ext : (m : ℕ) (f g : ℕ → ℕ) → ((l : ℕ) → l < m → f l ≡ g l) → greatest m f ≡ greatest m g
unfolding greatest
greatest_ext zero f g same = refl
greatest_ext (suc m) f g same = omega (arith, greatest_ext m f g (λ l h. same l (omega arith)), same m (omega arith))

module _ (b : Board) (ok : Loopless b) (back : List Link) (t : Turned b.link back) where
  -- a link of the board, turned
  link_is : (l : ℕ) → l < b.links → get_or back l no_link ≡ turned_link (link_at b l)
  link_is l h = t.each l (omega (arith, ok.formed.links_to))

  back_loopless : LooplessBy back b.links b.parts
  unfolding graph_of view
  back_loopless =
      let r = turned_ranked (lawful b ok.formed) ok.ranked in
      record {
        parts_to = ok.formed.parts_to;
        links_to = ok.formed.links_to;
        from_in = λ l h. rw (link_is l h) (ok.formed.to_in l h);
        to_in = λ l h. rw (link_is l h) (ok.formed.from_in l h);
        ranked = record { rank = r.rank; rises = λ l h. rw (link_is l h) (r.rises l h); below = r.below };
      }

  arrive_back : (e : ℕ → ℕ) (p : ℕ) → arrive (graph_of back b.links b.parts) e p ≡ arrive (turned (view b)) e p
  unfolding arrive graph_of view delay_of
  arrive_back e p = greatest_ext b.links _ _ (λ l h. ap (λ (k : Link). share k.to p (e k.from + k.delay.0)) (link_is l h))

  back_timed : (delay s e : ℕ → ℕ) → Timed (graph_of back b.links b.parts) delay s e → Timed (turned (view b)) delay s e
  unfolding graph_of view
  back_timed delay s e timed = record { starts = λ p h. timed.starts p h ∙ arrive_back e p; ends = timed.ends }

  pub late_is : (delay : List Ticks) (s : Schedule) → TimesOf (graph_of back b.links b.parts) delay s → (due : ℕ) → due ≡ usable b →
      (r : List Ticks) → r ≡ left_of due s.start b.parts → LatestEndsOf b delay r
  unfolding left_of graph_of view
  late_is delay s by due isd r is =
      let o = lawful b ok.formed in
      let few : due ≤ 4095 = omega (arith, isd, usable_to b ok.formed) in
      let timed = back_timed (ticks_at delay) by.start by.end by.timed in
      let left : (p : ℕ) → p < b.parts → due - by.start p ≡ ticks_at (left_of due s.start b.parts) p =
      λ p h. omega (arith, ticks_at_lem b.parts (λ q. due - ticks_at s.start q) ok.formed.parts_to p h, by.starts p h) in
      rw is
      (record {
        latest = rw (← isd) (latest_ends_alike (view b) o left (turned_latest_ends (view b) o timed due));
        blank = ticks_past b.parts _;
        room = firsts_room no_ticks _ b.parts;
      })

-- the return of `latest_ends`: the count that was cut is the board's own
pub late_returns : (b : Board) (delay : List Ticks) (back : List Link) → Turned b.link back → (s : Schedule) →
    (LooplessBy back b.links b.parts → TimesOf (graph_of back b.links b.parts) delay s) → (due : Ticks) → due.0 ≡ usable b →
    (n : ℕ) (r : List Ticks) → n ≡ min b.parts 64 → r ≡ left_of due.0 s.start n → Loopless b → LatestEndsOf b delay r
late_returns b delay back t s by due isd n r cut is ok =
    let all : n ≡ b.parts = omega (arith, ok.formed.parts_to) in
    late_is b ok back t delay s (by (back_loopless b ok back t)) due.0 isd r (rw all at is)

-- ---- one value
pub late_once : (b : Board) → Loopless b → (delay r r' : List Ticks) → LatestEndsOf b delay r → LatestEndsOf b delay r' → r ≡ r'
unfolding view
late_once b ok delay r r' a a' =
    same_ticks b.parts r r' a.room a'.room
    (latest_ends_once (view b) (lawful b ok.formed) ok.ranked (usable b) (ticks_at delay) a.latest a'.latest) a.blank a'.blank

-- ---- no end is later, where the delays keep the deadline
pub late_after : (b : Board) → WellFormed b → (delay late : List Ticks) → LatestEndsOf b delay late → (s e : ℕ → ℕ) →
    Timed (view b) (ticks_at delay) s e → ((p : ℕ) → p < b.parts → e p ≤ usable b) → ((p : ℕ) → p < b.parts → (view b).fastest p ≤ ticks_at delay p) →
    (p : ℕ) → p < b.parts → e p ≤ ticks_at late p
unfolding view
late_after b ok delay late a s e t ends from =
    let o = lawful b ok in
    let τ : Times = record { start = s; end = e; used = λ p. ticks_at delay p - (view b).fastest p } in
    let f : Feasible (view b) (usable b) τ =
    record {
      spans = λ p h. omega (arith, t.ends p h, from p h);
      waits = λ l h. omega (arith, arrive_ge (view b) e l h, t.starts (link_at b l).to (ok.to_in l h));
      ends = ends;
    } in
    latest_ends_last (view b) o a.latest {τ = τ} f (λ p h. omega (arith, from p h))
