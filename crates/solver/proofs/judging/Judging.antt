-- The ways through `judge_time` and `judge`.
-- Assumes nothing.
use Rattle.std.proofs.Common.{◌≡◌, ℕ, [], refl}
use Rattle.std.specs.Prelude.{Option, Some, None, Ok}
use Rattle.refusal.specs.Refusal.{refusal_at}
use Rattle.refusal.specs.declared.Refusal.{Refusal}
use Rattle.refusal.specs.declared.Why.TheVariants.{Looped, TooSlow}
use Rattle.board.specs.declared.Board.{Board}
use Rattle.board.specs.Board.{WellFormed}
use Rattle.cone.specs.Cone.{LoopSaid}
use Rattle.cone.proofs.Loops.{loop_free_ranked}
use Rattle.solver.specs.declared.Unsolved.{Unsolved}
use Rattle.slow.specs.declared.ShownPath.{ShownPath}
use Rattle.slow.specs.Walk.{trail_of}
use Rattle.slow.specs.Slow.{Loopless, shown, SlowOf, kept, exceeded}
use Rattle.solver.specs.Verdict.{Verdict, looped, slow, fine}
use Rattle.solver.specs.Judging.{Timely, Turned, unshown}

-- ---- `judge_time`
timely_loopless : (b : Board) → Timely b → Loopless b
timely_loopless b ok = record { formed = ok.formed; ranked = loop_free_ranked b ok.formed ok.free }

module _ (b : Board) (ok : Timely b) (found : Option ShownPath) where
  time_kept : SlowOf b found → found ≡ None → Verdict b (Ok tt) []
  unfolding shown
  time_kept (kept k is) none = fine ok.free k
  time_kept (exceeded x is) none = absurd (cc)

  pub in_time : (Loopless b → SlowOf b found) → found ≡ None → Verdict b (Ok tt) []
  in_time said = time_kept (said (timely_loopless b ok))

  module _ (s : ShownPath) (there : found ≡ Some s) (r : Refusal) (told : r ≡ refusal_at TooSlow s.ticks) where
    time_exceeded : SlowOf b found → Turned b (record { refusal = r; path = s.path })
    unfolding shown
    time_exceeded (kept k is) = absurd (cc)
    time_exceeded (exceeded {ticks = ticks} {path = path} x is) =
        let same : record { ticks = ticks; path = trail_of path } ≡ s = cc in
        rw (told, ← same) (record { path = path; verdict = slow ok.free x; listed = refl })

    pub too_slow : (Loopless b → SlowOf b found) → Turned b (record { refusal = r; path = s.path })
    too_slow said = time_exceeded (said (timely_loopless b ok))

-- ---- `judge`
module _ (b : Board) (w : WellFormed b) (found : Option ℕ) (said : WellFormed b → LoopSaid b found) where
  pub free_timely : found ≡ None → Timely b
  free_timely e = record { formed = w; free = rw e at (said w) }

  pub on_loop : (part : ℕ) (r : Refusal) (u : Unsolved) → found ≡ Some part → r ≡ refusal_at Looped part → u ≡ unshown r → Turned b u
  on_loop part r u e told is = rw (is, told) (record { path = []; verdict = looped (rw e at (said w)); listed = refl })
