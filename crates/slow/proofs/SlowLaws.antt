-- What the answer of `slow_path` means: it is one value; a path is too slow exactly where the answer says so, and no path is slower than
-- the one shown; and the answer says so exactly where no budget at all is allowed.
-- Assumes nothing.
use mathlib.Core.Path.{◌≡◌, refl, sym, ap, ◌∙◌}
use mathlib.Core.List.{List}
use Prim.Native.Nat.{ℕ, ◌≤◌, ◌<◌}
use native.Mathlib.Omega.{arith}
use lib.ListN.{get_or}
use Rattle.std.specs.Prelude.{Option, Some, None, IsSome}
use Rattle.slow.specs.Walk.{trail_of}
use Rattle.theory.specs.Graph.{Times}
use Rattle.theory.specs.Budget.{Budget}
use Rattle.theory.proofs.TimedLaws.{timed_once, possible}
use Rattle.board.specs.declared.Board.{Board}
use Rattle.board.specs.Board.{usable, view}
use Rattle.board.proofs.Lawful.{lawful}
use Rattle.slow.specs.declared.ShownPath.{ShownPath}
use Rattle.slow.specs.Slow.{PathTo, First, Walked, Loopless, FastestEnds, InTime, SlowPath, TooSlow, shown, SlowOf, kept, exceeded}
use Rattle.slow.proofs.PathLaws.{path_in, path_le, walked_path, walked_first, last_once, walked_once}

-- the path that an answer shows: its ticks are the place, no path takes more, and its first part has none before it
pub record Shows (b : Board) (r : ShownPath) : Type 0 where
  pub part : ℕ
  pub path : List ℕ
  pub is : PathTo (view b) part path r.ticks
  pub listed : r.path ≡ trail_of path
  pub begins : First (view b) (get_or path 0 0)
  pub over : usable b < r.ticks
  pub slowest : (p : ℕ) (other : List ℕ) (ticks : ℕ) → PathTo (view b) p other ticks → ticks ≤ r.ticks

module _ (b : Board) (ok : Loopless b) where
  ends_once : {e e' : ℕ → ℕ} → FastestEnds b e → FastestEnds b e' → (p : ℕ) → p < (view b).parts → e p ≡ e' p
  ends_once f f' p h = (timed_once (view b) (lawful b ok.formed) ok.ranked f.timed f'.timed p h).1

  -- ---- in time or not, and one path
  pub in_time_not_slow : {A : Type 0} {ticks : ℕ} {path : List ℕ} → InTime b → SlowPath b ticks path → A
  unfolding view
  in_time_not_slow k x =
      let p = x.part in
      let h = x.last.here in
      absurd (omega (arith, ends_once k.ends x.ends p h, k.within p h, x.place, x.over))

  pub slow_ticks_once : {ticks ticks' : ℕ} {path path' : List ℕ} → SlowPath b ticks path → SlowPath b ticks' path' → ticks ≡ ticks'
  slow_ticks_once x y =
      let same = ends_once x.ends y.ends in
      let part : x.part ≡ y.part = last_once (view b) (lawful b ok.formed) same x.last y.last in
      x.place ∙ same x.part x.last.here ∙ ap y.end part ∙ sym y.place

  pub slow_path_once : {ticks ticks' : ℕ} {path path' : List ℕ} → SlowPath b ticks path → SlowPath b ticks' path' → path ≡ path'
  slow_path_once {path = path} x y =
      let same = ends_once x.ends y.ends in
      let part : x.part ≡ y.part = last_once (view b) (lawful b ok.formed) same x.last y.last in
      let w : Walked (view b) x.end x.part path = x.walked in
      walked_once (view b) (lawful b ok.formed) same (rw part at w) y.walked

  -- two answers allowed are one
  pub slow_once : (r r' : Option ShownPath) → SlowOf b r → SlowOf b r' → r ≡ r'
  slow_once r r' (kept k is) (kept k' is') = is ∙ sym is'
  slow_once r r' (kept k is) (exceeded x' is') = in_time_not_slow k x'
  slow_once r r' (exceeded x is) (kept k' is') = in_time_not_slow k' x
  slow_once r r' (exceeded x is) (exceeded x' is') = is ∙ rw (slow_ticks_once x x', slow_path_once x x') (sym is')

  -- ---- paths
  -- the path that is shown is one, and none takes more ticks
  pub slow_path_is : {ticks : ℕ} {path : List ℕ} (x : SlowPath b ticks path) → PathTo (view b) x.part path ticks
  slow_path_is x = rw x.place (walked_path (view b) (lawful b ok.formed) x.ends.timed x.last.here x.walked)

  -- where there is no time for some path, the fastest delays are not in time
  pub in_time_no_path : {A : Type 0} → InTime b → TooSlow b → A
  unfolding view
  in_time_no_path k way =
      let o = lawful b ok.formed in
      let here = path_in (view b) o k.ends.timed way.is in
      absurd (omega (arith, path_le (view b) o k.ends.timed way.is, k.within way.part here, way.over))

  -- where any budget is allowed, no path is too slow; where they are in time, one is
  pub budget_not_slow : {A : Type 0} {τ : Times} {ticks : ℕ} {path : List ℕ} → Budget (view b) (usable b) τ → SlowPath b ticks path → A
  budget_not_slow {τ = τ} budget x =
      absurd
      (omega (arith, (possible (view b) (lawful b ok.formed) x.ends.timed).0 (τ, budget) x.part x.last.here, x.place, x.over))

  module _ (r : Option ShownPath) where
    shows : {ticks : ℕ} {path : List ℕ} → SlowPath b ticks path → Shows b (record { ticks = ticks; path = trail_of path })
    shows {path = path} x = record {
      part = x.part;
      path = path;
      is = slow_path_is x;
      listed = refl;
      begins = walked_first (view b) (lawful b ok.formed) x.walked;
      over = x.over;
      slowest = λ q other ticks way.
          omega (
            arith,
            path_le (view b) (lawful b ok.formed) x.ends.timed way,
            x.last.greatest q (path_in (view b) (lawful b ok.formed) x.ends.timed way),
            x.place,
          );
    }

    -- the path that the answer shows is too slow at its fastest
    pub slow_shows : SlowOf b r → (s : ShownPath) → r ≡ Some s → Shows b s
    unfolding shown
    slow_shows (kept k is) s told = absurd (cc)
    slow_shows (exceeded {ticks = ticks} {path = path} x is) s told =
        let same : record { ticks = ticks; path = trail_of path } ≡ s = cc in
        rw same at (shows x)

    -- and where there is such a path, the answer shows one
    pub path_slow : SlowOf b r → TooSlow b → IsSome r
    unfolding shown
    path_slow (kept k is) way = in_time_no_path k way
    path_slow (exceeded x is) way = rw is refl

    -- a board is refused for time exactly where no budget is allowed
    pub budget_in_time : SlowOf b r → {τ : Times} → Budget (view b) (usable b) τ → r ≡ None
    budget_in_time (kept k is) budget = is
    budget_in_time (exceeded x is) budget = budget_not_slow budget x

    pub in_time_budget : SlowOf b r → r ≡ None → (τ : Times) × Budget (view b) (usable b) τ
    unfolding view shown
    in_time_budget (kept k is) told = (possible (view b) (lawful b ok.formed) k.ends.timed).1 k.within
    in_time_budget (exceeded x is) told = absurd (cc)
