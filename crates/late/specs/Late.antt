-- 02, Req 03: "its latest allowed end: the deadline, or, where links leave it, the least of latest end minus delay over the parts they lead to", of a
-- board's parts, as rows of 64 places. What a link takes counts. `LatestEnds` of `theory` is the sentence; there is exactly one on a board with no loop.
-- Assumes nothing.
use Rattle.std.specs.Prelude.{◌≡◌, List, ℕ, ◌-◌, ◌≤◌, ◌<◌, length, get_or}
use Rattle.theory.specs.Latest.{LatestEnds}
use Rattle.curve.specs.declared.Ticks.{Ticks}
use Rattle.curve.specs.Rows.{ticks_at, ticks_row}
use Rattle.board.specs.declared.Link.{Link}
use Rattle.board.specs.declared.Board.{Board}
use Rattle.board.specs.Board.{no_link, turned_link, view, usable}

-- the latest ends that these delays leave by the usable deadline. Places without a part hold 0.
pub record LatestEndsOf (b : Board) (delay late : List Ticks) : Type 0 where
  pub latest : LatestEnds (view b) (usable b) (ticks_at delay) (ticks_at late)
  pub blank : (p : ℕ) → b.parts ≤ p → ticks_at late p ≡ 0
  pub room : length late ≡ 64

-- ---- its steps
-- each link the other way round
pub record Turned (link link' : List Link) : Type 0 where
  pub each : (l : ℕ) → l < 256 → get_or link' l no_link ≡ turned_link (get_or link l no_link)

-- what is left of the deadline at the first n parts
unfoldable pub left_of : ℕ → List Ticks → ℕ → List Ticks
left_of due s n = ticks_row n (λ p. due - ticks_at s p)
