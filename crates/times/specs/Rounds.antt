-- A round takes ends to starts and starts to ends. What a round leaves as it is are the times of a graph with no loop, whatever came before it
-- (`still_times`); that rounds from nothing come there goes by ranks.
-- The subtle point: a sum past its type stays at the greatest, so a round is defined for any ends.
-- Assumes nothing.
use Rattle.std.specs.Prelude.{◌≡◌, List, ℕ, ◌+◌, ◌<◌, get_or}
use Rattle.base.specs.Table.{table}
use Rattle.theory.specs.Sum.{share}
use Rattle.theory.specs.Budget.{greatest}
use Rattle.curve.specs.declared.Ticks.{Ticks}
use Rattle.curve.specs.Rows.{ticks_at, ticks_row}
use Rattle.board.specs.declared.Link.{Link}
use Rattle.board.specs.Board.{no_link, delay_of}
use Rattle.times.specs.declared.Schedule.{Schedule}
use Rattle.times.specs.Times.{in_ticks}

-- the last arrival at part p by the first n links, where parts end at e
unfoldable pub arrival_of : List Link → List Ticks → ℕ → ℕ → ℕ
arrival_of link e n p =
    greatest n (λ l. share (get_or link l no_link).to p (in_ticks (ticks_at e (get_or link l no_link).from + delay_of (get_or link l no_link))))

unfoldable pub starts_of : List Link → ℕ → List Ticks → List Ticks
starts_of link n e = table 64 (λ p. record { 0 = arrival_of link e n p })

-- the first n parts
unfoldable pub ends_of : List Ticks → List Ticks → ℕ → List Ticks
ends_of s delay n = ticks_row n (λ p. in_ticks (ticks_at s p + ticks_at delay p))

-- a round leaves it as it is
pub record Still (link : List Link) (links parts : ℕ) (delay : List Ticks) (r : Schedule) : Type 0 where
  pub starts : r.start ≡ starts_of link links r.end
  pub ends : r.end ≡ ends_of r.start delay parts

-- links that join two of the 64 places
pub record InPlaces (link : List Link) (n : ℕ) : Type 0 where
  pub from_in : (l : ℕ) → l < n → (get_or link l no_link).from < 64
  pub to_in : (l : ℕ) → l < n → (get_or link l no_link).to < 64
