-- 01, Questions: critical links. The one definition is `criticalb`; all else goes by it.
-- Assumes nothing.
use Rattle.std.specs.Prelude.{◌≡◌, Bool, true, ℕ, ◌+◌, min, ltb, eqb, length, get_or}
use Rattle.curve.specs.Rows.{ticks_at}
use Rattle.marks.specs.Marks.{Exactly}
use Rattle.curve.specs.Tests.{both}
use Rattle.board.specs.declared.Link.{Link}
use Rattle.board.specs.declared.Board.{Board}
use Rattle.budget.specs.declared.Budget.{Budget}
use Rattle.board.specs.Board.{link_at, delay_of}
use Rattle.kin.specs.declared.Rows.{Rows}

-- "A link is critical when the end of its first part equals the start of its second." What the link itself takes counts: none today.
-- Parts are below 64.
unfoldable pub criticalb : Budget → Link → Bool
criticalb held l = both (ltb l.from 64) (both (ltb l.to 64) (eqb (ticks_at held.end l.from + delay_of l) (ticks_at held.start l.to)))

-- link l of the board is critical; a board holds no more than 256 links
unfoldable pub critical_at : Board → Budget → ℕ → Bool
critical_at b held l = both (ltb l (min b.links 256)) (criticalb held (link_at b l))

-- a critical link leads from part p to part q
pub record Critical (b : Board) (held : Budget) (p q : ℕ) : Type 0 where
  pub link : ℕ
  pub from : (link_at b link).from ≡ p
  pub to : (link_at b link).to ≡ q
  pub critical : critical_at b held link ≡ true

-- the critical links as marks, by their first part and by their second
pub record CriticalRows (b : Board) (held : Budget) (t : Rows) : Type 0 where
  pub down : (p : ℕ) → Exactly (λ q. Critical b held p q) (get_or t.down p 0)
  pub up : (q : ℕ) → Exactly (λ p. Critical b held p q) (get_or t.up q 0)
  pub down_room : length t.down ≡ 64
  pub up_room : length t.up ≡ 64
