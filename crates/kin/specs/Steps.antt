-- The rows and sets as they are computed. `Critical.antt` and `Kin.antt` say what they mean, and the laws in `proofs/` that they mean it.
-- Assumes nothing.
use Rattle.std.specs.Prelude.{◌≡◌, List, ℕ, zero, suc, ◌+◌, ◌-◌, ◌^◌, ◌<◌, get_or, set}
use Rattle.std.specs.Int.Count.{ones}
use Rattle.base.specs.Pick.{pick}
use Rattle.marks.specs.Marks.{bit, has_of, union_of}
use Rattle.marks.specs.Rows.{marks_up_to}
use Rattle.board.specs.declared.Board.{Board}
use Rattle.budget.specs.declared.Budget.{Budget}
use Rattle.board.specs.Board.{link_at}
use Rattle.kin.specs.declared.Rows.{Rows}
use Rattle.kin.specs.declared.Kin.{Kin}
use Rattle.kin.specs.Critical.{criticalb}
use Rattle.kin.specs.Kin.{Within}

-- ---- rows of marks
-- by the first k links
unfoldable pub rows_up_to : Board → Budget → ℕ → Rows
rows_up_to b held k = record {
  down = marks_up_to (λ l. criticalb held (link_at b l)) (λ l. (link_at b l).from) (λ l. (link_at b l).to) k;
  up = marks_up_to (λ l. criticalb held (link_at b l)) (λ l. (link_at b l).to) (λ l. (link_at b l).from) k;
}

-- ---- a set and all that the rows of those seen mark
unfoldable pub joined_of : ℕ → ℕ → ℕ → ℕ → ℕ
joined_of set seen k row = pick (has_of seen k) (union_of set row) set

unfoldable pub gathered_up_to : List ℕ → ℕ → ℕ → ℕ → ℕ
gathered_up_to rows seen set zero = set
gathered_up_to rows seen set (suc k) = joined_of (gathered_up_to rows seen set k) seen k (get_or rows k 0)

unfoldable pub gathered_of : List ℕ → ℕ → ℕ → ℕ
gathered_of rows seen set = gathered_up_to rows seen set 64

-- ---- the two steps. All that the rows of s mark is in u.
abbrev pub Led : List ℕ → ℕ → ℕ → Type 0
Led rows s u = (r q : ℕ) → bit s r ≡ 1 → bit (get_or rows r 0) q ≡ 1 → bit u q ≡ 1

-- the least sets with p among the parents and c among the children that no turn makes grow
pub record Grown (t : Rows) (p c : ℕ) (k : Kin) : Type 0 where
  pub parents_fit : k.parents < 2 ^ 64
  pub children_fit : k.children < 2 ^ 64
  pub parents_in : Within p k.parents
  pub children_in : Within c k.children
  pub down : Led t.down k.parents k.children
  pub up : Led t.up k.children k.parents
  pub least_parents : (s u : ℕ) → Within p s → Within c u → Led t.down s u → Led t.up u s → Within k.parents s
  pub least_children : (s u : ℕ) → Within p s → Within c u → Led t.down s u → Led t.up u s → Within k.children u

-- "unmarked parts, counted over both sets, fall"
unfoldable pub unmarked : ℕ → ℕ → ℕ
unmarked p c = 128 - (ones p + ones c)
