-- The sets as they are computed, by rows of marks. `Cone.antt` says what they mean, and the laws in `proofs/` that they mean it.
-- Assumes nothing.
use Rattle.std.specs.Prelude.{ℕ, zero, suc, min, Bool, true, List, length, get_or, slice_index, Option, Some, None}
use Rattle.base.specs.Pick.{pick}
use Rattle.marks.specs.Marks.{has_of, union_of, without_of, one_of, insert_of, lowest_of}
use Rattle.marks.specs.Rows.{marks_up_to}
use Rattle.board.specs.declared.Link.{Link}
use Rattle.board.specs.declared.Board.{Board}
use Rattle.board.specs.Board.{no_link, link_at}
use Rattle.cone.specs.declared.Sweep.{Sweep}

-- ---- rows of marks: bit q of row p where a link leads from p to q
unfoldable pub rows_of : List Link → List ℕ
rows_of link = marks_up_to (λ l. true) (λ l. (get_or link l no_link).from) (λ l. (get_or link l no_link).to) (length link)

-- turned back, where one leads from q to p
unfoldable pub columns_of : List Link → List ℕ
columns_of link = marks_up_to (λ l. true) (λ l. (get_or link l no_link).to) (λ l. (get_or link l no_link).from) (length link)

-- of a board, which holds no more than 256 links; and turned back
unfoldable pub forth_rows : Board → List ℕ
forth_rows b = marks_up_to (λ l. true) (λ l. (link_at b l).from) (λ l. (link_at b l).to) (min b.links 256)

unfoldable pub back_rows : Board → List ℕ
back_rows b = marks_up_to (λ l. true) (λ l. (link_at b l).to) (λ l. (link_at b l).from) (min b.links 256)

-- ---- a sweep: the parts visited, and those still to visit, of which the lowest is next. With none it stays.
unfoldable pub visited_of : Sweep → ℕ → ℕ → Sweep
visited_of s p row = record { done = insert_of s.done p; todo = without_of (union_of s.todo row) (insert_of s.done p) }

abbrev pub visited_next : List ℕ → Sweep → Option ℕ → Sweep
visited_next rows s (Some p) = visited_of s p (slice_index rows p)
visited_next rows s None = s

unfoldable pub step_of : List ℕ → Sweep → Sweep
step_of rows s = visited_next rows s (lowest_of s.todo)

unfoldable pub sweep_up_to : List ℕ → ℕ → ℕ → Sweep
sweep_up_to rows from zero = record { done = 0; todo = from }
sweep_up_to rows from (suc k) = step_of rows (sweep_up_to rows from k)

-- all that can be reached from the marked parts: there are 64 parts to visit at most
unfoldable pub reached_of : List ℕ → ℕ → ℕ
reached_of rows from = (sweep_up_to rows from 64).done

unfoldable pub cone_of : List ℕ → ℕ → ℕ
cone_of rows p = reached_of rows (one_of p)

unfoldable pub downstream_of : Board → ℕ → ℕ
downstream_of b p = cone_of (forth_rows b) p

unfoldable pub upstream_of : Board → ℕ → ℕ
upstream_of b p = cone_of (back_rows b) p

-- ---- the first part that can be reached from where its own links lead
unfoldable pub on_loop_of : List ℕ → ℕ → Bool
on_loop_of rows p = has_of (reached_of rows (slice_index rows p)) p

-- what was found, else what the next part gives
abbrev pub found_else : Option ℕ → Option ℕ → Option ℕ
found_else (Some p) next = Some p
found_else None next = next

unfoldable pub loop_up_to : List ℕ → ℕ → Option ℕ
loop_up_to rows zero = None
loop_up_to rows (suc k) = found_else (loop_up_to rows k) (pick (on_loop_of rows k) (Some k) None)

unfoldable pub loop_of : Board → Option ℕ
loop_of b = loop_up_to (forth_rows b) (min b.parts 64)
