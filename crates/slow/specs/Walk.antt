-- The steps of the walk back, as the code takes them.
-- Assumes nothing.
use Rattle.std.specs.Prelude.{Option, Some, None, List, [], ◌++◌, ℕ, zero, suc, min, ◌+◌, ◌-◌, eqb, ltb, leb, length, get_or, set, replicate}
use Rattle.base.specs.Pick.{pick}
use Rattle.base.specs.Table.{table}
use Rattle.curve.specs.declared.Ticks.{Ticks}
use Rattle.curve.specs.Rows.{ticks_at}
use Rattle.board.specs.declared.Link.{Link}
use Rattle.board.specs.Board.{no_link, delay_of}
use Rattle.slow.specs.declared.Trail.{Trail}

-- the lowest-numbered of the first n parts whose end is greatest
unfoldable pub last_of : List Ticks → ℕ → ℕ
last_of e zero = 0
last_of e (suc k) = pick (ltb (ticks_at e (last_of e k)) (ticks_at e k)) k (last_of e k)

-- the lower of those found so far, if any, and one more
abbrev pub lower_of : Option ℕ → ℕ → Option ℕ
lower_of None q = Some q
lower_of (Some p) q = Some (min p q)

-- the lowest-numbered part that arrives at p's start by one of the first n links, if there is one
unfoldable pub back_of : List Link → List Ticks → List Ticks → ℕ → ℕ → Option ℕ
back_of link s e zero p = None
back_of link s e (suc k) p =
    let l = get_or link k no_link in
    let before = back_of link s e k p in
    pick (eqb l.to p) (pick (eqb (ticks_at e l.from + delay_of l) (ticks_at s p)) (lower_of before l.from) before) before

unfoldable pub backs_of : List Link → List Ticks → List Ticks → ℕ → List (Option ℕ)
backs_of link s e n = table 64 (back_of link s e n)

-- a path's parts, and 0 past them
unfoldable pub trail_of : List ℕ → Trail
trail_of path = record { count = length path; parts = path ++ replicate (64 - length path) 0 }

unfoldable pub pushed_of : Trail → ℕ → Trail
pushed_of t part = pick (leb 64 t.count) t (record { count = t.count + 1; parts = set t.parts t.count part })

-- the path to a part, back over the parts before it
unfoldable pub walk_of : ℕ → List (Option ℕ) → Option ℕ → Trail
walk_of zero back at = trail_of []
walk_of (suc left) back None = trail_of []
walk_of (suc left) back (Some p) = pick (leb 64 p) (trail_of []) (pushed_of (walk_of left back (get_or back p None)) p)
