-- Rows of marks, one for each of 64 parts: bit q of row p where something leads from p to q.
-- Assumes nothing.
use Rattle.std.specs.Prelude.{Bool, List, ℕ, zero, suc, ltb, get_or, set, replicate}
use Rattle.base.specs.Pick.{pick}
use Rattle.marks.specs.Marks.{insert_of}

unfoldable pub no_rows : List ℕ
no_rows = replicate 64 0

-- row p gets mark q, where there is a row p
unfoldable pub with_mark : List ℕ → ℕ → ℕ → List ℕ
with_mark rows p q = pick (ltb p 64) (set rows p (insert_of (get_or rows p 0) q)) rows

-- row `from l` has mark `to l` for each l < k that passes the test
unfoldable pub marks_up_to : (ℕ → Bool) → (ℕ → ℕ) → (ℕ → ℕ) → ℕ → List ℕ
marks_up_to test from to zero = no_rows
marks_up_to test from to (suc k) = pick (test k) (with_mark (marks_up_to test from to k) (from k) (to k)) (marks_up_to test from to k)
