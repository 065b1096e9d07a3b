-- `Good` as a test that code can run: `goodb c` is true exactly of the good curves (`goodb_good`, `good_goodb`).
-- Assumes nothing.
use Rattle.std.specs.Prelude.{Bool, true, false, ℕ, zero, suc, ◌-◌, ltb, leb, eqb, length}
use Rattle.base.specs.Pick.{pick}
use Rattle.curve.specs.declared.Run.{Run}
use Rattle.curve.specs.declared.Curve.{Curve}
use Rattle.curve.specs.Curve.{power_max, run_at, saving_at, savings_of}

abbrev pub both : Bool → Bool → Bool
both a b = pick a b false

-- a test passes at each number below n
unfoldable pub every : ℕ → (ℕ → Bool) → Bool
every zero p = true
every (suc n) p = both (every n p) (p n)

-- what a place that holds no run holds
unfoldable pub blankb : Run → Bool
blankb run = both (eqb run.length.0 0) (eqb run.saving.0 0)

-- "A run has a length of 1 to 255 ticks and a saving of 1 to 1,000 microwatts for each tick."
unfoldable pub rangedb : Run → Bool
rangedb run =
    both (leb 1 run.length.0) (both (leb run.length.0 255) (both (leb 1 run.saving.0) (leb run.saving.0 1000)))

-- place k is blank past the last run, and else in range, and "savings fall strictly from run to run"
unfoldable pub placeb : Curve → ℕ → Bool
placeb c k =
    pick (leb c.count k)
    (blankb (run_at c k))
    (both (rangedb (run_at c k)) (pick (eqb k 0) true (ltb (saving_at c k) (saving_at c (k - 1)))))

unfoldable pub goodb : Curve → Bool
goodb c =
    both (leb 1 c.fastest.0)
    (both (leb c.fastest.0 1023)
    (both (leb c.power.0 power_max)
    (both (leb c.count 4)
    (both (every 4 (placeb c))
    (both (leb (savings_of c) c.power.0)
    (eqb (length c.runs) 4))))))
