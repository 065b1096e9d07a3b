-- Two tests of one thing are the same.
-- Assumes nothing.
use mathlib.Core.Path.{◌≡◌, refl, sym}
use mathlib.Core.Bool.{Bool, true, false}
use Rattle.base.specs.Decides.{Decides}

pub decides_same : (r s : Bool) (p : Type 0) → Decides r p → Decides s p → r ≡ s
decides_same true s p d e = sym (e.no (d.yes refl))
decides_same false true p d e = d.no (e.yes refl)
decides_same false false p d e = refl
