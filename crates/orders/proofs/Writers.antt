-- The ways of the writers: each change's bytes, their count, and one step after the other.
-- Assumes nothing.
use mathlib.Core.Path.{◌≡◌}
use mathlib.Core.List.{List, ◌++◌}
use Prim.Native.Nat.{ℕ, ◌+◌}
use native.Mathlib.Omega.{arith}
use lib.ListN.{length, length-append}
use Rattle.groups.specs.Number.{encode}
use Rattle.curve.specs.declared.Curve.{Curve}
use Rattle.fields.specs.CurveFile.{curve_bytes}
use Rattle.fields.specs.Writing.{WroteIfRoom, WroteOrNothing}
use Rattle.fields.proofs.WritingLaws.{then_wrote, both_wrote}

pub two_counted : (v w : List ℕ) (a b : ℕ) → a ≡ length v → b ≡ length w → a + b ≡ length (v ++ w)
two_counted v w a b first second = omega (arith, length-append v w)

pub three_counted : (u v w : List ℕ) (a b c : ℕ) → a ≡ length u → b ≡ length v → c ≡ length w → a + b + c ≡ length (u ++ (v ++ w))
three_counted u v w a b c first second third = omega (arith, length-append u (v ++ w), length-append v w)

-- ---- `write_new_curve`
pub new_curve_wrote :
    (part : ℕ) (c : Curve) (buf : List ℕ) (at m₁ : ℕ) (buf₁ : List ℕ) (m₂ : ℕ) (buf₂ : List ℕ) (n : ℕ) (buf₃ : List ℕ) →
    WroteOrNothing buf at (encode 4) m₁ buf₁ → WroteOrNothing buf₁ m₁ (encode part) m₂ buf₂ → WroteOrNothing buf₂ m₂ (curve_bytes c) n buf₃ →
    WroteIfRoom buf at (encode 4 ++ (encode part ++ curve_bytes c)) n buf₃
new_curve_wrote part c buf at m₁ buf₁ m₂ buf₂ n buf₃ one two three = then_wrote buf at _ m₁ buf₁ _ n buf₃ one (both_wrote buf₁ m₁ _ m₂ buf₂ _ n buf₃ two three)
