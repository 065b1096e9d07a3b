-- The ways of the curve's writers.
-- Assumes nothing.
use mathlib.Core.Path.{◌≡◌, sym, ◌∙◌}
use mathlib.Core.List.{List, ◌++◌}
use mathlib.Core.Logic.{⊎_elim}
use Prim.Native.Nat.{ℕ, ◌+◌, ◌≤◌, ◌<◌, min}
use native.Mathlib.Omega.{arith}
use lib.ListN.{length, take, length-append}
use Rattle.std.specs.List.{flat_map}
use Rattle.base.proofs.Cases.{lt_or_le}
use Rattle.groups.specs.Number.{groups, limit, encode}
use Rattle.groups.proofs.Forms.{limit_is, encode_none, size_le}
use Rattle.curve.specs.declared.Curve.{Curve}
use Rattle.curve.specs.Curve.{no_run}
use Rattle.fields.specs.Writing.{WroteIfRoom, WroteOrNothing}
use Rattle.fields.specs.CurveFile.{run_bytes, runs_bytes, curve_bytes}
use Rattle.fields.proofs.CurveFileLaws.{curve_form, curve_no_form}
use Rattle.fields.proofs.WritingLaws.{then_wrote, none_wrote, row_is}

-- ---- `narrow`: what reaches the limit has the limit's form, which is none
pub limit_form : (n m : ℕ) → m ≡ min n limit → encode m ≡ encode n
limit_form n m is = ⊎_elim
    (λ (less : n < limit). let same : m ≡ n = omega (arith, limit_is) in rw same)
    (λ (most : limit ≤ n). encode_none m (omega (arith, limit_is)) ∙ sym (encode_none n most))
    (lt_or_le n limit)

-- ---- sizes
pub form_counted : (n m r : ℕ) → encode m ≡ encode n → r ≡ length (encode m) → r ≡ length (encode n)
form_counted n m r same is = rw (← same) is

pub form_small : (n r : ℕ) → r ≡ length (encode n) → r ≤ groups
form_small n r is = rw is (size_le n)

-- ---- all runs
runs_are : (c : Curve) → c.count ≤ length c.runs → runs_bytes c c.count ≡ flat_map run_bytes (take c.count c.runs)
unfolding runs_bytes
runs_are c room = row_is run_bytes c.runs no_run c.count room

pub curve_uncounted : (c : Curve) → 4 < c.count → 0 ≡ length (curve_bytes c)
curve_uncounted c many = rw (curve_no_form c many)

pub curve_counted :
    (c : Curve) (f p n r : ℕ) → length c.runs ≡ 4 → c.count ≤ 4 →
    f ≡ length (encode c.fastest.0) → p ≡ length (encode c.power.0) → n ≡ length (encode c.count) → r ≡ length (flat_map run_bytes (take c.count c.runs)) →
    f + p + n + r ≡ length (curve_bytes c)
curve_counted c f p n r room few fastest power count row =
    let runs : r ≡ length (runs_bytes c c.count) = rw (runs_are c (omega arith)) row in
    let ps = encode c.power.0 in
    let ns = encode c.count in
    let rs = runs_bytes c c.count in
    rw (curve_form c few) (omega (arith, length-append (encode c.fastest.0) (ps ++ (ns ++ rs)), length-append ps (ns ++ rs), length-append ns rs))

-- ---- a curve
pub curve_unwritten : (c : Curve) (buf : List ℕ) (at : ℕ) → 4 < c.count → WroteIfRoom buf at (curve_bytes c) at buf
curve_unwritten c buf at many = rw (curve_no_form c many) (none_wrote buf at)

pub curve_wrote :
    (c : Curve) (buf : List ℕ) (at m₁ : ℕ) (buf₁ : List ℕ) (m₂ : ℕ) (buf₂ : List ℕ) (m₃ : ℕ) (buf₃ : List ℕ) (n : ℕ) (buf₄ : List ℕ) → length c.runs ≡ 4 → c.count ≤ 4 →
    WroteOrNothing buf at (encode c.fastest.0) m₁ buf₁ → WroteOrNothing buf₁ m₁ (encode c.power.0) m₂ buf₂ →
    WroteOrNothing buf₂ m₂ (encode c.count) m₃ buf₃ → WroteIfRoom buf₃ m₃ (flat_map run_bytes (take c.count c.runs)) n buf₄ → WroteIfRoom buf at (curve_bytes c) n buf₄
curve_wrote c buf at m₁ buf₁ m₂ buf₂ m₃ buf₃ n buf₄ room few one two three four =
    rw (curve_form c few, runs_are c (omega arith))
    (then_wrote buf at _ m₁ buf₁ _ n buf₄ one
    (then_wrote buf₁ m₁ _ m₂ buf₂ _ n buf₄ two
    (then_wrote buf₂ m₂ _ m₃ buf₃ _ n buf₄ three four)))
