-- The ways of the run readers, in plain values.
-- Assumes nothing.
use mathlib.Core.Path.{◌≡◌, ap, ◌∙◌}
use mathlib.Core.Bool.{Bool}
use mathlib.Core.List.{List}
use Prim.Native.Nat.{ℕ, ◌≤◌}
use lib.Dec.{leb}
use Rattle.std.specs.Prelude.{Err}
use Rattle.base.specs.Pick.{pick}
use Rattle.refusal.specs.declared.Refusal.{Refusal}
use Rattle.refusal.specs.declared.Why.TheVariants.{PowerBelowSavings}
use Rattle.refusal.specs.Refusal.{refused}
use Rattle.curve.specs.declared.Curve.{Curve}
use Rattle.curve.specs.Curve.{savings_of}
use Rattle.groups.specs.Parse.{got}
use Rattle.fields.specs.Parse.{and_then, repeat, field_at}
use Rattle.fields.specs.CurveFile.{bare, run_from, runs_from}
use Rattle.fields.proofs.ParseLaws.{field_got}
use Rattle.fields.proofs.RunLaws.{runs_read}

-- a curve whose run count was read, from its first run on
module _ (s : List ℕ) (fastest power from at n next : ℕ) (counted : field_at s 0 4 at ≡ got n next) (c : Curve) (start : c ≡ bare fastest power n) where
  pub few : c.count ≤ 4
  unfolding bare
  few = rw start (field_got s 0 4 at n next counted).to

  pub runs_stopped : (e : Refusal) → repeat (run_from s) c next c.count ≡ Err e → runs_from s fastest power from at ≡ Err e
  unfolding runs_from and_then bare
  runs_stopped e stops = rw (counted, rw start at stops)

  pub runs_ended : (d : Curve) (m : ℕ) (t : Bool) → repeat (run_from s) c next c.count ≡ got d m → t ≡ leb (savings_of d) d.power.0 → runs_from s fastest power from at ≡ pick t (got d m) (refused PowerBelowSavings from)
  unfolding runs_from and_then bare
  runs_ended d m t ends test =
      let ended : repeat (run_from s) (bare fastest power n) next n ≡ got d m = rw start at ends in
      let most = (field_got s 0 4 at n next counted).to in
      let same : d.power.0 ≡ power = (runs_read s fastest power n next d m most ended).good.power_is in
      rw (counted, ended, test ∙ ap (leb (savings_of d)) same)
