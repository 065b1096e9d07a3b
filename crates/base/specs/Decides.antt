-- A test that says whether something holds.
-- Assumes nothing.
use Rattle.std.specs.Prelude.{◌≡◌, Bool, true}

pub record Decides (test : Bool) (p : Type 0) : Type 0 where
  pub yes : test ≡ true → p
  pub no : p → test ≡ true
