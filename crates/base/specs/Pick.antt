-- One of two, by a test. It computes only where a proof says `unfolding pick`: elsewhere it stands as it is written, so that a law about
-- both ways applies.
-- Assumes nothing.
use Rattle.std.specs.Prelude.{Bool, true, false}

unfoldable pub pick {ℓ} : {A : Type ℓ} → Bool → A → A → A
pick true a b = a
pick false a b = b
