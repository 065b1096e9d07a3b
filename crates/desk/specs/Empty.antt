-- A desk that holds no board.
-- Assumes nothing.
use Rattle.std.specs.Prelude.{None}
use Rattle.desk.specs.declared.Desk.{Desk}

abbrev pub empty_desk : Desk
empty_desk = record { held = None }
