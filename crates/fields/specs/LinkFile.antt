-- A link as bytes, in a design file: "for each link from and to".
-- Assumes nothing.
use Rattle.std.specs.Prelude.{List, ◌++◌, ℕ}
use Rattle.groups.specs.Number.{encode}
use Rattle.board.specs.declared.Link.{Link}

abbrev pub link_bytes : Link → List ℕ
link_bytes link = encode link.from ++ encode link.to
