-- What turns the facts of the branches on the way into the tests of a definition: `search tests` closes a return.
-- Assumes nothing.
use borrow.Author.Tests.{lt-ltb, le-ltb, le-leb, lt-leb, eq-eqb, ne_eqb}

pub ruleset tests = (lt-ltb, le-ltb, le-leb, lt-leb, eq-eqb, ne_eqb)
