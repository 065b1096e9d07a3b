-- Bytes in a row, and what a writer leaves: its bytes from a place on, and all else in the buffer as it was.
-- Assumes nothing.
use Rattle.std.specs.Prelude.{◌≡◌, List, [], ◌++◌, ℕ, zero, suc, ◌+◌, ◌≤◌, ◌<◌, length}
use Rattle.std.proofs.lemmas.List.Edits.{sets}

pub record Wrote (before : List ℕ) (at : ℕ) (bytes : List ℕ) (next : ℕ) (after : List ℕ) : Type 0 where
  pub ends : next ≡ at + length bytes
  pub holds : after ≡ sets before at bytes

-- what a writer leaves that tests no room: where there is room for all its bytes, they stand there
pub record WroteIfRoom (before : List ℕ) (at : ℕ) (bytes : List ℕ) (next : ℕ) (after : List ℕ) : Type 0 where
  pub wrote : at + length bytes ≤ length before → Wrote before at bytes next after

-- what a writer leaves that may be asked for any place: without room for all its bytes nothing is done
pub record WroteOrNothing (before : List ℕ) (at : ℕ) (bytes : List ℕ) (next : ℕ) (after : List ℕ) : Type 0 where
  pub wrote : at + length bytes ≤ length before → Wrote before at bytes next after
  pub nothing : length before < at + length bytes → (next ≡ at) × (after ≡ before)

-- the bytes of the first k in a row, one after the other
unfoldable pub in_row : (ℕ → List ℕ) → ℕ → List ℕ
in_row bytes zero = []
in_row bytes (suc k) = in_row bytes k ++ bytes k
