-- 01, Questions about a held board, that are answered by sets of parts.
-- Assumes nothing.
use Rattle.std.specs.Prelude.{◌≡◌, ℕ, IsOkAnd}
use Rattle.std.specs.Int.Count.{ones}
use Rattle.refusal.specs.Refusal.{Answer}
use Rattle.board.specs.declared.Board.{Board}
use Rattle.cone.specs.Cone.{Upstream, Downstream}
use Rattle.kin.specs.declared.Kin.{Kin}
use Rattle.kin.specs.Critical.{Critical}
use Rattle.kin.specs.Kin.{KinOf}
use Rattle.desk.specs.declared.Held.{Held}
use Rattle.desk.specs.declared.Desk.{Desk}
use Rattle.questions.specs.declared.Marked.{Marked}
use Rattle.questions.specs.declared.FamilyHeld.{FamilyHeld}
use Rattle.questions.specs.Tried.{part_tried, Said}

-- "a set of 64 marks, bit n for part n, .. and the number of parts marked"
unfoldable pub counted_of : ℕ → Marked
counted_of set = record { set = set; count = ones set }

-- ---- "Upstream and downstream of a part"
-- the set is the cone C, and the number that of its marks
pub record ConeGiven (C : ℕ → Type 0) (cone : Marked) : Type 0 where
  pub set : C cone.set
  pub count : cone.count ≡ ones cone.set

-- a cone of the board that is held
abbrev pub ConeSaid : (Board → ℕ → Type 0) → Desk → ℕ → Answer Marked → Type 0
ConeSaid C d p r = Said (part_tried d p) d (λ held r. IsOkAnd r (ConeGiven (C held.board))) r

unfoldable pub UpstreamSaid : Desk → ℕ → Answer Marked → Type 0
UpstreamSaid d p r = ConeSaid (λ b. Upstream b p) d p r

unfoldable pub DownstreamSaid : Desk → ℕ → Answer Marked → Type 0
DownstreamSaid d p r = ConeSaid (λ b. Downstream b p) d p r

-- ---- "Parent and child sets (document 002)"
-- a link that is critical in the held budget leads from part p to part q
abbrev pub CriticalIn : Held → ℕ → ℕ → Type 0
CriticalIn held p q = Critical held.board held.budget p q

abbrev pub kin_in : FamilyHeld → Kin
kin_in f = record { parents = f.parents.set; children = f.children.set }

pub record FamilyGiven (held : Held) (p : ℕ) (f : FamilyHeld) : Type 0 where
  pub sets : KinOf (CriticalIn held) p (kin_in f)
  pub parent_count : f.parents.count ≡ ones f.parents.set
  pub child_count : f.children.count ≡ ones f.children.set

unfoldable pub FamilySaid : Desk → ℕ → Answer FamilyHeld → Type 0
FamilySaid d p r = Said (part_tried d p) d (λ held r. IsOkAnd r (FamilyGiven held p)) r
