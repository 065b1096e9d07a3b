-- The links of a held board, one by one, in the order in which they are held.
-- Assumes nothing.
use Rattle.std.specs.Prelude.{◌≡◌, Bool, ℕ, ltb, Option, Some, None, Ok}
use Rattle.base.specs.Pick.{pick}
use Rattle.refusal.specs.Refusal.{Answer}
use Rattle.board.specs.Board.{link_at}
use Rattle.kin.specs.Critical.{critical_at}
use Rattle.desk.specs.declared.Held.{Held}
use Rattle.desk.specs.declared.Desk.{Desk}
use Rattle.desk.specs.Held.{held_in}
use Rattle.questions.specs.declared.LinkHeld.{LinkHeld}
use Rattle.questions.specs.Tried.{Said}

-- "A link is critical when the end of its first part equals the start of its second."
abbrev pub critical_held : Held → ℕ → Bool
critical_held held l = critical_at held.board held.budget l

-- link l of what is held; none is there past the last
unfoldable pub link_told : Held → ℕ → Option LinkHeld
link_told held l =
    pick (ltb l held.board.links)
    (Some (record { from = (link_at held.board l).from; to = (link_at held.board l).to; critical = critical_held held l }))
    None

unfoldable pub LinkSaid : Desk → ℕ → Answer (Option LinkHeld) → Type 0
LinkSaid d l r = Said (held_in d) d (λ held r. r ≡ Ok (link_told held l)) r
