-- What a question about a held board is refused for, and what is promised of its answer.
-- The subtle point: 11 and 17 are given whatever the desk; what is asked is said of a desk that holds what an accepted load and orders gave.
-- Assumes nothing.
use Rattle.std.specs.Prelude.{◌≡◌, ℕ, Ok, Err}
use Rattle.refusal.specs.Refusal.{Answer}
use Rattle.desk.specs.declared.Held.{Held}
use Rattle.desk.specs.declared.Desk.{Desk}
use Rattle.desk.specs.Held.{Standing, ◌>>=◌, held_in}
use Rattle.desk.specs.Order.{part_on}

-- "Questions: 11, 17, 19": what a question about a part is asked of
unfoldable pub part_tried : Desk → ℕ → Answer Held
part_tried d p = do
  held ← held_in d
  here ← part_on held.board p
  Ok held

-- what a question that is tried so comes to: its refusal, or else what it asks for of what is held
abbrev pub Said : {R : Type 0} → Answer Held → Desk → (Held → Answer R → Type 0) → Answer R → Type 0
Said (Err e) d Is r = r ≡ Err e
Said (Ok held) d Is r = Standing d → Is held r

-- what a question that goes by the part's place is asked of: that, on a desk that stands
unfoldable pub PlaceSaid : Desk → ℕ → Answer Held → Type 0
PlaceSaid d p r = Said (part_tried d p) d (λ held r. r ≡ Ok held) r
