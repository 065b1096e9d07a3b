-- Questions about a held board that are answered by numbers: powers, times, the total and the board's own counts.
-- Assumes nothing.
use Rattle.std.specs.Prelude.{◌≡◌, ℕ, get_or, Ok}
use Rattle.refusal.specs.Refusal.{Answer}
use Rattle.curve.specs.declared.Microwatts.{Microwatts}
use Rattle.curve.specs.Answers.{power_at_of}
use Rattle.curve.specs.Rows.{no_ticks, no_power}
use Rattle.board.specs.Board.{curve_at, usable}
use Rattle.budget.specs.declared.Budget.{Budget}
use Rattle.desk.specs.declared.Desk.{Desk}
use Rattle.desk.specs.Held.{◌>>=◌, held_in}
use Rattle.questions.specs.declared.PartHeld.{PartHeld}
use Rattle.questions.specs.declared.WholeHeld.{WholeHeld}
use Rattle.questions.specs.Tried.{part_tried, Said}

-- ---- "Power of a part at a delay": any delay may be asked for, and 19 is given last
unfoldable pub PowerSaid : Desk → ℕ → ℕ → Answer Microwatts → Type 0
PowerSaid d p delay r = Said (part_tried d p) d (λ held r. r ≡ power_at_of (curve_at held.board p) delay) r

-- ---- the held budget at a part: "it ends at start plus delay"
abbrev pub part_of : Budget → ℕ → PartHeld
part_of b p = record {
  start = get_or b.start p no_ticks;
  delay = get_or b.delay p no_ticks;
  end = get_or b.end p no_ticks;
  power = get_or b.power p no_power;
}

unfoldable pub PartSaid : Desk → ℕ → Answer PartHeld → Type 0
PartSaid d p r = Said (part_tried d p) d (λ held r. r ≡ Ok (part_of held.budget p)) r

-- ---- the held board and its budget as a whole
unfoldable pub whole_asked : Desk → Answer WholeHeld
whole_asked d = do
  held ← held_in d
  Ok (record {
    rule = held.board.rule;
    deadline = held.board.deadline;
    usable = record { 0 = usable held.board };
    parts = held.board.parts;
    links = held.board.links;
    total = held.budget.total;
  })
