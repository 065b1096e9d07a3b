-- 01, The board: "Parts: 1 to 64, numbered from 0. Links: 0 to 256, from one part to another, no link twice, none from a part to itself, no loop.
-- Links are held in ascending order of from, then to. A link has no delay. Deadline: 1 to 4,095 ticks." 02, Req 06: the rule beside the deadline.
-- Assumes nothing.
use Rattle.std.specs.Prelude.{◌≡◌, ◌≢◌, [], ℕ, suc, ◌+◌, ◌*◌, ◌-◌, ◌/◌, ◌≤◌, ◌<◌, eqb, length, get_or, replicate, Ok}
use Rattle.base.specs.Pick.{pick}
use Rattle.refusal.specs.Refusal.{Answer, refusal}
use Rattle.theory.specs.Graph.{Graph}
use Rattle.curve.specs.declared.Curve.{Curve}
use Rattle.curve.specs.Curve.{Good, no_run, ticks_of, saving_of}
use Rattle.board.specs.declared.Rule.{Rule}
use Rattle.board.specs.declared.Rule.TheVariants.{A, B}
use Rattle.board.specs.declared.Link.{Link}
use Rattle.board.specs.declared.Board.{Board}

-- places that hold no curve and no link
abbrev pub no_curve : Curve
no_curve = record { fastest = record { 0 = 0 }; power = record { 0 = 0 }; count = 0; runs = [] }

-- a link without a delay
abbrev pub plain_link : ℕ → ℕ → Link
plain_link from to = record { from = from; to = to; delay = record { 0 = 0 } }

-- a link the other way round
abbrev pub turned_link : Link → Link
turned_link l = record { from = l.to; to = l.from; delay = l.delay }

abbrev pub no_link : Link
no_link = plain_link 0 0

abbrev pub curve_at : Board → ℕ → Curve
curve_at b p = get_or b.curve p no_curve

abbrev pub link_at : Board → ℕ → Link
link_at b l = get_or b.link l no_link

-- 02, Req 07: "the rule (0 for A, 1 for B)": its number, and the rule of a number
abbrev pub rule_number : Rule → ℕ
rule_number A = 0
rule_number B = 1

-- of a number that is one of these two; any other gives B
unfoldable pub rule_of : ℕ → Rule
rule_of number = pick (eqb number 0) A B

-- refusal 22: "a rule that is neither A nor B"
unfoldable pub rule_named : ℕ → Answer Rule
rule_named number = pick (eqb number 0) (Ok A) (pick (eqb number 1) (Ok B) (refusal 22 0))

-- 02, Req 06: "one tick in every full 64 ticks of deadline is guard: the usable deadline is the deadline less its whole-number quotient by 64.
-- Rule A, all ticks usable, stays for the older boards"
unfoldable pub usable_under : Rule → ℕ → ℕ
usable_under A deadline = deadline
usable_under B deadline = deadline - deadline / 64

-- the ticks that a path may take
unfoldable pub usable : Board → ℕ
usable b = usable_under b.rule b.deadline.0

-- the board with another rule
unfoldable pub under_rule : Rule → Board → Board
under_rule rule b = record { rule = rule; deadline = b.deadline; parts = b.parts; curve = b.curve; links = b.links; link = b.link }

-- the ticks that a link takes
unfoldable pub delay_of : Link → ℕ
delay_of l = l.delay.0

-- the board as mathematics
unfoldable pub view : Board → Graph
view b = record {
  parts = b.parts;
  links = b.links;
  from = λ l. (link_at b l).from;
  to = λ l. (link_at b l).to;
  wire = λ l. delay_of (link_at b l);
  fastest = λ p. (curve_at b p).fastest.0;
  ticks = λ p. ticks_of (curve_at b p);
  saving = λ p. saving_of (curve_at b p);
  power = λ p. (curve_at b p).power.0;
}

-- a link leads from part p to part q
pub record Linked (b : Board) (p q : ℕ) : Type 0 where
  pub link : ℕ
  pub here : link < b.links
  pub from : (link_at b link).from ≡ p
  pub to : (link_at b link).to ≡ q

-- the board has the link x, with its ends and its delay
pub record Has (b : Board) (x : Link) : Type 0 where
  pub at : ℕ
  pub here : at < b.links
  pub is : link_at b at ≡ x

-- a link's number in the order of from, then to
abbrev pub order : Link → ℕ
order l = l.from * 64 + l.to

-- a curve that a place without a part holds
unfoldable pub blank_curve : Curve
blank_curve = record { fastest = record { 0 = 0 }; power = record { 0 = 0 }; count = 0; runs = replicate 4 no_run }

-- what 01 asks of a board, but for loops. Places past the last part and link are blank, so that equal boards are equal values.
pub record WellFormed (b : Board) : Type 0 where
  pub deadline_from : 1 ≤ b.deadline.0
  pub deadline_to : b.deadline.0 ≤ 4095
  pub parts_from : 1 ≤ b.parts
  pub parts_to : b.parts ≤ 64
  pub curves : (p : ℕ) → p < b.parts → Good (curve_at b p)
  pub links_to : b.links ≤ 256
  pub from_in : (l : ℕ) → l < b.links → (link_at b l).from < b.parts
  pub to_in : (l : ℕ) → l < b.links → (link_at b l).to < b.parts
  -- "none from a part to itself"
  pub apart : (l : ℕ) → l < b.links → (link_at b l).from ≢ (link_at b l).to
  -- "A link has no delay."
  pub plain : (l : ℕ) → l < b.links → delay_of (link_at b l) ≡ 0
  -- "no link twice"; "held in ascending order of from, then to"
  pub ascends : (l : ℕ) → suc l < b.links → order (link_at b l) < order (link_at b (suc l))
  pub blank_curves : (p : ℕ) → b.parts ≤ p → p < 64 → curve_at b p ≡ blank_curve
  pub blank_links : (l : ℕ) → b.links ≤ l → l < 256 → link_at b l ≡ no_link
  pub curve_room : length b.curve ≡ 64
  pub link_room : length b.link ≡ 256
