-- A board laid on the net sheet as a network: part p is arc p, then come the links, an entry of each part and an exit of each (`Wired` of the crate `nets`).
-- The idea: four blocks of arcs are laid one after another, each leaving those before it as they are; then the runs.
-- Assumes nothing.
use Rattle.std.specs.Prelude.{◌≡◌, ℕ, ◌+◌, ◌/◌, ◌%◌, ◌<◌, ◌≢◌, List, length}
use Rattle.theory.specs.Sum.{cells}
use Rattle.nets.specs.declared.Net.{Net}
use Rattle.nets.specs.Wired.{Wired}
use Rattle.nets.specs.Sheet.{net_in, SoundIn, CurvedIn}
use Rattle.curve.specs.Curve.{length_at, saving_at}
use Rattle.board.specs.declared.Board.{Board}
use Rattle.board.specs.Board.{view, curve_at}

-- ---- one arc
-- from a node to a node, and how long at least
pub record Span : Type 0 where
  pub from : ℕ
  pub to : ℕ
  pub ticks : ℕ

abbrev pub span : ℕ → ℕ → ℕ → Span
span from to ticks = record { from = from; to = to; ticks = ticks }

-- arc a of the sheet
abbrev pub span_in : Net → ℕ → Span
span_in net a = span (cells net.tail a) (cells net.head a) (cells net.base a)

-- the arcs of a board's part, link, entry and exit
abbrev pub part_span : Board → ℕ → Span
part_span b p = span p (64 + p) ((view b).fastest p)

abbrev pub link_span : Board → ℕ → Span
link_span b l = span (64 + (view b).from l) ((view b).to l) ((view b).wire l)

abbrev pub entry_span : ℕ → Span
entry_span p = span 128 p 0

abbrev pub exit_span : ℕ → Span
exit_span p = span (64 + p) 129 0

-- ---- what the steps leave
-- arc a is s, and the other arcs are as they were
pub record PutIn (a : ℕ) (s : Span) (net net' : Net) : Type 0 where
  pub here : span_in net' a ≡ s
  pub there : (i : ℕ) → i ≢ a → span_in net' i ≡ span_in net i

-- `count` arcs from arc `first` on are s; those before them are as they were
pub record LaidIn (first count : ℕ) (s : ℕ → Span) (net net' : Net) : Type 0 where
  pub laid : (i : ℕ) → i < count → span_in net' (first + i) ≡ s i
  pub kept : (a : ℕ) → a < first → span_in net' a ≡ span_in net a

-- the first k places of the runs, four to a part; a place without a run holds 0
pub record Runs (b : Board) (k : ℕ) (lengths savings : List ℕ) : Type 0 where
  pub run_length : (i : ℕ) → i < k → cells lengths i ≡ length_at (curve_at b (i / 4)) (i % 4)
  pub run_saving : (i : ℕ) → i < k → cells savings i ≡ saving_at (curve_at b (i / 4)) (i % 4)
  pub length_room : length lengths ≡ 256
  pub saving_room : length savings ≡ 256

-- the sheet holds the board's network, and it is one that the main loop and the verdict can work on
pub record NetworkIn (b : Board) (net : Net) : Type 0 where
  pub wired : Wired (view b) (net_in net)
  pub sound : SoundIn net
  pub curved : CurvedIn net
