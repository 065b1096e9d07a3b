-- Files of 01, computed from the definitions: boards K and D read and written, and a file for each fault with its place.
-- Assumes nothing.
use mathlib.Core.Path.{◌≡◌, refl}
use mathlib.Core.Bool.{Bool, true, false}
use mathlib.Core.List.{List, [], ◌∷◌}
use Prim.Native.Nat.{ℕ, zero, suc}
use native.Mathlib.Omega.{arith}
use lib.Dec.{ltb}
use lib.ListN.{length}
use borrow.Author.Tests.{ltb-true}
use Rattle.base.specs.Pick.{pick}
use Rattle.refusal.specs.declared.Why.TheVariants.{CutShort, NotShortest, WrongVersion, OutOfRange, SavingNotBelow, PowerBelowSavings, LinkNotAbove, BytesAfter}
use Rattle.theory.specs.Sum.{sum}
use Rattle.refusal.specs.Refusal.{refused}
use Rattle.groups.specs.Number.{shortest_end, groups_from, number_at}
use Rattle.groups.proofs.RoundTrip.{Bytes}
use Rattle.curve.specs.Curve.{length_at, saving_at, savings_of}
use Rattle.board.proofs.LinkLaws.{both_hold}
use Rattle.groups.specs.Parse.{got}
use Rattle.fields.specs.Parse.{and_then, repeat, ranged_at, field_at}
use Rattle.fields.specs.CurveFile.{bare, falls, run_from, runs_from, curve_from}
use Rattle.board.specs.declared.Rule.TheVariants.{A}
use Rattle.board.specs.Board.{blank_curve}
use Rattle.board.specs.Tests.{blank_curves, blank_links, below_of}
use Rattle.design.specs.Design.{version_at, in_place, part_from, parts_from, above, link_from, links_from, whole_at, linked_from, body_from, head_from, design_of, file_of}
use Rattle.design.proofs.DesignLaws.{read_written, written_read, design_well_formed}
use Rattle.design_cases.specs.Boards.{K, file_K, D, file_D}

-- ---- boards K and D
pub K_read : design_of A file_K ≡ got K 34
unfolding design_of version_at head_from body_from linked_from parts_from part_from links_from link_from whole_at in_place above below_of blank_curves blank_links blank_curve curve_from runs_from run_from bare falls savings_of length_at saving_at sum repeat and_then field_at ranged_at number_at groups_from shortest_end pick K file_K
K_read = refl

pub D_read : design_of A file_D ≡ got D 23
unfolding design_of version_at head_from body_from linked_from parts_from part_from links_from link_from whole_at in_place above below_of blank_curves blank_links blank_curve curve_from runs_from run_from bare falls savings_of length_at saving_at sum repeat and_then field_at ranged_at number_at groups_from shortest_end pick D file_D
D_read = refl

-- their files are bytes, so what was read is written as those bytes
unfoldable every_byte : List ℕ → Bool
every_byte [] = true
every_byte (a ∷ s) = pick (ltb a 256) (every_byte s) false

all_bytes : (s : List ℕ) → every_byte s ≡ true → Bytes s
unfolding every_byte
all_bytes [] h i l = absurd (omega arith)
all_bytes (a ∷ s) h zero l = ltb-true a 256 (both_hold (ltb a 256) (every_byte s) h).0
all_bytes (a ∷ s) h (suc i) l = all_bytes s (both_hold (ltb a 256) (every_byte s) h).1 i (omega arith)

bytes_K : Bytes file_K
unfolding file_K every_byte pick
bytes_K = all_bytes file_K refl

bytes_D : Bytes file_D
unfolding file_D every_byte pick
bytes_D = all_bytes file_D refl

pub K_written : file_of K ≡ file_K
K_written = read_written A file_K K 34 bytes_K K_read

pub D_written : file_of D ≡ file_D
D_written = read_written A file_D D 23 bytes_D D_read

pub D_read_back : design_of A (file_of D) ≡ got D (length (file_of D))
unfolding D
D_read_back = written_read D (design_well_formed A file_D D 23 D_read)

-- ---- a fault each, with its place
pub record Faults : Type 0 where
  -- 1: the input ends after three numbers; place: its length
  pub cut_short : design_of A (1 ∷ 10 ∷ 4 ∷ []) ≡ refused CutShort 3
  -- 2: `80 00` for a deadline; place: its first byte
  pub not_shortest : design_of A (1 ∷ 128 ∷ 0 ∷ []) ≡ refused NotShortest 1
  -- 02, Req 02: "1 is for under four groups read, 2 for a fourth that promises a fifth"
  pub three_groups_cut : design_of A (1 ∷ 128 ∷ 128 ∷ 128 ∷ []) ≡ refused CutShort 4
  pub fifth_promised : design_of A (1 ∷ 128 ∷ 128 ∷ 128 ∷ 128 ∷ []) ≡ refused NotShortest 1
  -- 3
  pub wrong_version : design_of A (2 ∷ 10 ∷ []) ≡ refused WrongVersion 0
  -- 4: no parts; a link to a part that is not there
  pub no_parts : design_of A (1 ∷ 10 ∷ 0 ∷ []) ≡ refused OutOfRange 2
  pub no_such_end : design_of A (1 ∷ 10 ∷ 1 ∷ 1 ∷ 0 ∷ 0 ∷ 1 ∷ 0 ∷ 1 ∷ []) ≡ refused OutOfRange 8
  -- "Every other field keeps its own range": 2,097,152 for a deadline; 20,000,001 for a power
  pub four_groups_of_ticks : design_of A (1 ∷ 128 ∷ 128 ∷ 128 ∷ 1 ∷ []) ≡ refused OutOfRange 1
  pub power_past_its_range : design_of A (1 ∷ 10 ∷ 1 ∷ 1 ∷ 129 ∷ 218 ∷ 196 ∷ 9 ∷ []) ≡ refused OutOfRange 4
  -- 5: "Two runs at equal saving give 5"; place: the second saving
  pub equal_savings : design_of A (1 ∷ 10 ∷ 1 ∷ 2 ∷ 100 ∷ 2 ∷ 2 ∷ 20 ∷ 1 ∷ 20 ∷ 0 ∷ []) ≡ refused SavingNotBelow 9
  -- 6: two ticks at 20 and a power of 39; place: the power
  pub power_below : design_of A (1 ∷ 10 ∷ 1 ∷ 2 ∷ 39 ∷ 1 ∷ 2 ∷ 20 ∷ 0 ∷ []) ≡ refused PowerBelowSavings 4
  -- 7: a self-link; a link not above the one before; place: its from
  pub self_link : design_of A (1 ∷ 10 ∷ 1 ∷ 1 ∷ 0 ∷ 0 ∷ 1 ∷ 0 ∷ 0 ∷ []) ≡ refused LinkNotAbove 7
  pub link_twice : design_of A (1 ∷ 10 ∷ 2 ∷ 1 ∷ 0 ∷ 0 ∷ 1 ∷ 0 ∷ 0 ∷ 2 ∷ 0 ∷ 1 ∷ 0 ∷ 1 ∷ []) ≡ refused LinkNotAbove 12
  -- a fault in `to` wins over a `from` that is too low
  pub to_first : design_of A (1 ∷ 10 ∷ 2 ∷ 1 ∷ 0 ∷ 0 ∷ 1 ∷ 0 ∷ 0 ∷ 2 ∷ 1 ∷ 0 ∷ 0 ∷ 2 ∷ []) ≡ refused OutOfRange 13
  -- 8
  pub bytes_after : design_of A (1 ∷ 10 ∷ 1 ∷ 1 ∷ 0 ∷ 0 ∷ 0 ∷ 7 ∷ []) ≡ refused BytesAfter 7

pub faults : Faults
unfolding design_of version_at head_from body_from linked_from parts_from part_from links_from link_from whole_at in_place above below_of blank_curves blank_links blank_curve curve_from runs_from run_from bare falls savings_of length_at saving_at sum repeat and_then field_at ranged_at number_at groups_from shortest_end pick
faults = record {
  cut_short = refl;
  not_shortest = refl;
  three_groups_cut = refl;
  fifth_promised = refl;
  wrong_version = refl;
  no_parts = refl;
  no_such_end = refl;
  four_groups_of_ticks = refl;
  power_past_its_range = refl;
  equal_savings = refl;
  power_below = refl;
  self_link = refl;
  link_twice = refl;
  to_first = refl;
  bytes_after = refl;
}
