-- What is computed of the boards of the table: each file reads back, each budget passes its test, and each order makes of one board the next.
-- Assumes nothing.
use mathlib.Core.Path.{◌≡◌, refl}
use mathlib.Core.List.{[], ◌∷◌}
use Prim.Native.Nat.{ℕ}
use lib.ListN.{length}
use Rattle.base.specs.Pick.{pick}
use Rattle.base.specs.Table.{table}
use Rattle.std.specs.Prelude.{Ok}
use Rattle.theory.specs.Sum.{sum, share}
use Rattle.theory.specs.Saving.{tick}
use Rattle.theory.specs.Budget.{greatest, arrive}
use Rattle.groups.specs.Number.{shortest_end, groups_from, number_at, encode_in, encode}
use Rattle.curve.specs.Curve.{length_at, saving_at, ticks_of, saving_of, savings_of}
use Rattle.curve.specs.Tests.{every}
use Rattle.board.specs.declared.Rule.TheVariants.{A}
use Rattle.board.specs.declared.Board.{Board}
use Rattle.board.specs.Board.{usable, view, blank_curve, usable_under, delay_of}
use Rattle.board.specs.Tests.{blank_curves, blank_links, below_of}
use Rattle.edits.specs.Edits.{count_before, place_of, some, same_ends, has_link_of, filled, inserted_at, inserted_of, removed_at, removed_of, addable, with_deadline_of, with_link_of, without_link_of}
use Rattle.groups.specs.Parse.{got}
use Rattle.fields.specs.Parse.{and_then, repeat, ranged_at, field_at}
use Rattle.fields.specs.Writing.{in_row}
use Rattle.fields.specs.CurveFile.{bare, falls, run_from, runs_from, curve_from, runs_bytes, curve_bytes}
use Rattle.design.specs.Design.{version_at, in_place, part_from, parts_from, above, link_from, links_from, whole_at, linked_from, body_from, head_from, design_of, parts_bytes, links_bytes, linked_bytes, body_bytes, head_bytes, file_of}
use Rattle.orders.specs.declared.Order.TheVariants.{Deadline, AddLink, RemoveLink}
use Rattle.orders.specs.Order.{deadline_from, kind_from, order_of}
use Rattle.orders.specs.Order as orders
use Rattle.desk.specs.Order.{changed_of, place_tried}
use Rattle.cases.specs.Boards.{curve, link, board, curves_K, K, D, flat, long}
use Rattle.cases.proofs.Best.{ends_by, ends_of, cost_of, settled, path_in_time, on_curves, no_later, fits, yields, beats, all_delays, best}
use Rattle.cases.proofs.Judged.{Known}

-- K with link 3 to 1, and with deadline 9 too; K with deadline 9
unfoldable pub linked_K : ℕ → Board
linked_K deadline = board deadline (link 0 1 ∷ link 0 3 ∷ link 1 2 ∷ link 3 1 ∷ []) curves_K

unfoldable pub shorter_K : Board
shorter_K = board 9 (link 0 1 ∷ link 0 3 ∷ link 1 2 ∷ []) curves_K

pub record Facts : Type 0 where
  pub of_K : Known K (4 ∷ 3 ∷ 3 ∷ 6 ∷ [])
  pub of_D : Known (D 5) (1 ∷ 2 ∷ 2 ∷ [])
  pub of_D6 : Known (D 6) (1 ∷ 2 ∷ 2 ∷ [])
  pub of_flat : Known flat (1 ∷ [])
  pub of_long : Known (long 4095) (260 ∷ [])
  pub of_long5 : Known (long 5) (5 ∷ [])
  pub of_linked : Known (linked_K 10) (2 ∷ 3 ∷ 1 ∷ 4 ∷ [])
  pub of_shorter : Known shorter_K (4 ∷ 3 ∷ 2 ∷ 5 ∷ [])
  pub read_linked : design_of A (file_of (linked_K 9)) ≡ got (linked_K 9) (length (file_of (linked_K 9)))
  pub read_long : design_of A (file_of (long 4)) ≡ got (long 4) (length (file_of (long 4)))

pub facts : Facts
unfolding best beats fits yields all_delays settled path_in_time on_curves no_later cost_of ends_of ends_by table every arrive greatest share sum tick view delay_of
    usable usable_under saving_of ticks_of savings_of length_at saving_at pick design_of head_from body_from linked_from whole_at links_from link_from above parts_from
    part_from in_place version_at curve_from runs_from run_from falls bare field_at ranged_at repeat and_then number_at groups_from shortest_end file_of
    parts_bytes links_bytes linked_bytes body_bytes head_bytes curve_bytes runs_bytes in_row encode encode_in blank_curves blank_links blank_curve below_of K D flat long linked_K shorter_K
    curve board
facts = record {
  of_K = record { read = refl; test = refl };
  of_D = record { read = refl; test = refl };
  of_D6 = record { read = refl; test = refl };
  of_flat = record { read = refl; test = refl };
  of_long = record { read = refl; test = refl };
  of_long5 = record { read = refl; test = refl };
  of_linked = record { read = refl; test = refl };
  of_shorter = record { read = refl; test = refl };
  read_linked = refl;
  read_long = refl;
}

-- ---- the orders of cases (8), (9) and (10)
pub record Changes : Type 0 where
  pub add_reads : order_of (2 ∷ 3 ∷ 1 ∷ []) ≡ got (AddLink 3 1) 3
  pub add : changed_of K (AddLink 3 1) ≡ linked_K 10
  pub add_fits : place_tried K (AddLink 3 1) ≡ Ok tt
  pub shorten_reads : order_of (1 ∷ 9 ∷ []) ≡ got (Deadline (record { 0 = 9 })) 2
  pub shorten_linked : changed_of (linked_K 10) (Deadline (record { 0 = 9 })) ≡ linked_K 9
  pub remove_reads : order_of (3 ∷ 3 ∷ 1 ∷ []) ≡ got (RemoveLink 3 1) 3
  pub remove : changed_of (linked_K 10) (RemoveLink 3 1) ≡ K
  pub remove_fits : place_tried (linked_K 10) (RemoveLink 3 1) ≡ Ok tt
  pub shorten : changed_of K (Deadline (record { 0 = 9 })) ≡ shorter_K

pub changes : Changes
unfolding changed_of with_deadline_of with_link_of without_link_of addable has_link_of same_ends some place_of count_before inserted_of inserted_at removed_of removed_at filled
    below_of sum pick order_of kind_from deadline_from orders.link_from and_then field_at ranged_at number_at groups_from shortest_end K linked_K shorter_K
    curve board
changes = record {
  add_reads = refl;
  add = refl;
  add_fits = refl;
  shorten_reads = refl;
  shorten_linked = refl;
  remove_reads = refl;
  remove = refl;
  remove_fits = refl;
  shorten = refl;
}
