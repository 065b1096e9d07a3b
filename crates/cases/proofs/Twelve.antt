-- The one statement, `all_promised`: of every row of the table, what the contracts promise gives the row's answers.
-- The idea: from a load on, the desk holds a board that was worked out (`At`, `Known`), so its budget is the one worked out, and each answer is
-- computed. The subtle point: that no other budget is held is a computed test of every budget of the board (`Best.best`).
-- Assumes nothing.
use mathlib.Core.Path.{◌≡◌, refl}
use mathlib.Core.List.{List, [], ◌∷◌}
use Prim.Native.Nat.{ℕ, ◌+◌, ◌<◌}
use lib.Count.{ones, ones_in}
use lib.Dec.{lit<}
use Rattle.base.specs.Pick.{pick}
use Rattle.base.specs.Table.{table, firsts}
use Rattle.theory.specs.Sum.{sum, share}
use Rattle.theory.specs.Saving.{tick}
use Rattle.theory.specs.Budget.{greatest, arrive}
use Rattle.groups.specs.Number.{shortest_end, groups_from, number_at, encode_in, encode}
use Rattle.curve.specs.Curve.{length_at, saving_at, ticks_of, slowest_of, saving_of, power_of}
use Rattle.curve.specs.Answers.{power_at_of}
use Rattle.curve.specs.Tests.{every}
use Rattle.board.specs.declared.Rule.TheVariants.{A}
use Rattle.board.specs.declared.Board.{Board}
use Rattle.board.specs.Board.{usable, view, WellFormed, usable_under, delay_of}
use Rattle.board.specs.Leads.{LoopFree}
use Rattle.cone.specs.Sweeps.{upstream_of, downstream_of}
use Rattle.cone.proofs.Examples.{upstream_K, downstream_K}
use Rattle.cone.proofs.Loops.{ranked_loop_free}
use Rattle.kin.specs.Critical.{Critical}
use Rattle.kin.specs.Kin.{KinOf}
use Rattle.kin.proofs.Examples.{kin_is}
use Rattle.slow.proofs.ShownCases.{board_K, board1, slow_K, slow_1}
use Rattle.budget.specs.Made.{drawn_of, delays_of, powers_of, total_of, budget_of, value_of}
use Rattle.fields.specs.Writing.{in_row}
use Rattle.fields.specs.CurveFile.{runs_bytes, curve_bytes}
use Rattle.design.specs.Design.{parts_bytes, links_bytes, linked_bytes, body_bytes, head_bytes, file_of}
use Rattle.design.proofs.DesignLaws.{design_well_formed}
use Rattle.orders.specs.declared.Order.TheVariants.{Deadline, AddLink, RemoveLink}
use Rattle.desk.specs.declared.Tally.{Tally}
use Rattle.desk.specs.declared.Desk.{Desk}
use Rattle.desk.specs.Order.{one_taken, one_refused, OrderSaid}
use Rattle.cases.specs.Boards.{curve, board, K, file_K, D, file_D, flat, file_flat, long, file_long}
use Rattle.cases.specs.Rows as row
use Rattle.cases.specs.Promised.{padded, Comes, Shows, StepsPromised, Promised, All}
use Rattle.cases.specs.Table.{twelve}
use Rattle.cases.proofs.Best.{ends_by, ends_of, times_by, settled, path_in_time, on_curves, fits}
use Rattle.cases.proofs.Judged.{comes_then, Known, known_ranked, Slow, At, Made, Turned, load_accepted, load_refused_lem, order_made, order_refused_lem}
use Rattle.cases.proofs.Facts.{linked_K, shorter_K, facts, changes}
use Rattle.cases.proofs.Steps.{worked, another_is, holds_step, also_step, kin_step, power_step, upstream_step, downstream_step, shows_is, made_order, refused_order, counts_are}

-- ---- boards that show a path too slow
linked_formed : WellFormed (linked_K 9)
linked_formed = design_well_formed A (file_of (linked_K 9)) (linked_K 9) _ facts.read_linked

long_formed : WellFormed (long 4)
long_formed = design_well_formed A (file_of (long 4)) (long 4) _ facts.read_long

-- a deadline is no part of what has no loop
linked_free : LoopFree (linked_K 9)
unfolding view delay_of linked_K board curve
linked_free = ranked_loop_free (linked_K 9) _ (known_ranked (linked_K 10) _ facts.of_linked)

long_free : LoopFree (long 4)
unfolding view delay_of long board curve
long_free = ranked_loop_free (long 4) _ (known_ranked (long 5) _ facts.of_long5)

slow_linked : Slow (linked_K 9) 10 (0 ∷ 3 ∷ 1 ∷ 2 ∷ [])
unfolding board_K linked_K board curve
slow_linked = record { formed = linked_formed; free = linked_free; shown = slow_K }

slow_long : Slow (long 4) 5 (0 ∷ [])
unfolding board1 long board curve
slow_long = record { formed = long_formed; free = long_free; shown = slow_1 }

-- ---- the orders of cases (8), (9) and (10), each from where the one before it left the desk
module _ {n : Tally} {d : Desk} {t : Tally} (room : n.taken + n.refused < 65535) where
  adds_link : At K n d t → Comes (OrderSaid d (2 ∷ 3 ∷ 1 ∷ []) t) (λ r. Made r 3 (linked_K 10) (one_taken n))
  adds_link at =
      order_made K n d t at room (2 ∷ 3 ∷ 1 ∷ []) (AddLink 3 1) 3 changes.add_reads changes.add_fits (linked_K 10) changes.add _
      facts.of_linked

  too_short :
      At (linked_K 10) n d t → Comes (OrderSaid d (1 ∷ 9 ∷ []) t) (λ r. Turned r 2 10 (0 ∷ 3 ∷ 1 ∷ 2 ∷ []) d (linked_K 10) (one_refused n))
  too_short at =
      order_refused_lem (linked_K 10) n d t at room (1 ∷ 9 ∷ []) (Deadline (record { 0 = 9 })) 2 changes.shorten_reads refl (linked_K 9)
      changes.shorten_linked 10 _ slow_linked

  removes_link : At (linked_K 10) n d t → Comes (OrderSaid d (3 ∷ 3 ∷ 1 ∷ []) t) (λ r. Made r 3 K (one_taken n))
  removes_link at =
      order_made (linked_K 10) n d t at room (3 ∷ 3 ∷ 1 ∷ []) (RemoveLink 3 1) 3 changes.remove_reads changes.remove_fits K
      changes.remove _ facts.of_K

  shortens : At K n d t → Comes (OrderSaid d (1 ∷ 9 ∷ []) t) (λ r. Made r 2 shorter_K (one_taken n))
  shortens at =
      order_made K n d t at room (1 ∷ 9 ∷ []) (Deadline (record { 0 = 9 })) 2 changes.shorten_reads refl shorter_K changes.shorten _
      facts.of_shorter

-- ---- case (12)
kin_of_K :
    KinOf (Critical K (worked K (4 ∷ 3 ∷ 3 ∷ 6 ∷ []))) 0 (record { parents = 1; children = 10 })
unfolding value_of budget_of firsts times_by ends_of ends_by table arrive greatest share view delay_of pick K board curve
kin_of_K =
    kin_is K refl refl refl refl (worked K (4 ∷ 3 ∷ 3 ∷ 6 ∷ [])) refl refl refl refl refl

upstream_of_K : upstream_of K 2 ≡ 7
unfolding K board
upstream_of_K = upstream_K K refl refl refl refl

downstream_of_K : downstream_of K 0 ≡ 15
unfolding K board
downstream_of_K = downstream_K K refl refl refl refl

-- ---- rows
pair : {A B : Type 0} → A → B → A × B
pair a b = (a, b)

-- a row that holds a budget and no more
held_row :
    (b : Board) (delays : List ℕ) → Known b delays → {ds ends : List ℕ} {total : ℕ} → Shows (worked b delays) ds ends total →
    Promised (row.board b (row.holds ds ends total ∷ []))
unfolding Promised StepsPromised
held_row b delays k is d t =
    comes_then (load_accepted b delays k d t) (λ r a. pair a.0 (pair (holds_step a.1 k is) tt))

-- "Proved together". Each `refl` is computed, and no answer of the table stands here a second time.
pub all_promised : All Promised twelve
unfolding All twelve Promised StepsPromised padded value_of budget_of drawn_of delays_of powers_of total_of firsts times_by fits settled path_in_time on_curves ends_of
    ends_by table every arrive greatest share sum tick view delay_of usable usable_under power_at_of power_of slowest_of saving_of ticks_of length_at saving_at pick file_of
    parts_bytes links_bytes linked_bytes body_bytes head_bytes curve_bytes runs_bytes in_row encode encode_in number_at groups_from shortest_end ones ones_in K file_K D file_D flat file_flat
    long file_long linked_K shorter_K board curve
all_promised =
    -- (1)
    pair (λ d t. comes_then (load_accepted K _ facts.of_K d t) (λ r a.
    pair a.0
    (pair (power_step a.1 (lit< tt) _ refl)
    (pair (power_step a.1 (lit< tt) _ refl)
    (pair (power_step a.1 (lit< tt) _ refl)
    (pair (power_step a.1 (lit< tt) _ refl)
    (pair (power_step a.1 (lit< tt) _ refl)
    (pair (power_step a.1 (lit< tt) _ refl) tt))))))))
    -- (2)
    (pair (pair (refl, facts.of_K.read) (λ d t. comes_then (load_accepted K _ facts.of_K d t) (λ r a.
    pair a.0
    (pair (holds_step a.1 facts.of_K (shows_is refl refl refl))
    (pair (also_step a.1 facts.of_K (another_is K _ facts.of_K _ refl _ _ (shows_is refl refl refl) refl refl 1 refl)) tt)))))
    -- (3)
    (pair (pair (refl, facts.of_D.read) (held_row (D 5) _ facts.of_D (shows_is refl refl refl)))
    -- (4)
    (pair (λ d t. comes_then (load_accepted (D 6) _ facts.of_D6 d t) (λ r a.
    pair a.0
    (pair (holds_step a.1 facts.of_D6 (shows_is refl refl refl))
    (pair (also_step a.1 facts.of_D6 (another_is (D 6) _ facts.of_D6 _ refl _ _ (shows_is refl refl refl) refl refl 0 refl)) tt))))
    -- (5)
    (pair (pair (refl, facts.of_flat.read) (held_row flat _ facts.of_flat (shows_is refl refl refl)))
    -- (6)
    (pair (pair (refl, facts.of_long.read) (held_row (long 4095) _ facts.of_long (shows_is refl refl refl)))
    -- (7)
    (pair (pair (held_row (long 5) _ facts.of_long5 (shows_is refl refl refl)) (λ d t. load_refused_lem (long 4) facts.read_long _ _ slow_long d t))
    -- (8)
    (pair (λ d t. comes_then (load_accepted K _ facts.of_K d t) (λ r a.
    pair a.0 (comes_then (adds_link (lit< tt) a.1) (λ r₁ m.
    pair (made_order refl m)
    (pair (holds_step m.at facts.of_linked (shows_is refl refl refl)) tt)))))
    -- (9)
    (pair (λ d t. comes_then (load_accepted K _ facts.of_K d t) (λ r a.
    pair a.0 (comes_then (adds_link (lit< tt) a.1) (λ r₁ m.
    pair (made_order refl m) (comes_then (too_short (lit< tt) m.at) (λ r₂ m₂.
    pair (refused_order refl m₂) tt))))))
    -- (10)
    (pair (λ d t. comes_then (load_accepted K _ facts.of_K d t) (λ r a.
    pair a.0 (comes_then (adds_link (lit< tt) a.1) (λ r₁ m.
    pair (made_order refl m) (comes_then (too_short (lit< tt) m.at) (λ r₂ m₂.
    pair (refused_order refl m₂) (comes_then (removes_link (lit< tt) m₂.at) (λ r₃ m₃.
    pair (made_order refl m₃) (comes_then (shortens (lit< tt) m₃.at) (λ r₄ m₄.
    pair (made_order refl m₄)
    (pair (holds_step m₄.at facts.of_shorter (shows_is refl refl refl))
    (pair (counts_are m₄.at) tt))))))))))))
    -- (11)
    (pair (pair refl refl)
    -- (12)
    (pair (λ d t. comes_then (load_accepted K _ facts.of_K d t) (λ r a.
    pair a.0
    (pair (upstream_step a.1 (lit< tt) upstream_of_K refl)
    (pair (downstream_step a.1 (lit< tt) downstream_of_K refl)
    (pair (kin_step a.1 (lit< tt) facts.of_K kin_of_K) tt)))))
    tt)))))))))))
