-- 01, Boards to try: "Proved together: (1) .. (12)", in its order and its words. Each board stands beside its file where it first comes, so that
-- no number of a board can change by itself.
-- Assumes nothing.
use Rattle.std.specs.Prelude.{List, [], ◌∷◌, ℕ}
use Rattle.cases.specs.Boards.{K, file_K, D, file_D, flat, file_flat, long, file_long}
use Rattle.cases.specs.Rows.{
  Case,
  holds,
  also,
  costs,
  costs_not,
  upstream,
  downstream,
  kin,
  order,
  order_not,
  tally,
  file,
  board,
  board_not,
  number,
  number_not,
  both,
}

-- the orders of (8), (9) and (10), by kind: "2: from, to, a link to add. 3: from, to, a link to remove", "1: deadline"
abbrev add_3_1 : List ℕ
add_3_1 = 2 ∷ 3 ∷ 1 ∷ []

abbrev remove_3_1 : List ℕ
remove_3_1 = 3 ∷ 3 ∷ 1 ∷ []

abbrev deadline_9 : List ℕ
deadline_9 = 1 ∷ 9 ∷ []

unfoldable pub twelve : List Case
twelve =
    -- (1) "K's part 0 at 2, 3, 4, 5 costs 100, 80, 60, 55; at 1 and 6 refusal 19."
    board K (costs 0 2 100 ∷ costs 0 3 80 ∷ costs 0 4 60 ∷ costs 0 5 55 ∷ costs_not 0 1 19 1 ∷ costs_not 0 6 19 6 ∷ [])
    -- (2) "K: delays 4, 3, 3, 6, ends 4, 7, 10, 10, total 208; delays 4, 5, 1, 6 cost the same and arrive later."
    ∷ both
    (file K file_K)
    (board K (holds (4 ∷ 3 ∷ 3 ∷ 6 ∷ []) (4 ∷ 7 ∷ 10 ∷ 10 ∷ []) 208 ∷ also (4 ∷ 5 ∷ 1 ∷ 6 ∷ []) (4 ∷ 9 ∷ 10 ∷ 10 ∷ []) 208 ∷ []))
    -- (3) "D: 1, 2, 2, total 24."
    ∷ both (file (D 5) file_D) (board (D 5) (holds (1 ∷ 2 ∷ 2 ∷ []) (1 ∷ 3 ∷ 3 ∷ []) 24 ∷ []))
    -- (4) "D with saving 6 at part 0: 1, 2, 2 again, total 24, though 2, 1, 1 costs 24."
    ∷ board (D 6) (holds (1 ∷ 2 ∷ 2 ∷ []) (1 ∷ 3 ∷ 3 ∷ []) 24 ∷ also (2 ∷ 1 ∷ 1 ∷ []) (2 ∷ 3 ∷ 3 ∷ []) 24 ∷ [])
    -- (5) "One part, fastest 1, power 0, no runs, deadline 1: delay 1, total 0."
    ∷ both (file flat file_flat) (board flat (holds (1 ∷ []) (1 ∷ []) 0 ∷ []))
    -- (6) "One part, fastest 5, power 255, a run of 255 at 1, deadline 4,095: delay 260, total 0."
    ∷ both (file (long 4095) file_long) (board (long 4095) (holds (260 ∷ []) (260 ∷ []) 0 ∷ []))
    -- (7) "The same with deadline 5: delay 5, total 255; with 4: refusal 10, place 5, path 0."
    ∷ both (board (long 5) (holds (5 ∷ []) (5 ∷ []) 255 ∷ [])) (board_not (long 4) 10 5 (0 ∷ []))
    -- (8) "K with link 3 to 1: delays 2, 3, 1, 4, total 280."
    ∷ board K (order add_3_1 ∷ holds (2 ∷ 3 ∷ 1 ∷ 4 ∷ []) (2 ∷ 9 ∷ 10 ∷ 6 ∷ []) 280 ∷ [])
    -- (9) "Then deadline 9: refusal 10, place 10, path 0, 3, 1, 2."
    ∷ board K (order add_3_1 ∷ order_not deadline_9 10 10 (0 ∷ 3 ∷ 1 ∷ 2 ∷ []) ∷ [])
    -- (10) "Remove 3 to 1, then deadline 9: delays 4, 3, 2, 5, total 222."
    ∷ board K (order add_3_1 ∷ order_not deadline_9 10 10 (0 ∷ 3 ∷ 1 ∷ 2 ∷ []) ∷ order remove_3_1 ∷ order deadline_9
    ∷ holds (4 ∷ 3 ∷ 2 ∷ 5 ∷ []) (4 ∷ 7 ∷ 9 ∷ 9 ∷ []) 222 ∷ tally 3 1 ∷ [])
    -- (11) "`80 01` is 128; `80 00` is refusal 2."
    ∷ both (number (128 ∷ 1 ∷ []) 128) (number_not (128 ∷ 0 ∷ []) 2 0)
    -- (12) "K: upstream of 2 is set 7, three parts; downstream of 0 is 15, four; parents of 0 are set 1, children set 10."
    ∷ board K (upstream 2 7 3 ∷ downstream 0 15 4 ∷ kin 0 1 10 ∷ [])
    ∷ []
