-- Examples that are computed: the cones of 01's case (12), and two boards with loops.
-- Assumes nothing.
use Rattle.std.proofs.Common.{◌≡◌, ℕ}
use lib.Count.{ones, ones_in, count_trailing_zeros}
use Rattle.base.specs.Pick.{pick}
use Rattle.marks.specs.Marks.{bit, has_of, union_of, without_of, one_of, insert_of, lowest_of}
use Rattle.board.specs.declared.Link.{Link}
use Rattle.board.specs.declared.Board.{Board}
use Rattle.board.specs.Board.{plain_link, link_at}
use Rattle.std.specs.Prelude.{Some}
use Rattle.marks.specs.Rows.{no_rows, with_mark, marks_up_to}
use Rattle.cone.specs.Sweeps.{forth_rows, back_rows, visited_of, step_of, sweep_up_to, reached_of, cone_of, downstream_of, upstream_of, on_loop_of, loop_up_to, loop_of}

abbrev link : ℕ → ℕ → Link
link p q = plain_link p q

-- "K: upstream of 2 is set 7, three parts; downstream of 0 is 15, four": of any board with K's links
module _ (b : Board) (links : b.links ≡ 3) (first : link_at b 0 ≡ link 0 1) (second : link_at b 1 ≡ link 0 3) (third : link_at b 2 ≡ link 1 2) where
  pub downstream_K : downstream_of b 0 ≡ 15
  unfolding downstream_of cone_of reached_of sweep_up_to step_of visited_of forth_rows back_rows marks_up_to with_mark no_rows pick insert_of union_of without_of one_of lowest_of count_trailing_zeros
  downstream_K = rw (links, first, second, third)

  pub upstream_K : upstream_of b 2 ≡ 7
  unfolding upstream_of cone_of reached_of sweep_up_to step_of visited_of forth_rows back_rows marks_up_to with_mark no_rows pick insert_of union_of without_of one_of lowest_of count_trailing_zeros
  upstream_K = rw (links, first, second, third)

  pub downstream_K_size : ones (downstream_of b 0) ≡ 4
  unfolding ones ones_in
  downstream_K_size = rw downstream_K

  pub upstream_K_size : ones (upstream_of b 2) ≡ 3
  unfolding ones ones_in
  upstream_K_size = rw upstream_K

-- "links 0 to 1 and 1 to 0 give refusal 9, place 0"
module _ (b : Board) (parts : b.parts ≡ 2) (links : b.links ≡ 2) (first : link_at b 0 ≡ link 0 1) (second : link_at b 1 ≡ link 1 0) where
  pub loop_of_two : loop_of b ≡ Some 0
  unfolding loop_of loop_up_to on_loop_of has_of bit reached_of sweep_up_to step_of visited_of forth_rows back_rows marks_up_to with_mark no_rows pick insert_of union_of without_of one_of lowest_of count_trailing_zeros
  loop_of_two = rw (parts, links, first, second)

-- part 0 leads to a loop of parts 1 and 2 and is on none: the lowest part on a loop is 1
module _ (b : Board) (parts : b.parts ≡ 3) (links : b.links ≡ 3) (first : link_at b 0 ≡ link 0 1) (second : link_at b 1 ≡ link 1 2) (third : link_at b 2 ≡ link 2 1) where
  pub loop_led_to : loop_of b ≡ Some 1
  unfolding loop_of loop_up_to on_loop_of has_of bit reached_of sweep_up_to step_of visited_of forth_rows back_rows marks_up_to with_mark no_rows pick insert_of union_of without_of one_of lowest_of count_trailing_zeros
  loop_led_to = rw (parts, links, first, second, third)
