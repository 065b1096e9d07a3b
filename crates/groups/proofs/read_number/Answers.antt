use mathlib.Core.Path.{refl}
use borrow.Author.Rules.{rules}
use Rattle.groups.specs.Number.{number_at}
use Rattle.groups.proofs.Groups.{cut_short, not_shortest, number_read, group_read, groups_spent, scale_next, scale_fits, group_fits, sum_fits, sum_next}
use Rattle.groups.proofs.read_number.Goals as goal

pub loop-left-init : goal.loop-left-init
unfolding number_at
loop-left-init c = (refl, search rules, search rules)

pub returns-then-s-i : goal.returns-then-s-i
returns-then-s-i c = search cut_short

pub overflow_mul-sum : goal.overflow_mul-sum
overflow_mul-sum c = search group_fits

pub overflow_add-sum : goal.overflow_add-sum
overflow_add-sum c = search sum_fits

pub returns-then-not-shortest_end : goal.returns-then-not-shortest_end
returns-then-not-shortest_end c = search not_shortest

pub returns-then-g-lt128 : goal.returns-then-g-lt128
returns-then-g-lt128 c = number_read _ _ _ _ _ _ c.loop-left.invariant.0 (search rules) (search rules) _ _ (search rules) c.shortest_end.ensures c.if-not-shortest_end.false c.seven_bits.ensures.0

pub overflow_mul-scale : goal.overflow_mul-scale
overflow_mul-scale c = search scale_fits

pub loop-left-preserved : goal.loop-left-preserved
loop-left-preserved c = (search group_read, search sum_next, search scale_next)

pub returns : goal.returns
returns c = search groups_spent
