use Rattle.names.proofs.SheetLaws.{short_none, short_nowhere, long_none, long_nowhere, odd_none, odd_nowhere, good_line, good_place}
use Rattle.names.proofs.label.Goals as goal

pub returns-then-end-start-lt1 : goal.returns-then-end-start-lt1
returns-then-end-start-lt1 c = search (short_none, short_nowhere)

pub returns-then-end-start-gt-LABEL_MAX : goal.returns-then-end-start-gt-LABEL_MAX
returns-then-end-start-gt-LABEL_MAX c = search (long_none, long_nowhere)

pub returns-then-are_plain : goal.returns-then-are_plain
returns-then-are_plain c = search (good_line, good_place)

pub returns-else-are_plain : goal.returns-else-are_plain
returns-else-are_plain c = search (odd_none, odd_nowhere)
