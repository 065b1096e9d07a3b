-- `numbers::form` meets its contract.
-- Assumes nothing.
use Rattle.std.proofs.Common.{rules}
use Rattle.groups.proofs.Forms.{size_le}
use Rattle.numbers.proofs.form.Goals as goal

pub slice_bounds-buffer-end : goal.slice_bounds-buffer-end
slice_bounds-buffer-end c = search (rules, size_le)

pub slice_bounds-read_prefixes-end : goal.slice_bounds-read_prefixes-end
slice_bounds-read_prefixes-end c = search (rules, size_le)
