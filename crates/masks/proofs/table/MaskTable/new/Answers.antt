-- Rows of empty masks have no mask.
use Rattle.masks.proofs.Rows.{empty_rows_have_no_mask}
use Rattle.masks.proofs.table.MaskTable.new.Goals as goal

pub returns : goal.returns
returns c = empty_rows_have_no_mask 256 c.empty.result c.empty-2.result c.empty.ensures c.empty-2.ensures
