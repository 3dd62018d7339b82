use Rattle.std.proofs.Common.{sym}
use Rattle.sending.specs.View.{memory_state}
use Rattle.deliveries.proofs.RowsTaken.{an_old_row_is_not_taken}
use Rattle.deliveries.proofs.taking.take_row.Goals as goal

pub returns-else-is_news : goal.returns-else-is_news
returns-else-is_news c = λ w. an_old_row_is_not_taken (memory_state c.args.memory.now w) c.args.server c.args.row.0 (sym c.if-is_news.ensures)
