use Rattle.std.proofs.Common.{◌<◌, sym, rules}
use Rattle.journal.proofs.Facts.{facts_of}
use Rattle.journal.proofs.Answering.{one_is_answered, none_is_answered}
use Rattle.journal.proofs.journal.Journal.answer_read.Goals as goal

pub returns-then-is_open_read : goal.returns-then-is_open_read
returns-then-is_open_read c =
    let low : c.args.row.0 < 256 = search rules in
    one_is_answered _ _ _ (facts_of c.args.self.now) c.args.row.0 c.args.given low (sym c.if-is_open_read.ensures)
    _ _ _ c.answer.ensures.used c.answer.ensures.mark c.answer.ensures.rows

pub returns-else-is_open_read : goal.returns-else-is_open_read
returns-else-is_open_read c = none_is_answered _ _ _ (facts_of c.args.self.now) c.args.row.0 c.args.given (sym c.if-is_open_read.ensures)
