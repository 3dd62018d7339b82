use Rattle.deliveries.proofs.RowsTaken.{a_taken_row_is_returned}
use Rattle.deliveries.proofs.taking.return_row.Goals as goal

pub returns : goal.returns
returns c = λ w.
    a_taken_row_is_returned c.args.memory.now c.take_row.new.memory (record { journal = c.answer_writes.new.self; fleet = c.raise_returned.new.self }) w c.args.server c.args.row.0 _ _
    (c.take_row.ensures w) c.tag_of-tag.ensures.key c.raise_returned.ensures c.requires c.returned-returned.ensures c.answer_writes.ensures
