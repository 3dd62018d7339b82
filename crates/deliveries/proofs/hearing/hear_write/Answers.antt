use Rattle.deliveries.proofs.MessagesHeard.{a_write_that_goes_on_is_kept}
use Rattle.deliveries.proofs.hearing.hear_write.Goals as goal

pub returns-then-not-ends : goal.returns-then-not-ends
returns-then-not-ends c = λ w.
    a_write_that_goes_on_is_kept c.args.memory.now c.return_row.new.memory c.keep.new.self w c.args.server c.args.row.0 c.args.mask.bits
    c.if-not-ends.ensures (c.return_row.ensures w) c.keep.ensures c.requires
