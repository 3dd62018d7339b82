-- What is left behind the header is no longer than the input, so the count of steps cannot overflow.
use Rattle.std.proofs.Common.{length, ap, arith}
use Rattle.numbers.specs.Cursors.{left}
use Rattle.schedule.specs.Headers.{plain_header}
use Rattle.schedule.proofs.Shrinking.{a_header_adds_no_bytes}
use Rattle.schedule.proofs.whole.read_up_to_fault.Goals as goal

pub all_steps-requires : goal.all_steps-requires
all_steps-requires c =
    let fewer =
    a_header_adds_no_bytes c.new-reader.result.cursor.total (left c.new-reader.result.cursor) (plain_header c.in_ok-header.header)
    (left c.header_first.new.reader.cursor) c.in_ok-header.ensures.0 in
    omega (arith, ap length c.new-reader.ensures.0)
