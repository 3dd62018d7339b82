-- The answer is that of the inner call, and the law is proved once for all inputs.
use Rattle.schedule.proofs.RoundTrip.{schedules_read_back}
use Rattle.schedule.proofs.whole.read_schedule.Goals as goal

pub returns : goal.returns
returns c = record { answer = c.read_up_to_fault.ensures; law = schedules_read_back }
