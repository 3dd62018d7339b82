-- No more writes are queued than there are rows.
use Rattle.std.proofs.Common.{arith, rules}
use Rattle.model.specs.State.{is_queued}
use Rattle.journal.specs.View.{view}
use Rattle.counting.proofs.Counts.{a_count_is_at_most_its_bound}
use Rattle.questions.proofs.totals.queued_at.Goals as goal

pub returns : goal.returns
returns c =
    let all = a_count_is_at_most_its_bound (is_queued (view c.args.journal.now) c.args.server) 256 in
    record { is = search rules; few = omega (arith, c.queued_count.ensures) }
