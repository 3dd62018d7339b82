-- No more servers stand than there are.
use Rattle.std.proofs.Common.{arith, rules}
use Rattle.fleet.specs.View.{servers}
use Rattle.counting.proofs.Counts.{a_count_is_at_most_its_bound}
use Rattle.questions.proofs.totals.standing_servers.Goals as goal

pub returns : goal.returns
returns c =
    let fleet = c.args.fleet.now in
    let standing = a_count_is_at_most_its_bound (servers fleet).standing fleet.size in
    let few = fleet.few in
    record { is = search rules; few = omega (arith, c.standing_count.ensures) }
