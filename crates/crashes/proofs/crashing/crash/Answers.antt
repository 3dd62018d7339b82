use Rattle.std.proofs.Common.{◌≡◌, ◌<◌, true, false, eqb, None, Err, arith, rules}
use Rattle.std.proofs.lemmas.Bool.Decides.{nat_tests}
use Rattle.counting.specs.Below.{count}
use Rattle.journal.specs.View.{view}
use Rattle.fleet.specs.View.{servers}
use Rattle.sending.specs.View.{state}
use Rattle.sending.proofs.Telling.{not_refused_is_a_server}
use Rattle.crashes.proofs.Crashed.{a_refused_server_does_not_crash, the_last_does_not_crash, another_server_crashes}
use Rattle.crashes.proofs.crashing.crash.Goals as goal

pub returns-in_err-refuse_server : goal.returns-in_err-refuse_server
returns-in_err-refuse_server g c =
    let before = g.W.Wiring.waits c.args.wiring.now in
    let reason = c.in_err-refuse_server.field-0.0 in
    let told : c.from_residual.result ≡ Err reason = search rules in
    λ j. a_refused_server_does_not_crash (state j c.args.fleet.now before) c.args.server reason c.from_residual.result (c.in_err-refuse_server.ensures j before) told

pub returns-then-standing_count-eq1 : goal.returns-then-standing_count-eq1
returns-then-standing_count-eq1 g c =
    let fleet = c.args.fleet.now in
    let before = g.W.Wiring.waits c.args.wiring.now in
    let last : eqb (count (servers fleet).standing fleet.size) 1 ≡ true = grind (arith, nat_tests) in
    λ j. the_last_does_not_crash (state j fleet before) c.args.server (c.in_ok-refuse_server.ensures j before) last

pub returns : goal.returns
returns g c =
    let waits = g.W.Wiring.waits in
    let fleet = c.args.fleet.now in
    let before = waits c.args.wiring.now in
    let p = c.args.server in
    let others : eqb (count (servers fleet).standing fleet.size) 1 ≡ false = grind (arith, nat_tests) in
    let few = fleet.few in
    let change = c.crash.ensures in
    λ j.
    let s = state j fleet before in
    let accepted = c.in_ok-refuse_server.ensures j before in
    let one_of_lem = not_refused_is_a_server s p (accepted None) in
    let low : p < 8 = omega arith in
    another_server_crashes s p accepted others (state j c.crash.new.self (waits c.clear.new.self))
    (λ i. record { size = change.size i; journal = view j; servers = change.kept low i; waiting = c.clear.ensures i })
