use Rattle.std.proofs.Common.{◌≡◌, true, ltb, sym, ◌∙◌, arith}
use Rattle.std.proofs.lemmas.Nat.{one_shl}
use Rattle.std.proofs.lemmas.Bool.{cond-true}
use Rattle.std.proofs.lemmas.Bool.Decides.{nat_tests}
use Rattle.servers.specs.Sets.{one}
use Rattle.servers.proofs.ServerSet.only.Goals as goal

pub returns-then-server-lt-SERVERS : goal.returns-then-server-lt-SERVERS
unfolding one
returns-then-server-lt-SERVERS c =
    let t : ltb c.args.server 8 ≡ true = (let h = c.if-server-lt-SERVERS.true in grind (arith, nat_tests)) in
    one_shl c.args.server 8 c.if-server-lt-SERVERS.true ∙ sym (cond-true _ _ _ t)
