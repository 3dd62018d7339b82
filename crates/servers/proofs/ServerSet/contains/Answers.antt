use Rattle.std.proofs.Common.{◌≡◌, ◌/◌, ◌^◌, ◌<◌, false, eqb, ltb, sym, ap, ◌∙◌, arith, rules}
use lib.Bits.{and_mask}
use Rattle.std.proofs.lemmas.Bool.Decides.{nat_tests}
use Rattle.servers.specs.Sets.{has}
use Rattle.servers.proofs.Members.{has_high}
use Rattle.servers.proofs.ServerSet.contains.Goals as goal

pub returns-then-server-lt-SERVERS : goal.returns-then-server-lt-SERVERS
unfolding has
returns-then-server-lt-SERVERS c = ap (λ k. eqb k 1) (and_mask (c.args.self.bits / 2 ^ c.args.server) 1)

pub returns-else-server-lt-SERVERS : goal.returns-else-server-lt-SERVERS
returns-else-server-lt-SERVERS c =
    let l : c.args.self.bits < 256 = search rules in
    let t : ltb c.args.server 8 ≡ false = (let h = c.if-server-lt-SERVERS.false in grind (arith, nat_tests)) in
    t ∙ sym (has_high 8 c.args.self.bits c.args.server l c.if-server-lt-SERVERS.false)
