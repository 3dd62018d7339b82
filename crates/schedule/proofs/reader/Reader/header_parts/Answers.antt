-- Each of the three look-ups always gives what its number means.
use Rattle.std.proofs.Common.{rules}
use Rattle.schedule.specs.Headers.{servers_of, wiring_of}
use Rattle.values.specs.Kinds.{kind_of}
use Rattle.schedule.proofs.reader.Reader.header_parts.Goals as goal

pub returns : goal.returns
returns c =
    let servers = c.in_ok-servers.ensures servers_of (search rules) in
    let kind = c.in_ok-kind.ensures kind_of (search rules) in
    let wiring = c.in_ok-wiring.ensures wiring_of (search rules) in
    search (rules, servers, kind, wiring)
