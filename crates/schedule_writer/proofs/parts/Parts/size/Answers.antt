-- Where the size is known the code fits its wiring.
use Rattle.std.proofs.Common.{rules, ◌≡◌, true}
use Rattle.schedule.specs.Bytes.{code_fits}
use Rattle.schedule_writer.proofs.parts.Parts.size.Goals as goal

pub returns : goal.returns
returns c =
    let fits : code_fits c.args.format.wiring c.args.self.code ≡ true = search rules in
    search (rules, fits)
