-- Three numbers and the first value are laid one behind another.
use Rattle.std.proofs.Common.{rules}
use Rattle.schedule_writer.proofs.Laid.{laid_behind}
use Rattle.schedule_writer.proofs.writer.put_header.Goals as goal

pub returns : goal.returns
returns c =
    let kind = laid_behind _ _ _ _ _ _ _ c.put_number-first_at.ensures.after c.put_number-first_at.ensures.behind c.put_value.ensures in
    let wiring = laid_behind _ _ _ _ _ _ _ c.put_number-wiring_at.ensures.after c.put_number-wiring_at.ensures.behind kind in
    let servers = laid_behind _ _ _ _ _ _ _ c.put_number-kind_at.ensures.after c.put_number-kind_at.ensures.behind wiring in
    search (rules, servers)
