-- A message that was taken, by its parts.
use Rattle.std.specs.Prelude.{ℕ, Bool, false, ◌&&◌, Some, None, Option, ◌==◌}
use Rattle.messages.specs.declared.Message.{Message}
use Rattle.messages.specs.declared.Phase.{Phase}
use Rattle.messages.specs.Phases.{phase_number}
use Rattle.servers.specs.declared.ServerSet.{ServerSet}

-- the message has this row, phase and mask
abbrev pub same : Option Message → ℕ → Phase → ServerSet → Bool
same None row phase mask = false
same (Some m) row phase mask = m.row.0 == row && (phase_number m.phase == phase_number phase && m.mask.bits == mask.bits)
