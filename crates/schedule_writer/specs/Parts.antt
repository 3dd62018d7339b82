-- The parts of a step, wherever the bytes of its value stand.
use Rattle.std.specs.Prelude.{ℕ, List}
use Rattle.std.specs.Borrow.{Bor}
use Rattle.std.specs.Option.{option_map}
use Rattle.schedule.specs.Bytes.{PlainParts}
use Rattle.schedule_writer.specs.declared.parts.Parts.{Parts}

-- Parts, wherever the bytes of their value stand.
abbrev pub plain_parts : Parts → PlainParts
plain_parts p = record { code = p.code; first = p.first; second = p.second; value = option_map (λ (v : Bor (List ℕ)). v.now) p.value }
