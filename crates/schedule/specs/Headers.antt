-- What a header says, and the meaning of its numbers.
use Rattle.std.specs.Prelude.{ℕ, Bool, true, false, cond, ◌&&◌, List, Some, None, Option, ◌==◌, nat_le}
use Rattle.values.specs.declared.kind.Kind.{Kind}
use Rattle.schedule.specs.declared.headers.WiringKind.{WiringKind}
use Rattle.schedule.specs.declared.headers.WiringKind.TheVariants.{Line, Pick}
use Rattle.schedule.specs.declared.headers.Header.{Header}

-- A header names the line wiring by 1 and the pick wiring by 2.
abbrev pub wiring_number : WiringKind → ℕ
wiring_number Line = 1
wiring_number Pick = 2

-- The line wiring and no other.
abbrev pub is_line : WiringKind → Bool
is_line Line = true
is_line Pick = false

-- The wiring that has a number, if one has.
abbrev pub wiring_of : ℕ → Option WiringKind
wiring_of n = cond (n == wiring_number Line) (Some Line) (cond (n == wiring_number Pick) (Some Pick) None)

-- A ring has 2 to 8 servers.
abbrev pub servers_of : ℕ → Option ℕ
servers_of n = cond (nat_le 2 n && nat_le n 8) (Some n) None

-- What a header says, wherever the bytes of its value stand.
pub record PlainHeader : Type 0 where
  pub servers : ℕ
  pub kind : Kind
  pub wiring : WiringKind
  pub first : List ℕ

-- What a header says.
abbrev pub plain_header : Header → PlainHeader
plain_header h = record { servers = h.servers; kind = h.kind; wiring = h.wiring; first = h.first.now }
