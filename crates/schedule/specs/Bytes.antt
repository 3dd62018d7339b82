-- The bytes of a header and of a step, and when they may be written: when they would read back, and no bytes of a value would be left over.
use Rattle.std.specs.Prelude.{ℕ, Bool, true, not, ◌&&◌, List, [], ◌∷◌, ◌++◌, length, is_some, Some, None, Option, ◌==◌, nat_lt}
use Rattle.std.specs.List.{flat_map}
use Rattle.numbers.specs.Numbers.{number_bytes, number_limit}
use Rattle.values.specs.declared.kind.Kind.{Kind}
use Rattle.values.specs.Kinds.{bytes_allowed, kind_number, value_length}
use Rattle.schedule.specs.declared.headers.WiringKind.{WiringKind}
use Rattle.schedule.specs.declared.steps.Code.{Code}
use Rattle.schedule.specs.declared.steps.Code.TheVariants.{Write, Read, GiveUp, Turn, Deliver, Crash, Notice, Pick}
use Rattle.schedule.specs.Headers.{PlainHeader, is_line, servers_of, wiring_number}
use Rattle.schedule.specs.Steps.{PlainStep, code_number, write, read, give_up, turn, deliver, crash, notice, pick}

-- The parts of a step in the order of the format: a code, a number, perhaps a second number, perhaps a value.
pub record PlainParts : Type 0 where
  pub code : Code
  pub first : ℕ
  pub second : Option ℕ
  pub value : Option (List ℕ)

-- The parts of what a step says.
abbrev pub parts_of : PlainStep → PlainParts
parts_of (write client server value) = record { code = Write; first = client; second = Some server; value = Some value }
parts_of (read client server) = record { code = Read; first = client; second = Some server; value = None }
parts_of (give_up client) = record { code = GiveUp; first = client; second = None; value = None }
parts_of (turn server) = record { code = Turn; first = server; second = None; value = None }
parts_of (deliver server) = record { code = Deliver; first = server; second = None; value = None }
parts_of (crash server) = record { code = Crash; first = server; second = None; value = None }
parts_of (notice server crashed) = record { code = Notice; first = server; second = Some crashed; value = None }
parts_of (pick n) = record { code = Pick; first = n; second = None; value = None }

-- The bytes of a second number, if there is one.
abbrev pub second_bytes : Option ℕ → List ℕ
second_bytes None = []
second_bytes (Some n) = number_bytes n

-- The bytes of a value, if there is one.
abbrev pub value_bytes : Option (List ℕ) → List ℕ
value_bytes None = []
value_bytes (Some value) = value

-- The bytes of parts: the code, the numbers and the value.
abbrev pub parts_bytes : PlainParts → List ℕ
parts_bytes p = code_number p.code ∷ (number_bytes p.first ++ (second_bytes p.second ++ value_bytes p.value))

-- The bytes of a step.
abbrev pub step_bytes : PlainStep → List ℕ
step_bytes step = parts_bytes (parts_of step)

-- The bytes of a header: how many servers, the kind of value, the wiring and the first value.
abbrev pub header_bytes : PlainHeader → List ℕ
header_bytes h = number_bytes h.servers ++ (number_bytes (kind_number h.kind) ++ (number_bytes (wiring_number h.wiring) ++ h.first))

-- The bytes of a header and of the steps behind it.
abbrev pub schedule_bytes : PlainHeader → List PlainStep → List ℕ
schedule_bytes h steps = header_bytes h ++ flat_map step_bytes steps

-- A number has bytes.
abbrev pub number_fits : ℕ → Bool
number_fits n = nat_lt n number_limit

-- A second number, if there is one, has bytes.
abbrev pub second_fits : Option ℕ → Bool
second_fits None = true
second_fits (Some n) = number_fits n

-- A value has the length of its kind, and each of its bytes is allowed.
abbrev pub value_whole : Kind → List ℕ → Bool
value_whole kind value = length value == value_length kind && bytes_allowed kind value

-- A value, if there is one, is whole.
abbrev pub value_fits : Kind → Option (List ℕ) → Bool
value_fits kind None = true
value_fits kind (Some value) = value_whole kind value

-- Picks have no meaning under the line wiring.
abbrev pub code_fits : WiringKind → Code → Bool
code_fits wiring code = not (is_line wiring && code_number code == code_number Pick)

-- Parts may be written under a kind and a wiring.
abbrev pub parts_writable : Kind → WiringKind → PlainParts → Bool
parts_writable kind wiring p = code_fits wiring p.code && (number_fits p.first && (second_fits p.second && value_fits kind p.value))

-- A step may be written under a kind and a wiring.
abbrev pub step_writable : Kind → WiringKind → PlainStep → Bool
step_writable kind wiring step = parts_writable kind wiring (parts_of step)

-- A header may be written.
abbrev pub header_writable : PlainHeader → Bool
header_writable h = is_some (servers_of h.servers) && value_whole h.kind h.first
