-- The lines of a line wiring, one for each server, and what each call does to them.
use Rattle.std.specs.Prelude.{◌≡◌, ℕ, [], ◌∷◌, Some, None, Option, ◌≢◌}
use Rattle.messages.specs.declared.Message.{Message}
use Rattle.messages.specs.Waiting.{Waiting}
use Rattle.line_wiring.specs.declared.line_wiring.LineWiring.{LineWiring}
use Rattle.masks.specs.Lines.{Line, lanes_wait, lines_at, message_numbers}

-- what waits
abbrev pub line_waits : LineWiring → Waiting
line_waits w = lanes_wait w.lanes

-- the places where messages wait for each server, first come first
abbrev pub lines : LineWiring → ℕ → Line
lines w = lines_at w.lanes

-- take: the first of the line is handed out and leaves, none exactly of an empty line; the other lines stay
abbrev pub FirstOut : (ℕ → Line) → ℕ → Option Message → (ℕ → Line) → Type 0
FirstOut before server None after = (before server ≡ []) × (after ≡ before)
FirstOut before server (Some m) after = (before server ≡ message_numbers m ∷ after server) × ((x : ℕ) → (x ≢ server) → after x ≡ before x)
