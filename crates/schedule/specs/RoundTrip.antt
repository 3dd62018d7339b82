-- The law of schedules: written out, a schedule reads back as the same header and steps, and no other bytes read as those.
use Rattle.std.specs.Prelude.{◌≡◌, ℕ, ◌≤◌, Bool, true, ◌&&◌, List, [], ◌∷◌, length, None, Ok}
use Rattle.numbers.specs.Bytes.{AllBytes}
use Rattle.values.specs.declared.kind.Kind.{Kind}
use Rattle.schedule.specs.declared.headers.WiringKind.{WiringKind}
use Rattle.schedule.specs.Headers.{PlainHeader}
use Rattle.schedule.specs.Steps.{PlainStep}
use Rattle.schedule.specs.Whole.{PlainSchedule, most_bytes, schedule_of}
use Rattle.schedule.specs.Bytes.{header_writable, schedule_bytes, step_writable}

-- Every step may be written under a kind and a wiring.
unfoldable pub steps_writable : Kind → WiringKind → List PlainStep → Bool
steps_writable kind wiring [] = true
steps_writable kind wiring (step ∷ steps) = step_writable kind wiring step && steps_writable kind wiring steps

-- A header and the steps behind it may be written.
abbrev pub schedule_writable : PlainHeader → List PlainStep → Bool
schedule_writable h steps = header_writable h && steps_writable h.kind h.wiring steps

-- A header and steps, and no fault behind them.
abbrev pub whole : PlainHeader → List PlainStep → PlainSchedule
whole h steps = record { header = h; steps = steps; fault = None }

-- The law.
pub record SchedulesReadBack : Type 0 where
  -- Written out, a schedule reads back as the same header and steps.
  pub there : (h : PlainHeader) (steps : List PlainStep) → schedule_writable h steps ≡ true → length (schedule_bytes h steps) ≤ most_bytes
      → schedule_of (schedule_bytes h steps) ≡ Ok (whole h steps)
  -- No other bytes read as that header and those steps.
  pub back : (bytes : List ℕ) (h : PlainHeader) (steps : List PlainStep) → AllBytes bytes → schedule_of bytes ≡ Ok (whole h steps)
      → bytes ≡ schedule_bytes h steps
  -- What was read without a fault may be written.
  pub writable : (bytes : List ℕ) (h : PlainHeader) (steps : List PlainStep) → AllBytes bytes → schedule_of bytes ≡ Ok (whole h steps)
      → schedule_writable h steps ≡ true
