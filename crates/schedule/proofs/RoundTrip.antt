-- The law of schedules, from its parts: the header and then the steps, each way.
use Rattle.std.proofs.Common.{◌≡◌, ℕ, ◌≤◌, true, leb, List, ◌++◌, length, None, Ok, Err, Option, Result, sym, refl, ap, ◌∙◌, arith}
use Rattle.std.proofs.lemmas.Bool.{and_from, and_parts, cond-false, cond-true, le-leb}
use Rattle.std.specs.List.{flat_map}
use Rattle.numbers.specs.Bytes.{AllBytes}
use Rattle.numbers.proofs.Tests.{by_test}
use Rattle.schedule.specs.declared.faults.RunFault.{RunFault}
use Rattle.schedule.specs.declared.faults.RunFault.TheVariants.{Step, TooLong}
use Rattle.schedule.specs.declared.faults.StepFault.{StepFault}
use Rattle.schedule.specs.Faults.{numbered}
use Rattle.schedule.specs.Headers.{PlainHeader}
use Rattle.schedule.specs.Reading.{header_of}
use Rattle.schedule.specs.RoundTrip.{SchedulesReadBack, schedule_writable, steps_writable, whole}
use Rattle.schedule.specs.Steps.{PlainStep}
use Rattle.schedule.specs.Whole.{PlainSchedule, StepsRead, header_numbered, header_then, most_bytes, schedule_of, steps_of, with_header}
use Rattle.schedule.specs.Bytes.{header_bytes, header_writable, schedule_bytes, step_bytes}
use Rattle.schedule.proofs.HeaderBack.{no_other_bytes_read_as_a_header}
use Rattle.schedule.proofs.PartsBack.{bytes_behind, never_both}
use Rattle.schedule.proofs.ReadsBack.{a_header_reads_back, steps_read_back}
use Rattle.schedule.proofs.StepsBack.{no_other_bytes_read_as_steps}

-- The bytes of a header and steps read as them.
a_schedule_reads_back : (h : PlainHeader) (steps : List PlainStep) → schedule_writable h steps ≡ true → length (schedule_bytes h steps) ≤ most_bytes
    → schedule_of (schedule_bytes h steps) ≡ Ok (whole h steps)
a_schedule_reads_back h steps w l =
    let parts = and_parts (header_writable h) (steps_writable h.kind h.wiring steps) w in
    let total = length (schedule_bytes h steps) in
    cond-true _ _ _ (le-leb total most_bytes l)
    ∙ (ap (λ (r : Result (PlainHeader × List ℕ) StepFault). header_then total (header_numbered r)) (a_header_reads_back total h (flat_map step_bytes steps) parts.0)
    ∙ ap (λ (q : StepsRead). Ok (with_header h q)) (steps_read_back total h.kind h.wiring 1 steps parts.1))

-- What bytes are that read as a whole schedule.
abbrev ReadBack : PlainHeader → List PlainStep → List ℕ → Type 0
ReadBack h steps bs = (bs ≡ schedule_bytes h steps) × (schedule_writable h steps ≡ true)

-- What bytes are whose header was read, and whose steps were read behind it.
behind_header : (total : ℕ) (bs : List ℕ) (h : PlainHeader) (steps : List PlainStep) (read : Result (PlainHeader × List ℕ) StepFault) → AllBytes bs
    → header_of total bs ≡ read → header_then total (header_numbered read) ≡ Ok (whole h steps) → ReadBack h steps bs
behind_header total bs h steps (Ok p) w r e =
    let g = p.0 in
    let read = steps_of total g.kind g.wiring 1 p.1 in
    let same : ◌≡◌ {A = PlainSchedule} (with_header g read) (whole h steps) = cc in
    let headers : g ≡ h = ap (λ (s : PlainSchedule). s.header) same in
    let head = no_other_bytes_read_as_a_header total g bs p.1 w r in
    let found : read.0 ≡ steps = ap (λ (s : PlainSchedule). s.steps) same in
    let clean : read.1 ≡ None = ap (λ (s : PlainSchedule). s.fault) same in
    let others = no_other_bytes_read_as_steps (length p.1) total g.kind g.wiring 1 p.1 read.0 (omega arith)
    (bytes_behind (header_bytes g) p.1 bs head.0 w) (ap (λ (f : Option RunFault). (read.0, f)) clean) in (
      head.0 ∙ (ap (λ (xs : List ℕ). header_bytes g ++ xs) others.0 ∙ (ap (λ (k : PlainHeader). schedule_bytes k read.0) headers ∙ ap (schedule_bytes h) found)),
      ap (λ (k : PlainHeader). schedule_writable k steps) (sym headers) ∙ (ap (schedule_writable g) (sym found)
          ∙ and_from (header_writable g) (steps_writable g.kind g.wiring read.0) head.1 others.1),
    )
behind_header total bs h steps (Err fault) w r e = absurd (never_both (whole h steps) (Step (numbered 0 fault)) e)

-- Bytes that read as a header and steps without a fault are their bytes.
no_other_bytes_read_as_a_schedule : (bs : List ℕ) (h : PlainHeader) (steps : List PlainStep) → AllBytes bs → schedule_of bs ≡ Ok (whole h steps) → ReadBack h steps bs
no_other_bytes_read_as_a_schedule bs h steps w e =
    by_test (leb (length bs) most_bytes)
    (λ t. behind_header (length bs) bs h steps (header_of (length bs) bs) w refl (sym (cond-true _ _ _ t) ∙ e))
    (λ f. absurd (never_both (whole h steps) TooLong (sym (cond-false _ _ _ f) ∙ e)))

-- Written out, a schedule reads back as the same header and steps, and no other bytes read as those.
pub schedules_read_back : SchedulesReadBack
schedules_read_back =
    record {
      there = a_schedule_reads_back;
      back = λ bs h steps w e. (no_other_bytes_read_as_a_schedule bs h steps w e).0;
      writable = λ bs h steps w e. (no_other_bytes_read_as_a_schedule bs h steps w e).1;
    }
