-- Bytes that read as steps are their bytes: the body of each step by its code, and the steps one after another.
use Rattle.std.proofs.Common.{◌≡◌, ℕ, zero, suc, ◌+◌, ◌≤◌, true, not, ◌&&◌, eqb, List, [], ◌∷◌, ◌++◌, length, Some, None, Ok, Err, Option, Result, sym, refl, ap, ◌∙◌, subst, arith}
use Rattle.std.proofs.lemmas.Option.{none-some}
use Rattle.std.proofs.lemmas.Bool.{and_from, cond-false, cond-true, not_from_false}
use Rattle.std.specs.List.{flat_map}
use Rattle.numbers.specs.Bytes.{AllBytes}
use Rattle.numbers.specs.Cursors.{place_of}
use Rattle.numbers.specs.Numbers.{number_bytes}
use Rattle.numbers.proofs.Tests.{by_test}
use Rattle.values.specs.declared.kind.Kind.{Kind}
use Rattle.schedule.specs.declared.faults.RunFault.{RunFault}
use Rattle.schedule.specs.declared.faults.RunFault.TheVariants as run
use Rattle.schedule.specs.declared.faults.StepFault.{StepFault}
use Rattle.schedule.specs.declared.faults.StepFault.TheVariants.{UnknownCode}
use Rattle.schedule.specs.declared.headers.WiringKind.{WiringKind}
use Rattle.schedule.specs.declared.steps.Code.{Code}
use Rattle.schedule.specs.declared.steps.Code.TheVariants.{Write, Read, GiveUp, Turn, Deliver, Crash, Notice, Pick}
use Rattle.schedule.specs.Faults.{numbered}
use Rattle.schedule.specs.Headers.{is_line}
use Rattle.schedule.specs.Reading.{body_of, coded_step, in_value, number_of, one_number, step_of, two_numbers, value_of, write_of}
use Rattle.schedule.specs.RoundTrip.{steps_writable}
use Rattle.schedule.specs.Steps.{PlainStep, code_number, code_of, code_under, write, read, give_up, turn, deliver, crash, notice, pick}
use Rattle.schedule.specs.Whole.{StepsRead, steps_of}
use Rattle.schedule.specs.Bytes.{PlainParts, code_fits, number_fits, parts_of, second_bytes, second_fits, step_bytes, step_writable, value_bytes, value_fits}
use Rattle.schedule.proofs.PartsBack.{bytes_behind, never_both, number_back, row_parts, same_read, value_back}
use Rattle.schedule.proofs.ReadsBack.{regroup}
use Rattle.schedule.proofs.Shrinking.{a_step_takes_a_byte}
use Rattle.schedule.proofs.StepsOf.{a_fault_ends_the_steps, no_step_more, one_step_more}

-- What a step's parts are, if these bytes behind its code read as it.
abbrev PartsRead : Kind → Code → List ℕ → List ℕ → PlainParts → Type 0
PartsRead kind code bs rest p =
    (p.code ≡ code)
    × (bs ≡ (number_bytes p.first ++ (second_bytes p.second ++ value_bytes p.value)) ++ rest)
    × ((number_fits p.first && (second_fits p.second && value_fits kind p.value)) ≡ true)

-- Bytes that read as a step of one number are those of its parts.
one_back : (step : ℕ → PlainStep) (total : ℕ) (kind : Kind) (code : Code) (bs : List ℕ) (s : PlainStep) (rest : List ℕ)
    → ((n : ℕ) → parts_of (step n) ≡ record { code = code; first = n; second = None; value = None })
    → AllBytes bs → one_number step total bs ≡ Ok (s, rest) → PartsRead kind code bs rest (parts_of s)
one_back step total kind code bs s rest shape w e =
    let row = row_parts (number_of total bs) (λ n mid. Ok (step n, mid)) s rest e in
    let number = number_back total row.0 bs row.1 w row.2 in
    let end = same_read (step row.0) s row.1 rest row.3 in
    let parts = sym (ap parts_of (sym end.0) ∙ shape row.0) in
    subst (λ (p : PlainParts). PartsRead kind code bs rest p) parts (
      refl,
      number.0 ∙ (ap (λ (xs : List ℕ). number_bytes row.0 ++ xs) end.1 ∙ sym (regroup (number_bytes row.0) [] [] rest)),
      and_from (number_fits row.0) true number.1 refl,
    )

-- Bytes that read as a step of two numbers are those of its parts.
two_back : (step : ℕ → ℕ → PlainStep) (total : ℕ) (kind : Kind) (code : Code) (bs : List ℕ) (s : PlainStep) (rest : List ℕ)
    → ((m n : ℕ) → parts_of (step m n) ≡ record { code = code; first = m; second = Some n; value = None })
    → AllBytes bs → two_numbers step total bs ≡ Ok (s, rest) → PartsRead kind code bs rest (parts_of s)
two_back step total kind code bs s rest shape w e =
    let row = row_parts (number_of total bs) (λ m mid. one_number (step m) total mid) s rest e in
    let first = number_back total row.0 bs row.1 w row.2 in
    let w₁ = bytes_behind (number_bytes row.0) row.1 bs first.0 w in
    let row₁ = row_parts (number_of total row.1) (λ n mid. Ok (step row.0 n, mid)) s rest row.3 in
    let second = number_back total row₁.0 row.1 row₁.1 w₁ row₁.2 in
    let end = same_read (step row.0 row₁.0) s row₁.1 rest row₁.3 in
    let parts = sym (ap parts_of (sym end.0) ∙ shape row.0 row₁.0) in
    let a = number_bytes row.0 in
    let b = number_bytes row₁.0 in
    subst (λ (p : PlainParts). PartsRead kind code bs rest p) parts (
      refl,
      first.0 ∙ (ap (λ (xs : List ℕ). a ++ xs) (second.0 ∙ ap (λ (xs : List ℕ). b ++ xs) end.1) ∙ sym (regroup a b [] rest)),
      and_from (number_fits row.0) (number_fits row₁.0 && true) first.1 (and_from (number_fits row₁.0) true second.1 refl),
    )

-- Bytes that read as a write are those of its parts.
write_back : (total : ℕ) (kind : Kind) (bs : List ℕ) (s : PlainStep) (rest : List ℕ)
    → AllBytes bs → write_of total kind bs ≡ Ok (s, rest) → PartsRead kind Write bs rest (parts_of s)
write_back total kind bs s rest w e =
    let row = row_parts (number_of total bs) _ s rest e in
    let first = number_back total row.0 bs row.1 w row.2 in
    let w₁ = bytes_behind (number_bytes row.0) row.1 bs first.0 w in
    let row₁ = row_parts (number_of total row.1) _ s rest row.3 in
    let second = number_back total row₁.0 row.1 row₁.1 w₁ row₁.2 in
    let row₂ = row_parts (in_value (value_of total kind row₁.1)) (λ value mid. Ok (write row.0 row₁.0 value, mid)) s rest row₁.3 in
    let value = value_back total kind row₂.0 row₁.1 row₂.1 row₂.2 in
    let end = same_read (write row.0 row₁.0 row₂.0) s row₂.1 rest row₂.3 in
    let a = number_bytes row.0 in
    let b = number_bytes row₁.0 in
    subst (λ (t : PlainStep). PartsRead kind Write bs rest (parts_of t)) end.0 (
      refl,
      first.0 ∙ (ap (λ (xs : List ℕ). a ++ xs) (second.0 ∙ ap (λ (xs : List ℕ). b ++ xs) (value.0 ∙ ap (λ (xs : List ℕ). row₂.0 ++ xs) end.1)) ∙ sym (regroup a b row₂.0 rest)),
      and_from (number_fits row.0) (number_fits row₁.0 && value_fits kind (Some row₂.0)) first.1
          (and_from (number_fits row₁.0) (value_fits kind (Some row₂.0)) second.1 value.1),
    )

-- Bytes that read as a step behind its code are those of its parts.
body_back : (total : ℕ) (kind : Kind) (code : Code) (bs : List ℕ) (s : PlainStep) (rest : List ℕ)
    → AllBytes bs → body_of total kind code bs ≡ Ok (s, rest) → PartsRead kind code bs rest (parts_of s)
body_back total kind Write bs s rest w e = write_back total kind bs s rest w e
body_back total kind Read bs s rest w e = two_back read total kind Read bs s rest (λ m n. refl) w e
body_back total kind GiveUp bs s rest w e = one_back give_up total kind GiveUp bs s rest (λ n. refl) w e
body_back total kind Turn bs s rest w e = one_back turn total kind Turn bs s rest (λ n. refl) w e
body_back total kind Deliver bs s rest w e = one_back deliver total kind Deliver bs s rest (λ n. refl) w e
body_back total kind Crash bs s rest w e = one_back crash total kind Crash bs s rest (λ n. refl) w e
body_back total kind Notice bs s rest w e = two_back notice total kind Notice bs s rest (λ m n. refl) w e
body_back total kind Pick bs s rest w e = one_back pick total kind Pick bs s rest (λ n. refl) w e

-- A byte that stands for a code is its number.
code_back : (b : ℕ) (code : Code) → code_of b ≡ Some code → b ≡ code_number code
code_back b code e = grind arith

-- A byte that stands for a code under a wiring is its number, and the code may be written there.
known_code_back : (wiring : WiringKind) (b : ℕ) (code : Code) → code_under wiring b ≡ Some code → (b ≡ code_number code) × (code_fits wiring code ≡ true)
known_code_back wiring b code e =
    by_test (is_line wiring && eqb b (code_number Pick))
    (λ t. absurd (none-some code (sym (cond-true _ _ _ t) ∙ e)))
    (λ f. let same = code_back b code (sym (cond-false _ _ _ f) ∙ e) in
    (same, ap (λ k. not (is_line wiring && eqb k (code_number Pick))) (sym same) ∙ not_from_false _ f))

-- A step that was read has a known code.
coded_back : (total : ℕ) (kind : Kind) (place : ℕ) (found : Option Code) (bs : List ℕ) (s : PlainStep) (rest : List ℕ)
    → coded_step total kind place found bs ≡ Ok (s, rest) → (code : Code) × (found ≡ Some code) × (body_of total kind code bs ≡ Ok (s, rest))
coded_back total kind place (Some code) bs s rest e = (code, refl, e)
coded_back total kind place None bs s rest e = absurd (never_both (s, rest) (UnknownCode place) e)

-- A step that was read may be written, and its bytes and those behind them are all.
pub no_other_bytes_read_as_a_step : (total : ℕ) (kind : Kind) (wiring : WiringKind) (b : ℕ) (bs : List ℕ) (next : Option PlainStep) (rest : List ℕ)
    → AllBytes (b ∷ bs) → step_of total kind wiring (b ∷ bs) ≡ Ok (next, rest)
    → (step : PlainStep) × (next ≡ Some step) × (b ∷ bs ≡ step_bytes step ++ rest) × (step_writable kind wiring step ≡ true)
no_other_bytes_read_as_a_step total kind wiring b bs next rest w e =
    let place = place_of total (b ∷ bs) in
    let row = row_parts (coded_step total kind place (code_under wiring b) bs) (λ s r. Ok (Some s, r)) next rest e in
    let end = same_read (Some row.0) next row.1 rest row.3 in
    let coded = coded_back total kind place (code_under wiring b) bs row.0 row.1 row.2 in
    let code = known_code_back wiring b coded.0 coded.1 in
    let body = body_back total kind coded.0 bs row.0 row.1 (λ k. w (suc k)) coded.2 in
    let p = parts_of row.0 in
    let tail = number_bytes p.first ++ (second_bytes p.second ++ value_bytes p.value) in (
      row.0,
      sym end.0,
      ap (λ k. k ∷ bs) (code.0 ∙ ap code_number (sym body.0)) ∙ ap (λ (xs : List ℕ). code_number p.code ∷ xs) (body.1 ∙ ap (λ (xs : List ℕ). tail ++ xs) end.1),
      and_from (code_fits wiring p.code) (number_fits p.first && (second_fits p.second && value_fits kind p.value))
          (ap (code_fits wiring) body.0 ∙ code.1) body.2,
    )

-- Where no bytes are left there are no steps.
none_at_all : (kind : Kind) (wiring : WiringKind) (total number : ℕ) (steps : List PlainStep) → steps_of total kind wiring number [] ≡ (steps, None)
    → ([] ≡ flat_map step_bytes steps) × (steps_writable kind wiring steps ≡ true)
unfolding steps_writable
none_at_all kind wiring total number steps e =
    let none : steps ≡ [] = ap (λ (q : StepsRead). q.0) (sym e ∙ no_step_more total kind wiring number [] [] refl) in
    (ap (flat_map step_bytes) (sym none), ap (steps_writable kind wiring) none)

-- What steps that were read without a fault give back.
abbrev StepsBack : Kind → WiringKind → List ℕ → List PlainStep → Type 0
StepsBack kind wiring bs steps = (bs ≡ flat_map step_bytes steps) × (steps_writable kind wiring steps ≡ true)

-- One step, if those behind it give their bytes back.
one_step_back : (turns total : ℕ) (kind : Kind) (wiring : WiringKind) (number b : ℕ) (bs : List ℕ) (steps : List PlainStep)
    (read : Result (Option PlainStep × List ℕ) StepFault)
    → ((rest : List ℕ) (others : List PlainStep) → length rest ≤ turns → AllBytes rest → steps_of total kind wiring (number + 1) rest ≡ (others, None) → StepsBack kind wiring rest others)
    → length (b ∷ bs) ≤ suc turns → AllBytes (b ∷ bs) → steps_of total kind wiring number (b ∷ bs) ≡ (steps, None) → step_of total kind wiring (b ∷ bs) ≡ read
    → StepsBack kind wiring (b ∷ bs) steps
unfolding steps_writable
one_step_back turns total kind wiring number b bs steps (Ok p) behind l w e r =
    let found = no_other_bytes_read_as_a_step total kind wiring b bs p.0 p.1 w r in
    let step = found.0 in
    let more = steps_of total kind wiring (number + 1) p.1 in
    let read_one = r ∙ ap (λ (o : Option PlainStep). Ok (o, p.1)) found.1 in
    let both = sym e ∙ one_step_more total kind wiring number (b ∷ bs) step p.1 read_one in
    let split : steps ≡ step ∷ more.0 = ap (λ (q : StepsRead). q.0) both in
    let clean : None ≡ more.1 = ap (λ (q : StepsRead). q.1) both in
    let fewer = a_step_takes_a_byte total kind wiring (b ∷ bs) step p.1 read_one in
    let others = behind p.1 more.0 (omega arith)
    (bytes_behind (step_bytes step) p.1 (b ∷ bs) found.2 w) (ap (λ (f : Option RunFault). (more.0, f)) (sym clean)) in (
      found.2 ∙ (ap (λ (xs : List ℕ). step_bytes step ++ xs) others.0 ∙ ap (flat_map step_bytes) (sym split)),
      ap (steps_writable kind wiring) split ∙ and_from (step_writable kind wiring step) (steps_writable kind wiring more.0) found.3 others.1,
    )
one_step_back turns total kind wiring number b bs steps (Err fault) behind l w e r =
    let both = sym e ∙ a_fault_ends_the_steps total kind wiring number (b ∷ bs) fault r in
    absurd (none-some (run.Step (numbered number fault)) (ap (λ (q : StepsRead). q.1) both))

-- Steps that were read without a fault may be written, and their bytes are all.
pub no_other_bytes_read_as_steps : (turns total : ℕ) (kind : Kind) (wiring : WiringKind) (number : ℕ) (bs : List ℕ) (steps : List PlainStep)
    → length bs ≤ turns → AllBytes bs → steps_of total kind wiring number bs ≡ (steps, None) → StepsBack kind wiring bs steps
no_other_bytes_read_as_steps zero total kind wiring number [] steps l w e = none_at_all kind wiring total number steps e
no_other_bytes_read_as_steps (suc turns) total kind wiring number [] steps l w e = none_at_all kind wiring total number steps e
no_other_bytes_read_as_steps zero total kind wiring number (b ∷ bs) steps l w e = absurd (omega arith)
no_other_bytes_read_as_steps (suc turns) total kind wiring number (b ∷ bs) steps l w e =
    one_step_back turns total kind wiring number b bs steps (step_of total kind wiring (b ∷ bs))
    (λ rest others. no_other_bytes_read_as_steps turns total kind wiring (number + 1) rest others) l w e refl
