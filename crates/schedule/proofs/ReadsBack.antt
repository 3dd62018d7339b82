-- The bytes of a header and of steps read as them: each part of a row reads as it and leaves what stands behind it.
use Rattle.std.proofs.Common.{◌≡◌, ℕ, ◌+◌, ◌<◌, ◌≤◌, true, cond, ◌&&◌, eqb, leb, List, [], ◌∷◌, ◌++◌, length, take, drop, is_some, Some, None, Ok, Option, Result, sym, refl, ap, ◌∙◌, append_assoc, arith, length-append}
use Rattle.std.proofs.lemmas.List.{drop-append-le, drop_at, length-drop, take-append-le, take_at}
use Rattle.std.proofs.lemmas.Bool.{and_parts, cond-false, cond-true, eqb-true, le-ltb, leb-true, ltb-true, not-true}
use Rattle.std.specs.List.{flat_map}
use Rattle.numbers.specs.Cursors.{place_of}
use Rattle.numbers.specs.Numbers.{number_bytes, number_limit}
use Rattle.numbers.proofs.Tests.{by_test}
use Rattle.numbers.proofs.RoundTrip.{a_number_reads_back}
use Rattle.values.specs.declared.kind.Kind.{Kind}
use Rattle.values.specs.declared.kind.Kind.TheVariants.{Level, Mark}
use Rattle.values.specs.declared.fault.ValueFault.{ValueFault}
use Rattle.values.specs.Kinds.{all_allowed, bytes_allowed, kind_number, kind_of, value_fault, value_length}
use Rattle.schedule.specs.declared.faults.StepFault.{StepFault}
use Rattle.schedule.specs.declared.headers.WiringKind.{WiringKind}
use Rattle.schedule.specs.declared.headers.WiringKind.TheVariants as wiring
use Rattle.schedule.specs.declared.steps.Code.{Code}
use Rattle.schedule.specs.declared.steps.Code.TheVariants.{Write, Read, GiveUp, Turn, Deliver, Crash, Notice, Pick}
use Rattle.schedule.specs.Headers.{PlainHeader, is_line, servers_of, wiring_number, wiring_of}
use Rattle.schedule.specs.Reading.{and_then, body_of, coded_step, header_number, header_of, in_range, in_number, in_value, number_of, one_number, step_of, two_numbers, value_of, value_or_fault, write_of}
use Rattle.schedule.specs.RoundTrip.{steps_writable}
use Rattle.schedule.specs.Steps.{PlainStep, code_number, code_of, code_under, write, read, give_up, turn, deliver, crash, notice, pick}
use Rattle.schedule.specs.Whole.{steps_of}
use Rattle.schedule.specs.Bytes.{code_fits, header_bytes, header_writable, number_fits, parts_of, second_bytes, second_fits, step_bytes, step_writable, value_bytes, value_fits, value_whole}
use Rattle.schedule.proofs.StepsOf.{no_step_more, one_step_more, step_before}

-- Where the first part reads as something, the row goes on from there.
row_goes_on : {A B : Type 0} (r : Result (A × List ℕ) StepFault) (x : A) (rest : List ℕ) (next : A → List ℕ → Result (B × List ℕ) StepFault)
    → r ≡ Ok (x, rest) → and_then r next ≡ next x rest
row_goes_on {A = A} r x rest next e = ap (λ (s : Result (A × List ℕ) StepFault). and_then s next) e

-- The three parts of a step's tail, and what stands behind.
pub regroup : (a b c rest : List ℕ) → (a ++ (b ++ c)) ++ rest ≡ a ++ (b ++ (c ++ rest))
regroup a b c rest = simp append_assoc

-- The bytes of a number read as it.
number_reads : (total n : ℕ) (rest : List ℕ) → n < number_limit → number_of total (number_bytes n ++ rest) ≡ Ok (n, rest)
number_reads total n rest h = ap in_number (a_number_reads_back (place_of total (number_bytes n ++ rest)) n rest h)

-- A value's own bytes decide whether they are allowed.
pub same_allowed : (kind : Kind) (v rest : List ℕ) → length v ≡ value_length kind → bytes_allowed kind (v ++ rest) ≡ bytes_allowed kind v
same_allowed Level v rest h = refl
same_allowed Mark v rest h =
    let two : 2 ≤ length v = omega arith in
    let six : 6 ≤ length (drop 2 v) = omega (arith, length-drop 2 v) in
    ap all_allowed (ap (λ (xs : List ℕ). take 6 xs) (drop-append-le 2 v rest two) ∙ take-append-le 6 (drop 2 v) rest six)

-- Nothing is wrong with a whole value, whatever stands behind it.
no_value_fault : (kind : Kind) (v rest : List ℕ) → value_whole kind v ≡ true → value_fault kind (v ++ rest) ≡ None
no_value_fault kind v rest w =
    let parts = and_parts (eqb (length v) (value_length kind)) (bytes_allowed kind v) w in
    let size = eqb-true (length v) (value_length kind) parts.0 in
    cond-false _ _ _ (le-ltb (length (v ++ rest)) (value_length kind) (omega (arith, length-append v rest)))
    ∙ cond-true _ _ _ (same_allowed kind v rest size ∙ parts.1)

-- A whole value reads as itself.
value_reads : (total : ℕ) (kind : Kind) (v rest : List ℕ) → value_whole kind v ≡ true → in_value (value_of total kind (v ++ rest)) ≡ Ok (v, rest)
value_reads total kind v rest w =
    let parts = and_parts (eqb (length v) (value_length kind)) (bytes_allowed kind v) w in
    let size = eqb-true (length v) (value_length kind) parts.0 in
    ap (λ (f : Option ValueFault). in_value (value_or_fault f (place_of total (v ++ rest)) (value_length kind) (v ++ rest))) (no_value_fault kind v rest w)
    ∙ ap {A = List ℕ × List ℕ} {B = Result (List ℕ × List ℕ) StepFault} (λ p. Ok p) (ap (λ (xs : List ℕ). (xs, drop (value_length kind) (v ++ rest))) (take_at v rest (value_length kind) size) ∙ ap (λ (ys : List ℕ). (v, ys)) (drop_at v rest (value_length kind) size))

-- The bytes of a number of the header read as its meaning.
header_number_reads : {A : Type 0} (meaning : ℕ → Option A) (x : A) (total n : ℕ) (rest : List ℕ) → n < number_limit → meaning n ≡ Some x
    → header_number meaning total (number_bytes n ++ rest) ≡ Ok (x, rest)
header_number_reads {A = A} meaning x total n rest h m =
    row_goes_on (number_of total (number_bytes n ++ rest)) n rest _ (number_reads total n rest h)
    ∙ ap (λ (o : Option A). in_range o (place_of total (number_bytes n ++ rest)) rest) m

-- The number of a kind means it.
kind_found : (kind : Kind) → kind_of (kind_number kind) ≡ Some kind
kind_found Level = refl
kind_found Mark = refl

-- The number of a kind has bytes.
kind_small : (kind : Kind) → kind_number kind < number_limit
kind_small Level = omega arith
kind_small Mark = omega arith

-- The number of a wiring means it.
wiring_found : (w : WiringKind) → wiring_of (wiring_number w) ≡ Some w
wiring_found wiring.Line = refl
wiring_found wiring.Pick = refl

-- The number of a wiring has bytes.
wiring_small : (w : WiringKind) → wiring_number w < number_limit
wiring_small wiring.Line = omega arith
wiring_small wiring.Pick = omega arith

-- A number of servers in range means itself, and has bytes.
servers_found : (n : ℕ) → is_some (servers_of n) ≡ true → (servers_of n ≡ Some n) × (n < number_limit)
servers_found n h =
    by_test (leb 2 n && leb n 8)
    (λ t. let most = leb-true n 8 (and_parts (leb 2 n) (leb n 8) t).1 in (cond-true _ _ _ t, omega arith))
    (λ f. let z : ◌≡◌ {A = ℕ} 0 1 = ap (λ b. cond b 1 0) (sym (ap is_some (cond-false (leb 2 n && leb n 8) (Some n) None f)) ∙ h) in absurd (omega arith))

-- The bytes of a header read as it.
pub a_header_reads_back : (total : ℕ) (h : PlainHeader) (rest : List ℕ) → header_writable h ≡ true → header_of total (header_bytes h ++ rest) ≡ Ok (h, rest)
a_header_reads_back total h rest w =
    let parts = and_parts (is_some (servers_of h.servers)) (value_whole h.kind h.first) w in
    let servers = servers_found h.servers parts.0 in
    let a = number_bytes h.servers in
    let b = number_bytes (kind_number h.kind) in
    let c = number_bytes (wiring_number h.wiring) in
    ap (header_of total) (regroup a b (c ++ h.first) rest ∙ ap (λ (xs : List ℕ). a ++ (b ++ xs)) (append_assoc c h.first rest))
    ∙ (row_goes_on (header_number servers_of total (a ++ (b ++ (c ++ (h.first ++ rest))))) h.servers (b ++ (c ++ (h.first ++ rest))) _
    (header_number_reads servers_of h.servers total h.servers (b ++ (c ++ (h.first ++ rest))) servers.1 servers.0)
    ∙ (row_goes_on (header_number kind_of total (b ++ (c ++ (h.first ++ rest)))) h.kind (c ++ (h.first ++ rest)) _
    (header_number_reads kind_of h.kind total (kind_number h.kind) (c ++ (h.first ++ rest)) (kind_small h.kind) (kind_found h.kind))
    ∙ (row_goes_on (header_number wiring_of total (c ++ (h.first ++ rest))) h.wiring (h.first ++ rest) _
    (header_number_reads wiring_of h.wiring total (wiring_number h.wiring) (h.first ++ rest) (wiring_small h.wiring) (wiring_found h.wiring))
    ∙ row_goes_on (in_value (value_of total h.kind (h.first ++ rest))) h.first rest _ (value_reads total h.kind h.first rest parts.1))))

-- The bytes of one number read as a step of one number.
one_reads : (step : ℕ → PlainStep) (total n : ℕ) (rest : List ℕ) → number_fits n ≡ true → one_number step total (number_bytes n ++ rest) ≡ Ok (step n, rest)
one_reads step total n rest h = row_goes_on (number_of total (number_bytes n ++ rest)) n rest _ (number_reads total n rest (ltb-true n number_limit h))

-- The bytes of two numbers read as a step of two numbers.
two_read : (step : ℕ → ℕ → PlainStep) (total m n : ℕ) (rest : List ℕ) → number_fits m ≡ true → number_fits n ≡ true
    → two_numbers step total (number_bytes m ++ (number_bytes n ++ rest)) ≡ Ok (step m n, rest)
two_read step total m n rest g h =
    row_goes_on (number_of total (number_bytes m ++ (number_bytes n ++ rest))) m (number_bytes n ++ rest) _ (number_reads total m (number_bytes n ++ rest) (ltb-true m number_limit g))
    ∙ one_reads (step m) total n rest h

-- The bytes of two numbers and a whole value read as a write.
write_reads : (total : ℕ) (kind : Kind) (client server : ℕ) (v rest : List ℕ) → number_fits client ≡ true → number_fits server ≡ true → value_whole kind v ≡ true
    → write_of total kind (number_bytes client ++ (number_bytes server ++ (v ++ rest))) ≡ Ok (write client server v, rest)
write_reads total kind client server v rest g h w =
    row_goes_on (number_of total (number_bytes client ++ (number_bytes server ++ (v ++ rest)))) client (number_bytes server ++ (v ++ rest)) _
    (number_reads total client (number_bytes server ++ (v ++ rest)) (ltb-true client number_limit g))
    ∙ (row_goes_on (number_of total (number_bytes server ++ (v ++ rest))) server (v ++ rest) _ (number_reads total server (v ++ rest) (ltb-true server number_limit h))
    ∙ row_goes_on (in_value (value_of total kind (v ++ rest))) v rest _ (value_reads total kind v rest w))

-- What follows a code reads as the step.
body_reads : (total : ℕ) (kind : Kind) (step : PlainStep) (rest : List ℕ)
    → number_fits (parts_of step).first ≡ true → second_fits (parts_of step).second ≡ true → value_fits kind (parts_of step).value ≡ true
    → body_of total kind (parts_of step).code (number_bytes (parts_of step).first ++ (second_bytes (parts_of step).second ++ (value_bytes (parts_of step).value ++ rest))) ≡ Ok (step, rest)
body_reads total kind (write client server value) rest f s v = write_reads total kind client server value rest f s v
body_reads total kind (read client server) rest f s v = two_read read total client server rest f s
body_reads total kind (give_up client) rest f s v = one_reads give_up total client rest f
body_reads total kind (turn server) rest f s v = one_reads turn total server rest f
body_reads total kind (deliver server) rest f s v = one_reads deliver total server rest f
body_reads total kind (crash server) rest f s v = one_reads crash total server rest f
body_reads total kind (notice server crashed) rest f s v = two_read notice total server crashed rest f s
body_reads total kind (pick n) rest f s v = one_reads pick total n rest f

-- The number of a code stands for it.
code_found : (code : Code) → code_of (code_number code) ≡ Some code
code_found Write = refl
code_found Read = refl
code_found GiveUp = refl
code_found Turn = refl
code_found Deliver = refl
code_found Crash = refl
code_found Notice = refl
code_found Pick = refl

-- The number of a code that may be written stands for it under the wiring.
code_known : (wiring : WiringKind) (code : Code) → code_fits wiring code ≡ true → code_under wiring (code_number code) ≡ Some code
code_known wiring code h =
    cond-false _ _ _ (not-true (is_line wiring && eqb (code_number code) (code_number Pick)) h) ∙ code_found code

-- The bytes of a step read as it.
pub a_step_reads_back : (total : ℕ) (kind : Kind) (wiring : WiringKind) (step : PlainStep) (rest : List ℕ) → step_writable kind wiring step ≡ true
    → step_of total kind wiring (step_bytes step ++ rest) ≡ Ok (Some step, rest)
a_step_reads_back total kind wiring step rest w =
    let p = parts_of step in
    let code = and_parts (code_fits wiring p.code) (number_fits p.first && (second_fits p.second && value_fits kind p.value)) w in
    let first = and_parts (number_fits p.first) (second_fits p.second && value_fits kind p.value) code.1 in
    let second = and_parts (second_fits p.second) (value_fits kind p.value) first.1 in
    let tail = (number_bytes p.first ++ (second_bytes p.second ++ value_bytes p.value)) ++ rest in
    let place = place_of total (code_number p.code ∷ tail) in
    let body = ap (body_of total kind p.code) (regroup (number_bytes p.first) (second_bytes p.second) (value_bytes p.value) rest)
    ∙ body_reads total kind step rest first.0 second.0 second.1 in
    row_goes_on (coded_step total kind place (code_under wiring (code_number p.code)) tail) step rest (λ s r. Ok (Some s, r))
    (ap (λ (o : Option Code). coded_step total kind place o tail) (code_known wiring p.code code.0) ∙ body)

-- The bytes of steps read as them, however they are numbered.
pub steps_read_back : (total : ℕ) (kind : Kind) (wiring : WiringKind) (number : ℕ) (steps : List PlainStep) → steps_writable kind wiring steps ≡ true
    → steps_of total kind wiring number (flat_map step_bytes steps) ≡ (steps, None)
unfolding steps_writable
steps_read_back total kind wiring number [] w = no_step_more total kind wiring number [] [] refl
steps_read_back total kind wiring number (step ∷ steps) w =
    let parts = and_parts (step_writable kind wiring step) (steps_writable kind wiring steps) w in
    one_step_more total kind wiring number (step_bytes step ++ flat_map step_bytes steps) step (flat_map step_bytes steps)
    (a_step_reads_back total kind wiring step (flat_map step_bytes steps) parts.0)
    ∙ ap (step_before step) (steps_read_back total kind wiring (number + 1) steps parts.1)
