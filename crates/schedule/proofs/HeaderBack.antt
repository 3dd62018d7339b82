-- Bytes that read as a header are its bytes, and those behind them: its four parts one after another.
use Rattle.std.proofs.Common.{◌≡◌, ℕ, true, List, ◌++◌, is_some, Ok, Result, sym, ap, ◌∙◌, append_assoc}
use Rattle.std.proofs.lemmas.Bool.{and_from}
use Rattle.numbers.specs.Bytes.{AllBytes}
use Rattle.numbers.specs.Numbers.{number_bytes}
use Rattle.values.specs.declared.kind.Kind.{Kind}
use Rattle.values.specs.Kinds.{kind_number, kind_of}
use Rattle.schedule.specs.declared.faults.StepFault.{StepFault}
use Rattle.schedule.specs.declared.headers.WiringKind.{WiringKind}
use Rattle.schedule.specs.Headers.{PlainHeader, servers_of, wiring_number, wiring_of}
use Rattle.schedule.specs.Reading.{and_then, header_number, header_of, in_value, value_of}
use Rattle.schedule.specs.Bytes.{header_bytes, header_writable, value_whole}
use Rattle.schedule.proofs.PartsBack.{bytes_behind, header_number_back, kind_back, row_parts, same_read, servers_back, value_back, wiring_back}
use Rattle.schedule.proofs.ReadsBack.{regroup}

-- A header of four parts.
abbrev made_of : ℕ → Kind → WiringKind → List ℕ → PlainHeader
made_of servers kind wiring first = record { servers = servers; kind = kind; wiring = wiring; first = first }

-- Behind the wiring: the first value.
abbrev behind_wiring : ℕ → ℕ → Kind → WiringKind → List ℕ → Result (PlainHeader × List ℕ) StepFault
behind_wiring total servers kind wiring bytes = and_then (in_value (value_of total kind bytes)) (λ first rest. Ok (made_of servers kind wiring first, rest))

-- Behind the kind: the wiring, and what is behind it.
abbrev behind_kind : ℕ → ℕ → Kind → List ℕ → Result (PlainHeader × List ℕ) StepFault
behind_kind total servers kind bytes = and_then (header_number wiring_of total bytes) (λ wiring bytes₁. behind_wiring total servers kind wiring bytes₁)

-- Behind the servers: the kind, and what is behind it.
abbrev behind_servers : ℕ → ℕ → List ℕ → Result (PlainHeader × List ℕ) StepFault
behind_servers total servers bytes = and_then (header_number kind_of total bytes) (λ kind bytes₁. behind_kind total servers kind bytes₁)

-- A header that was read may be written, and its bytes and those behind them are all.
pub no_other_bytes_read_as_a_header : (total : ℕ) (h : PlainHeader) (bs rest : List ℕ) → AllBytes bs → header_of total bs ≡ Ok (h, rest)
    → (bs ≡ header_bytes h ++ rest) × (header_writable h ≡ true)
no_other_bytes_read_as_a_header total h bs rest w e =
    let row₁ = row_parts (header_number servers_of total bs) (λ servers bytes. behind_servers total servers bytes) h rest e in
    let servers = header_number_back servers_of row₁.0 total bs row₁.1 w row₁.2 in
    let s = servers_back servers.0 row₁.0 servers.2 in
    let w₁ = bytes_behind (number_bytes servers.0) row₁.1 bs servers.1 w in
    let row₂ = row_parts (header_number kind_of total row₁.1) (λ kind bytes. behind_kind total row₁.0 kind bytes) h rest row₁.3 in
    let kind = header_number_back kind_of row₂.0 total row₁.1 row₂.1 w₁ row₂.2 in
    let k = kind_back kind.0 row₂.0 kind.2 in
    let w₂ = bytes_behind (number_bytes kind.0) row₂.1 row₁.1 kind.1 w₁ in
    let row₃ = row_parts (header_number wiring_of total row₂.1) (λ wiring bytes. behind_wiring total row₁.0 row₂.0 wiring bytes) h rest row₂.3 in
    let wiring = header_number_back wiring_of row₃.0 total row₂.1 row₃.1 w₂ row₃.2 in
    let i = wiring_back wiring.0 row₃.0 wiring.2 in
    let row₄ = row_parts (in_value (value_of total row₂.0 row₃.1)) (λ first behind. Ok (made_of row₁.0 row₂.0 row₃.0 first, behind)) h rest row₃.3 in
    let value = value_back total row₂.0 row₄.0 row₃.1 row₄.1 row₄.2 in
    let end = same_read (made_of row₁.0 row₂.0 row₃.0 row₄.0) h row₄.1 rest row₄.3 in
    let a = number_bytes row₁.0 in
    let b = number_bytes (kind_number row₂.0) in
    let c = number_bytes (wiring_number row₃.0) in
    let fourth : row₃.1 ≡ row₄.0 ++ rest = value.0 ∙ ap (λ (xs : List ℕ). row₄.0 ++ xs) end.1 in
    let third : row₂.1 ≡ c ++ (row₄.0 ++ rest) = wiring.1 ∙ (ap (λ n. number_bytes n ++ row₃.1) i ∙ ap (λ (xs : List ℕ). c ++ xs) fourth) in
    let second : row₁.1 ≡ b ++ (c ++ (row₄.0 ++ rest)) = kind.1 ∙ (ap (λ n. number_bytes n ++ row₂.1) k ∙ ap (λ (xs : List ℕ). b ++ xs) third) in
    let first : bs ≡ a ++ (b ++ (c ++ (row₄.0 ++ rest))) = servers.1 ∙ (ap (λ n. number_bytes n ++ row₁.1) s.0 ∙ ap (λ (xs : List ℕ). a ++ xs) second) in
    let grouped = sym (regroup a b (c ++ row₄.0) rest ∙ ap (λ (xs : List ℕ). a ++ (b ++ xs)) (append_assoc c row₄.0 rest)) in
    let fits = ap (λ n. is_some (servers_of n)) (sym s.0) ∙ s.1 in (
      first ∙ (grouped ∙ ap (λ (g : PlainHeader). header_bytes g ++ rest) end.0),
      ap header_writable (sym end.0) ∙ and_from (is_some (servers_of row₁.0)) (value_whole row₂.0 row₄.0) fits value.1,
    )
