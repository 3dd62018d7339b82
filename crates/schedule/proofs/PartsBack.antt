-- Bytes that read as a part are its bytes: a row that was read is taken apart, and each part, a number, a value or a meaning, gives its bytes back.
use Rattle.std.proofs.Common.{◌≡◌, ℕ, suc, ◌≤◌, true, eqb, ltb, List, [], ◌∷◌, ◌++◌, length, take, drop, is_some, Some, None, Ok, Err, Option, Result, sym, refl, ap, ◌∙◌, subst, arith}
use Rattle.std.proofs.lemmas.List.{length-take-le, take-append-drop}
use Rattle.std.proofs.lemmas.Option.{none-some}
use Rattle.std.proofs.lemmas.Bool.{and_from, cond-false, cond-true, eq-eqb, lt-ltb, ltb-false}
use Rattle.numbers.specs.Bytes.{AllBytes}
use Rattle.numbers.specs.Cursors.{number_in, place_of}
use Rattle.numbers.specs.Numbers.{number_bytes, number_limit}
use Rattle.numbers.specs.declared.faults.NumberFault.{NumberFault}
use Rattle.numbers.proofs.RoundTrip.{no_other_bytes_read_as_a_number}
use Rattle.numbers.proofs.Tests.{by_test}
use Rattle.values.specs.declared.kind.Kind.{Kind}
use Rattle.values.specs.declared.fault.ValueFault.{ValueFault}
use Rattle.values.specs.declared.fault.ValueFault.TheVariants.{Cut, NotAllowed}
use Rattle.values.specs.Kinds.{bytes_allowed, kind_number, kind_of, value_fault, value_length}
use Rattle.schedule.specs.declared.faults.BadValue.{BadValue}
use Rattle.schedule.specs.declared.faults.StepFault.{StepFault}
use Rattle.schedule.specs.declared.faults.StepFault.TheVariants.{Number, OutOfRange, Value}
use Rattle.schedule.specs.declared.headers.WiringKind.{WiringKind}
use Rattle.schedule.specs.Headers.{servers_of, wiring_number, wiring_of}
use Rattle.schedule.specs.Reading.{and_then, header_number, in_range, in_number, in_value, number_of, value_of, value_or_fault}
use Rattle.schedule.specs.Bytes.{number_fits, value_whole}
use Rattle.schedule.proofs.ReadsBack.{same_allowed}

-- Nothing is both read and refused.
pub never_both : {A E : Type 0} (x : A) (fault : E) → ◌≡◌ {A = Result A E} (Err fault) (Ok x) → ⊥
never_both x fault e = let z : ◌≡◌ {A = ℕ} 0 1 = cc in omega arith

-- Equal answers are equal in both parts.
pub same_read : {A E : Type 0} (x y : A) (xs ys : List ℕ) → ◌≡◌ {A = Result (A × List ℕ) E} (Ok (x, xs)) (Ok (y, ys)) → (x ≡ y) × (xs ≡ ys)
same_read {A = A} x y xs ys e =
    let p : ◌≡◌ {A = A × List ℕ} (x, xs) (y, ys) = cc in (ap (λ (q : A × List ℕ). q.0) p, ap (λ (q : A × List ℕ). q.1) p)

-- A row that was read: what its first part read as and left, and what the next made of it.
pub row_parts : {A B : Type 0} (r : Result (A × List ℕ) StepFault) (next : A → List ℕ → Result (B × List ℕ) StepFault) (y : B) (rest : List ℕ)
    → and_then r next ≡ Ok (y, rest) → (x : A) × (mid : List ℕ) × (r ≡ Ok (x, mid)) × (next x mid ≡ Ok (y, rest))
row_parts (Ok p) next y rest e = (p.0, p.1, refl, e)
row_parts (Err fault) next y rest e = absurd (never_both (y, rest) fault e)

-- What stands behind other bytes is bytes too.
pub bytes_behind : (front rest bs : List ℕ) → bs ≡ front ++ rest → AllBytes bs → AllBytes rest
bytes_behind [] rest bs e w = subst AllBytes e w
bytes_behind (b ∷ front) rest bs e w = bytes_behind front rest (front ++ rest) refl (λ k. (subst AllBytes e w) (suc k))

-- What was read under the faults of steps was read under those of numbers.
out_of_number : {A : Type 0} (r : Result A NumberFault) (x : A) → in_number r ≡ Ok x → r ≡ Ok x
out_of_number (Ok y) x e = let same : y ≡ x = cc in ap (λ z. Ok z) same
out_of_number (Err fault) x e = absurd (never_both x (Number fault) e)

-- What was read under the faults of steps was read under those of values.
out_of_value : {A : Type 0} (r : Result A BadValue) (x : A) → in_value r ≡ Ok x → r ≡ Ok x
out_of_value (Ok y) x e = let same : y ≡ x = cc in ap (λ z. Ok z) same
out_of_value (Err bad) x e = absurd (never_both x (Value bad) e)

-- Bytes that read as a number are its bytes and those behind them, and it has bytes.
pub number_back : (total n : ℕ) (bs rest : List ℕ) → AllBytes bs → number_of total bs ≡ Ok (n, rest) → (bs ≡ number_bytes n ++ rest) × (number_fits n ≡ true)
number_back total n bs rest w e =
    let r = no_other_bytes_read_as_a_number (place_of total bs) n bs rest w (out_of_number (number_in total bs) (n, rest) e) in
    (r.0, lt-ltb n number_limit r.1)

-- A value that was read: it is whole, and its bytes and those behind it are all.
checked_value_back : (found : Option ValueFault) (place size : ℕ) (v bs rest : List ℕ) → value_or_fault found place size bs ≡ Ok (v, rest)
    → (found ≡ None) × (take size bs ≡ v) × (drop size bs ≡ rest)
checked_value_back None place size v bs rest e = let s = same_read (take size bs) v (drop size bs) rest e in (refl, s.0, s.1)
checked_value_back (Some fault) place size v bs rest e = absurd (never_both (v, rest) (record { fault = fault; place = place }) e)

-- Where nothing is wrong with a value there are bytes enough, and they are allowed.
enough_and_allowed : (kind : Kind) (bs : List ℕ) → value_fault kind bs ≡ None → (value_length kind ≤ length bs) × (bytes_allowed kind bs ≡ true)
enough_and_allowed kind bs e =
    by_test (ltb (length bs) (value_length kind))
    (λ t. absurd (none-some Cut (sym e ∙ cond-true _ _ _ t)))
    (λ f. by_test (bytes_allowed kind bs)
    (λ t. (ltb-false (length bs) (value_length kind) f, t))
    (λ g. absurd (none-some NotAllowed (sym e ∙ (cond-false _ _ _ f ∙ cond-false _ _ _ g)))))

-- Bytes that read as a value are it and the bytes behind it, and it is whole.
pub value_back : (total : ℕ) (kind : Kind) (v bs rest : List ℕ) → in_value (value_of total kind bs) ≡ Ok (v, rest) → (bs ≡ v ++ rest) × (value_whole kind v ≡ true)
value_back total kind v bs rest e =
    let size = value_length kind in
    let parts = checked_value_back (value_fault kind bs) (place_of total bs) size v bs rest (out_of_value (value_of total kind bs) (v, rest) e) in
    let good = enough_and_allowed kind bs parts.0 in
    let whole : bs ≡ v ++ rest = sym (take-append-drop size bs) ∙ (ap (λ (xs : List ℕ). xs ++ drop size bs) parts.1 ∙ ap (λ (ys : List ℕ). v ++ ys) parts.2) in
    let long : length v ≡ size = sym (ap length parts.1) ∙ length-take-le size bs good.0 in
    let allowed : bytes_allowed kind v ≡ true = sym (same_allowed kind v rest long) ∙ (sym (ap (bytes_allowed kind) whole) ∙ good.1) in
    (whole, and_from (eqb (length v) size) (bytes_allowed kind v) (eq-eqb (length v) size long) allowed)

-- A number that was in range has the meaning that was read.
in_range_back : {A : Type 0} (found : Option A) (place : ℕ) (x : A) (mid rest : List ℕ) → in_range found place mid ≡ Ok (x, rest) → (found ≡ Some x) × (mid ≡ rest)
in_range_back (Some y) place x mid rest e = let s = same_read y x mid rest e in (ap (λ z. Some z) s.0, s.1)
in_range_back None place x mid rest e = absurd (never_both (x, rest) (OutOfRange place) e)

-- A number of the header that was read.
pub header_number_back : {A : Type 0} (meaning : ℕ → Option A) (x : A) (total : ℕ) (bs rest : List ℕ) → AllBytes bs → header_number meaning total bs ≡ Ok (x, rest)
    → (n : ℕ) × (bs ≡ number_bytes n ++ rest) × (meaning n ≡ Some x)
header_number_back meaning x total bs rest w e =
    let row = row_parts (number_of total bs) (λ n mid. in_range (meaning n) (place_of total bs) mid) x rest e in
    let found = in_range_back (meaning row.0) (place_of total bs) x row.1 rest row.3 in
    let number = number_back total row.0 bs row.1 w row.2 in
    (row.0, number.0 ∙ ap (λ (ys : List ℕ). number_bytes row.0 ++ ys) found.1, found.0)

-- A number of servers means itself.
pub servers_back : (n m : ℕ) → servers_of n ≡ Some m → (n ≡ m) × (is_some (servers_of n) ≡ true)
servers_back n m e = grind arith

-- A number that means a kind is the number of the kind.
pub kind_back : (n : ℕ) (kind : Kind) → kind_of n ≡ Some kind → n ≡ kind_number kind
kind_back n kind e = grind arith

-- A number that means a wiring is the number of the wiring.
pub wiring_back : (n : ℕ) (w : WiringKind) → wiring_of n ≡ Some w → n ≡ wiring_number w
wiring_back n w e = grind arith
