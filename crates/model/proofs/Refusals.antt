-- What follows where a call is accepted: each reason to refuse it fails.
-- A chain of reasons refuses nothing only if its first does not hold and the rest refuses nothing.
use Rattle.std.proofs.Common.{◌≡◌, ℕ, ◌<◌, ◌≤◌, Bool, true, false, not, ◌&&◌, leb, ◌⊎◌, Some, None, Option, refl, ap, ◌∙◌, inl, inr, ⊎_elim, arith}
use Rattle.std.proofs.lemmas.Bool.Decides.{nat_tests}
use Rattle.std.proofs.lemmas.Bool.{not-false, leb-false, eqb-true}
use Rattle.model.specs.declared.Refusal.{Refusal}
use Rattle.model.specs.declared.Outcome.{Outcome}
use Rattle.model.specs.declared.Outcome.TheVariants.{Refused}
use Rattle.counting.specs.Below.{any}
use Rattle.model.specs.State.{State, Shelf, is_open_of}
use Rattle.model.specs.Steps.{with_state, ValuesStay}
use Rattle.model.specs.Refusals.{refuse, refuse_server, Told}
use Rattle.model.specs.Operations.{refuse_write, refuse_read, refuse_make}
use Rattle.model.specs.Crashes.{refuse_notice}

-- not refused: the test fails, and nothing after it refuses
pub passed : (b : Bool) (e : Refusal) (rest : Option Refusal) → refuse b e rest ≡ None → (b ≡ false) × (rest ≡ None)
passed true e rest h = absurd (let z : ◌≡◌ {A = ℕ} 0 1 = cc in omega arith)
passed false e rest h = (refl, h)

-- not refused for its server
pub server_passed : (s : State) (p : ℕ) (rest : Option Refusal) → refuse_server s p rest ≡ None → (p < s.size) × (s.servers.standing p ≡ true) × (rest ≡ None)
server_passed s p rest h =
    let a = passed _ _ _ h in
    let b = passed _ _ _ a.1 in
    (leb-false s.size p a.0, not-false _ b.0, b.1)

-- a write or a read by client c at server p is accepted
pub record Accepts (s : State) (c p : ℕ) : Type 0 where
  pub low : p < s.size
  pub standing : s.servers.standing p ≡ true
  pub free : any (is_open_of s.journal c) 256 ≡ false
  pub room : s.journal.used < 256

-- an accepted read
pub read_accepts : (s : State) (c p : ℕ) → refuse_read s c p ≡ None → Accepts s c p
read_accepts s c p h =
    let a = passed _ _ _ h in
    let b = server_passed s p _ a.1 in
    let d = passed _ _ _ b.2 in
    let e = passed _ _ _ d.1 in
    record { low = b.0; standing = b.1; free = d.0; room = leb-false 256 s.journal.used e.0 }

-- an accepted write
pub write_accepts : (s : State) (rows c p : ℕ) → refuse_write s rows c p ≡ None → Accepts s c p
write_accepts s rows c p h =
    let a = passed _ _ _ h in
    let b = server_passed s p _ a.1 in
    let d = passed _ _ _ b.2 in
    let e = passed _ _ _ d.1 in
    record { low = b.0; standing = b.1; free = d.0; room = leb-false 256 s.journal.used e.0 }

-- who notices stands, and who is noticed does not
pub notice_accepts : (s : State) (p x : ℕ) → refuse_notice s p x ≡ None → (s.servers.standing p ≡ true) × (s.servers.standing x ≡ false)
notice_accepts s p x h =
    let a = passed _ _ _ h in
    let b = passed _ _ _ a.1 in
    let d = passed _ _ _ b.1 in
    (not-false _ b.0, d.0)

-- the size of a ring that is made
at_most_eight : (n : ℕ) → not (leb 2 n && leb n 8) ≡ false → n ≤ 8
at_most_eight n z = grind (arith, nat_tests)

-- an accepted make
pub make_accepts : (rows n : ℕ) → refuse_make rows n ≡ None → (n ≤ 8) × (rows ≡ 256)
make_accepts rows n h =
    let a = passed _ _ _ h in
    let b = passed _ _ _ a.1 in
    let z : not (leb 2 n && leb n 8) ≡ false = a.0 in
    (at_most_eight n z, eqb-true rows 256 (not-false _ b.0))

-- a call that the rules decide is refused or accepted
pub told_ways : {S : Type 0} (o : Option Refusal) (s : S) (is : Outcome) (t : S) (out : Outcome) (after : S) → Told o s is t out after
    → ((e : Refusal) × (out ≡ Refused e) × (after ≡ s)) ⊎ ((o ≡ None) × (out ≡ is) × (after ≡ t))
told_ways (Some e) s is t out after h = inl (e, h.0, h.1)
told_ways None s is t out after h = inr (refl, h.0, h.1)

-- the same of a call that leaves the values
pub stays_ways : {V : Type 0} (o : Option Refusal) (s : Shelf V) (is : Outcome) (t : State) (out : Outcome) (after : Shelf V) → ValuesStay s (Told o s.state is t) out after
    → ((e : Refusal) × (out ≡ Refused e) × (after ≡ s)) ⊎ ((o ≡ None) × (out ≡ is) × (after ≡ with_state s t))
stays_ways o s is t out after h = ⊎_elim
    (λ w. inl (w.0, w.1, h.1 ∙ ap (with_state s) w.2))
    (λ w. inr (w.0, w.1, h.1 ∙ ap (with_state s) w.2))
    (told_ways o s.state is t out after.state h.0)
