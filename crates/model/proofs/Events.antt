-- What can happen to a shelf: each call that is accepted in a run is one of these events.
-- A call is taken apart by its tests, and each branch is an event; where a call is refused nothing happens.
use Rattle.std.proofs.Common.{◌≡◌, ℕ, ◌<◌, Bool, true, false, cond, eqb, ltb, ◌⊎◌, Some, None, Option, sym, refl, ap, ◌∙◌, inl, inr, ⊎_elim, arith}
use Rattle.std.proofs.lemmas.Bool.Decides.{nat_tests}
use Rattle.std.proofs.lemmas.Bool.{cases_Bool, and_parts, ltb-true, true≢false, eqb-true, eqb-false, or_cases, cases_eq}
use Rattle.messages.specs.declared.Phase.{Phase}
use Rattle.messages.specs.declared.Phase.TheVariants.{PreWrite, Write as PhaseWrite}
use Rattle.messages.specs.declared.Message.{Message}
use Rattle.messages.specs.Phases.{phase_number}
use Rattle.messages.specs.Waiting.{Waiting, Waits}
use Rattle.servers.specs.Sets.{one}
use Rattle.model.specs.declared.Call.{Call}
use Rattle.model.specs.declared.Call.TheVariants.{Write, Read, GiveUp, Turn, Deliver, Crash, Notice, Pick}
use Rattle.model.specs.declared.Refusal.{Refusal}
use Rattle.model.specs.declared.Outcome.{Outcome}
use Rattle.model.specs.declared.Outcome.TheVariants.{Row}
use Rattle.counting.specs.Below.{count}
use Rattle.model.specs.State.{State, Shelf, is_stray, is_queued, is_open_of}
use Rattle.model.specs.Refusals.{Told}
use Rattle.model.specs.Sending.{next_of, sent, gone}
use Rattle.model.specs.Operations.{given_up, wrote, read, open_row, gives_up}
use Rattle.model.specs.Turns.{has_entry, has_entry_of, group_waits, counts_before, chosen_group, counted, forwards, forwards_prewrite, forwards_write, starts, forwards_or_starts, turns}
use Rattle.model.specs.Deliveries.{ends_at, took, took_and_returned, keeps_prewrite, keeps_write, hears_prewrite, hears_write, delivered, HandsOut, Delivers}
use Rattle.model.specs.Crashes.{crashes, learns, sends_held, sends_pending, notices}
use Rattle.model.specs.Steps.{with_state, Step, ValuesStay}
use Rattle.counting.proofs.Searches.{some_passes, least_passes, none_is_least}
use Rattle.model.proofs.Inv.{Inv}
use Rattle.model.proofs.Refusals.{passed, server_passed, Accepts, read_accepts, write_accepts, notice_accepts, told_ways, stays_ways}

-- row r is queued at p
pub record Queued (s : State) (p r : ℕ) : Type 0 where
  pub low : r < s.journal.used
  pub is_write : s.journal.is_write r ≡ true
  pub open_yet : s.journal.answered r ≡ false
  pub no_tag : s.journal.tag r ≡ 0
  pub here : s.journal.server r ≡ p

-- as the test says
pub queued_says : (s : State) (p r : ℕ) → is_queued s.journal p r ≡ true → Queued s p r
queued_says s p r h = grind (arith, nat_tests)

-- from the shelf s, with so many new rows, to another shelf
pub data Event (s : State) : ℕ → State → Type 0 where
  -- refused, or a pick
  nothing : Event s 0 s
  writing : (c p : ℕ) → Accepts s c p → Event s 1 (wrote s c p)
  reading : (c p : ℕ) → Accepts s c p → Event s 1 (read s c p)
  giving_up : (c r : ℕ) → is_open_of s.journal c r ≡ true → Event s 0 (given_up s r)
  -- p forwards a write or a pre-write, or starts a write; j is the chosen group
  passing_write : (p j r : ℕ) → s.servers.standing p ≡ true → 0 < s.servers.forward_write p r → Event s 0 (forwards_write (counted s p j) p r)
  passing_prewrite : (p j r : ℕ) → s.servers.standing p ≡ true → 0 < s.servers.forward_prewrite p r → Event s 0 (forwards_prewrite (counted s p j) p r)
  starting : (p j r : ℕ) → s.servers.standing p ≡ true → Queued s p r → Event s 0 (starts (counted s p j) p r)
  -- a pre-write comes to p, and ends or is kept; a write comes, and ends or is kept
  ending_prewrite : (p r : ℕ) → s.servers.standing p ≡ true → 0 < s.waiting p r 1 → ends_at s p r (s.waiting p r 1) ≡ true → Event s 0 (sent (took (gone s p r 1) p r) p r 2 (one p))
  keeping_prewrite : (p r : ℕ) → s.servers.standing p ≡ true → 0 < s.waiting p r 1 → ends_at s p r (s.waiting p r 1) ≡ false → Event s 0 (keeps_prewrite (gone s p r 1) p r (s.waiting p r 1))
  ending_write : (p r : ℕ) → s.servers.standing p ≡ true → 0 < s.waiting p r 2 → ends_at s p r (s.waiting p r 2) ≡ true → Event s 0 (took_and_returned (gone s p r 2) p r)
  keeping_write : (p r : ℕ) → s.servers.standing p ≡ true → 0 < s.waiting p r 2 → ends_at s p r (s.waiting p r 2) ≡ false → Event s 0 (keeps_write (took_and_returned (gone s p r 2) p r) p r (s.waiting p r 2))
  crashing : (p : ℕ) → s.servers.standing p ≡ true → (count s.servers.standing s.size ≡ 1 → ⊥) → Event s 0 (crashes s p)
  -- p notices the crash of x, which was not its next, or was
  noticing : (p x : ℕ) → s.servers.standing p ≡ true → s.servers.standing x ≡ false → (next_of s p ≡ x → ⊥) → Event s 0 (learns s p x)
  turning_on : (p x : ℕ) → s.servers.standing p ≡ true → s.servers.standing x ≡ false → next_of s p ≡ x → Event s 0 (sends_pending (sends_held (learns s p x) p) p)

-- a phase is 1 or 2
pub phase_one_two : (f : Phase) → (phase_number f ≡ 1) ⊎ (phase_number f ≡ 2)
phase_one_two PreWrite = inl refl
phase_one_two PhaseWrite = inr refl

-- where a message waits the mask is not empty
pub waits_some : (w : Waiting) (p : ℕ) (m : Message) → Waits w p m → 0 < w p m.row.0 (phase_number m.phase)
waits_some w p m h = let a = h.some in let e = h.whole in omega arith

-- a turn at p: group j has an entry, or is p and has a queued write
forwards_or_starts_event : (s : State) (p j : ℕ) (a b : Option ℕ) → s.servers.standing p ≡ true → ((r : ℕ) → a ≡ Some r → has_entry s.servers p r ≡ true) → ((r : ℕ) → b ≡ Some r → is_queued s.journal p r ≡ true)
    → (a ≡ None → b ≡ None → ⊥) → Event s 0 (forwards_or_starts (counted s p j) p a b)
forwards_or_starts_event s p j (Some r) b u ha hb some = go (cases_Bool (ltb 0 (s.servers.forward_write p r)))
  where
    go : (ltb 0 (s.servers.forward_write p r) ≡ true) ⊎ (ltb 0 (s.servers.forward_write p r) ≡ false) → Event s 0 (forwards (counted s p j) p r)
    go (inl e) = rw e (passing_write p j r u (ltb-true 0 (s.servers.forward_write p r) e))
    go (inr e) = rw e (passing_prewrite p j r u (let h = ha r refl in grind (arith, nat_tests)))
forwards_or_starts_event s p j None (Some r) u ha hb some = starting p j r u (queued_says s p r (hb r refl))
forwards_or_starts_event s p j None None u ha hb some = absurd (some refl refl)

-- a turn is an event
turns_event : (s : State) (p : ℕ) (o : Option ℕ) → s.servers.standing p ≡ true → ((j : ℕ) → o ≡ Some j → group_waits s p j ≡ true) → Event s 0 (turns s p o)
turns_event s p None u h = nothing
turns_event s p (Some j) u h = forwards_or_starts_event s p j _ _ u
    (λ r e. (and_parts _ _ (least_passes (has_entry_of s p j) s.journal.tag 256 r e).1).0)
    (λ r e. (least_passes (is_queued s.journal p) (λ k. k) 256 r e).1)
    (λ na nb. ⊎_elim
    (λ e. let w = some_passes (has_entry_of s p j) 256 e in true≢false (sym w.2 ∙ none_is_least (has_entry_of s p j) s.journal.tag 256 na w.0 w.1))
    (λ e. let w = some_passes (is_queued s.journal p) 256 (and_parts _ _ e).1 in true≢false (sym w.2 ∙ none_is_least (is_queued s.journal p) (λ k. k) 256 nb w.0 w.1))
    (or_cases _ _ (h j refl)))

-- a give-up is an event
gives_up_event : (s : State) (c : ℕ) (o : Option ℕ) → ((r : ℕ) → o ≡ Some r → is_open_of s.journal c r ≡ true) → Event s 0 (gives_up s o)
gives_up_event s c None h = nothing
gives_up_event s c (Some r) h = giving_up c r (h r refl)

-- a pre-write that comes is an event
hears_prewrite_event : (s : State) (p r : ℕ) → s.servers.standing p ≡ true → 0 < s.waiting p r 1 → Event s 0 (hears_prewrite (gone s p r 1) p r (s.waiting p r 1))
hears_prewrite_event s p r u w = go (ends_at s p r (s.waiting p r 1)) refl
  where
    go : (b : Bool) → ends_at s p r (s.waiting p r 1) ≡ b → Event s 0 (cond b (sent (took (gone s p r 1) p r) p r 2 (one p)) (keeps_prewrite (gone s p r 1) p r (s.waiting p r 1)))
    go true e = ending_prewrite p r u w e
    go false e = keeping_prewrite p r u w e

-- a write that comes is an event
hears_write_event : (s : State) (p r : ℕ) → s.servers.standing p ≡ true → 0 < s.waiting p r 2 → Event s 0 (hears_write (gone s p r 2) p r (s.waiting p r 2))
hears_write_event s p r u w = go (ends_at s p r (s.waiting p r 2)) refl
  where
    go : (b : Bool) → ends_at s p r (s.waiting p r 2) ≡ b → Event s 0 (cond b (took_and_returned (gone s p r 2) p r) (keeps_write (took_and_returned (gone s p r 2) p r) p r (s.waiting p r 2)))
    go true e = ending_write p r u w e
    go false e = keeping_write p r u w e

-- a delivery is an event
delivered_event : (s : State) (p r f : ℕ) → (f ≡ 1) ⊎ (f ≡ 2) → s.servers.standing p ≡ true → 0 < s.waiting p r f → Event s 0 (delivered s p r f)
delivered_event s p r f (inl e) u w = rw e (hears_prewrite_event s p r u (rw e at w))
delivered_event s p r f (inr e) u w = rw e (hears_write_event s p r u (rw e at w))

-- noticing is an event
notices_event : (s : State) (p x : ℕ) → s.servers.standing p ≡ true → s.servers.standing x ≡ false → Event s 0 (notices s p x)
notices_event s p x u d = go (eqb (next_of s p) x) refl
  where
    go : (b : Bool) → eqb (next_of s p) x ≡ b → Event s 0 (cond b (sends_pending (sends_held (learns s p x) p) p) (learns s p x))
    go true e = turning_on p x u d (eqb-true (next_of s p) x e)
    go false e = noticing p x u d (eqb-false (next_of s p) x e)

module _ {V : Type 0} where
  -- a step of a run: an event, which leaves the values of used rows; each new row is given
  pub record Moves (s t : Shelf V) (out : Outcome) : Type 0 where
    pub more : ℕ
    pub event : Event s.state more t.state
    pub new_row : (more ≡ 0) ⊎ ((more ≡ 1) × (out ≡ Row s.state.journal.used))
    pub rows : t.rows ≡ s.rows
    pub values : (r : ℕ) → r < s.state.journal.used → t.values r ≡ s.values r

  -- a refused call, or a pick
  stays : (s t : Shelf V) (out : Outcome) → t ≡ s → Moves s t out
  stays s t out e = rw e (record { more = 0; event = nothing; new_row = inl refl; rows = refl; values = λ r h. refl })

  -- a change of the ring and the wiring alone
  changes : (s t : Shelf V) (out : Outcome) (u : State) → Event s.state 0 u → t ≡ with_state s u → Moves s t out
  changes s t out u v e = rw e (record { more = 0; event = v; new_row = inl refl; rows = refl; values = λ r h. refl })

  -- a call that the rules decide
  decided : (o : Option Refusal) (s t : Shelf V) (is : Outcome) (v : Shelf V) (out : Outcome) → Told o s is v out t → (o ≡ None → out ≡ is → t ≡ v → Moves s t out) → Moves s t out
  decided o s t is v out h f = ⊎_elim (λ w. stays s t out w.2) (λ w. f w.0 w.1 w.2) (told_ways o s is v out t h)

  -- one that leaves the values
  decided_state : (o : Option Refusal) (s t : Shelf V) (is : Outcome) (v : State) (out : Outcome) → ValuesStay s (Told o s.state is v) out t → (o ≡ None → out ≡ is → t ≡ with_state s v → Moves s t out) → Moves s t out
  decided_state o s t is v out h f = ⊎_elim (λ w. stays s t out w.2) (λ w. f w.0 w.1 w.2) (stays_ways o s is v out t h)

  -- in a run no message is stray
  handed_out : (s t : Shelf V) (p : ℕ) (out : Outcome) → Inv s.state → s.state.servers.standing p ≡ true → HandsOut s.state p out t.state → t ≡ with_state s t.state → Moves s t out
  handed_out s t p out i u h e =
      let r = h.message.row.0 in
      let f = phase_number h.message.phase in
      let some = waits_some s.state.waiting p h.message h.waits in
      let tagged = i.names.waiting p r f some in
      let none = i.base.zero_tag in
      let sound : is_stray s.state.journal r ≡ false = (⊎_elim (λ z. absurd (let q = ap s.state.journal.tag z in omega arith)) (λ nz. grind (arith, nat_tests)) (cases_eq r 0)) in
      changes s t out _ (delivered_event s.state p r f (phase_one_two h.message.phase) u some) (e ∙ ap (with_state s) (rw sound at h.leaves))

  -- a delivery, refused or not
  delivers : (o : Option Refusal) (s t : Shelf V) (p : ℕ) (out : Outcome) → Inv s.state → (o ≡ None → s.state.servers.standing p ≡ true) → ValuesStay s (Delivers o s.state p) out t → Moves s t out
  delivers (Some e) s t p out i u h = stays s t out (h.1 ∙ ap (with_state s) h.0.1)
  delivers None s t p out i u (inl h, e) = stays s t out (e ∙ ap (with_state s) h.2)
  delivers None s t p out i u (inr h, e) = handed_out s t p out i (u refl) h e

  -- each call in a run is an event
  pub moves : (s t : Shelf V) (c : Call V) (o : Outcome) → Inv s.state → Step s c o t → Moves s t o
  moves s t (Write c p v) o i h = decided _ s t _ _ o h (λ n is e.
      rw e (record { more = 1; event = writing c p (write_accepts s.state s.rows c p n); new_row = inr (refl, is); rows = refl; values = λ r l. grind (arith, nat_tests) }))
  moves s t (Read c p) o i h = decided_state _ s t _ _ o h (λ n is e.
      rw e (record { more = 1; event = reading c p (read_accepts s.state c p n); new_row = inr (refl, is); rows = refl; values = λ r l. refl }))
  moves s t (GiveUp c) o i h = decided_state _ s t _ _ o h (λ n is e. changes s t o _ (gives_up_event s.state c (open_row s.state.journal c) (λ r q. (least_passes (is_open_of s.state.journal c) (λ k. k) 256 r q).1)) e)
  moves s t (Turn p) o i h = decided_state _ s t _ _ o h (λ n is e.
      changes s t o _ (turns_event s.state p (chosen_group s.state p) (server_passed s.state p _ n).1 (λ j q. (least_passes (group_waits s.state p) (counts_before s.state.servers p) 8 j q).1)) e)
  moves s t (Deliver p) o i h = delivers _ s t p o i (λ n. (server_passed s.state p None n).1) h
  moves s t (Crash p) o i h = decided_state _ s t _ _ o h (λ n is e. let a = server_passed s.state p _ n in changes s t o _ (crashing p a.1 (eqb-false _ 1 (passed _ _ _ a.2).0)) e)
  moves s t (Notice p x) o i h = decided_state _ s t _ _ o h (λ n is e. let a = notice_accepts s.state p x n in changes s t o _ (notices_event s.state p x a.0 a.1) e)
  moves s t (Pick k) o i h = stays s t o h.1
