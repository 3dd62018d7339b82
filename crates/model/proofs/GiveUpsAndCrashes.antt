-- Only an accepted give-up gives an operation up, and only an accepted crash stops a server.
-- Each call is looked at by itself: all others leave both as they are.
use Rattle.std.proofs.Common.{◌≡◌, ℕ, Bool, true, false, cond, eqb, ltb, ◌⊎◌, Some, None, Option, refl, inl, inr, ⊎_elim, arith}
use Rattle.std.proofs.lemmas.Bool.Decides.{nat_tests}
use Rattle.servers.specs.Sets.{one}
use Rattle.messages.specs.Phases.{phase_number}
use Rattle.counting.specs.Below.{least}
use Rattle.model.specs.declared.Call.{Call}
use Rattle.model.specs.declared.Call.TheVariants.{Write, Read, GiveUp, Turn, Deliver, Crash, Notice, Pick}
use Rattle.model.specs.declared.Refusal.{Refusal}
use Rattle.model.specs.declared.Outcome.{Outcome}
use Rattle.model.specs.declared.Outcome.TheVariants.{Done}
use Rattle.model.specs.State.{State, Shelf, is_queued, is_stray}
use Rattle.model.specs.Refusals.{Told}
use Rattle.model.specs.Sending.{next_of, gone, sent}
use Rattle.model.specs.Operations.{refuse_give_up, gives_up, open_row}
use Rattle.model.specs.Turns.{chosen_group, has_entry_of, counted, forwards_prewrite, forwards_write, forwards_or_starts, turns}
use Rattle.model.specs.Deliveries.{ends_at, took, took_and_returned, keeps_prewrite, keeps_write, hears_prewrite, hears_write, delivered, HandsOut, Delivers}
use Rattle.model.specs.Crashes.{refuse_crash, crashes, learns, sends_held, sends_pending, notices}
use Rattle.model.specs.Steps.{Step}
use Rattle.model.proofs.Refusals.{told_ways}

-- from s to t no operation is given up and no server crashes
abbrev pub Stays : State → State → Type 0
Stays s t = ((r : ℕ) → s.journal.given_up r ≡ false → t.journal.given_up r ≡ false) × ((p : ℕ) → s.servers.standing p ≡ true → t.servers.standing p ≡ true)

-- where neither is touched
untouched : (given_up standing : ℕ → Bool) → ((r : ℕ) → given_up r ≡ false → given_up r ≡ false) × ((p : ℕ) → standing p ≡ true → standing p ≡ true)
untouched given_up standing = ((λ r h. h), (λ p h. h))

-- forwarding or starting
forwards_or_starts_stays : (s : State) (p j : ℕ) (a b : Option ℕ) → Stays s (forwards_or_starts (counted s p j) p a b)
forwards_or_starts_stays s p j (Some r) b = go (ltb 0 (s.servers.forward_write p r))
  where
    go : (c : Bool) → Stays s (cond c (forwards_write (counted s p j) p r) (forwards_prewrite (counted s p j) p r))
    go true = untouched _ _
    go false = untouched _ _
forwards_or_starts_stays s p j None (Some r) = untouched _ _
forwards_or_starts_stays s p j None None = untouched _ _

-- a turn
turns_stays : (s : State) (p : ℕ) (o : Option ℕ) → Stays s (turns s p o)
turns_stays s p None = untouched _ _
turns_stays s p (Some j) = forwards_or_starts_stays s p j (least (has_entry_of s p j) s.journal.tag 256) (least (is_queued s.journal p) (λ k. k) 256)

-- a delivery
delivered_stays : (s : State) (p r f : ℕ) → Stays s (delivered s p r f)
delivered_stays s p r f = go (eqb f 1)
  where
    hears_first : (b : Bool) → Stays s (cond b (sent (took (gone s p r f) p r) p r 2 (one p)) (keeps_prewrite (gone s p r f) p r (s.waiting p r f)))
    hears_first true = untouched _ _
    hears_first false = untouched _ _

    hears_second : (b : Bool) → Stays s (cond b (took_and_returned (gone s p r f) p r) (keeps_write (took_and_returned (gone s p r f) p r) p r (s.waiting p r f)))
    hears_second true = untouched _ _
    hears_second false = untouched _ _

    go : (b : Bool) → Stays s (cond b (hears_prewrite (gone s p r f) p r (s.waiting p r f)) (hears_write (gone s p r f) p r (s.waiting p r f)))
    go true = hears_first (ends_at (gone s p r f) p r (s.waiting p r f))
    go false = hears_second (ends_at (gone s p r f) p r (s.waiting p r f))

-- noticing a crash
notices_stays : (s : State) (p x : ℕ) → Stays s (notices s p x)
notices_stays s p x = go (eqb (next_of s p) x)
  where
    go : (b : Bool) → Stays s (cond b (sends_pending (sends_held (learns s p x) p) p) (learns s p x))
    go true = untouched _ _
    go false = untouched _ _

-- a message that is handed out, stray or not
handed_out_stays : (s : State) (p : ℕ) (out : Outcome) (after : State) → HandsOut s p out after → Stays s after
handed_out_stays s p out after w = rw w.leaves (go (is_stray s.journal w.message.row.0))
  where
    go : (b : Bool) → Stays s (cond b (gone s p w.message.row.0 (phase_number w.message.phase)) (delivered s p w.message.row.0 (phase_number w.message.phase)))
    go true = untouched _ _
    go false = delivered_stays s p w.message.row.0 (phase_number w.message.phase)

-- deliver, refused or not
delivers_stays : (o : Option Refusal) (s : State) (p : ℕ) (out : Outcome) (after : State) → Delivers o s p out after → Stays s after
delivers_stays (Some e) s p out after h = rw h.1 (untouched _ _)
delivers_stays None s p out after (inl h) = rw h.2 (untouched _ _)
delivers_stays None s p out after (inr w) = handed_out_stays s p out after w

-- a call that the rules decide, refused or not
told_stays : (o : Option Refusal) (s : State) (is : Outcome) (t : State) (out : Outcome) (after : State) → Told o s is t out after → Stays s t → Stays s after
told_stays (Some e) s is t out after h w = rw h.1 (untouched _ _)
told_stays None s is t out after h w = rw h.1 w

module _ {V : Type 0} where
  -- client c gives up its open operation, of row r
  pub record GivesUp (s : Shelf V) (c : Call V) (out : Outcome) (t : Shelf V) : Type 0 where
    pub client : ℕ
    pub row : ℕ
    pub is : c ≡ GiveUp client
    pub accepted : out ≡ Done
    pub it : open_row s.state.journal client ≡ Some row
    pub leaves : t.state ≡ gives_up s.state (Some row)

  -- a server crashes
  pub record Crashes (s : Shelf V) (c : Call V) (out : Outcome) (t : Shelf V) : Type 0 where
    pub server : ℕ
    pub is : c ≡ Crash server
    pub accepted : out ≡ Done
    pub leaves : t.state ≡ crashes s.state server

  -- the three ways of a call
  abbrev Ways : Shelf V → Call V → Outcome → Shelf V → Type 0
  Ways s c out t = Stays s.state t.state ⊎ (GivesUp s c out t ⊎ Crashes s c out t)

  -- a write
  wrote_stays : (s : Shelf V) (c p : ℕ) (v : V) (out : Outcome) (t : Shelf V) → Step s (Write c p v) out t → Stays s.state t.state
  wrote_stays s c p v out t h = ⊎_elim
      (λ x. rw x.2 (untouched _ _))
      (λ x. rw x.2 ((λ r g. grind (arith, nat_tests)), (λ q u. u)))
      (told_ways _ s _ _ out t h)

  -- a give-up
  gave_up : (s : Shelf V) (c : ℕ) (o : Option ℕ) (out : Outcome) (t : Shelf V) → open_row s.state.journal c ≡ o → out ≡ Done → t.state ≡ gives_up s.state o → Ways s (GiveUp c) out t
  gave_up s c None out t e d h = inl (rw h (untouched _ _))
  gave_up s c (Some r) out t e d h = inr (inl (record { client = c; row = r; is = refl; accepted = d; it = e; leaves = h }))

  -- what a call does to standing servers and to operations not given up
  pub ways : (s : Shelf V) (c : Call V) (out : Outcome) (t : Shelf V) → Step s c out t → Ways s c out t
  ways s (Write c p v) out t h = inl (wrote_stays s c p v out t h)
  ways s (Read c p) out t h = inl (told_stays _ s.state _ _ out t.state h.0 ((λ r g. grind (arith, nat_tests)), (λ q u. u)))
  ways s (GiveUp c) out t h = ⊎_elim
      (λ x. inl (rw x.2 (untouched _ _)))
      (λ x. gave_up s c _ out t refl x.1 x.2)
      (told_ways (refuse_give_up s.state c) s.state Done (gives_up s.state (open_row s.state.journal c)) out t.state h.0)
  ways s (Turn p) out t h = inl (told_stays _ s.state _ _ out t.state h.0 (turns_stays s.state p (chosen_group s.state p)))
  ways s (Deliver p) out t h = inl (delivers_stays _ s.state p out t.state h.0)
  ways s (Crash p) out t h = ⊎_elim
      (λ x. inl (rw x.2 (untouched _ _)))
      (λ x. inr (inr (record { server = p; is = refl; accepted = x.1; leaves = x.2 })))
      (told_ways (refuse_crash s.state p) s.state Done (crashes s.state p) out t.state h.0)
  ways s (Notice p x) out t h = inl (told_stays _ s.state _ _ out t.state h.0 (notices_stays s.state p x))
  ways s (Pick k) out t h = inl (rw h.1 (untouched _ _))
