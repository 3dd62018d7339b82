-- A crashed server has nothing to forward, and no message waits for it.
-- A crash empties its masks and clears what waits for it; every other event gives entries and messages to standing servers alone.
use Rattle.std.proofs.Common.{◌≡◌, ℕ, ◌≤◌, Bool, true, false, arith}
use Rattle.std.proofs.lemmas.Bool.Decides.{nat_tests}
use Rattle.model.specs.State.{State}
use Rattle.model.specs.Sending.{next_of, posted, gone}
use Rattle.model.specs.Turns.{releases_prewrite, releases_write}
use Rattle.model.specs.Deliveries.{keeps_prewrite, keeps_write}
use Rattle.model.specs.Crashes.{crashes, learns, sends_held, posts_pending}
use Rattle.model.specs.Runs.{Run}
use Rattle.model.proofs.Inv.{Inv}
use Rattle.model.proofs.Events.{Event, nothing, writing, reading, giving_up, passing_write, passing_prewrite, starting, ending_prewrite, keeping_prewrite, ending_write, keeping_write, crashing, noticing, turning_on}
use Rattle.drained.proofs.KeptAlongRuns.{HoldsWhenNew, holds_all_along}

-- crashed servers have nothing, over the tables that this speaks of
pub record Idle (standing : ℕ → Bool) (forward_prewrite forward_write : ℕ → ℕ → ℕ) (waiting : ℕ → ℕ → ℕ → ℕ) : Type 0 where
  pub no_prewrite : (p r : ℕ) → standing p ≡ false → forward_prewrite p r ≡ 0
  pub no_write : (p r : ℕ) → standing p ≡ false → forward_write p r ≡ 0
  pub no_message : (p r f : ℕ) → standing p ≡ false → waiting p r f ≡ 0

-- crashed servers have nothing in this state
abbrev pub CrashedIdle : State → Type 0
CrashedIdle s = Idle s.servers.standing s.servers.forward_prewrite s.servers.forward_write s.waiting

-- a message is put to wait, if its server stands
posted_idle : (s : State) (q r f m : ℕ) → CrashedIdle s → CrashedIdle (posted s q r f m)
posted_idle s q r f m i = record { no_prewrite = i.no_prewrite; no_write = i.no_write; no_message = λ x k g d. let a = i.no_message x k g d in grind (arith, nat_tests) }

-- a message is taken out
gone_idle : (s : State) (p r f : ℕ) → CrashedIdle s → CrashedIdle (gone s p r f)
gone_idle s p r f i = record { no_prewrite = i.no_prewrite; no_write = i.no_write; no_message = λ x k g d. let a = i.no_message x k g d in grind (arith, nat_tests) }

-- a standing server is to forward a pre-write
keeps_prewrite_idle : (s : State) (p r m : ℕ) → s.servers.standing p ≡ true → CrashedIdle s → CrashedIdle (keeps_prewrite s p r m)
keeps_prewrite_idle s p r m u i = record { no_prewrite = λ x k d. let a = i.no_prewrite x k d in grind (arith, nat_tests); no_write = i.no_write; no_message = i.no_message }

-- a standing server is to forward a write
keeps_write_idle : (s : State) (p r m : ℕ) → s.servers.standing p ≡ true → CrashedIdle s → CrashedIdle (keeps_write s p r m)
keeps_write_idle s p r m u i = record { no_prewrite = i.no_prewrite; no_write = λ x k d. let a = i.no_write x k d in grind (arith, nat_tests); no_message = i.no_message }

-- a write leaves what is to be forwarded
releases_write_idle : (s : State) (p r : ℕ) → CrashedIdle s → CrashedIdle (releases_write s p r)
releases_write_idle s p r i = record { no_prewrite = i.no_prewrite; no_write = λ x k d. let a = i.no_write x k d in grind (arith, nat_tests); no_message = i.no_message }

-- a pre-write leaves what is to be forwarded
releases_prewrite_idle : (s : State) (p r : ℕ) → CrashedIdle s → CrashedIdle (releases_prewrite s p r)
releases_prewrite_idle s p r i = record { no_prewrite = λ x k d. let a = i.no_prewrite x k d in grind (arith, nat_tests); no_write = i.no_write; no_message = i.no_message }

-- a server crashes: from then on it has nothing
crashes_idle : (s : State) (p : ℕ) → CrashedIdle s → CrashedIdle (crashes s p)
crashes_idle s p i = record {
  no_prewrite = λ x k d. let a = i.no_prewrite x k in grind (arith, nat_tests);
  no_write = λ x k d. let a = i.no_write x k in grind (arith, nat_tests);
  no_message = λ x k f d. let a = i.no_message x k f in grind (arith, nat_tests);
}

-- the pending rows are put to wait, if their server stands
posts_pending_idle : (s : State) (p q : ℕ) → CrashedIdle s → CrashedIdle (posts_pending s p q)
posts_pending_idle s p q i = record { no_prewrite = i.no_prewrite; no_write = i.no_write; no_message = λ y k f d. let a = i.no_message y k f d in grind (arith, nat_tests) }

-- one clause for each kind of event
event_keeps_crashed_idle : {s : State} {more : ℕ} {t : State} → Event s more t → Inv s → CrashedIdle s → CrashedIdle t
event_keeps_crashed_idle nothing v i = i
event_keeps_crashed_idle (writing c p a) v i = i
event_keeps_crashed_idle (reading c p a) v i = i
event_keeps_crashed_idle (giving_up c r h) v i = i
event_keeps_crashed_idle {s} (passing_write p j r u w) v i = posted_idle (releases_write s p r) (next_of s p) r 2 _ (releases_write_idle s p r i)
event_keeps_crashed_idle {s} (passing_prewrite p j r u w) v i = posted_idle (releases_prewrite s p r) (next_of s p) r 1 _ (releases_prewrite_idle s p r i)
event_keeps_crashed_idle {s} (starting p j r u w) v i = posted_idle s (next_of s p) r 1 _ i
event_keeps_crashed_idle {s} (ending_prewrite p r u w e) v i = posted_idle (gone s p r 1) (next_of s p) r 2 _ (gone_idle s p r 1 i)
event_keeps_crashed_idle {s} (keeping_prewrite p r u w e) v i = keeps_prewrite_idle (gone s p r 1) p r _ u (gone_idle s p r 1 i)
event_keeps_crashed_idle {s} (ending_write p r u w e) v i = gone_idle s p r 2 i
event_keeps_crashed_idle {s} (keeping_write p r u w e) v i = keeps_write_idle (gone s p r 2) p r _ u (gone_idle s p r 2 i)
event_keeps_crashed_idle {s} (crashing p u m) v i = crashes_idle s p i
event_keeps_crashed_idle (noticing p x u d ne) v i = i
event_keeps_crashed_idle {s} (turning_on p x u d e) v i = posts_pending_idle (sends_held (learns s p x) p) p _ (posted_idle (learns s p x) _ (s.servers.held p) 2 _ i)

-- in a new ring there is nothing at all
new_crashed_idle : HoldsWhenNew CrashedIdle
new_crashed_idle n waiting none = record { no_prewrite = λ p r d. grind (arith, nat_tests); no_write = λ p r d. grind (arith, nat_tests); no_message = λ p r f d. none p r f }

-- crashed servers have nothing all along a run
pub crashed_idle_at : {V : Type 0} (run : Run V) (j : ℕ) → j ≤ run.length → CrashedIdle (run.at j).state
crashed_idle_at = holds_all_along CrashedIdle new_crashed_idle record { event = λ e i h. event_keeps_crashed_idle e i h }
