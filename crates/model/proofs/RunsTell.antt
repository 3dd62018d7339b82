-- What the journal says of give-ups and crashes is told by the run: an operation that is given up was given up by its client in a call, and a server that no call made crash still stands.
-- The call is found by going back through the run; while a client's operation is open, its writes and reads are refused.
use Rattle.std.proofs.Common.{◌≡◌, ℕ, zero, suc, ◌<◌, ◌≤◌, true, false, sym, refl, ap, ◌∙◌, subst, ⊎_elim, arith}
use Rattle.std.proofs.lemmas.Bool.Decides.{nat_tests}
use Rattle.std.proofs.lemmas.Bool.{cases_Bool, cases_eq, cases_lt, true≢false}
use Rattle.counting.proofs.Searches.{none_passes, least_passes}
use Rattle.model.specs.declared.Call.TheVariants.{Crash}
use Rattle.model.specs.declared.Outcome.TheVariants.{Done}
use Rattle.model.specs.State.{State, is_open_of}
use Rattle.model.specs.Runs.{Run, Begins}
use Rattle.model.specs.Draining.{AsksBy, GivenUp}
use Rattle.model.proofs.AlongRuns.{carry, fresh, inv_at, kept, birth}
use Rattle.model.proofs.GiveUpsAndCrashes.{GivesUp, Crashes, ways}

module _ {V : Type 0} (run : Run V) where
  -- a server that no call makes crash stands on
  pub stands_on : (p : ℕ) → ((i : ℕ) → i < run.length → run.call i ≡ Crash p → run.outcome i ≡ Done → ⊥) → (i j : ℕ) → i ≤ j → j ≤ run.length → (run.at i).state.servers.standing p ≡ true → (run.at j).state.servers.standing p ≡ true
  stands_on p none i j l m u = carry run (λ k. (run.at k).state.servers.standing p ≡ true) step j i l m u
    where
      crashed : (k : ℕ) → k < run.length → (run.at k).state.servers.standing p ≡ true → Crashes (run.at k) (run.call k) (run.outcome k) (run.at (suc k)) → (run.at (suc k)).state.servers.standing p ≡ true
      crashed k b h c = ⊎_elim
          (λ e. absurd (none k b (c.is ∙ ap Crash (sym e)) c.accepted))
          (λ (ne : p ≡ c.server → ⊥). rw c.leaves (grind (arith, nat_tests)))
          (cases_eq p c.server)

      step : (k : ℕ) → k < run.length → (run.at k).state.servers.standing p ≡ true → (run.at (suc k)).state.servers.standing p ≡ true
      step k b h = ⊎_elim
          (λ w. w.1 p h)
          (λ w. ⊎_elim (λ g. rw g.leaves h) (crashed k b h) w)
          (ways (run.at k) (run.call k) (run.outcome k) (run.at (suc k)) (run.steps k b))

  -- call k gives up operation r
  record GivesUpIn (r k : ℕ) : Type 0 where
    within : k < run.length
    gives : GivesUp (run.at k) (run.call k) (run.outcome k) (run.at (suc k))
    it : gives.row ≡ r

  -- the call after which it is given up
  gives_up_in : (r k : ℕ) → k < run.length → (run.at k).state.journal.given_up r ≡ false → (run.at (suc k)).state.journal.given_up r ≡ true → GivesUpIn r k
  gives_up_in r k l f t = ⊎_elim
      (λ w. absurd (true≢false (sym t ∙ w.0 r f)))
      (λ w. ⊎_elim
      (λ g. record { within = l; gives = g; it = (let e = ap (λ (s : State). s.journal.given_up r) g.leaves in grind (arith, nat_tests)) })
      (λ c. absurd (true≢false (sym t ∙ ap (λ (s : State). s.journal.given_up r) c.leaves ∙ f)))
      w)
      (ways (run.at k) (run.call k) (run.outcome k) (run.at (suc k)) (run.steps k l))

  -- what is given up was given up in a call
  given_up_in_a_call : (r j : ℕ) → j ≤ run.length → (run.at j).state.journal.given_up r ≡ true → (k : ℕ) × GivesUpIn r k
  given_up_in_a_call r zero l h = absurd (true≢false (sym h ∙ ap (λ (s : State). s.journal.given_up r) (fresh run).is))
  given_up_in_a_call r (suc j) l h = ⊎_elim
      (λ t. given_up_in_a_call r j (omega arith) t)
      (λ f. (j, gives_up_in r j l f h))
      (cases_Bool ((run.at j).state.journal.given_up r))

  -- the client that began operation r
  began_by : (r i : ℕ) → Begins run r i → (c : ℕ) × AsksBy (run.call i) c
  began_by r i b = ⊎_elim
      (λ w. (w.0, rw w.3 refl))
      (λ w. (w.0, rw w.2 refl))
      (birth run r i b).kind

  module _ (r i : ℕ) (b : Begins run r i) (k : ℕ) (g : GivesUpIn r k) where
    -- the client that gives up
    c : ℕ
    c = g.gives.client

    -- it was open and its own when the client gave up
    open_then : is_open_of (run.at k).state.journal c r ≡ true
    unfolding c
    open_then = subst (λ x. is_open_of (run.at k).state.journal g.gives.client x ≡ true) g.it (least_passes (is_open_of (run.at k).state.journal g.gives.client) (λ x. x) 256 g.gives.row g.gives.it).1

    -- so it had begun
    began_before : i < k
    began_before = ⊎_elim
        (λ l. l)
        (λ l.
        let new = (birth run r i b).is_new in
        let more = (kept run i k l (let x = b.within in omega arith)).used in
        let low : r < (run.at k).state.journal.used = (let o = open_then in grind (arith, nat_tests)) in
        absurd (omega arith))
        (cases_lt i k)

    -- it stays the operation of the client that began it
    same_client : (m : ℕ) → i < m → m ≤ run.length → (run.at m).state.journal.client r ≡ (began_by r i b).0
    same_client m l h = (kept run m (suc i) l h).client r (birth run r i b).low ∙ (birth run r i b).client _ (began_by r i b).1

    -- which is the one that gave up
    gave_up_its_own : (began_by r i b).0 ≡ c
    gave_up_its_own = sym (same_client k began_before (let l = g.within in omega arith)) ∙ (let o = open_then in grind (arith, nat_tests))

    -- it was open all the time between
    open_between : (m : ℕ) → i < m → m < k → is_open_of (run.at m).state.journal c r ≡ true
    open_between m l h =
        let within = g.within in
        let o = open_then in
        let on = kept run k m (omega arith) (omega arith) in
        let low : r < (run.at m).state.journal.used = (let x = (kept run m (suc i) l (omega arith)).used in let y = (birth run r i b).low in omega arith) in
        let own : (run.at m).state.journal.client r ≡ c = same_client m l (omega arith) ∙ gave_up_its_own in
        let unanswered = on.answered r in
        let kept_up = on.given_up r low in
        grind (arith, nat_tests)

    -- so that client began no other
    none_between : (m other : ℕ) → i < m → m < k → Begins run other m → AsksBy (run.call m) c → ⊥
    none_between m other l h begins asks =
        let none = (birth run other m begins).free c asks in
        let o = open_between m l h in
        let low : r < 256 = (let x = (inv_at run m (let y = g.within in omega arith)).base.room in grind (arith, nat_tests)) in
        true≢false (sym o ∙ none_passes (is_open_of (run.at m).state.journal c) 256 none r low)

  -- an operation that is given up in the journal was given up in the run
  pub given_up_by_its_client : (r i : ℕ) → Begins run r i → (j : ℕ) → j ≤ run.length → (run.at j).state.journal.given_up r ≡ true → GivenUp run r
  unfolding c
  given_up_by_its_client r i b j l h =
      let w = given_up_in_a_call r j l h in
      let k = w.0 in
      let g = w.1 in
      record {
        start = i;
        begins = b;
        client = g.gives.client;
        asks = subst (AsksBy (run.call i)) (gave_up_its_own r i b k g) (began_by r i b).1;
        place = k;
        later = began_before r i b k g;
        within = g.within;
        is = g.gives.is;
        accepted = g.gives.accepted;
        none_between = none_between r i b k g;
      }
