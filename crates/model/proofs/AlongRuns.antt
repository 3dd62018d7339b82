-- What every shelf of a run keeps: the invariant, and what is settled in the journal; and how each used row came to be.
-- What holds of the new shelf and passes from each call to the next holds at every call.
use Rattle.std.proofs.Common.{◌≡◌, ℕ, zero, suc, ◌<◌, ◌≤◌, true, false, ◌⊎◌, sym, refl, ap, ◌∙◌, subst, inl, inr, ⊎_elim, le_trans, arith}
use Rattle.std.proofs.lemmas.Bool.{cases_eq, cases_lt}
use Rattle.model.specs.declared.Outcome.TheVariants.{Row}
use Rattle.model.specs.Runs.{Run, Begins, Wrote, Asked}
use Rattle.model.proofs.Inv.{Inv}
use Rattle.model.proofs.Onward.{Onward}
use Rattle.model.proofs.Events.{Moves, moves}
use Rattle.model.proofs.Calls.{event_inv}
use Rattle.model.proofs.Journals.{event_on}
use Rattle.model.proofs.Later.{Later, later_on}
use Rattle.model.proofs.Births.{Fresh, new_fresh, Born, born}

module _ {V : Type 0} (run : Run V) where
  -- what holds at a call and passes from each call to the next holds at each later call
  pub carry : (P : ℕ → Type 0) → ((k : ℕ) → k < run.length → P k → P (suc k)) → (j i : ℕ) → i ≤ j → j ≤ run.length → P i → P j
  carry P step zero i l m h = let e : i ≡ 0 = omega arith in subst P e h
  carry P step (suc j) i l m h = ⊎_elim (λ e. subst P e h) (λ ne. step j m (carry P step j i (omega arith) (omega arith) h)) (cases_eq i (suc j))

  -- the first shelf is new
  pub fresh : Fresh run.first (run.at 0)
  fresh = new_fresh run.first (run.at 0) run.new

  -- the invariant holds at every call
  pub inv_at : (j : ℕ) → j ≤ run.length → Inv (run.at j).state
  inv_at j m = carry (λ k. Inv (run.at k).state) (λ k l i. event_inv (moves (run.at k) (run.at (suc k)) (run.call k) (run.outcome k) i (run.steps k l)).event i) j 0 (omega arith) m fresh.inv

  -- each call is an event
  pub move : (k : ℕ) → k < run.length → Moves (run.at k) (run.at (suc k)) (run.outcome k)
  move k l = moves (run.at k) (run.at (suc k)) (run.call k) (run.outcome k) (inv_at k (omega arith)) (run.steps k l)

  -- each call moves the journal onward
  pub onward_at : (k : ℕ) (l : k < run.length) → Onward (move k l).more (run.at k).state.journal (run.at (suc k)).state.journal
  onward_at k l = event_on (move k l).event (inv_at k (omega arith))

  -- there are always 256 value rows
  pub rows_at : (j : ℕ) → j ≤ run.length → (run.at j).rows ≡ 256
  rows_at j m = carry (λ k. (run.at k).rows ≡ 256) (λ k l e. (move k l).rows ∙ e) j 0 (omega arith) m fresh.rows

  -- what is settled in the journal at call i is so at call j
  pub record Kept (i j : ℕ) : Type 0 where
    pub used : (run.at i).state.journal.used ≤ (run.at j).state.journal.used
    pub is_write : (r : ℕ) → r < (run.at i).state.journal.used → (run.at j).state.journal.is_write r ≡ (run.at i).state.journal.is_write r
    pub answered : (r : ℕ) → (run.at i).state.journal.answered r ≡ true → (run.at j).state.journal.answered r ≡ true
    pub client : (r : ℕ) → r < (run.at i).state.journal.used → (run.at j).state.journal.client r ≡ (run.at i).state.journal.client r
    pub server : (r : ℕ) → r < (run.at i).state.journal.used → (run.at j).state.journal.server r ≡ (run.at i).state.journal.server r
    pub given_up : (r : ℕ) → r < (run.at i).state.journal.used → (run.at i).state.journal.given_up r ≡ true → (run.at j).state.journal.given_up r ≡ true

  -- what is settled stays so
  pub kept : (j i : ℕ) → i ≤ j → j ≤ run.length → Kept i j
  kept j i l m = carry (λ k. Kept i k)
      (λ k b h. let o = onward_at k b in record {
        used = let a = o.used in let c = h.used in omega arith;
        is_write = λ r low. o.is_write r (le_trans low h.used) ∙ h.is_write r low;
        answered = λ r d. o.answered r (h.answered r d);
        client = λ r low. o.client r (le_trans low h.used) ∙ h.client r low;
        server = λ r low. o.server r (le_trans low h.used) ∙ h.server r low;
        given_up = λ r low g. o.given_up r (le_trans low h.used) (h.given_up r low g);
      })
      j i l m (record { used = omega arith; is_write = λ r h. refl; answered = λ r h. h; client = λ r h. refl; server = λ r h. refl; given_up = λ r l h. h })

  -- what began after an answer stays later than it
  pub later_at : (j i a b : ℕ) → i ≤ j → j ≤ run.length → Later (run.at i).state.journal a b → Later (run.at j).state.journal a b
  later_at j i a b l m = carry (λ k. Later (run.at k).state.journal a b)
      (λ k c h. later_on (move k c).more _ _ _ _ _ _ (inv_at k (omega arith)).base (inv_at (suc k) c).base (onward_at k c) a b h) j i l m

  -- the call in which an operation begins
  pub birth : (b i : ℕ) → Begins run b i → Born (run.at i) (run.at (suc i)) (run.call i) b
  birth b i h = born (run.at i) (run.at (suc i)) (run.call i) (run.outcome i) b (inv_at i (let l = h.within in omega arith)) (run.steps i h.within) h.gives

  -- how a used row came to be
  abbrev pub Origin : ℕ → ℕ → Type 0
  Origin j r =
      (((run.at j).state.journal.is_write r ≡ true) × (0 < r → Wrote run r ((run.at j).values r)) × (r ≡ 0 → (run.at j).values r ≡ run.first))
      ⊎ (((run.at j).state.journal.is_write r ≡ false) × (0 < r) × Asked run r)

  -- each call leaves an origin to every used row
  origin_step : (k : ℕ) → k < run.length → ((r : ℕ) → r < (run.at k).state.journal.used → Origin k r) → (r : ℕ) → r < (run.at (suc k)).state.journal.used → Origin (suc k) r
  origin_step k l ih r low = ⊎_elim old new (cases_lt r (run.at k).state.journal.used)
    where
      old : r < (run.at k).state.journal.used → Origin (suc k) r
      old h = let v = move k l in let on = onward_at k l in let same = v.values r h in ⊎_elim
          (λ w. inl (on.is_write r h ∙ w.0, (λ pos. subst (Wrote run r) (sym same) (w.1 pos)), (λ e. same ∙ w.2 e)))
          (λ w. inr (on.is_write r h ∙ w.0, w.1, w.2))
          (ih r h)

      given : (run.at k).state.journal.used ≤ r → run.outcome k ≡ Row r
      given h = let v = move k l in let u = (onward_at k l).used in ⊎_elim
          (λ z. absurd (omega arith))
          (λ w. let z = w.0 in let e : (run.at k).state.journal.used ≡ r = omega arith in w.1 ∙ ap Row e)
          v.new_row

      new : (run.at k).state.journal.used ≤ r → Origin (suc k) r
      new h =
          let some = (inv_at k (omega arith)).base.some in
          let b : Begins run r k = record { within = l; gives = given h } in
          let is = birth r k b in
          ⊎_elim
          (λ w. inl (w.4, (λ pos. subst (Wrote run r) (sym w.5) (record { place = k; begins = b; client = w.0; server = w.1; is = w.3 })), (λ e. absurd (omega arith))))
          (λ w. inr (w.3, omega arith, record { place = k; begins = b; client = w.0; server = w.1; is = w.2 }))
          is.kind

  -- every used row has its origin in the run
  pub origin : (j : ℕ) → j ≤ run.length → (r : ℕ) → r < (run.at j).state.journal.used → Origin j r
  origin j m = carry (λ k. (r : ℕ) → r < (run.at k).state.journal.used → Origin k r) origin_step j 0 (omega arith) m
      (λ r low. let f = fresh in let e : r ≡ 0 = (let u = f.used in omega arith) in
      inl (ap (run.at 0).state.journal.is_write e ∙ f.is_write, (λ pos. absurd (omega arith)), (λ z. ap (run.at 0).values e ∙ f.values)))
