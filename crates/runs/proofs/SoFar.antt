-- The calls played so far, and that they make a run: each call adds the shelf that it leaves, and a run is read off the two lists and the shelves.
use Rattle.std.proofs.Common.{◌≡◌, ℕ, suc, ◌<◌, cond, leb, List, [], ◌∷◌, ◌++◌, length, get_or, sym, refl, ◌∙◌, ⊎_elim, arith}
use Rattle.std.proofs.lemmas.List.{length-append, get_or_append_left, get_or_at, get_or_default}
use Rattle.std.proofs.lemmas.Bool.{cases_lt, le-leb, lt-leb}
use Rattle.model.specs.declared.Call.{Call}
use Rattle.model.specs.declared.Call.TheVariants.{Pick}
use Rattle.model.specs.declared.Outcome.{Outcome}
use Rattle.model.specs.declared.Outcome.TheVariants.{Done}
use Rattle.model.specs.State.{Shelf}
use Rattle.model.specs.Steps.{Step}
use Rattle.model.specs.Runs.{New, Run}
use Rattle.model.proofs.Order.{one_order}
use Rattle.drained.proofs.OwesNothing.{ends_well}
use Rattle.runs.specs.Prefixes.{prefix}
use Rattle.runs.specs.Plays.{PlaysTheRun}

module _ {V : Type 0} where
  -- the first calls of the list were played from the shelf s on, one for each outcome, and left the shelf t
  pub record SoFar (s : Shelf V) (calls : List (Call V)) (outcomes : List Outcome) (t : Shelf V) : Type 0 where
    pub at : ℕ → Shelf V
    pub first_is : at 0 ≡ s
    pub last_is : at (length outcomes) ≡ t
    pub steps : (i : ℕ) → i < length outcomes → Step (at i) (get_or calls i (Pick 0)) (get_or outcomes i Done) (at (suc i))

  -- no call yet
  pub nothing_played : (s : Shelf V) (calls : List (Call V)) → SoFar s calls [] s
  nothing_played s calls = record { at = λ i. s; first_is = refl; last_is = refl; steps = λ i l. absurd (omega arith) }

  -- the shelves up to the n-th, and then t
  abbrev then : ℕ → (ℕ → Shelf V) → Shelf V → ℕ → Shelf V
  then n at t i = cond (leb i n) (at i) t

  -- one call more
  pub one_more_played : (s t u : Shelf V) (calls : List (Call V)) (outcomes : List Outcome) (call : Call V) (outcome : Outcome)
      → SoFar s calls outcomes t → length outcomes < length calls → call ≡ get_or calls (length outcomes) call → Step t call outcome u
      → SoFar s calls (outcomes ++ outcome ∷ []) u
  one_more_played s t u calls outcomes call outcome before room is step =
      let n = length outcomes in
      let longer : length (outcomes ++ outcome ∷ []) ≡ suc n = length-append outcomes (outcome ∷ []) ∙ omega arith in
      let next : call ≡ get_or calls n (Pick 0) = is ∙ get_or_default calls n call (Pick 0) room in
      let told : get_or (outcomes ++ outcome ∷ []) n Done ≡ outcome = get_or_at outcomes outcome [] Done n refl in
      let here : Step (before.at n) (get_or calls n (Pick 0)) (get_or (outcomes ++ outcome ∷ []) n Done) u = rw (sym next, told, before.last_is) step in
      record {
        at = then n before.at u;
        first_is = rw (le-leb 0 n (omega arith)) before.first_is;
        last_is = rw (longer, lt-leb (suc n) n (omega arith));
        steps = λ i below. ⊎_elim
            (λ low. rw (le-leb i n (omega arith), le-leb (suc i) n low, get_or_append_left outcomes (outcome ∷ []) Done i low) (before.steps i low))
            (λ top. let e : i ≡ n = omega arith in
            rw (e, le-leb n n (omega arith), lt-leb (suc n) n (omega arith)) here)
            (cases_lt i n);
      }

  -- once every call was played on a new shelf, both promises hold of the run
  pub all_played : (first : V) (s t : Shelf V) (calls : List (Call V)) (outcomes : List Outcome) (new : New first s)
      → SoFar s calls outcomes t → length outcomes ≡ length calls → PlaysTheRun outcomes new.size first calls
  all_played first s t calls outcomes new done all =
      let run : Run V = record {
        first = first;
        length = length calls;
        at = done.at;
        call = λ i. get_or calls i (Pick 0);
        outcome = λ i. get_or outcomes i Done;
        new = rw done.first_is new;
        steps = λ i below. done.steps i (omega arith);
      } in
      record {
        run = run;
        first_is = refl;
        size_is = refl;
        all_played = refl;
        all_told = all;
        calls_are = λ i below d. get_or_default calls i (Pick 0) d below;
        outcomes_are = λ i below d. get_or_default outcomes i Done d (omega arith);
        one_order = one_order run;
        drains = λ l within k. ends_well (prefix run l within) k;
      }
