-- The keys of groups and of entries rank them as the rules do, so that the search finds what the rules name.
use Rattle.std.proofs.Common.{◌≡◌, ℕ, ◌<◌, Bool, List, length, get_or, Option, subst, arith}
use Rattle.std.proofs.lemmas.Bool.Decides.{nat_tests}
use Rattle.counting.specs.Below.{least}
use Rattle.servers.specs.Sets.{has}
use Rattle.model.specs.State.{Servers}
use Rattle.model.specs.ServerChanges.{counts_if}
use Rattle.choices.specs.declared.keys.GroupKey.{GroupKey}
use Rattle.operation.specs.declared.tag.Tag.{Tag}
use Rattle.operation.specs.Tags.{tag_below}
use Rattle.choices.specs.declared.keys.Candidate.{Candidate}
use Rattle.choices.specs.declared.keys.Candidate.TheVariants.{Absent, Waits}
use Rattle.choices.specs.Keys.{group_below, IsGroup, IsEntry, LeastWaiting}
use Rattle.choices.proofs.Found.{Ranked, the_least_waiting_is_least}

-- groups rank by count, then by number
groups_are_ranked : (keys : List (Candidate GroupKey)) (f : ℕ → Bool) (g : ℕ → ℕ) → ((j : ℕ) → j < length keys → IsGroup (f j) (g j) j (get_or keys j Absent)) → Ranked group_below keys f g
groups_are_ranked keys f g is =
    let at : (j : ℕ) (c : Candidate GroupKey) → j < length keys → get_or keys j Absent ≡ c → IsGroup (f j) (g j) j c = (λ j c l e. subst (λ c. IsGroup (f j) (g j) j c) e (is j l)) in
    record {
      absent = λ k l e. at k Absent l e;
      waiting = λ k a l e. (at k (Waits a) l e).0;
      no_larger = λ j k a b lj lk ej ek t. let x = at j (Waits a) lj ej in let y = at k (Waits b) lk ek in let x1 = x.1 in let y1 = y.1 in grind (arith, nat_tests);
      smaller = λ j k a b l lj ej ek t. let x = at j (Waits a) lj ej in let y = at k (Waits b) (omega arith) ek in let x1 = x.1 in let x2 = x.2 in let y1 = y.1 in let y2 = y.2 in grind (arith, nat_tests);
    }

-- entries rank by tag
entries_are_ranked : (keys : List (Candidate Tag)) (f : ℕ → Bool) (g : ℕ → ℕ) → ((k : ℕ) → k < length keys → IsEntry (f k) (g k) (get_or keys k Absent)) → Ranked tag_below keys f g
entries_are_ranked keys f g is =
    let at : (k : ℕ) (c : Candidate Tag) → k < length keys → get_or keys k Absent ≡ c → IsEntry (f k) (g k) c = (λ k c l e. subst (λ c. IsEntry (f k) (g k) c) e (is k l)) in
    record {
      absent = λ k l e. at k Absent l e;
      waiting = λ k a l e. (at k (Waits a) l e).0;
      no_larger = λ j k a b lj lk ej ek t. let x = at j (Waits a) lj ej in let y = at k (Waits b) lk ek in let x1 = x.1 in let x2 = x.2 in let y1 = y.1 in let y2 = y.2 in grind (arith, nat_tests);
      smaller = λ j k a b l lj ej ek t. let x = at j (Waits a) lj ej in let y = at k (Waits b) (omega arith) ek in let x1 = x.1 in let x2 = x.2 in let y1 = y.1 in let y2 = y.2 in grind (arith, nat_tests);
    }

-- the keys are those of the groups in the set, by the counts; so they are those of the groups that wait
pub keys_of_what_waits : (keys : List (Candidate GroupKey)) (v : Servers) (p set : ℕ) (some some_entry : Bool) (f : ℕ → Bool)
    → ((j : ℕ) → j < 8 → IsGroup (has set j) (counts_if some v p j) j (get_or keys j Absent)) → ((j : ℕ) → j < 8 → has set j ≡ f j) → some ≡ some_entry
    → (j : ℕ) → j < 8 → IsGroup (f j) (counts_if some_entry v p j) j (get_or keys j Absent)
keys_of_what_waits keys v p set some some_entry f is waits e j l =
    subst (λ w. IsGroup w (counts_if some_entry v p j) j (get_or keys j Absent)) (waits j l)
    (subst (λ b. IsGroup (has set j) (counts_if b v p j) j (get_or keys j Absent)) e (is j l))

-- the group found is the one that the rules choose
pub the_group_found_is_least : (keys : List (Candidate GroupKey)) (f : ℕ → Bool) (g : ℕ → ℕ) → length keys ≡ 8 → ((k : ℕ) → k < 8 → IsGroup (f k) (g k) k (get_or keys k Absent))
    → (o : Option ℕ) → LeastWaiting group_below keys o → o ≡ least f g 8
the_group_found_is_least keys f g sized is o found =
    subst (λ n. o ≡ least f g n) sized (the_least_waiting_is_least group_below keys f g (groups_are_ranked keys f g (λ k l. is k (omega (arith, sized)))) o found)

-- the entry found is the first one by the rules
pub the_entry_found_is_least : (keys : List (Candidate Tag)) (f : ℕ → Bool) (g : ℕ → ℕ) → length keys ≡ 256 → ((k : ℕ) → k < 256 → IsEntry (f k) (g k) (get_or keys k Absent))
    → (o : Option ℕ) → LeastWaiting tag_below keys o → o ≡ least f g 256
the_entry_found_is_least keys f g sized is o found =
    subst (λ n. o ≡ least f g n) sized (the_least_waiting_is_least tag_below keys f g (entries_are_ranked keys f g (λ k l. is k (omega (arith, sized)))) o found)
