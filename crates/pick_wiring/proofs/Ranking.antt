-- The place behind n sorted ones has rank n, and the rank is how many messages wait before it.
-- Before a place come the places of the rows below and, for a write, the pre-write of its own row: that count depends only on how often each place stands in the list.
use Rattle.std.proofs.Common.{◌≡◌, ℕ, zero, suc, ◌+◌, ◌%◌, ◌<◌, ◌≤◌, true, false, cond, ◌&&◌, eqb, ltb, List, [], ◌∷◌, length, get_or, Some, None, Option, sym, refl, ap, ◌∙◌, subst, ⊎_elim, arith}
use mathlib.Core.Path.{fun_ext}
use Rattle.std.proofs.lemmas.Bool.{cases_eq}
use Rattle.std.proofs.lemmas.Bool.Decides.{nat_tests}
use Rattle.counting.specs.Below.{sum}
use Rattle.masks.specs.Listed.{Names, is_named, no_place, rows_hold, times}
use Rattle.masks.specs.Lines.{place_of}
use Rattle.masks.specs.Table.{Masks}
use Rattle.masks.proofs.Listing.{in_rows, messages_are_places, places_add_up}
use Rattle.messages.specs.declared.Phase.{Phase}
use Rattle.messages.specs.declared.Phase.TheVariants.{PreWrite, Write}
use Rattle.messages.specs.declared.Message.{Message}
use Rattle.messages.specs.declared.Place.{Place}
use Rattle.messages.specs.Phases.{phase_number}
use Rattle.messages.specs.Places.{before, is_before, place_below}
use Rattle.pick_wiring.specs.Order.{masks_before, places_before}
use Rattle.pick_wiring.specs.Picks.{Picks}
use Rattle.pick_wiring.specs.Piled.{Picked, Ranks, Removed, SortedFront}

-- one place before another counts by its row, or as the pre-write of the row
one_place_before : (f g : Phase) (a row : ℕ)
    → cond (ltb a row) 1 0 + cond (eqb (phase_number f) 2) (cond (eqb a row && eqb (phase_number g) 1) 1 0) 0 ≡ cond {A = ℕ} (before a (phase_number g) row (phase_number f)) 1 0
one_place_before PreWrite PreWrite a row = grind (arith, nat_tests)
one_place_before PreWrite Write a row = grind (arith, nat_tests)
one_place_before Write PreWrite a row = grind (arith, nat_tests)
one_place_before Write Write a row = grind (arith, nat_tests)

a_write_counts_its_pre_write : (f : Phase) (a b c : ℕ) → a + cond (eqb (phase_number f) 2) b 0 + cond (eqb (phase_number f) 2) c 0 ≡ a + cond (eqb (phase_number f) 2) (b + c) 0
a_write_counts_its_pre_write PreWrite a b c = omega arith
a_write_counts_its_pre_write Write a b c = omega arith

the_places_before : (xs : List Place) (f : Phase) (row : ℕ) → places_before xs row (phase_number f) ≡ in_rows xs row + cond (eqb (phase_number f) 2) (times xs row 1) 0
the_places_before [] PreWrite row = refl
the_places_before [] Write row = refl
the_places_before (x ∷ xs) f row =
    omega (arith, the_places_before xs f row, one_place_before f x.phase x.row.0 row, a_write_counts_its_pre_write f (in_rows xs row) (cond (eqb x.row.0 row && eqb (phase_number x.phase) 1) 1 0) (times xs row 1))

-- lists with the same places have as many before one
same_places_same_rank : (xs ys : List Place) (x : Place) (n : ℕ) → ((row phase : ℕ) → times ys row phase ≡ times xs row phase) → Ranks ys x n → Ranks xs x n
same_places_same_rank xs ys x n same r =
    let row = x.row.0 in
    let rows : in_rows ys row ≡ in_rows xs row
    = sym (places_add_up ys row) ∙ (ap (λ f. sum f row) (fun_ext (λ k. omega (arith, same k 1, same k 2))) ∙ places_add_up xs row) in
    let a = the_places_before xs x.phase row in
    let b = the_places_before ys x.phase row in
    let first = ap (λ k. cond (eqb (phase_number x.phase) 2) k 0) (same row 1) in
    let here = same row (phase_number x.phase) in
    record { low = omega (arith, r.low, rows, a, b, first); high = omega (arith, r.high, rows, a, b, first, here) }

none_comes_before : (xs : List Place) (row phase : ℕ) → ((k : ℕ) → k < length xs → is_before (get_or xs k no_place) row phase ≡ false) → places_before xs row phase ≡ 0
none_comes_before [] row phase h = refl
none_comes_before (x ∷ xs) row phase h =
    let first = h 0 (omega arith) in
    let rest = none_comes_before xs row phase (λ k l. h (suc k) (omega arith)) in
    grind (arith, nat_tests)

-- n places that are not above a place, that place, and none below it behind
behind_n_places_the_rank_is_n : (xs : List Place) (n row phase : ℕ) → n < length xs → is_named (get_or xs n no_place) row phase ≡ true
    → ((k : ℕ) → k < n → before row phase (get_or xs k no_place).row.0 (phase_number (get_or xs k no_place).phase) ≡ false)
    → ((k : ℕ) → n ≤ k → k < length xs → is_before (get_or xs k no_place) row phase ≡ false)
    → (places_before xs row phase ≤ n) × (n < places_before xs row phase + times xs row phase)
behind_n_places_the_rank_is_n [] n row phase l named front behind = absurd (omega arith)
behind_n_places_the_rank_is_n (x ∷ xs) zero row phase l named front behind =
    let none = none_comes_before (x ∷ xs) row phase (λ k h. behind k (omega arith) h) in
    let one : 0 < times (x ∷ xs) row phase = grind (arith, nat_tests) in
    (omega (arith, none), omega (arith, none, one))
behind_n_places_the_rank_is_n (x ∷ xs) (suc n) row phase l named front behind =
    let rest = behind_n_places_the_rank_is_n xs n row phase (omega arith) named (λ k h. front (suc k) (omega arith)) (λ k h m. behind (suc k) (omega arith) (omega arith)) in
    let not_above = front 0 (omega arith) in
    let once : cond {A = ℕ} (is_before x row phase) 1 0 + cond (is_named x row phase) 1 0 ≡ 1 = grind (arith, nat_tests) in
    (omega (arith, rest.0, once), omega (arith, rest.1, once))

none_is_below_itself : (x : Place) → place_below x x ≡ false
none_is_below_itself x = grind (arith, nat_tests)

-- what sorting the front and removing its last place picks
pub the_place_of_a_rank : (xs ys zs : List Place) (number n : ℕ) (r : Option Place) → n ≡ number % length xs → n < length xs
    → SortedFront xs (n + 1) ys → Removed ys n r zs → Picked xs number r zs
the_place_of_a_rank xs ys zs number n None e low s (past, kept) = absurd (omega (arith, s.long, past, low))
the_place_of_a_rank xs ys zs number n (Some x) e low s (inside, is, without) =
    let y = get_or ys n no_place in
    let self : is_named y y.row.0 (phase_number y.phase) ≡ true = grind (arith, nat_tests) in
    let behind : (k : ℕ) → n ≤ k → k < length ys → place_below (get_or ys k no_place) y ≡ false = λ k l m. ⊎_elim
    (λ (same : k ≡ n). ap (λ i. place_below (get_or ys i no_place) y) same ∙ none_is_below_itself y)
    (λ other. s.sorted n k (omega arith) (omega arith) (omega (arith, s.long, m)))
    (cases_eq k n) in
    let r = behind_n_places_the_rank_is_n ys n y.row.0 (phase_number y.phase) inside self (λ k l. s.sorted k n (omega arith) l low) behind in
    let ranks : Ranks ys y n = record { low = r.0; high = r.1 } in
    (subst (Ranks xs x) e (same_places_same_rank xs ys x n s.same (subst (λ z. Ranks ys z n) (sym is) ranks)), λ row phase. sym (s.same row phase) ∙ without row phase)

-- how many messages wait before a place that is named: its rank
the_rank_counts_messages : (xs : List Place) (masks : Masks) (x : Place) (n : ℕ) → Names xs masks → Ranks xs x n → masks_before masks x.row.0 (phase_number x.phase) ≡ n
the_rank_counts_messages xs masks x n names r =
    let row = x.row.0 in
    let phase = phase_number x.phase in
    let rows = messages_are_places xs masks row names in
    let first = ap (λ k. cond (eqb phase 2) k 0) (names row 1) in
    let here : times xs row phase ≤ 1 = (let t = names row phase in grind (arith, nat_tests)) in
    omega (arith, rows, first, here, the_places_before xs x.phase row, r.low, r.high)

-- the message of a place that goes out at a rank is the one that the number picks; none is where there is no place
pub a_rank_picks_a_message : (xs ys : List Place) (masks : Masks) (number : ℕ) (m : Option Message) → Names xs masks → length xs ≡ rows_hold masks 256
    → Picked xs number (place_of m) ys → Picks masks number m
a_rank_picks_a_message xs ys masks number None names long (none, left) = sym long ∙ ap length none
a_rank_picks_a_message xs ys masks number (Some m) names long (ranks, left) =
    the_rank_counts_messages xs masks (record { row = m.row; phase = m.phase }) (number % length xs) names ranks ∙ ap (λ n. number % n) long
