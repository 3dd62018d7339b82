-- An exchange of two places: how often each place stands in the list, and where each place comes from.
use Rattle.std.proofs.Common.{◌≡◌, ℕ, ◌<◌, List, length, get_or, set, ap, ◌∙◌, ⊎_elim, arith}
use Rattle.std.proofs.lemmas.List.{get_or-set_same, get_or-set_other, length-set}
use Rattle.std.proofs.lemmas.Bool.{cases_eq}
use Rattle.masks.specs.Listed.{no_place, times}
use Rattle.masks.proofs.Listing.{hit}
use Rattle.messages.specs.declared.Place.{Place}
use Rattle.pick_wiring.specs.Piled.{exchanged}
use Rattle.pick_wiring.proofs.Removal.{one_for_another}

-- where each place comes from
pub the_first_comes_from_j : (xs : List Place) (i j : ℕ) → i < length xs → j < length xs → get_or (exchanged xs i j) i no_place ≡ get_or xs j no_place
the_first_comes_from_j xs i j l m =
    let u = get_or xs j no_place in
    let v = get_or xs i no_place in
    ⊎_elim
    (λ (e : i ≡ j). ap (λ k. get_or (set (set xs i u) j v) k no_place) e ∙ (get_or-set_same (set xs i u) j v no_place (omega (arith, length-set xs i u)) ∙ ap (λ k. get_or xs k no_place) e))
    (λ n. get_or-set_other (set xs i u) j i v no_place n ∙ get_or-set_same xs i u no_place l)
    (cases_eq i j)

pub the_other_comes_from_i : (xs : List Place) (i j : ℕ) → j < length xs → get_or (exchanged xs i j) j no_place ≡ get_or xs i no_place
the_other_comes_from_i xs i j m = get_or-set_same (set xs i (get_or xs j no_place)) j (get_or xs i no_place) no_place (omega (arith, length-set xs i (get_or xs j no_place)))

pub the_rest_stays : (xs : List Place) (i j k : ℕ) → (k ≡ i → ⊥) → (k ≡ j → ⊥) → get_or (exchanged xs i j) k no_place ≡ get_or xs k no_place
the_rest_stays xs i j k a b = get_or-set_other (set xs i (get_or xs j no_place)) j k (get_or xs i no_place) no_place b ∙ get_or-set_other xs i k (get_or xs j no_place) no_place a

pub an_exchange_keeps_the_length : (xs : List Place) (i j : ℕ) → length (exchanged xs i j) ≡ length xs
an_exchange_keeps_the_length xs i j = length-set (set xs i (get_or xs j no_place)) j (get_or xs i no_place) ∙ length-set xs i (get_or xs j no_place)

pub an_exchange_keeps_the_places : (xs : List Place) (i j row phase : ℕ) → i < length xs → j < length xs → times (exchanged xs i j) row phase ≡ times xs row phase
an_exchange_keeps_the_places xs i j row phase l m =
    let u = get_or xs j no_place in
    let v = get_or xs i no_place in
    let a = one_for_another xs i u row phase l in
    let b = one_for_another (set xs i u) j v row phase (omega (arith, length-set xs i u)) in
    let there : get_or (set xs i u) j no_place ≡ u = ⊎_elim
    (λ (e : j ≡ i). ap (λ k. get_or (set xs i u) k no_place) e ∙ get_or-set_same xs i u no_place l)
    (λ n. get_or-set_other xs i j u no_place n)
    (cases_eq j i) in
    omega (arith, a, b, ap (hit row phase) there)
