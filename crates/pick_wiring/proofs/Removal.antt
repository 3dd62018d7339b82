-- A place goes out and the last one fills in: how often each place stands in the list.
use Rattle.std.proofs.Common.{◌≡◌, ℕ, ◌+◌, ◌<◌, ◌≤◌, List, [], ◌∷◌, length, get_or, take, set, ap, ◌∙◌, ⊎_elim, arith}
use lib.Seq.{take-set-lt}
use Rattle.std.proofs.lemmas.List.{get_or-take, length-take-le, take_more, take-set}
use Rattle.std.proofs.lemmas.List.Sums.{sum_by-set}
use Rattle.std.proofs.lemmas.Bool.{cases_lt}
use Rattle.masks.specs.Listed.{Without, no_place, times}
use Rattle.masks.proofs.Listing.{hit, times_append, times_are_a_sum}
use Rattle.messages.specs.declared.Place.{Place}

-- one place put in another's stead
pub one_for_another : (xs : List Place) (i : ℕ) (v : Place) (row phase : ℕ) → i < length xs
    → times (set xs i v) row phase + hit row phase (get_or xs i no_place) ≡ times xs row phase + hit row phase v
one_for_another xs i v row phase l =
    omega (arith, times_are_a_sum row phase (set xs i v), times_are_a_sum row phase xs, sum_by-set (hit row phase) xs i v no_place l)

-- the place at `at` goes out of the first n + 1, and the last one comes there
pub the_last_fills_in : (xs : List Place) (n at : ℕ) → n < length xs → at < n + 1
    → Without (take (n + 1) xs) (get_or xs at no_place) (take n (set xs at (get_or xs n no_place)))
the_last_fills_in xs n at l a row phase =
    let last = get_or xs n no_place in
    let split = ap (λ (ys : List Place). times ys row phase) (take_more xs n no_place l) ∙ times_append (take n xs) (last ∷ []) row phase in
    ⊎_elim
    (λ (h : at < n).
    let moved = ap (λ (ys : List Place). times ys row phase) (take-set-lt n xs at last h) in
    let same = ap (hit row phase) (get_or-take n xs at no_place h) in
    omega (arith, split, moved, same, one_for_another (take n xs) at last row phase (omega (arith, length-take-le n xs (omega arith)))))
    (λ (h : n ≤ at).
    let e : at ≡ n = omega arith in
    let kept = ap (λ k. times (take n (set xs k last)) row phase) e ∙ ap (λ (ys : List Place). times ys row phase) (take-set xs n last) in
    let same = ap (λ k. hit row phase (get_or xs k no_place)) e in
    omega (arith, split, kept, same))
    (cases_lt at n)
