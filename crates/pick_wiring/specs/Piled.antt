-- The list of places that a pile stands for, and what its calls do to it.
use Rattle.std.specs.Prelude.{◌≡◌, ℕ, ◌+◌, ◌%◌, ◌<◌, ◌≤◌, false, List, [], length, take, Some, None, Option, slice_index_or, slice_set}
use Rattle.masks.specs.Listed.{Without, no_place, times}
use Rattle.messages.specs.declared.Place.{Place}
use Rattle.messages.specs.Phases.{phase_number}
use Rattle.messages.specs.Places.{place_below}
use Rattle.pick_wiring.specs.declared.pile.Pile.{Pile}
use Rattle.pick_wiring.specs.Order.{places_before}

-- the places in the pile
abbrev pub piled : Pile → List Place
piled p = take p.len p.places

-- the places at i and j change places
abbrev pub exchanged : List Place → ℕ → ℕ → List Place
exchanged xs i j = slice_set (slice_set xs i (slice_index_or xs j no_place)) j (slice_index_or xs i no_place)

-- at j stands the least of the places from `at` on
pub record LeastFrom (xs : List Place) (at j : ℕ) : Type 0 where
  pub from : at ≤ j
  pub within : j < length xs
  pub none_below : (k : ℕ) → at ≤ k → k < length xs → place_below (slice_index_or xs k no_place) (slice_index_or xs j no_place) ≡ false

-- the least of the places from `at` on changes places with the one at `at`; there is none past the end
pub record Brought (xs : List Place) (at : ℕ) (ys : List Place) : Type 0 where
  pub past : length xs ≤ at → ys ≡ xs
  pub inside : at < length xs → (j : ℕ) × LeastFrom xs at j × (ys ≡ exchanged xs at j)

-- the same places in another order: none of those behind one of the first n is below it
pub record SortedFront (xs : List Place) (n : ℕ) (ys : List Place) : Type 0 where
  pub long : length ys ≡ length xs
  pub same : (row phase : ℕ) → times ys row phase ≡ times xs row phase
  pub sorted : (a b : ℕ) → a < n → a < b → b < length xs → place_below (slice_index_or ys b no_place) (slice_index_or ys a no_place) ≡ false

-- the place at `at` goes out; there is none past the end
abbrev pub Removed : List Place → ℕ → Option Place → List Place → Type 0
Removed xs at None ys = (length xs ≤ at) × (ys ≡ xs)
Removed xs at (Some x) ys = (at < length xs) × (x ≡ slice_index_or xs at no_place) × Without xs x ys

-- at most n places come before it, and with those equal to it more than n
pub record Ranks (xs : List Place) (x : Place) (n : ℕ) : Type 0 where
  pub low : places_before xs x.row.0 (phase_number x.phase) ≤ n
  pub high : n < places_before xs x.row.0 (phase_number x.phase) + times xs x.row.0 (phase_number x.phase)

-- the place of rank (number mod length) goes out; none does exactly where there is none
abbrev pub Picked : List Place → ℕ → Option Place → List Place → Type 0
Picked xs number None ys = (xs ≡ []) × (ys ≡ xs)
Picked xs number (Some x) ys = Ranks xs x (number % length xs) × Without xs x ys
