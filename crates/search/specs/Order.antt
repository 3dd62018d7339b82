-- What it means that a place holds the least of a row of keys.
use Rattle.std.specs.Prelude.{◌≡◌, ℕ, ◌<◌, Bool, true, false, List, length, Some, None, Option, slice_index_or}

-- of the first n keys none is below the one at place i, and those before it are above it, so it is the first among equals
pub record LeastOf {K : Type 0} (below : K → K → Bool) (keys : List K) (n i : ℕ) : Type 0 where
  pub within : i < n
  pub none_below : (d : K) (k : ℕ) → k < n → below (slice_index_or keys k d) (slice_index_or keys i d) ≡ false
  pub above_before : (d : K) (k : ℕ) → k < i → below (slice_index_or keys i d) (slice_index_or keys k d) ≡ true

-- the answer of a search: none exactly where there is no key, else the place of the least key, the first among equals
abbrev pub Least : {K : Type 0} → (K → K → Bool) → List K → Option ℕ → Type 0
Least below keys None = length keys ≡ 0
Least below keys (Some i) = LeastOf below keys (length keys) i
