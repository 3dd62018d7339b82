-- What the searches find, said of every number below the bound.
use Rattle.std.specs.Prelude.{◌≡◌, ℕ, ◌<◌, ◌≤◌, Bool, true, false, ◌⊎◌, Some, None}
use Rattle.counting.specs.Below.{all, any, top, least}

-- the searches among the numbers below n, by a test and a key
pub record Finds (test : ℕ → Bool) (key : ℕ → ℕ) (n : ℕ) : Type 0 where
  -- `all` is true exactly where every number passes
  pub every : all test n ≡ true → (k : ℕ) → k < n → test k ≡ true
  pub if_every : ((k : ℕ) → k < n → test k ≡ true) → all test n ≡ true
  -- `any` is true exactly where some number passes
  pub some : any test n ≡ true → (k : ℕ) × (k < n) × (test k ≡ true)
  pub if_some : (k : ℕ) → k < n → test k ≡ true → any test n ≡ true
  -- no key of a number that passes is above `top`, which is one of them, or 0
  pub highest : (k : ℕ) → k < n → test k ≡ true → key k ≤ top test key n
  pub reached : (top test key n ≡ 0) ⊎ ((k : ℕ) × (k < n) × (test k ≡ true) × (top test key n ≡ key k))
  -- where `least` is m, m passes, no number that passes has a smaller key, and none below m has the same
  pub passes : (m : ℕ) → least test key n ≡ Some m → (m < n) × (test m ≡ true)
  pub smallest : (m : ℕ) → least test key n ≡ Some m → (k : ℕ) → k < n → test k ≡ true → (key m ≤ key k) × (key m ≡ key k → m ≤ k)
  -- where `least` finds none, none passes
  pub none : least test key n ≡ None → (k : ℕ) → k < n → test k ≡ false

-- the searches find what their names say
abbrev pub SearchesFindWhatTheySay : Type 0
SearchesFindWhatTheySay = (test : ℕ → Bool) (key : ℕ → ℕ) (n : ℕ) → Finds test key n
