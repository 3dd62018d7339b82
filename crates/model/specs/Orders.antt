-- Orders of operations: lists of rows, and the write whose value a read should give.
use Rattle.std.specs.Prelude.{◌≡◌, ℕ, ◌⊎◌, List, [], ◌∷◌}
use Rattle.model.specs.Runs.{Run, Wrote}

-- r stands in the list
abbrev pub In : List ℕ → ℕ → Type 0
In [] r = ⊥
In (x ∷ xs) r = (r ≡ x) ⊎ In xs r

-- a stands ahead of b in the list
abbrev pub Ahead : List ℕ → ℕ → ℕ → Type 0
Ahead [] a b = ⊥
Ahead (x ∷ xs) a b = ((a ≡ x) × In xs b) ⊎ Ahead xs a b

-- nothing stands twice in the list
abbrev pub Once : List ℕ → Type 0
Once [] = Unit {0}
Once (x ∷ xs) = (In xs x → ⊥) × Once xs

module _ {V : Type 0} (run : Run V) where
  -- write w of value v is the nearest write ahead of r
  pub record Nearest (order : List ℕ) (w r : ℕ) (v : V) : Type 0 where
    pub wrote : Wrote run w v
    pub ahead : Ahead order w r
    pub none : (u : ℕ) (x : V) → Wrote run u x → Ahead order w u → Ahead order u r → ⊥

  -- no write stands ahead of r, and v is the first value
  pub record First (order : List ℕ) (r : ℕ) (v : V) : Type 0 where
    pub is : v ≡ run.first
    pub none : (u : ℕ) (x : V) → Wrote run u x → Ahead order u r → ⊥
