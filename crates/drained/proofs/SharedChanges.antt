-- The changes that calls make to tables of rows, over plain functions, and what each leaves as it was.
-- Writes and pre-writes under way change in the same ways, so each way stands here once.
use Rattle.std.proofs.Common.{◌≡◌, ℕ, ◌<◌, ◌≤◌, Bool, true, false, cond, ◌&&◌, eqb, ltb, ◌⊎◌, ⊎_elim, arith}
use Rattle.std.proofs.lemmas.Bool.Decides.{nat_tests}
use Rattle.std.proofs.lemmas.Bool.{cases_eq}
use Rattle.servers.specs.Sets.{has, join}
use Rattle.servers.proofs.Members.{sets, has_join, has_none}

-- what is above the higher is above the lower
pub below_more : {a b c : ℕ} → a ≤ b → b < c → a < c
below_more h l = omega arith

-- what has something only if another has is empty where that is empty
pub empty_before : {m n : ℕ} → (0 < n → 0 < m) → m ≡ 0 → n ≡ 0
empty_before {m} {n} h z = ⊎_elim (λ e. e) (λ ne. let a = h (omega arith) in absurd (omega arith)) (cases_eq n 0)

-- A message of row r with mask m is put to wait for q, joining one that waits there; it is lost if q has crashed.
module _ (standing : ℕ → Bool) (waiting : ℕ → ℕ → ℕ) (q r m : ℕ) where
  -- what waits then
  abbrev pub posted : ℕ → ℕ → ℕ
  posted x k = cond (standing q && (eqb x q && (eqb k r && true))) (join (waiting x k) m) (waiting x k)

  -- what waited waits still
  pub posted_keeps : (x k : ℕ) → 0 < waiting x k → 0 < posted x k
  posted_keeps x k h = grind (arith, nat_tests, sets)

  -- the message waits if q stands
  pub posted_waits : standing q ≡ true → 0 < m → 0 < posted q r
  posted_waits u h = grind (arith, nat_tests, sets)

  -- who is in a mask that waits was in it, or is in m
  pub in_posted : (x k y : ℕ) → has (posted x k) y ≡ true → (has (waiting x k) y ≡ true) ⊎ ((k ≡ r) × (has m y ≡ true))
  in_posted x k y h = let a = has_join (waiting x k) m y in grind (arith, nat_tests)

-- a message of the other phase is put to wait: what waits of this phase stays
pub posted_otherwise : (waiting : ℕ → ℕ → ℕ) (stands : Bool) (q r m : ℕ) (this : Bool) → this ≡ false → (x k : ℕ) → cond (stands && (eqb x q && (eqb k r && this))) (join (waiting x k) m) (waiting x k) ≡ waiting x k
posted_otherwise waiting stands q r m this t x k = rw t (grind (arith, nat_tests))

-- The message of row r that waits for p is taken out, if it is one of this table.
module _ (waiting : ℕ → ℕ → ℕ) (p r : ℕ) (here : Bool) where
  -- what waits then
  abbrev pub taken : ℕ → ℕ → ℕ
  taken x k = cond (eqb x p && (eqb k r && here)) 0 (waiting x k)

  -- who is in a mask that waits was in it
  pub in_taken : (x k y : ℕ) → has (taken x k) y ≡ true → has (waiting x k) y ≡ true
  in_taken x k y h = let a = has_none y in grind (arith, nat_tests)

-- The mask m joins the entry of row r that p is to forward.
module _ (forward : ℕ → ℕ → ℕ) (p r m : ℕ) where
  -- what is to be forwarded then
  abbrev pub kept : ℕ → ℕ → ℕ
  kept x k = cond (eqb x p && eqb k r) (join (forward p r) m) (forward x k)

  -- what was to be forwarded still is
  pub kept_keeps : (x k : ℕ) → 0 < forward x k → 0 < kept x k
  kept_keeps x k h = grind (arith, nat_tests, sets)

  -- who is in a mask to forward was in it, or is in m
  pub in_kept : (x k y : ℕ) → has (kept x k) y ≡ true → (has (forward x k) y ≡ true) ⊎ ((k ≡ r) × (has m y ≡ true))
  in_kept x k y h = let a = has_join (forward p r) m y in grind (arith, nat_tests)

-- The entry of row r leaves what p is to forward.
module _ (forward : ℕ → ℕ → ℕ) (p r : ℕ) where
  -- what is to be forwarded then
  abbrev pub released : ℕ → ℕ → ℕ
  released x k = cond (eqb x p && eqb k r) 0 (forward x k)

  -- who is in a mask to forward was in it
  pub in_released : (x k y : ℕ) → has (released x k) y ≡ true → has (forward x k) y ≡ true
  in_released x k y h = let a = has_none y in grind (arith, nat_tests)

  -- where another entry is empty, it was empty
  pub others_released_no : (x k : ℕ) → (x ≡ p → k ≡ r → ⊥) → released x k ≡ 0 → forward x k ≡ 0
  others_released_no x k ne h = grind (arith, nat_tests)

-- p takes row r, if it is above what p holds.
module _ (tag held : ℕ → ℕ) (p r : ℕ) where
  -- what the servers hold then
  abbrev pub held_after : ℕ → ℕ
  held_after x = cond (ltb (tag (held p)) (tag r) && eqb x p) r (held x)

  -- nobody holds less than before
  pub holds_no_less : (x : ℕ) → tag (held x) ≤ tag (held_after x)
  holds_no_less x = grind (arith, nat_tests)

  -- p holds the row or one above
  pub holds_the_row : tag r ≤ tag (held_after p)
  holds_the_row = grind (arith, nat_tests)

-- Row r gets the tag t.
module _ (tag : ℕ → ℕ) (r t : ℕ) where
  -- the tags then
  abbrev pub tag_after : ℕ → ℕ
  tag_after k = cond (eqb k r) t (tag k)

  -- all other rows keep their tags
  pub other_tags_stay : (k : ℕ) → (k ≡ r → ⊥) → tag_after k ≡ tag k
  other_tags_stay k ne = grind (arith, nat_tests)

-- c crashes, and its masks are empty.
module _ (c : ℕ) where
  -- who stands then
  abbrev pub standing_after : (ℕ → Bool) → ℕ → Bool
  standing_after standing q = cond (eqb q c) false (standing q)

  -- a table of masks then
  abbrev pub cleared : (ℕ → ℕ → ℕ) → ℕ → ℕ → ℕ
  cleared masks x k = cond (eqb x c) 0 (masks x k)

  -- who stands then stood, and is not c
  pub stood_before : (standing : ℕ → Bool) (q : ℕ) → standing_after standing q ≡ true → (standing q ≡ true) × (q ≡ c → ⊥)
  stood_before standing q h = grind (arith, nat_tests)

  -- no mask is new
  pub was_there : (masks : ℕ → ℕ → ℕ) (x k : ℕ) → 0 < cleared masks x k → 0 < masks x k
  was_there masks x k h = grind (arith, nat_tests)

  -- who is in a mask was in it
  pub in_cleared : (masks : ℕ → ℕ → ℕ) (x k y : ℕ) → has (cleared masks x k) y ≡ true → has (masks x k) y ≡ true
  in_cleared masks x k y h = let a = has_none y in grind (arith, nat_tests)

  -- the masks of others stay
  pub others_stay : (masks : ℕ → ℕ → ℕ) (x k : ℕ) → (x ≡ c → ⊥) → cleared masks x k ≡ masks x k
  others_stay masks x k ne = grind (arith, nat_tests)
