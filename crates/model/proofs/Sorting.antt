-- Rows can be put into a list by a key: those that count, each once, with keys that rise.
-- Insertion, one row after the other.
use Rattle.std.proofs.Common.{◌≡◌, ℕ, zero, suc, ◌<◌, ◌≤◌, Bool, true, false, cond, ltb, ◌⊎◌, List, [], ◌∷◌, sym, refl, ap, ◌∙◌, inl, inr, ⊎_elim, arith}
use Rattle.std.proofs.lemmas.Bool.Decides.{nat_tests}
use Rattle.std.proofs.lemmas.Bool.{cases_eq, cases_Bool, true≢false}
use Rattle.model.specs.Orders.{In, Ahead, Once}

module _ (key : ℕ → ℕ) where
  -- a put in where its key belongs
  put : ℕ → List ℕ → List ℕ
  put a [] = a ∷ []
  put a (x ∷ xs) = cond (ltb (key a) (key x)) (a ∷ x ∷ xs) (x ∷ put a xs)

  -- every key in the list is above n
  Above : ℕ → List ℕ → Type 0
  Above n xs = (b : ℕ) → In xs b → n < key b

  -- the keys rise along the list
  pub Rises : List ℕ → Type 0
  Rises [] = Unit {0}
  Rises (x ∷ xs) = Above (key x) xs × Rises xs

  -- what is in it then: a and what was
  in_put : (a b : ℕ) (xs : List ℕ) → In (put a xs) b → (b ≡ a) ⊎ In xs b
  unfolding put
  in_put a b [] h = h
  in_put a b (x ∷ xs) h = go (ltb (key a) (key x)) (in_put a b xs) h
    where
      go : (t : Bool) → (In (put a xs) b → (b ≡ a) ⊎ In xs b) → In (cond t (a ∷ x ∷ xs) (x ∷ put a xs)) b → (b ≡ a) ⊎ ((b ≡ x) ⊎ In xs b)
      go true ih h = h
      go false ih (inl e) = inr (inl e)
      go false ih (inr h) = ⊎_elim inl (λ g. inr (inr g)) (ih h)

  -- and all of that is
  put_in : (a b : ℕ) (xs : List ℕ) → (b ≡ a) ⊎ In xs b → In (put a xs) b
  unfolding put
  put_in a b [] h = h
  put_in a b (x ∷ xs) h = go (ltb (key a) (key x)) (put_in a b xs) h
    where
      go : (t : Bool) → ((b ≡ a) ⊎ In xs b → In (put a xs) b) → (b ≡ a) ⊎ ((b ≡ x) ⊎ In xs b) → In (cond t (a ∷ x ∷ xs) (x ∷ put a xs)) b
      go true ih h = h
      go false ih (inl e) = inr (ih (inl e))
      go false ih (inr (inl e)) = inl e
      go false ih (inr (inr h)) = inr (ih (inr h))

  -- keys still rise where none is the key of a
  put_rises : (a : ℕ) (xs : List ℕ) → ((b : ℕ) → In xs b → key a ≡ key b → ⊥) → Rises xs → Rises (put a xs)
  unfolding put Rises Above
  put_rises a [] no_one r = ((λ b h. absurd h), tt)
  put_rises a (x ∷ xs) no_one r = go (cases_Bool (ltb (key a) (key x))) (put_rises a xs (λ b h. no_one b (inr h)) r.1)
    where
      go : (ltb (key a) (key x) ≡ true) ⊎ (ltb (key a) (key x) ≡ false) → Rises (put a xs) → Rises (cond (ltb (key a) (key x)) (a ∷ x ∷ xs) (x ∷ put a xs))
      go (inl e) ih = rw e ((λ b h. let l : key a < key x = grind (arith, nat_tests) in ⊎_elim (λ q. rw q l) (λ q. let z = r.0 b q in omega arith) h), r)
      go (inr e) ih = rw e ((λ b h. let l : key x ≤ key a = grind (arith, nat_tests) in let ne = no_one x (inl refl) in ⊎_elim (λ q. rw q (omega arith)) (λ q. r.0 b q) (in_put a b xs h)), ih)

  -- the operations below n that count, by their keys
  pub sorted : (ℕ → Bool) → ℕ → List ℕ
  sorted c zero = []
  sorted c (suc n) = cond (c n) (put n (sorted c n)) (sorted c n)

  -- those that count are in it
  pub sorted_in : (c : ℕ → Bool) (n k : ℕ) → k < n → c k ≡ true → In (sorted c n) k
  unfolding sorted
  sorted_in c zero k l e = absurd (omega arith)
  sorted_in c (suc n) k l e = go (cases_Bool (c n)) (cases_eq k n) (λ h. sorted_in c n k h e)
    where
      go : (c n ≡ true) ⊎ (c n ≡ false) → (k ≡ n) ⊎ (k ≡ n → ⊥) → (k < n → In (sorted c n) k) → In (cond (c n) (put n (sorted c n)) (sorted c n)) k
      go (inl t) (inl q) ih = rw t (put_in n k (sorted c n) (inl q))
      go (inl t) (inr q) ih = rw t (put_in n k (sorted c n) (inr (ih (omega arith))))
      go (inr t) (inl q) ih = absurd (true≢false (sym e ∙ ap c q ∙ t))
      go (inr t) (inr q) ih = rw t (ih (omega arith))

  -- and no others
  pub in_sorted : (c : ℕ → Bool) (n k : ℕ) → In (sorted c n) k → (k < n) × (c k ≡ true)
  unfolding sorted
  in_sorted c zero k h = absurd h
  in_sorted c (suc n) k h = go (cases_Bool (c n)) (in_sorted c n k) h
    where
      go : (c n ≡ true) ⊎ (c n ≡ false) → (In (sorted c n) k → (k < n) × (c k ≡ true)) → In (cond (c n) (put n (sorted c n)) (sorted c n)) k → (k < suc n) × (c k ≡ true)
      go (inl t) ih h = ⊎_elim (λ q. (omega arith, ap c q ∙ t)) (λ g. (omega (arith, (ih g).0), (ih g).1)) (in_put n k (sorted c n) (rw t at h))
      go (inr t) ih h = let g = ih (rw t at h) in (omega (arith, g.0), g.1)

  module _ (c : ℕ → Bool) (used : ℕ) (apart : (a b : ℕ) → a < used → b < used → c a ≡ true → c b ≡ true → key a ≡ key b → a ≡ b) where
    -- its keys rise, where those that count have different keys
    pub sorted_rises : (n : ℕ) → n ≤ used → Rises (sorted c n)
    unfolding sorted Rises
    sorted_rises zero l = tt
    sorted_rises (suc n) l = go (cases_Bool (c n)) (sorted_rises n (omega arith))
      where
        go : (c n ≡ true) ⊎ (c n ≡ false) → Rises (sorted c n) → Rises (cond (c n) (put n (sorted c n)) (sorted c n))
        go (inl t) ih = rw t (put_rises n (sorted c n) (λ b h e. let g = in_sorted c n b h in let z = apart n b (omega arith) (omega arith) t g.1 e in omega arith) ih)
        go (inr t) ih = rw t ih

  -- in a list that rises, ahead is below
  pub ahead_below : (xs : List ℕ) (a b : ℕ) → Rises xs → Ahead xs a b → key a < key b
  unfolding Rises Above
  ahead_below [] a b r h = absurd h
  ahead_below (x ∷ xs) a b r (inl h) = rw h.0 (r.0 b h.1)
  ahead_below (x ∷ xs) a b r (inr h) = ahead_below xs a b r.1 h

  -- and below is ahead
  pub below_ahead : (xs : List ℕ) (a b : ℕ) → Rises xs → In xs a → In xs b → key a < key b → Ahead xs a b
  unfolding Rises Above
  below_ahead [] a b r ia ib l = absurd ia
  below_ahead (x ∷ xs) a b r (inl ea) (inl eb) l = absurd (let u = ap key ea in let v = ap key eb in omega arith)
  below_ahead (x ∷ xs) a b r (inl ea) (inr ib) l = inl (ea, ib)
  below_ahead (x ∷ xs) a b r (inr ia) (inl eb) l = absurd (let z = r.0 a ia in let v = ap key eb in omega arith)
  below_ahead (x ∷ xs) a b r (inr ia) (inr ib) l = inr (below_ahead xs a b r.1 ia ib l)

  -- what is ahead of another is in the list, as is the other
  pub ahead_in : (xs : List ℕ) (a b : ℕ) → Ahead xs a b → In xs a × In xs b
  ahead_in [] a b h = absurd h
  ahead_in (x ∷ xs) a b (inl h) = (inl h.0, inr h.1)
  ahead_in (x ∷ xs) a b (inr h) = let g = ahead_in xs a b h in (inr g.0, inr g.1)

  -- nothing stands twice in it
  pub rises_once : (xs : List ℕ) → Rises xs → Once xs
  unfolding Rises Above
  rises_once [] r = tt
  rises_once (x ∷ xs) r = ((λ h. let z = r.0 x h in omega arith), rises_once xs r.1)
