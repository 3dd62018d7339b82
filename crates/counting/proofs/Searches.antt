-- What the searches of the numbers below a bound find: from the result to the fact about every number, and back.
-- Each by induction on the bound, the number looked at last being the one case to consider.
use Rattle.std.proofs.Common.{◌≡◌, ℕ, zero, suc, ◌<◌, ◌≤◌, max, Bool, true, false, cond, ◌&&◌, ltb, ◌⊎◌, Some, None, Option, sym, refl, ap, ◌∙◌, inl, inr, ⊎_elim, arith}
use Rattle.std.proofs.lemmas.Bool.Decides.{nat_tests}
use Rattle.std.proofs.lemmas.Bool.{cases_Bool, cases_lt, true≢false}
use Rattle.counting.specs.Below.{all, any, top, better, least}
use Rattle.counting.specs.Searches.{Finds}

-- where all pass, each passes
pub all_at : (test : ℕ → Bool) (k j : ℕ) → all test k ≡ true → j < k → test j ≡ true
unfolding all
all_at test zero j a l = absurd (omega arith)
all_at test (suc k) j a l = ⊎_elim
    (λ (h : j < k). all_at test k j (grind (arith, nat_tests)) h)
    (λ (h : k ≤ j). let e : j ≡ k = omega arith in rw e (grind (arith, nat_tests)))
    (cases_lt j k)

-- where each passes, all pass
pub all_from : (test : ℕ → Bool) (k : ℕ) → ((j : ℕ) → j < k → test j ≡ true) → all test k ≡ true
unfolding all
all_from test zero h = refl
all_from test (suc k) h = let a = all_from test k (λ j l. h j (omega arith)) in let b = h k (omega arith) in grind (arith, nat_tests)

-- where not any passes, each fails
pub none_passes : (f : ℕ → Bool) (n : ℕ) → any f n ≡ false → (k : ℕ) → k < n → f k ≡ false
unfolding any
none_passes f zero e k l = absurd (omega arith)
none_passes f (suc n) e k l = ⊎_elim
    (λ h. let ih = none_passes f n in grind (arith, nat_tests))
    (λ h. let q : k ≡ n = omega arith in let z = ap f q in grind (arith, nat_tests))
    (cases_lt k n)

-- where any passes, there is one that does
pub some_passes : (f : ℕ → Bool) (n : ℕ) → any f n ≡ true → (k : ℕ) × (k < n) × (f k ≡ true)
unfolding any
some_passes f zero e = absurd (true≢false (sym e))
some_passes f (suc n) e = ⊎_elim
    (λ h. (n, omega arith, h))
    (λ h. let below : any f n ≡ true = grind (arith, nat_tests) in let r = some_passes f n below in (r.0, omega (arith, r.1), r.2))
    (cases_Bool (f n))

-- the top is not below the key of any that passes
pub top_bounds : (f : ℕ → Bool) (g : ℕ → ℕ) (n k : ℕ) → k < n → f k ≡ true → g k ≤ top f g n
unfolding top
top_bounds f g zero k l e = absurd (omega arith)
top_bounds f g (suc n) k l e = ⊎_elim
    (λ h. let ih = top_bounds f g n k h e in omega arith)
    (λ h. let q : k ≡ n = omega arith in let z = ap f q in let y = ap g q in grind (arith, nat_tests))
    (cases_lt k n)

-- the top is the key of one that passes, or 0
pub top_is_reached : (f : ℕ → Bool) (g : ℕ → ℕ) (n : ℕ) → (top f g n ≡ 0) ⊎ ((k : ℕ) × (k < n) × (f k ≡ true) × (top f g n ≡ g k))
unfolding top
top_is_reached f g zero = inl refl
top_is_reached f g (suc n) = go (cases_Bool (f n)) (top_is_reached f g n)
  where
    go : (f n ≡ true) ⊎ (f n ≡ false) → (top f g n ≡ 0) ⊎ ((k : ℕ) × (k < n) × (f k ≡ true) × (top f g n ≡ g k))
        → (max (top f g n) (cond (f n) (g n) 0) ≡ 0) ⊎ ((k : ℕ) × (k < suc n) × (f k ≡ true) × (max (top f g n) (cond (f n) (g n) 0) ≡ g k))
    go (inl e) (inl z) = rw e (inr (n, omega arith, e, omega arith))
    go (inl e) (inr r) = rw e (⊎_elim (λ l. inr (n, omega arith, e, omega arith)) (λ l. inr (r.0, omega (arith, r.1), r.2, (let z = r.3 in omega arith))) (cases_lt (top f g n) (g n)))
    go (inr e) (inl z) = rw e (inl (omega arith))
    go (inr e) (inr r) = rw e (inr (r.0, omega (arith, r.1), r.2, (let z = r.3 in omega arith)))

-- what the search for the least finds passes
pub least_passes : (f : ℕ → Bool) (g : ℕ → ℕ) (n m : ℕ) → least f g n ≡ Some m → (m < n) × (f m ≡ true)
unfolding least
least_passes f g zero m e = absurd (let z : ◌≡◌ {A = ℕ} 0 1 = cc in omega arith)
least_passes f g (suc n) m e = go (least f g n) (λ k h. least_passes f g n k h) refl e
  where
    go : (o : Option ℕ) → ((k : ℕ) → least f g n ≡ Some k → (k < n) × (f k ≡ true)) → least f g n ≡ o → better f g n o ≡ Some m → (m < suc n) × (f m ≡ true)
    go None ih q b = ⊎_elim
        (λ t. let c : ◌≡◌ {A = Option ℕ} (Some n) (Some m) = rw t at b in let z : n ≡ m = cc in (omega arith, ap f (sym z) ∙ t))
        (λ t. absurd (let c : ◌≡◌ {A = Option ℕ} None (Some m) = rw t at b in let z : ◌≡◌ {A = ℕ} 0 1 = cc in omega arith))
        (cases_Bool (f n))
    go (Some k) ih q b = ⊎_elim
        (λ t. let c : ◌≡◌ {A = Option ℕ} (Some n) (Some m) = rw t at b in let z : n ≡ m = cc in let y : f n ≡ true = grind (arith, nat_tests) in (omega arith, ap f (sym z) ∙ y))
        (λ t. let c : ◌≡◌ {A = Option ℕ} (Some k) (Some m) = rw t at b in let z : k ≡ m = cc in let r = ih k q in (omega (arith, r.0), ap f (sym z) ∙ r.1))
        (cases_Bool (f n && ltb (g n) (g k)))

-- where it finds none, none passes
pub none_is_least : (f : ℕ → Bool) (g : ℕ → ℕ) (n : ℕ) → least f g n ≡ None → (k : ℕ) → k < n → f k ≡ false
unfolding least
none_is_least f g zero e k l = absurd (omega arith)
none_is_least f g (suc n) e k l = go (least f g n) (none_is_least f g n) refl e
  where
    go : (o : Option ℕ) → (least f g n ≡ None → (k : ℕ) → k < n → f k ≡ false) → least f g n ≡ o → better f g n o ≡ None → f k ≡ false
    go None ih q b = ⊎_elim
        (λ t. absurd (let c : ◌≡◌ {A = Option ℕ} (Some n) None = rw t at b in let z : ◌≡◌ {A = ℕ} 0 1 = cc in omega arith))
        (λ t. ⊎_elim (λ h. ih q k h) (λ h. let e2 : k ≡ n = omega arith in ap f e2 ∙ t) (cases_lt k n))
        (cases_Bool (f n))
    go (Some m) ih q b = absurd (⊎_elim
        (λ t. let c : ◌≡◌ {A = Option ℕ} (Some n) None = rw t at b in let z : ◌≡◌ {A = ℕ} 0 1 = cc in omega arith)
        (λ t. let c : ◌≡◌ {A = Option ℕ} (Some m) None = rw t at b in let z : ◌≡◌ {A = ℕ} 0 1 = cc in omega arith)
        (cases_Bool (f n && ltb (g n) (g m))))

-- where none passes, it finds none
pub none_is_found : (f : ℕ → Bool) (g : ℕ → ℕ) (n : ℕ) → ((k : ℕ) → k < n → f k ≡ false) → least f g n ≡ None
unfolding least
none_is_found f g zero none = refl
none_is_found f g (suc n) none = ap (better f g n) (none_is_found f g n (λ k l. none k (omega arith))) ∙ ap (λ b. cond b (Some n) None) (none n (omega arith))

-- the number that it finds has the smallest key, and is the lowest of those with that key
pub least_is_smallest : (f : ℕ → Bool) (g : ℕ → ℕ) (n m : ℕ) → least f g n ≡ Some m → (k : ℕ) → k < n → f k ≡ true → (g m ≤ g k) × (g m ≡ g k → m ≤ k)
unfolding least
least_is_smallest f g zero m e k l t = absurd (omega arith)
least_is_smallest f g (suc n) m e k l t = go (least f g n) (least_is_smallest f g n) refl e (cases_lt k n)
  where
    go : (o : Option ℕ) → ((j : ℕ) → least f g n ≡ Some j → (i : ℕ) → i < n → f i ≡ true → (g j ≤ g i) × (g j ≡ g i → j ≤ i)) → least f g n ≡ o → better f g n o ≡ Some m → (k < n) ⊎ (n ≤ k) → (g m ≤ g k) × (g m ≡ g k → m ≤ k)
    go None ih q b (inl h) = absurd (true≢false (sym t ∙ none_is_least f g n q k h))
    go None ih q b (inr h) =
        let e2 : k ≡ n = omega arith in
        let c : ◌≡◌ {A = Option ℕ} (Some n) (Some m) = rw (sym (ap f e2) ∙ t) at b in
        let z : n ≡ m = cc in
        let y = ap g (e2 ∙ z) in
        (omega arith, λ _. omega arith)
    go (Some j) ih q b w = ⊎_elim
        (λ (x : (f n && ltb (g n) (g j)) ≡ true).
        let c : ◌≡◌ {A = Option ℕ} (Some n) (Some m) = rw x at b in
        let z : n ≡ m = cc in
        let y = ap g z in
        ⊎_elim
        (λ (h : k < n). let r = ih j q k h t in let r0 = r.0 in let less : g n < g j = grind (arith, nat_tests) in (omega arith, λ v. absurd (omega arith)))
        (λ (h : n ≤ k). let e2 : k ≡ n = omega arith in let v = ap g e2 in (omega arith, λ _. omega arith))
        w)
        (λ (x : (f n && ltb (g n) (g j)) ≡ false).
        let c : ◌≡◌ {A = Option ℕ} (Some j) (Some m) = rw x at b in
        let z : j ≡ m = cc in
        let y = ap g z in
        ⊎_elim
        (λ (h : k < n). let r = ih j q k h t in let r0 = r.0 in let r1 = r.1 in (omega arith, λ v. let u = r1 (y ∙ v) in omega arith))
        (λ (h : n ≤ k).
        let e2 : k ≡ n = omega arith in
        let v = ap g e2 in
        let tn : f n ≡ true = sym (ap f e2) ∙ t in
        let less : g j ≤ g n = grind (arith, nat_tests) in
        let low = (least_passes f g n j q).0 in
        (omega arith, λ _. omega arith))
        w)
        (cases_Bool (f n && ltb (g n) (g j)))

-- where one passes, some passes
pub some_if_one_passes : (f : ℕ → Bool) (n k : ℕ) → k < n → f k ≡ true → any f n ≡ true
some_if_one_passes f n k l t = ⊎_elim (λ e. e) (λ e. absurd (true≢false (sym t ∙ none_passes f n e k l))) (cases_Bool (any f n))

-- all of this together
pub finds : (test : ℕ → Bool) (key : ℕ → ℕ) (n : ℕ) → Finds test key n
finds test key n = record {
  every = λ e k l. all_at test n k e l;
  if_every = all_from test n;
  some = some_passes test n;
  if_some = some_if_one_passes test n;
  highest = top_bounds test key n;
  reached = top_is_reached test key n;
  passes = least_passes test key n;
  smallest = least_is_smallest test key n;
  none = none_is_least test key n;
}
