-- Searching and counting the used rows by chains: the first that passes is the least of all rows, and those that pass are all that do, since past the used rows none passes.
use Rattle.std.proofs.Common.{◌≡◌, ℕ, zero, suc, ◌<◌, ◌≤◌, Bool, true, false, cond, ◌&&◌, ◌||◌, ltb, Some, None, Option, is_some, List, length, take, get_or, sym, refl, ap, ◌∙◌, ⊎_elim, arith}
use Rattle.std.specs.List.{filter, position}
use Rattle.std.proofs.lemmas.Bool.Decides.{nat_tests}
use Rattle.std.proofs.lemmas.Bool.{cases_Bool, cases_eq, cases_lt, le-ltb, lt-ltb}
use Rattle.std.proofs.lemmas.List.{length-take-le, get_or-take}
use Rattle.std.proofs.lemmas.List.Quantifiers.{position-Some}
use Rattle.std.proofs.lemmas.List.Sums.{fails_before_first}
use Rattle.counting.specs.Below.{any, count, least, better}
use Rattle.counting.proofs.Counts.{counts_of_equal_tests_are_equal}
use Rattle.counting.proofs.Ranges.{count_of_front}
use Rattle.counting.proofs.Searches.{none_is_found}
use Rattle.messages.specs.declared.Row.{Row}
use Rattle.operation.specs.declared.operation.Operation.{Operation}
use Rattle.operation.specs.Events.{unused_operation}
use Rattle.journal.specs.declared.journal.Journal.{Journal}
use Rattle.journal.specs.Questions.{row_found}
use Rattle.journal.specs.Rows.{operation_at}
use Rattle.journal.specs.Tests.{passes_in}

pub the_first_is_the_least : (f : ℕ → Bool) (n k : ℕ) → k < n → f k ≡ true → ((j : ℕ) → j < k → f j ≡ false) → least f (λ j. j) n ≡ Some k
unfolding least
the_first_is_the_least f zero k l e h = absurd (omega arith)
the_first_is_the_least f (suc n) k l e h = ⊎_elim
    (λ (q : k ≡ n).
    ap (better f (λ j. j) n) (none_is_found f (λ j. j) n (λ j low. h j (omega arith)))
    ∙ (ap (λ b. cond b (Some n) None) (ap f (sym q) ∙ e) ∙ ap Some (sym q)))
    (λ (ne : k ≡ n → ⊥).
    let above : ltb n k ≡ false = grind (arith, nat_tests) in
    ap (better f (λ j. j) n) (the_first_is_the_least f n k (omega arith) e h) ∙ (let t : (f n && ltb n k) ≡ false = grind (arith, nat_tests) in ap (λ b. cond b (Some n) (Some k)) t))
    (cases_eq k n)

-- one is found exactly where some passes
some_is_found : (f : ℕ → Bool) (g : ℕ → ℕ) (n : ℕ) → is_some (least f g n) ≡ any f n
unfolding least any
some_is_found f g zero = refl
some_is_found f g (suc n) = let a = some_is_found f g n in go (least f g n) a
  where
    go : (o : Option ℕ) → is_some o ≡ any f n → is_some (better f g n o) ≡ (f n || any f n)
    go None e = ⊎_elim (λ (t : f n ≡ true). rw t refl) (λ (t : f n ≡ false). rw t e) (cases_Bool (f n))
    go (Some k) e = ⊎_elim (λ (t : f n ≡ true). rw t (let z = cases_Bool (ltb (g n) (g k)) in grind (arith, nat_tests))) (λ (t : f n ≡ false). rw t e) (cases_Bool (f n))

-- so where the answer is the least row that passes, it names one exactly where some row passes
pub a_row_is_found : (row : Option Row) (f : ℕ → Bool) (n : ℕ) → row_found row ≡ least f (λ k. k) n → is_some row ≡ any f n
a_row_is_found None f n e = ap is_some e ∙ some_is_found f (λ k. k) n
a_row_is_found (Some r) f n e = ap is_some e ∙ some_is_found f (λ k. k) n

-- a count up to where the last can pass is the whole count
pub the_count_is_whole : (f : ℕ → Bool) (u n : ℕ) → u ≤ n → ((j : ℕ) → u ≤ j → f j ≡ false) → count f n ≡ count f u
unfolding count
the_count_is_whole f u zero l h = let e : u ≡ 0 = omega arith in ap (count f) (sym e)
the_count_is_whole f u (suc n) l h = ⊎_elim
    (λ (below : u < suc n). let a = the_count_is_whole f u n (omega arith) h in let b = h n (omega arith) in grind (arith, nat_tests))
    (λ (past : suc n ≤ u). let e : suc n ≡ u = omega arith in ap (count f) e)
    (cases_lt u (suc n))

-- among the first n elements of a list the first that passes p stands at the least place that passes f, if f is the test of the place's element, and false from n on
module _ {X : Type 0} (p : X → Bool) (xs : List X) (d : X) (n : ℕ) (fits : n ≤ length xs)
    (f : ℕ → Bool) (m : ℕ) (room : n ≤ m) (same : (k : ℕ) → k < n → f k ≡ p (get_or xs k d)) (past : (k : ℕ) → n ≤ k → f k ≡ false) where
  in_front : (k : ℕ) → k < n → f k ≡ p (get_or (take n xs) k d)
  in_front k l = same k l ∙ ap p (sym (get_or-take n xs k d l))

  first_of_the_front : (o : Option ℕ) → position p (take n xs) ≡ o → o ≡ least f (λ k. k) m
  first_of_the_front None e =
      let len = length-take-le n xs fits in
      let fails : (k : ℕ) → k < n → f k ≡ false = (λ k l. in_front k l ∙ (let t = fails_before_first p (take n xs) k d in grind (arith, nat_tests))) in
      sym (none_is_found f (λ k. k) m (λ k l. ⊎_elim (fails k) (past k) (cases_lt k n)))
  first_of_the_front (Some i) e =
      let len = length-take-le n xs fits in
      let found = position-Some p (take n xs) i d e in
      let low : i < n = omega (arith, found.0) in
      sym (the_first_is_the_least f m i (omega arith) (in_front i low ∙ found.1) (λ k l. in_front k (omega arith) ∙ found.2 k l))

  position_is_the_least : position p (take n xs) ≡ least f (λ k. k) m
  position_is_the_least = first_of_the_front (position p (take n xs)) refl

  count_is_the_count : length (filter p (take n xs)) ≡ count f m
  count_is_the_count = count_of_front xs d p n fits ∙ (sym (counts_of_equal_tests_are_equal f (λ k. p (get_or xs k d)) n same) ∙ sym (the_count_is_whole f n m room past))

-- and so for the used rows of a journal
module _ (j : Journal) (test : Operation → Bool) where
  used_fit : j.used ≤ length j.rows
  used_fit = omega (arith, j.room, j.sized)

  below : (k : ℕ) → k < j.used → passes_in j test k ≡ test (operation_at j.rows k)
  below k l = ap (λ b. b && test (operation_at j.rows k)) (lt-ltb k j.used l)

  past_used : (k : ℕ) → j.used ≤ k → passes_in j test k ≡ false
  past_used k l = ap (λ b. b && test (operation_at j.rows k)) (le-ltb k j.used l)

  pub first_used : position test (take j.used j.rows) ≡ least (passes_in j test) (λ k. k) 256
  first_used = position_is_the_least test j.rows unused_operation j.used used_fit (passes_in j test) 256 j.room below past_used

  pub count_used : length (filter test (take j.used j.rows)) ≡ count (passes_in j test) 256
  count_used = count_is_the_count test j.rows unused_operation j.used used_fit (passes_in j test) 256 j.room below past_used
