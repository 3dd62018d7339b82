-- What a pass over the rows that pass a test finds, as a chain of iterators makes it: the highest tag, and the row with the highest tag.
-- By induction on how many rows there are, the last one being the step.
use Rattle.std.proofs.Common.{◌≡◌, ℕ, zero, suc, ◌+◌, ◌<◌, max, Bool, true, false, cond, ltb, List, [], ◌∷◌, refl, sym, ap, ◌∙◌, map, subst, arith}
use Rattle.std.specs.Fn.{Called}
use Rattle.std.specs.Iterator.Adapters.{map_source, map_callee}
use Rattle.std.specs.List.{filter, fold, range_with_len}
use Rattle.std.specs.declared.iter.Map.{Map}
use Rattle.std.specs.declared.ops.Range.{Range}
use Rattle.std.proofs.iter.Yields.{nat_range_steps}
use Rattle.std.proofs.lemmas.Bool.Decides.{nat_tests}
use Rattle.std.proofs.lemmas.Iterator.{YieldsList, maps, YieldsList-from_range, YieldsList-from_map}
use Rattle.std.proofs.lemmas.List.Sums.{fold-append}
use Rattle.std.proofs.lemmas.List.FromFn.{filter_of_map_range_with_len_more}
use denote.Param.Members.{Mut}
use Rattle.counting.specs.Below.{top}
use Rattle.messages.specs.declared.Row.{Row}
use Rattle.model.specs.State.{tag_number, tag_server}
use Rattle.operation.specs.declared.tag.Tag.{Tag}
use Rattle.operation.specs.Tags.{first_tag, higher_tag, tag_key}

-- row k
abbrev pub row_at : ℕ → Row
row_at k = record { 0 = k }

-- a chain from the numbers below 256, whose closure makes rows of them, gives the rows in order
pub the_rows_in_order : {F : Type 0} {s : Map (Range ℕ) F} (g : Mut F (ℕ × Unit {0}) Row) {f : F} → map_source s ≡ record { start = 0; end = 256 } → map_callee s ≡ f
    → ((k : ℕ) (r : Row) (q : F) → Called g f (k, tt) r q → (q ≡ f) × (r ≡ row_at k)) → YieldsList (maps nat_range_steps g) (λ r. r) s (map row_at (range_with_len 0 256))
the_rows_in_order g range same makes = YieldsList-from_map g row_at (YieldsList-from_range 0 256 256 range (omega arith)) same makes

-- the tag of a row, where its key is known
abbrev pub tag_at : (ℕ → ℕ) → Row → Tag
tag_at tag r = record { number = tag_number (tag r.0); server = tag_server (tag r.0) }

-- the higher of a row and another that is looked at after it
abbrev pub higher_row : (ℕ → ℕ) → Row → Row → Row
higher_row tag a b = cond (ltb (tag a.0) (tag b.0)) b a

module _ (test : ℕ → Bool) where
  -- of the first n rows those that pass
  abbrev pub rows_passing : ℕ → List Row
  rows_passing n = filter (λ r. test r.0) (map row_at (range_with_len 0 n))

  -- a fold that keeps what it has at rows that fail is the fold over those that pass
  pub over_those_that_pass : {B : Type 0} (h : B → Row → B) (a : B) (rows : List Row) → fold (λ b r. cond (test r.0) (h b r) b) a rows ≡ fold h a (filter (λ r. test r.0) rows)
  over_those_that_pass h a [] = refl
  over_those_that_pass h a (r ∷ rows) = over_those_that_pass h (cond (test r.0) (h a r) a) rows ∙ by_test (test r.0)
    where
      by_test : (b : Bool) → fold h (cond b (h a r) a) (filter (λ x. test x.0) rows) ≡ fold h a (cond b (r ∷ filter (λ x. test x.0) rows) (filter (λ x. test x.0) rows))
      by_test true = refl
      by_test false = refl

  -- one row more at the end of a fold
  pub one_row_more : {B : Type 0} (h : B → Row → B) (a : B) (n : ℕ) → fold h a (rows_passing (suc n)) ≡ cond (test n) (h (fold h a (rows_passing n)) (row_at n)) (fold h a (rows_passing n))
  one_row_more h a n =
      let e : suc n ≡ n + 1 = omega arith in
      let more = filter_of_map_range_with_len_more (λ r. test r.0) row_at 0 n n (omega arith) in
      ap (λ m. fold h a (rows_passing m)) e ∙ (ap (fold h a) more ∙ (fold-append h a (rows_passing n) (cond (test n) (row_at n ∷ []) []) ∙ by_test (test n)))
    where
      by_test : (b : Bool) → fold h (fold h a (rows_passing n)) (cond b (row_at n ∷ []) []) ≡ cond b (h (fold h a (rows_passing n)) (row_at n)) (fold h a (rows_passing n))
      by_test true = refl
      by_test false = refl

  module _ (tag : ℕ → ℕ) where
    -- the highest tag, whose key is the highest key, and whose server is a byte
    record Highest (n : ℕ) (t : Tag) : Type 0 where
      key : tag_key t ≡ top test tag n
      byte : t.server < 256

    highest_so_far : (n : ℕ) → Highest n (fold (λ a r. higher_tag a (tag_at tag r)) first_tag (rows_passing n))
    unfolding top
    highest_so_far zero = record { key = refl; byte = omega arith }
    highest_so_far (suc n) = subst (Highest (suc n)) (sym (one_row_more (λ a r. higher_tag a (tag_at tag r)) first_tag n)) (by_test (test n) refl _ (highest_so_far n))
      where
        by_test : (b : Bool) → test n ≡ b → (t : Tag) → Highest n t → Highest (suc n) (cond b (higher_tag t (tag_at tag (row_at n))) t)
        by_test true e a was = grind (arith, nat_tests)
        by_test false e a was = grind (arith, nat_tests)

    pub highest_tag_is_top : (n : ℕ) → tag_key (fold (λ a r. higher_tag a (tag_at tag r)) first_tag (rows_passing n)) ≡ top test tag n
    highest_tag_is_top n = (highest_so_far n).key

    -- the row with the highest tag, or the one that was given
    pub highest_row_is_top : (r : Row) (n : ℕ) → tag_number (tag (fold (higher_row tag) r (rows_passing n)).0) ≡ max (tag_number (tag r.0)) (top test (λ k. tag_number (tag k)) n)
    unfolding top
    highest_row_is_top r zero = omega arith
    highest_row_is_top r (suc n) = ap (λ a. tag_number (tag a.0)) (one_row_more (higher_row tag) r n) ∙ by_test (test n) refl _ (highest_row_is_top r n)
      where
        by_test : (b : Bool) → test n ≡ b → (a : Row) → tag_number (tag a.0) ≡ max (tag_number (tag r.0)) (top test (λ k. tag_number (tag k)) n)
            → tag_number (tag (cond b (higher_row tag a (row_at n)) a).0) ≡ max (tag_number (tag r.0)) (max (top test (λ k. tag_number (tag k)) n) (cond (test n) (tag_number (tag n)) 0))
        by_test true e a was = grind (arith, nat_tests)
        by_test false e a was = grind (arith, nat_tests)
