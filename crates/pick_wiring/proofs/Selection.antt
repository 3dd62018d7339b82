-- Bringing the least of the rest to the front, turn by turn, sorts the front of a pile.
-- What stands behind place i after the exchange stood at or behind i before it, so that nothing in front of it is above it.
use Rattle.std.proofs.Common.{◌≡◌, ℕ, ◌+◌, ◌-◌, ◌<◌, ◌≤◌, false, List, length, get_or, take, drop, set, sym, ap, ◌∙◌, ⊎_elim, arith}
use lib.Seq.{take-set-lt}
use Rattle.std.proofs.lemmas.List.{get_or-drop, get_or-take, length-drop, length-take-le}
use Rattle.std.proofs.lemmas.Bool.{cases_eq, cases_lt}
use Rattle.masks.specs.Listed.{no_place, times}
use Rattle.messages.specs.declared.Place.{Place}
use Rattle.messages.specs.Places.{place_below}
use Rattle.search.specs.Order.{LeastOf}
use Rattle.pick_wiring.specs.Piled.{Brought, LeastFrom, SortedFront, exchanged}
use Rattle.pick_wiring.proofs.Exchanges.{an_exchange_keeps_the_length, an_exchange_keeps_the_places, the_first_comes_from_j, the_other_comes_from_i, the_rest_stays}

-- a key of the slice from `at` on is a place of the pile
a_key_is_a_place : (places : List Place) (n at k : ℕ) → n ≤ length places → at ≤ k → k < n
    → get_or (take (n - at) (drop at places)) (k - at) no_place ≡ get_or (take n places) k no_place
a_key_is_a_place places n at k long l m =
    let e : at + (k - at) ≡ k = omega arith in
    get_or-take (n - at) (drop at places) (k - at) no_place (omega arith)
    ∙ (get_or-drop at places (k - at) no_place ∙ (ap (λ i. get_or places i no_place) e ∙ sym (get_or-take n places k no_place m)))

pub the_least_is_brought : (places ys : List Place) (n at offset : ℕ) → n ≤ length places → at < n
    → LeastOf place_below (take (n - at) (drop at places)) (length (take (n - at) (drop at places))) offset
    → ys ≡ exchanged places at (at + offset)
    → Brought (take n places) at (take n ys)
the_least_is_brought places ys n at offset long l found e =
    let keys = take (n - at) (drop at places) in
    let many : length keys ≡ n - at = length-take-le (n - at) (drop at places) (omega (arith, length-drop at places)) in
    let few : length (take n places) ≡ n = length-take-le n places long in
    let j = at + offset in
    let within : j < n = omega (arith, many, found.within) in
    let back : j - at ≡ offset = omega arith in
    let here : get_or keys offset no_place ≡ get_or (take n places) j no_place = ap (λ k. get_or keys k no_place) (sym back) ∙ a_key_is_a_place places n at j long (omega arith) within in
    let u = get_or-take n places j no_place within in
    let v = get_or-take n places at no_place l in
    record {
      past = λ p. absurd (omega (arith, few, p, l));
      inside = λ p. (
        j,
        record {
          from = omega arith;
          within = omega (arith, few, within);
          none_below = λ k a b.
              let m : k < n = omega (arith, few, b) in
              ap (λ x. place_below x (get_or (take n places) j no_place)) (sym (a_key_is_a_place places n at k long a m))
              ∙ (ap (λ x. place_below (get_or keys (k - at) no_place) x) (sym here) ∙ found.none_below no_place (k - at) (omega (arith, many)));
        },
        ap (take n) e
            ∙ (take-set-lt n (set places at (get_or places j no_place)) j (get_or places at no_place) within
            ∙ (ap (λ (zs : List Place). set zs j (get_or places at no_place)) (take-set-lt n places at (get_or places j no_place) l)
            ∙ (ap (λ x. set (set (take n places) at x) j (get_or places at no_place)) (sym u) ∙ ap (λ x. set (set (take n places) at (get_or (take n places) j no_place)) j x) (sym v)))),
      );
    }

-- a place at or behind i after the exchange stood at or behind i before it
comes_from_behind : (ys : List Place) (i j b : ℕ) → i ≤ j → j < length ys → i ≤ b → b < length ys
    → (k : ℕ) × (i ≤ k) × (k < length ys) × (get_or (exchanged ys i j) b no_place ≡ get_or ys k no_place)
comes_from_behind ys i j b from within l m = ⊎_elim
    (λ (e : b ≡ i). (j, from, within, ap (λ k. get_or (exchanged ys i j) k no_place) e ∙ the_first_comes_from_j ys i j (omega arith) within))
    (λ n. ⊎_elim
    (λ (e : b ≡ j). (i, omega arith, omega arith, ap (λ k. get_or (exchanged ys i j) k no_place) e ∙ the_other_comes_from_i ys i j within))
    (λ o. (b, l, m, the_rest_stays ys i j b n o))
    (cases_eq b j))
    (cases_eq b i)

front_stays_sorted : (xs ys : List Place) (i j a b : ℕ) → SortedFront xs i ys → LeastFrom ys i j → a < i → a < b → b < length xs
    → place_below (get_or (exchanged ys i j) b no_place) (get_or (exchanged ys i j) a no_place) ≡ false
front_stays_sorted xs ys i j a b s t l m h =
    let first = the_rest_stays ys i j a (omega arith) (omega (arith, t.from)) in
    ap (place_below (get_or (exchanged ys i j) b no_place)) first ∙ ⊎_elim
    (λ (c : b < i). ap (λ x. place_below x (get_or ys a no_place)) (the_rest_stays ys i j b (omega arith) (omega (arith, t.from))) ∙ s.sorted a b l m h)
    (λ (c : i ≤ b).
    let k = comes_from_behind ys i j b t.from t.within c (omega (arith, s.long)) in
    ap (λ x. place_below x (get_or ys a no_place)) k.3 ∙ s.sorted a k.0 l (omega (arith, k.1)) (omega (arith, k.2, s.long)))
    (cases_lt b i)

one_more_is_sorted : (xs ys : List Place) (i j b : ℕ) → SortedFront xs i ys → LeastFrom ys i j → i < length ys → i < b → b < length xs
    → place_below (get_or (exchanged ys i j) b no_place) (get_or (exchanged ys i j) i no_place) ≡ false
one_more_is_sorted xs ys i j b s t inside m h =
    let k = comes_from_behind ys i j b t.from t.within (omega arith) (omega (arith, s.long)) in
    ap (place_below (get_or (exchanged ys i j) b no_place)) (the_first_comes_from_j ys i j inside t.within)
    ∙ (ap (λ x. place_below x (get_or ys j no_place)) k.3 ∙ t.none_below k.0 k.1 k.2)

pub one_turn_sorts_one_more : (xs ys zs : List Place) (i : ℕ) → SortedFront xs i ys → Brought ys i zs → SortedFront xs (i + 1) zs
one_turn_sorts_one_more xs ys zs i s brought = ⊎_elim
    (λ (inside : i < length ys).
    let found = brought.inside inside in
    let j = found.0 in
    let t = found.1 in
    let e = found.2 in
    record {
      long = ap length e ∙ (an_exchange_keeps_the_length ys i j ∙ s.long);
      same = λ row phase. ap (λ (ps : List Place). times ps row phase) e ∙ (an_exchange_keeps_the_places ys i j row phase inside t.within ∙ s.same row phase);
      sorted = λ a b l m h. ap (λ (ps : List Place). place_below (get_or ps b no_place) (get_or ps a no_place)) e ∙ ⊎_elim
          (λ (c : a < i). front_stays_sorted xs ys i j a b s t c m h)
          (λ (c : i ≤ a).
          let z : a ≡ i = omega arith in
          ap (λ k. place_below (get_or (exchanged ys i j) b no_place) (get_or (exchanged ys i j) k no_place)) z ∙ one_more_is_sorted xs ys i j b s t inside (omega arith) h)
          (cases_lt a i);
    })
    (λ (out : length ys ≤ i).
    let e = brought.past out in
    record {
      long = ap length e ∙ s.long;
      same = λ row phase. ap (λ (ps : List Place). times ps row phase) e ∙ s.same row phase;
      sorted = λ a b l m h. ap (λ (ps : List Place). place_below (get_or ps b no_place) (get_or ps a no_place)) e ∙ s.sorted a b (omega (arith, s.long)) m h;
    })
    (cases_lt i (length ys))
