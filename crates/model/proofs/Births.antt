-- How a run begins, how an operation begins, and what `answer` tells.
-- Each call that gives a row is a write or a read that was not refused, which pins what it leaves.
use Rattle.std.proofs.Common.{◌≡◌, ℕ, ◌<◌, ◌≤◌, Bool, true, false, cond, ◌⊎◌, Some, None, Option, sym, refl, ap, ◌∙◌, subst, inl, inr, ⊎_elim, arith}
use Rattle.std.proofs.lemmas.Bool.Decides.{nat_tests as tests}
use Rattle.std.proofs.lemmas.Bool.{leb-false, not-false}
use Rattle.model.specs.declared.Call.{Call}
use Rattle.model.specs.declared.Call.TheVariants.{Write, Read, GiveUp, Turn, Deliver, Crash, Notice, Pick}
use Rattle.model.specs.declared.Refusal.{Refusal}
use Rattle.model.specs.declared.Refusal.TheVariants.{Stray}
use Rattle.model.specs.declared.Outcome.{Outcome}
use Rattle.model.specs.declared.Outcome.TheVariants.{Row, Done, Refused}
use Rattle.counting.specs.Below.{any}
use Rattle.model.specs.State.{State, Shelf, is_stray, is_open_of}
use Rattle.model.specs.Refusals.{Told}
use Rattle.model.specs.Operations.{made, makes, refuse_make, read, refuse_read}
use Rattle.model.specs.Deliveries.{Delivers}
use Rattle.model.specs.Questions.{Telling, tells, named_row, reply, refuse_answer, answer, telling}
use Rattle.model.specs.Steps.{Step, ValuesStay}
use Rattle.model.specs.Runs.{New}
use Rattle.model.specs.Draining.{AsksBy, AsksAt}
use Rattle.model.proofs.Inv.{Inv}
use Rattle.model.proofs.Refusals.{passed, make_accepts, read_accepts, write_accepts, told_ways, stays_ways}
use Rattle.model.proofs.Later.{Later, later_wrote, later_read}

-- a new ring with nothing waiting has the invariant
pub made_inv : (n : ℕ) (w : ℕ → ℕ → ℕ → ℕ) → n ≤ 8 → ((p r f : ℕ) → w p r f ≡ 0) → Inv (made n w)
made_inv n w l e = record {
  base = grind (arith, tests);
  names = grind (arith, tests);
  ranks = grind (arith, tests);
  know = record {
    pending = λ p r q h u. omega arith;
    forward_prewrite = λ p r q h u. omega arith;
    first = λ p r q h u. omega arith;
    forward_write = λ p r q h u. omega arith;
    second = λ p r q h u. omega arith;
    held = λ p q u v. omega arith;
    returned = λ p q u v. omega arith;
    answered = λ a q h u. omega arith;
  };
}

-- a delivery gives no row
not_delivered : (o : Option Refusal) (s t : State) (p : ℕ) (out : Outcome) (b : ℕ) {P : Type 0} → Delivers o s p out t → out ≡ Row b → P
not_delivered (Some r) s t p out b h e = absurd (let q = h.0 in let z : ◌≡◌ {A = ℕ} 0 1 = cc in omega arith)
not_delivered None s t p out b (inl h) e = absurd (let q = h.1 in let z : ◌≡◌ {A = ℕ} 0 1 = cc in omega arith)
not_delivered None s t p out b {P} (inr h) e = go (is_stray s.journal h.message.row.0) h.told
  where
    go : (x : Bool) → out ≡ cond x (Refused Stray) Done → P
    go true q = absurd (let z : ◌≡◌ {A = ℕ} 0 1 = cc in omega arith)
    go false q = absurd (let z : ◌≡◌ {A = ℕ} 0 1 = cc in omega arith)

module _ {V : Type 0} where
  -- what is known of a new shelf
  pub record Fresh (first : V) (t : Shelf V) : Type 0 where
    pub inv : Inv t.state
    pub used : t.state.journal.used ≡ 1
    pub rows : t.rows ≡ 256
    pub is_write : t.state.journal.is_write 0 ≡ true
    pub values : t.values 0 ≡ first
    pub size : ℕ
    pub wires : ℕ → ℕ → ℕ → ℕ
    pub is : t.state ≡ made size wires
    pub none : (p r f : ℕ) → wires p r f ≡ 0

  -- a new shelf is so
  pub new_fresh : (first : V) (t : Shelf V) → New first t → Fresh first t
  new_fresh first t n = ⊎_elim
      (λ w. absurd (let q = w.1 in let z : ◌≡◌ {A = ℕ} 0 1 = cc in omega arith))
      (λ w.
      let a = make_accepts n.lent.rows n.size w.0 in
      let e = w.2 in
      let none = λ (p r f : ℕ). sym (ap (λ (x : Shelf V). x.state.waiting p r f) e) ∙ n.empty p r f in
      rw e (record { inv = made_inv n.size n.lent.state.waiting a.0 none; used = refl; rows = a.1; is_write = refl; values = refl; size = n.size; wires = n.lent.state.waiting; is = refl; none = none }))
      (told_ways (refuse_make n.lent.rows n.size) n.lent Done (makes n.lent n.size first) Done t n.made)

  -- operation b begins
  pub record Born (s t : Shelf V) (c : Call V) (b : ℕ) : Type 0 where
    pub is_new : b ≡ s.state.journal.used
    pub low : b < t.state.journal.used
    pub kind : ((k p : ℕ) × (v : V) × (c ≡ Write k p v) × (t.state.journal.is_write b ≡ true) × (t.values b ≡ v)) ⊎ ((k p : ℕ) × (c ≡ Read k p) × (t.state.journal.is_write b ≡ false))
    pub client : (k : ℕ) → AsksBy c k → t.state.journal.client b ≡ k
    pub server : (p : ℕ) → AsksAt c p → t.state.journal.server b ≡ p
    pub stands : (p : ℕ) → AsksAt c p → t.state.servers.standing p ≡ true
    pub free : (k : ℕ) → AsksBy c k → any (is_open_of s.state.journal k) 256 ≡ false
    pub later : (a : ℕ) → s.state.journal.answered a ≡ true → Later t.state.journal a b

  -- a call that tells another thing gives no row
  not_row : (o : Option Refusal) (s t v : Shelf V) (out : Outcome) (b : ℕ) {P : Type 0} → Told o s Done v out t → out ≡ Row b → P
  not_row o s t v out b h e = ⊎_elim
      (λ w. absurd (let q = w.1 in let z : ◌≡◌ {A = ℕ} 0 1 = cc in omega arith))
      (λ w. absurd (let q = w.1 in let z : ◌≡◌ {A = ℕ} 0 1 = cc in omega arith))
      (told_ways o s Done v out t h)

  -- the same of a call that leaves the values
  not_row_state : (o : Option Refusal) (s t : Shelf V) (v : State) (out : Outcome) (b : ℕ) {P : Type 0} → ValuesStay s (Told o s.state Done v) out t → out ≡ Row b → P
  not_row_state o s t v out b h e = ⊎_elim
      (λ w. absurd (let q = w.1 in let z : ◌≡◌ {A = ℕ} 0 1 = cc in omega arith))
      (λ w. absurd (let q = w.1 in let z : ◌≡◌ {A = ℕ} 0 1 = cc in omega arith))
      (stays_ways o s Done v out t h)

  -- a call that gives a row begins its operation
  pub born : (s t : Shelf V) (c : Call V) (o : Outcome) (b : ℕ) → Inv s.state → Step s c o t → o ≡ Row b → Born s t c b
  born s t (Write k p v) o b i h e = ⊎_elim
      (λ w. absurd (let q = w.1 in let z : ◌≡◌ {A = ℕ} 0 1 = cc in omega arith))
      (λ w. let q = w.1 in let is : b ≡ s.state.journal.used = cc in let a = write_accepts s.state s.rows k p w.0 in rw (is, w.2) (record {
        is_new = refl;
        low = omega arith;
        kind = inl (k, p, v, refl, grind (arith, tests), grind (arith, tests));
        client = λ c e. grind (arith, tests);
        server = λ q e. grind (arith, tests);
        stands = λ q e. subst (λ x. s.state.servers.standing x ≡ true) e a.standing;
        free = λ c e. subst (λ x. any (is_open_of s.state.journal x) 256 ≡ false) e a.free;
        later = λ a d. later_wrote s.state k p a i d;
      }))
      (told_ways _ s _ _ o t h)
  born s t (Read k p) o b i h e = ⊎_elim
      (λ w. absurd (let q = w.1 in let z : ◌≡◌ {A = ℕ} 0 1 = cc in omega arith))
      (λ w. let q = w.1 in let is : b ≡ s.state.journal.used = cc in let a = read_accepts s.state k p w.0 in rw (is, w.2) (record {
        is_new = refl;
        low = omega arith;
        kind = inr (k, p, refl, grind (arith, tests));
        client = λ c e. grind (arith, tests);
        server = λ q e. grind (arith, tests);
        stands = λ q e. subst (λ x. s.state.servers.standing x ≡ true) e a.standing;
        free = λ c e. subst (λ x. any (is_open_of s.state.journal x) 256 ≡ false) e a.free;
        later = λ x d. later_read s.state k p x i d a.standing;
      }))
      (stays_ways (refuse_read s.state k p) s (Row s.state.journal.used) (read s.state k p) o t h)
  born s t (GiveUp k) o b i h e = not_row_state _ s t _ o b h e
  born s t (Turn p) o b i h e = not_row_state _ s t _ o b h e
  born s t (Deliver p) o b i h e = not_delivered _ s.state t.state p o b h.0 e
  born s t (Crash p) o b i h e = not_row_state _ s t _ o b h e
  born s t (Notice p x) o b i h e = not_row_state _ s t _ o b h e
  born s t (Pick k) o b i h e = not_row None s t s o b h e

  -- of an answered operation `answer` tells
  pub answers : (s : Shelf V) (r : ℕ) → r < s.state.journal.used → s.state.journal.answered r ≡ true → s.rows ≡ 256 → answer s r ≡ tells (telling s r)
  answers s r l d e = ap (λ o. reply o (telling s r)) none
    where
      none : refuse_answer s.state.journal s.rows r ≡ None
      none = grind (arith, tests)

  -- what follows where `answer` tells of row r, with the value v
  pub record Answers (s : Shelf V) (r : ℕ) (v : V) : Type 0 where
    pub low : r < s.state.journal.used
    pub answered : s.state.journal.answered r ≡ true
    pub value : v ≡ s.values (named_row s.state.journal r)

  -- what it tells of is an answered operation, and the value is that of the row it names
  pub answered_is : (s : Shelf V) (r : ℕ) (t : Telling V) → answer s r ≡ tells t → Answers s r t.value
  answered_is s r t h = go (refuse_answer s.state.journal s.rows r) refl h
    where
      go : (o : Option Refusal) → refuse_answer s.state.journal s.rows r ≡ o → reply o (telling s r) ≡ tells t → Answers s r t.value
      go (Some e) q g = absurd (let z : ◌≡◌ {A = ℕ} 0 1 = cc in omega arith)
      go None q g = let e : telling s r ≡ t = cc in let a = passed _ _ _ q in let b = passed _ _ _ a.1 in record {
        low = leb-false s.state.journal.used r a.0;
        answered = not-false _ b.0;
        value = sym (ap (λ (x : Telling V). x.value) e);
      }
