-- What a call does to the journal: nothing that is settled changes, a new tag is above those of all answered operations, and a read that is answered gives no less than it waits for; X_on says it of X.
-- Each change of the journal is looked at once, and one after another they go on.
use Rattle.std.proofs.Common.{◌≡◌, ℕ, ◌+◌, ◌<◌, ◌≤◌, Bool, true, false, sym, refl, ◌∙◌, ⊎_elim, arith}
use Rattle.std.proofs.lemmas.Bool.Decides.{nat_tests}
use Rattle.std.proofs.lemmas.Bool.{cases_eq, cases_Bool}
use Rattle.model.specs.State.{Journal, Servers, State}
use Rattle.model.specs.Operations.{answered, begun, given_up}
use Rattle.model.specs.Turns.{tagged}
use Rattle.model.specs.Questions.{named_row}
use Rattle.model.proofs.Inv.{Base, Inv}

-- from l to m there are so many more rows, and nothing that is settled changes; a new tag is above those of all answered operations; a read that is answered gives no less than it waits for
pub record Onward (more : ℕ) (l m : Journal) : Type 0 where
  pub used : m.used ≡ l.used + more
  pub is_write : (r : ℕ) → r < l.used → m.is_write r ≡ l.is_write r
  pub threshold : (r : ℕ) → r < l.used → m.answered r ≡ false → m.threshold r ≡ l.threshold r
  pub client : (r : ℕ) → r < l.used → m.client r ≡ l.client r
  pub server : (r : ℕ) → r < l.used → m.server r ≡ l.server r
  pub given_up : (r : ℕ) → r < l.used → l.given_up r ≡ true → m.given_up r ≡ true
  pub answered : (r : ℕ) → l.answered r ≡ true → m.answered r ≡ true
  pub gave : (r : ℕ) → l.answered r ≡ true → m.gave r ≡ l.gave r
  pub tag : (r : ℕ) → 0 < l.tag r → m.tag r ≡ l.tag r
  pub new_tag : (r a : ℕ) → l.tag r ≡ 0 → 0 < m.tag r → l.answered a ≡ true → l.tag (named_row l a) < m.tag r
  pub answer : (r : ℕ) → r < l.used → l.answered r ≡ false → m.answered r ≡ true → l.is_write r ≡ false → l.threshold r ≤ m.tag (m.gave r)

-- a journal that stays
pub same_journal : (l : Journal) → Onward 0 l l
same_journal l = grind (arith, nat_tests)

-- an operation begins
pub begun_on : (s : State) (w : Bool) (c p t : ℕ) → Inv s → Onward 1 s.journal (begun s w c p t).journal
begun_on s w c p t i = let base = i.base in grind (arith, nat_tests)

-- an operation is given up
pub given_up_on : (s : State) (r : ℕ) → Onward 0 s.journal (given_up s r).journal
given_up_on s r = grind (arith, nat_tests)

-- operations are answered, each read with a tag that is no less than it waits for
pub answered_on : (s : State) (due : ℕ → Bool) (r : ℕ) → ((k : ℕ) → due k ≡ true → s.journal.answered k ≡ false) → ((k : ℕ) → due k ≡ true → s.journal.is_write k ≡ false → s.journal.threshold k ≤ s.journal.tag r) → Onward 0 s.journal (answered s due r).journal
answered_on s due r old high = grind (arith, nat_tests)

-- a write gets a tag above those of all answered operations
pub tagged_on : (s : State) (p r t : ℕ) → s.journal.tag r ≡ 0 → ((a : ℕ) → s.journal.answered a ≡ true → s.journal.tag (named_row s.journal a) < t) → Onward 0 s.journal (tagged s p r t).journal
tagged_on s p r t z over = grind (arith, nat_tests)

-- of an answered operation the tag stays
pub named_row_has_a_tag : (n : ℕ) (l : Journal) (servers : _) → Base n l servers → (a : ℕ) → l.answered a ≡ true → 0 < named_row l a → 0 < l.tag (named_row l a)
named_row_has_a_tag n l servers b a h pos = grind (arith, nat_tests)

-- so an answered operation keeps its tag
pub named_tag_stays : (more n : ℕ) (l : Journal) (servers : Servers) (k : ℕ) (m : Journal) (servers2 : Servers) → Base n l servers → Base k m servers2 → Onward more l m → (a : ℕ) → l.answered a ≡ true → m.tag (named_row m a) ≡ l.tag (named_row l a)
named_tag_stays more n l servers k m servers2 b d o a h =
    let e : named_row m a ≡ named_row l a = (let x = o.is_write a (b.done_used a h) in let y = o.gave a h in grind (arith, nat_tests)) in
    rw e (⊎_elim
    (λ z. rw z (d.zero_tag ∙ sym b.zero_tag))
    (λ nz. o.tag (named_row l a) (named_row_has_a_tag n l servers b a h (omega arith)))
    (cases_eq (named_row l a) 0))

-- a used row stays used
pub still_used : (r a b more : ℕ) → r < a → b ≡ a + more → r < b
still_used r a b more h e = omega arith

-- what is unanswered later was unanswered before
still_open : (a b : Bool) → (a ≡ true → b ≡ true) → b ≡ false → a ≡ false
still_open true b on d = sym (on refl) ∙ d
still_open false b on d = refl

-- one change after the other
pub onward_twice : (more n : ℕ) (l : Journal) (servers : Servers) (k : ℕ) (m : Journal) (servers2 : Servers) (j : Journal) → Base n l servers → Base k m servers2 → Onward more l m → Onward 0 m j → Onward more l j
onward_twice more n l servers k m servers2 j b d o q = let up = λ (r : ℕ) (h : r < l.used). still_used r l.used m.used more h o.used in record {
  used = let a = o.used in let c = q.used in omega arith;
  is_write = λ r h. q.is_write r (up r h) ∙ o.is_write r h;
  threshold = λ r h d. q.threshold r (up r h) d ∙ o.threshold r h (still_open (m.answered r) (j.answered r) (q.answered r) d);
  client = λ r h. q.client r (up r h) ∙ o.client r h;
  server = λ r h. q.server r (up r h) ∙ o.server r h;
  given_up = λ r h g. q.given_up r (up r h) (o.given_up r h g);
  answered = λ r h. q.answered r (o.answered r h);
  gave = λ r h. q.gave r (o.answered r h) ∙ o.gave r h;
  tag = λ r h. q.tag r (rw (o.tag r h) h) ∙ o.tag r h;
  new_tag = λ r a z pos h.
      let same = named_tag_stays more n l servers k m servers2 b d o a h in
      ⊎_elim
      (λ none. let x = q.new_tag r a none pos (o.answered a h) in omega arith)
      (λ some. let p2 : 0 < m.tag r = omega arith in let x = o.new_tag r a z p2 h in let y = q.tag r p2 in omega arith)
      (cases_eq (m.tag r) 0);
  answer = λ r low nd yd w. ⊎_elim
      (λ t.
      let x = o.answer r low nd t w in
      let y = q.gave r t in
      rw y (⊎_elim (λ zz. let x0 : l.threshold r ≤ 0 = (rw zz at x) in omega arith) (λ nz. let z = q.tag (m.gave r) (omega arith) in omega arith) (cases_eq (m.tag (m.gave r)) 0)))
      (λ f. let x = q.answer r (up r low) f yd (o.is_write r low ∙ w) in let y = o.threshold r low f in omega arith)
      (cases_Bool (m.answered r));
}
