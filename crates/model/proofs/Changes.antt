-- Each kind of change that leaves tags, held rows and pending rows alone keeps the invariant; X_inv says it of X.
-- What servers know is then the same before and after, so only what the change adds has to be known already.
use Rattle.std.proofs.Common.{◌≡◌, ℕ, ◌<◌, ◌≤◌, Bool, true, false, cond, ◌&&◌, eqb, sym, refl, ◌∙◌, ⊎_elim, arith}
use Rattle.std.proofs.lemmas.Bool.Decides.{nat_tests}
use Rattle.std.proofs.lemmas.Bool.{cases_Bool, or_cases}
use Rattle.servers.specs.Sets.{has, join}
use Rattle.servers.proofs.Members.{sets, has_join}
use Rattle.model.specs.State.{State}
use Rattle.model.specs.Sending.{posted, gone}
use Rattle.model.specs.Operations.{begun, answered, given_up}
use Rattle.model.specs.Turns.{releases_write, counted}
use Rattle.model.specs.Deliveries.{raised, keeps_prewrite, keeps_write}
use Rattle.model.specs.Crashes.{learns, posts_pending}
use Rattle.model.specs.Questions.{named_row}
use Rattle.model.proofs.Inv.{best, Inv}

-- a server in a mask, where another mask may have joined it
pub in_a_joined_mask : {P : Type 0} (c : Bool) (w m q : ℕ) → has (cond c (join w m) w) q ≡ true → (has w q ≡ true → P) → (c ≡ true → has m q ≡ true → P) → P
in_a_joined_mask true w m q h a b = ⊎_elim a (b refl) (or_cases (has w q) (has m q) (sym (has_join w m q) ∙ h))
in_a_joined_mask false w m q h a b = a h

-- an operation is given up
pub given_up_inv : (s : State) (r : ℕ) → Inv s → Inv (given_up s r)
given_up_inv s r i = let base = i.base in let names = i.names in let ranks = i.ranks in let know = i.know in
    record { base = grind (arith, nat_tests); names = grind (arith, nat_tests); ranks = grind (arith, nat_tests); know = grind (arith, nat_tests) }

-- a new row
pub begun_inv : (s : State) (w : Bool) (c p t : ℕ) → s.journal.used < 256 → Inv s → Inv (begun s w c p t)
begun_inv s w c p t l i = let base = i.base in let names = i.names in let ranks = i.ranks in let know = i.know in
    record { base = grind (arith, nat_tests); names = grind (arith, nat_tests); ranks = grind (arith, nat_tests); know = grind (arith, nat_tests) }

-- operations are answered: used ones, with rows whose tags all know
pub record Answerable (s : State) (due : ℕ → Bool) (r : ℕ) : Type 0 where
  pub low : (k : ℕ) → due k ≡ true → k < s.journal.used
  pub is_write : (k : ℕ) → due k ≡ true → s.journal.is_write k ≡ true → 0 < s.journal.tag k
  pub read : (k : ℕ) → due k ≡ true → s.journal.is_write k ≡ false → 0 < r → 0 < s.journal.tag r
  pub old : (k : ℕ) → due k ≡ true → s.journal.answered k ≡ false
  pub known : (k q : ℕ) → due k ≡ true → s.servers.standing q ≡ true → s.journal.tag (cond (s.journal.is_write k) k r) ≤ best s q

-- the row that an operation names, once those that are due are answered with row r
named_if_due : (s : State) (due : ℕ → Bool) (r k : ℕ) → due k ≡ true → named_row (answered s due r).journal k ≡ cond (s.journal.is_write k) k r
named_if_due s due r k d = grind (arith, nat_tests)

-- and of those that are not due it stays
named_if_not_due : (s : State) (due : ℕ → Bool) (r k : ℕ) → due k ≡ false → named_row (answered s due r).journal k ≡ named_row s.journal k
named_if_not_due s due r k d = grind (arith, nat_tests)

-- answering them keeps the invariant
pub answered_inv : (s : State) (due : ℕ → Bool) (r : ℕ) → Answerable s due r → Inv s → Inv (answered s due r)
answered_inv s due r a i = let base = i.base in let names = i.names in let ranks = i.ranks in let know = i.know in
    record {
      base = grind (arith, nat_tests);
      names = grind (arith, nat_tests);
      ranks = grind (arith, nat_tests);
      know = record {
        pending = know.pending;
        forward_prewrite = know.forward_prewrite;
        first = know.first;
        forward_write = know.forward_write;
        second = know.second;
        held = know.held;
        returned = know.returned;
        answered = λ k q h u. ⊎_elim
            (λ (d : due k ≡ true). rw (named_if_due s due r k d) (a.known k q d u))
            (λ (d : due k ≡ false). rw (named_if_not_due s due r k d) (know.answered k q (rw d at h) u))
            (cases_Bool (due k));
      };
    }

-- a message is put: one that names a started write, and that says the truth
pub record Postable (s : State) (r f m : ℕ) : Type 0 where
  pub named : 0 < m → 0 < s.journal.tag r
  pub first : f ≡ 1 → (q : ℕ) → has m q ≡ true → s.servers.standing q ≡ true → s.journal.tag r ≤ best s q
  pub second : f ≡ 2 → 0 < m → (q : ℕ) → s.servers.standing q ≡ true → s.journal.tag r ≤ best s q

-- putting it keeps the invariant
pub posted_inv : (s : State) (q r f m : ℕ) → Postable s r f m → Inv s → Inv (posted s q r f m)
posted_inv s q r f m a i = let base = i.base in let names = i.names in let ranks = i.ranks in let know = i.know in
    record {
      base = base;
      names = grind (arith, nat_tests, sets);
      ranks = grind (arith, nat_tests);
      know = record {
        pending = know.pending;
        forward_prewrite = know.forward_prewrite;
        forward_write = know.forward_write;
        held = know.held;
        returned = know.returned;
        answered = know.answered;
        first = λ x k y h u. in_a_joined_mask _ (s.waiting x k 1) m y h (λ g. know.first x k y g u) (λ c g. let e : k ≡ r = grind (arith, nat_tests) in let d : f ≡ 1 = grind (arith, nat_tests) in rw e (a.first d y g u));
        second = λ x k y h u. let old = know.second x k y in let new = a.second in grind (arith, nat_tests, sets);
      };
    }

-- a message leaves
pub gone_inv : (s : State) (p r f : ℕ) → Inv s → Inv (gone s p r f)
gone_inv s p r f i = let base = i.base in let names = i.names in let ranks = i.ranks in let know = i.know in
    record { base = base; names = grind (arith, nat_tests, sets); ranks = grind (arith, nat_tests); know = grind (arith, nat_tests, sets) }

-- the returned tag is raised to one that all know
pub raised_inv : (s : State) (p t : ℕ) → ((q : ℕ) → s.servers.standing q ≡ true → t ≤ best s q) → Inv s → Inv (raised s p t)
raised_inv s p t a i = let base = i.base in let names = i.names in let ranks = i.ranks in let know = i.know in
    record { base = grind (arith, nat_tests); names = grind (arith, nat_tests); ranks = grind (arith, nat_tests); know = grind (arith, nat_tests) }

-- a pre-write that says the truth is kept to be forwarded
pub keeps_prewrite_inv : (s : State) (p r m : ℕ) → Postable s r 1 m → Inv s → Inv (keeps_prewrite s p r m)
keeps_prewrite_inv s p r m a i = let base = i.base in let names = i.names in let ranks = i.ranks in let know = i.know in
    record {
      base = grind (arith, nat_tests);
      names = grind (arith, nat_tests, sets);
      ranks = grind (arith, nat_tests);
      know = record {
        pending = know.pending;
        forward_write = know.forward_write;
        held = know.held;
        returned = know.returned;
        answered = know.answered;
        first = know.first;
        second = know.second;
        forward_prewrite = λ x k y h u. ⊎_elim
            (λ e. let e2 : (x ≡ p) × (k ≡ r) = grind (arith, nat_tests) in rw e2.1 (⊎_elim (λ g. know.forward_prewrite p r y g u) (λ g. a.first refl y g u) (or_cases (has (s.servers.forward_prewrite p r) y) (has m y) (sym (has_join (s.servers.forward_prewrite p r) m y) ∙ (rw e at h)))))
            (λ e. know.forward_prewrite x k y (rw e at h) u)
            (cases_Bool (eqb x p && eqb k r));
      };
    }

-- so is a write
pub keeps_write_inv : (s : State) (p r m : ℕ) → Postable s r 2 m → Inv s → Inv (keeps_write s p r m)
keeps_write_inv s p r m a i = let base = i.base in let names = i.names in let ranks = i.ranks in let know = i.know in
    record { base = grind (arith, nat_tests); names = grind (arith, nat_tests, sets); ranks = grind (arith, nat_tests); know = grind (arith, nat_tests, sets) }

-- a write leaves what is to be forwarded
pub releases_write_inv : (s : State) (p r : ℕ) → Inv s → Inv (releases_write s p r)
releases_write_inv s p r i = let base = i.base in let names = i.names in let ranks = i.ranks in let know = i.know in
    record { base = grind (arith, nat_tests); names = grind (arith, nat_tests, sets); ranks = grind (arith, nat_tests); know = grind (arith, nat_tests, sets) }

-- a turn is counted
pub counted_inv : (s : State) (p j : ℕ) → Inv s → Inv (counted s p j)
counted_inv s p j i = let base = i.base in let names = i.names in let ranks = i.ranks in let know = i.know in
    record { base = grind (arith, nat_tests); names = grind (arith, nat_tests); ranks = grind (arith, nat_tests); know = grind (arith, nat_tests) }

-- a crash is noticed
pub learns_inv : (s : State) (p x : ℕ) → s.servers.standing x ≡ false → Inv s → Inv (learns s p x)
learns_inv s p x d i = let base = i.base in let names = i.names in let ranks = i.ranks in let know = i.know in
    record { base = grind (arith, nat_tests); names = grind (arith, nat_tests); ranks = grind (arith, nat_tests); know = grind (arith, nat_tests) }

-- pre-writes of the pending rows are put
pub posts_pending_inv : (s : State) (p q : ℕ) → Inv s → Inv (posts_pending s p q)
posts_pending_inv s p q i = let base = i.base in let names = i.names in let ranks = i.ranks in let know = i.know in
    record {
      base = base;
      names = grind (arith, nat_tests, sets);
      ranks = grind (arith, nat_tests);
      know = record {
        pending = know.pending;
        forward_prewrite = know.forward_prewrite;
        forward_write = know.forward_write;
        held = know.held;
        returned = know.returned;
        answered = know.answered;
        first = λ x k y h u. in_a_joined_mask _ (s.waiting x k 1) (s.servers.pending p k) y h (λ g. know.first x k y g u) (λ c g. know.pending p k y g u);
        second = λ x k y h u. let old = know.second x k y in grind (arith, nat_tests);
      };
    }
