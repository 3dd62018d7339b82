-- What every shelf of a run keeps: masks name only servers that know the row, and what is held, returned or answered is known to every standing server.
-- A server knows a tag where it holds a row with no lower one, or has such a row pending; nothing that it knows is lost while it stands.
use Rattle.std.proofs.Common.{◌≡◌, ℕ, ◌<◌, ◌≤◌, max, Bool, true, false, ◌&&◌, ltb, ⊎_elim, arith}
use Rattle.std.proofs.lemmas.Bool.Decides.{nat_tests}
use Rattle.servers.specs.Sets.{has}
use Rattle.counting.specs.Below.{top}
use Rattle.model.specs.State.{Journal, Servers, State, tag_server, is_news}
use Rattle.model.specs.Deliveries.{is_due_read, holds_if, is_due_write}
use Rattle.model.specs.Questions.{named_row}
use Rattle.counting.proofs.Searches.{top_bounds, top_is_reached}

-- the highest tag of the row h and of the rows with masks
unfoldable pub highest : (ℕ → ℕ) → ℕ → (ℕ → ℕ) → ℕ
highest tag h m = max (tag h) (top (λ k. ltb 0 (m k)) tag 256)

-- the row h counts
pub held_is_at_most_highest : (tag : ℕ → ℕ) (h : ℕ) (m : ℕ → ℕ) → tag h ≤ highest tag h m
unfolding highest
held_is_at_most_highest tag h m = omega arith

-- each row with a mask counts
pub pending_is_at_most_highest : (tag : ℕ → ℕ) (h : ℕ) (m : ℕ → ℕ) (k : ℕ) → k < 256 → 0 < m k → tag k ≤ highest tag h m
unfolding highest
pending_is_at_most_highest tag h m k l p = let z = top_bounds (λ k. ltb 0 (m k)) tag 256 k l (grind (arith, nat_tests)) in omega arith

-- nothing else counts
pub highest_is_at_most : (tag : ℕ → ℕ) (h : ℕ) (m : ℕ → ℕ) (x : ℕ) → tag h ≤ x → ((k : ℕ) → k < 256 → 0 < m k → tag k ≤ x) → highest tag h m ≤ x
unfolding highest
highest_is_at_most tag h m x a b = ⊎_elim
    (λ z. omega arith)
    (λ r. let c = r.2 in let l : 0 < m r.0 = grind (arith, nat_tests) in let z = b r.0 r.1 l in let y = r.3 in omega arith)
    (top_is_reached (λ k. ltb 0 (m k)) tag 256)

-- the highest tag that q knows: it holds the row, or the row is pending
abbrev pub best : State → ℕ → ℕ
best s q = highest s.journal.tag (s.servers.held q) (s.servers.pending q)

-- rows and servers are within bounds, only crashed servers are noticed, and a tag is that of a started write and names its server
pub record Base (n : ℕ) (journal : Journal) (servers : Servers) : Type 0 where
  pub small : n ≤ 8
  pub room : journal.used ≤ 256
  pub some : 0 < journal.used
  pub up_low : (q : ℕ) → servers.standing q ≡ true → q < n
  pub true_crash : (p x : ℕ) → servers.noticed p x ≡ true → servers.standing x ≡ false
  pub zero_tag : journal.tag 0 ≡ 0
  pub zero_write : journal.is_write 0 ≡ true
  pub zero_done : journal.answered 0 ≡ true
  pub tag_used : (r : ℕ) → 0 < journal.tag r → r < journal.used
  pub tag_write : (r : ℕ) → 0 < journal.tag r → journal.is_write r ≡ true
  pub tag_at : (r : ℕ) → 0 < journal.tag r → tag_server (journal.tag r) ≡ journal.server r
  pub tag_low : (r : ℕ) → 0 < journal.tag r → tag_server (journal.tag r) < n
  pub done_used : (r : ℕ) → journal.answered r ≡ true → r < journal.used
  pub done_tag : (r : ℕ) → journal.is_write r ≡ true → journal.answered r ≡ true → 0 < r → 0 < journal.tag r
  pub gave_tag : (r : ℕ) → journal.is_write r ≡ false → journal.answered r ≡ true → 0 < journal.gave r → 0 < journal.tag (journal.gave r)
  pub held_tag : (p : ℕ) → 0 < servers.held p → 0 < journal.tag (servers.held p)

-- masks name started writes
pub record Names (s : State) : Type 0 where
  pub pending : (p r : ℕ) → 0 < s.servers.pending p r → 0 < s.journal.tag r
  pub forward_prewrite : (p r : ℕ) → 0 < s.servers.forward_prewrite p r → 0 < s.journal.tag r
  pub forward_write : (p r : ℕ) → 0 < s.servers.forward_write p r → 0 < s.journal.tag r
  pub waiting : (p r f : ℕ) → 0 < s.waiting p r f → 0 < s.journal.tag r

-- tags of writes differ, pending rows are above the held one, and a write's own server knows it
pub record Ranks (s : State) : Type 0 where
  pub apart : (a b : ℕ) → 0 < s.journal.tag a → 0 < s.journal.tag b → s.journal.tag a ≡ s.journal.tag b → a ≡ b
  pub above : (p r : ℕ) → 0 < s.servers.pending p r → s.journal.tag (s.servers.held p) < s.journal.tag r
  pub own : (r : ℕ) → 0 < s.journal.tag r → s.servers.standing (s.journal.server r) ≡ true → s.journal.tag r ≤ best s (s.journal.server r)

-- what standing servers know
pub record Know (s : State) : Type 0 where
  pub pending : (p r q : ℕ) → has (s.servers.pending p r) q ≡ true → s.servers.standing q ≡ true → s.journal.tag r ≤ best s q
  pub forward_prewrite : (p r q : ℕ) → has (s.servers.forward_prewrite p r) q ≡ true → s.servers.standing q ≡ true → s.journal.tag r ≤ best s q
  pub first : (p r q : ℕ) → has (s.waiting p r 1) q ≡ true → s.servers.standing q ≡ true → s.journal.tag r ≤ best s q
  pub forward_write : (p r q : ℕ) → 0 < s.servers.forward_write p r → s.servers.standing q ≡ true → s.journal.tag r ≤ best s q
  pub second : (p r q : ℕ) → 0 < s.waiting p r 2 → s.servers.standing q ≡ true → s.journal.tag r ≤ best s q
  pub held : (p q : ℕ) → s.servers.standing p ≡ true → s.servers.standing q ≡ true → s.journal.tag (s.servers.held p) ≤ best s q
  pub returned : (p q : ℕ) → s.servers.standing p ≡ true → s.servers.standing q ≡ true → s.servers.returned p ≤ best s q
  pub answered : (a q : ℕ) → s.journal.answered a ≡ true → s.servers.standing q ≡ true → s.journal.tag (named_row s.journal a) ≤ best s q

-- what every shelf of a run keeps
pub record Inv (s : State) : Type 0 where
  pub base : Base s.size s.journal s.servers
  pub names : Names s
  pub ranks : Ranks s
  pub know : Know s

-- nothing that a server knows is lost
abbrev pub Mono : State → State → Type 0
Mono s t = (q : ℕ) → t.servers.standing q ≡ true → best s q ≤ best t q

-- p holds row r, if it is news to p
abbrev pub holds : State → ℕ → ℕ → State
holds s p r = holds_if (is_news s p r) s p r

-- the open reads at p that row r settles, if it is news to p
abbrev pub settles : State → ℕ → ℕ → ℕ → Bool
settles s p r k = is_news s p r && is_due_read s.journal p (s.journal.tag r) k

-- the open writes started at p with tags not above its returned tag
abbrev pub returns : State → ℕ → ℕ → Bool
returns s p k = is_due_write s.journal p (s.servers.returned p) k
