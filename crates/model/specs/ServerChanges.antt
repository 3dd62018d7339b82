-- What happens to the servers: each change of what they keep. Where a rule has a test, the change takes the test's result as its first argument.
use Rattle.std.specs.Prelude.{ℕ, ◌+◌, Bool, true, false, cond, ◌&&◌, ◌==◌, nat_le, nat_lt}
use Rattle.servers.specs.Sets.{join, one}
use Rattle.model.specs.State.{set_at, set_at2, Servers}

-- n new servers: all stand, and hold row 0
abbrev pub new_servers : ℕ → Servers
new_servers n = record {
  standing = λ p. nat_lt p n;
  held = λ p. 0;
  returned = λ p. 0;
  noticed = λ p x. false;
  turn_count = λ p j. 0;
  pending = λ p r. 0;
  forward_prewrite = λ p r. 0;
  forward_write = λ p r. 0;
}

-- if the row r is news to p, p holds it, and its pending entries with tags not above it go
abbrev pub servers_held_if : Bool → Servers → (ℕ → ℕ) → ℕ → ℕ → Servers
servers_held_if is_news v tag p r = record {
  standing = v.standing;
  held = λ x. cond (is_news && x == p) r (v.held x);
  returned = v.returned;
  noticed = v.noticed;
  turn_count = v.turn_count;
  pending = λ x k. cond (is_news && (x == p && nat_le (tag k) (tag r))) 0 (v.pending x k);
  forward_prewrite = v.forward_prewrite;
  forward_write = v.forward_write;
}

-- the higher of two tags
abbrev pub higher : ℕ → ℕ → ℕ
higher a b = cond (nat_lt a b) b a

-- p raises its returned tag to t if that is higher
abbrev pub servers_raised : Servers → ℕ → ℕ → Servers
servers_raised v p t = record {
  standing = v.standing;
  held = v.held;
  returned = set_at v.returned p (higher (v.returned p) t);
  noticed = v.noticed;
  turn_count = v.turn_count;
  pending = v.pending;
  forward_prewrite = v.forward_prewrite;
  forward_write = v.forward_write;
}

-- the mask joins the pre-write of row r that p is to forward
abbrev pub servers_kept_prewrite : Servers → ℕ → ℕ → ℕ → Servers
servers_kept_prewrite v p r mask = record {
  standing = v.standing;
  held = v.held;
  returned = v.returned;
  noticed = v.noticed;
  turn_count = v.turn_count;
  pending = v.pending;
  forward_prewrite = set_at2 v.forward_prewrite p r (join (v.forward_prewrite p r) mask);
  forward_write = v.forward_write;
}

-- the mask joins the write of row r that p is to forward
abbrev pub servers_kept_write : Servers → ℕ → ℕ → ℕ → Servers
servers_kept_write v p r mask = record {
  standing = v.standing;
  held = v.held;
  returned = v.returned;
  noticed = v.noticed;
  turn_count = v.turn_count;
  pending = v.pending;
  forward_prewrite = v.forward_prewrite;
  forward_write = set_at2 v.forward_write p r (join (v.forward_write p r) mask);
}

-- the pre-write of row r leaves what p is to forward; if the row is news to p, its mask with p added joins pending
abbrev pub servers_released_prewrite_if : Bool → Servers → ℕ → ℕ → Servers
servers_released_prewrite_if is_news v p r = record {
  standing = v.standing;
  held = v.held;
  returned = v.returned;
  noticed = v.noticed;
  turn_count = v.turn_count;
  pending = λ x k. cond (is_news && (x == p && k == r)) (join (v.pending x k) (join (v.forward_prewrite p r) (one p))) (v.pending x k);
  forward_prewrite = set_at2 v.forward_prewrite p r 0;
  forward_write = v.forward_write;
}

-- the write of row r leaves what p is to forward
abbrev pub servers_released_write : Servers → ℕ → ℕ → Servers
servers_released_write v p r = record {
  standing = v.standing;
  held = v.held;
  returned = v.returned;
  noticed = v.noticed;
  turn_count = v.turn_count;
  pending = v.pending;
  forward_prewrite = v.forward_prewrite;
  forward_write = set_at2 v.forward_write p r 0;
}

-- p starts the write of row r: its pending mask is {p}
abbrev pub servers_started : Servers → ℕ → ℕ → Servers
servers_started v p r = record {
  standing = v.standing;
  held = v.held;
  returned = v.returned;
  noticed = v.noticed;
  turn_count = v.turn_count;
  pending = set_at2 v.pending p r (one p);
  forward_prewrite = v.forward_prewrite;
  forward_write = v.forward_write;
}

-- the highest turn count: all counts go to 0 before it would be passed
abbrev pub highest_count : ℕ
highest_count = 65535

-- the counts of p as its turn begins: all 0 if it has no entry to forward
abbrev pub counts_if : Bool → Servers → ℕ → ℕ → ℕ
counts_if some_entry v p i = cond some_entry (v.turn_count p i) 0

-- the counts once group j is chosen: all 0 first if its count is the highest; then its count rises by one
abbrev pub counts_after_if : Bool → Servers → ℕ → ℕ → ℕ → ℕ
counts_after_if some_entry v p j i = cond (counts_if some_entry v p j == highest_count) 0 (counts_if some_entry v p i) + cond (i == j) 1 0

-- p has chosen group j for its turn
abbrev pub servers_counted_if : Bool → Servers → ℕ → ℕ → Servers
servers_counted_if some_entry v p j = record {
  standing = v.standing;
  held = v.held;
  returned = v.returned;
  noticed = v.noticed;
  turn_count = λ x i. cond (x == p) (counts_after_if some_entry v p j i) (v.turn_count x i);
  pending = v.pending;
  forward_prewrite = v.forward_prewrite;
  forward_write = v.forward_write;
}

-- p stops, and its masks are empty
abbrev pub servers_crashed : Servers → ℕ → Servers
servers_crashed v p = record {
  standing = set_at v.standing p false;
  held = v.held;
  returned = v.returned;
  noticed = v.noticed;
  turn_count = v.turn_count;
  pending = λ x k. cond (x == p) 0 (v.pending x k);
  forward_prewrite = λ x k. cond (x == p) 0 (v.forward_prewrite x k);
  forward_write = λ x k. cond (x == p) 0 (v.forward_write x k);
}

-- p has noticed the crash of x
abbrev pub servers_noticed : Servers → ℕ → ℕ → Servers
servers_noticed v p x = record {
  standing = v.standing;
  held = v.held;
  returned = v.returned;
  noticed = set_at2 v.noticed p x true;
  turn_count = v.turn_count;
  pending = v.pending;
  forward_prewrite = v.forward_prewrite;
  forward_write = v.forward_write;
}
