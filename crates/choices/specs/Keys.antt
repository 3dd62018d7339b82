-- The orders of the keys of a turn, and what the keys say of that which may wait.
use Rattle.std.specs.Prelude.{◌≡◌, ℕ, ◌<◌, Bool, true, false, cond, ◌==◌, nat_lt, List, length, Some, None, Option, slice_index_or}
use Rattle.operation.specs.declared.tag.Tag.{Tag}
use Rattle.operation.specs.Tags.{tag_key}
use Rattle.search.specs.Order.{LeastOf}
use Rattle.choices.specs.declared.keys.GroupKey.{GroupKey}
use Rattle.choices.specs.declared.keys.Candidate.{Candidate}
use Rattle.choices.specs.declared.keys.Candidate.TheVariants.{Absent, Waits}

-- the smaller count goes first, on a tie the smaller group
abbrev pub group_below : GroupKey → GroupKey → Bool
group_below a b = cond (a.count == b.count) (nat_lt a.group b.group) (nat_lt a.count b.count)

-- what does not wait ranks above all that does
abbrev pub candidate_below : {K : Type 0} → (K → K → Bool) → Candidate K → Candidate K → Bool
candidate_below below (Waits a) (Waits b) = below a b
candidate_below below (Waits a) Absent = true
candidate_below below Absent b = false

-- it waits
abbrev pub waits : {K : Type 0} → Candidate K → Bool
waits (Waits a) = true
waits Absent = false

-- the place of the least key of what waits, the first among equals; none exactly where nothing waits
abbrev pub LeastWaiting : {K : Type 0} → (K → K → Bool) → List (Candidate K) → Option ℕ → Type 0
LeastWaiting below keys None = (k : ℕ) → k < length keys → waits (slice_index_or keys k Absent) ≡ false
LeastWaiting below keys (Some i) = LeastOf (candidate_below below) keys (length keys) i × (waits (slice_index_or keys i Absent) ≡ true)

-- the candidate of group j, which waits or not, with its count
abbrev pub IsGroup : Bool → ℕ → ℕ → Candidate GroupKey → Type 0
IsGroup may count j Absent = may ≡ false
IsGroup may count j (Waits key) = (may ≡ true) × (key.count ≡ count) × (key.group ≡ j)

-- the candidate of an entry, which waits or not, with the tag of its row
abbrev pub IsEntry : Bool → ℕ → Candidate Tag → Type 0
IsEntry may tag Absent = may ≡ false
IsEntry may tag (Waits key) = (may ≡ true) × (tag_key key ≡ tag) × (key.server < 256)
