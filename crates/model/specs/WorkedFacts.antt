-- What the rules give in a few small cases, worked out by hand.
use Rattle.std.specs.Prelude.{◌≡◌, ℕ, ◌<◌, Bool, true, false, Some, None, Option, ◌==◌, nat_lt}
use Rattle.messages.specs.declared.Phase.{Phase}
use Rattle.messages.specs.Phases.{phase_number}
use Rattle.messages.specs.Waiting.{Waiting, nothing, put_in, waiting_count}
use Rattle.servers.specs.Sets.{join, one}
use Rattle.circle.specs.Circle.{next, stands_in, covers}
use Rattle.model.specs.declared.Refusal.{Refusal}
use Rattle.model.specs.State.{tag_of}
use Rattle.model.specs.Refusals.{refusal_number}
use Rattle.model.specs.Operations.{refuse_make}

-- the number of a refusal, 0 where nothing is refused
abbrev pub number_told : Option Refusal → ℕ
number_told None = 0
number_told (Some reason) = refusal_number reason

-- no crash is noticed
abbrev pub none_noticed : ℕ → Bool
none_noticed x = false

-- of all crashes that of p alone is noticed
abbrev pub just : ℕ → ℕ → Bool
just p x = x == p

-- on a new wiring a message with the mask {0} is put, then one of the same row and phase with {1}
abbrev pub put_twice : ℕ → ℕ → Phase → Waiting
put_twice p r phase = put_in (put_in nothing p r (phase_number phase) (one 0)) p r (phase_number phase) (one 1)

-- the worked facts
pub record WorkedFacts : Type 0 where
  -- a ring of one server is refused with 1, as is one of nine; rings of two and of eight are made
  pub one_server : number_told (refuse_make 256 1) ≡ 1
  pub two_servers : number_told (refuse_make 256 2) ≡ 0
  pub eight_servers : number_told (refuse_make 256 8) ≡ 0
  pub nine_servers : number_told (refuse_make 256 9) ≡ 1
  -- of three servers the next of 2 is 0, and 1 once 2 has noticed 0
  pub next_of_two : next 3 none_noticed 2 ≡ 0
  pub next_past_zero : next 3 (just 0) 2 ≡ 1
  -- of four servers 3, which has noticed 2, is stand-in for 2, and not for 1
  pub stands_in_for_two : stands_in 4 (just 2) 3 2 ≡ true
  pub not_for_one : stands_in 4 (just 2) 3 1 ≡ false
  -- of three servers {0, 2} covers for 1, and {0} only once 1 has noticed 2
  pub both_cover : covers 3 none_noticed 1 (join (one 0) (one 2)) ≡ true
  pub zero_does_not : covers 3 none_noticed 1 (one 0) ≡ false
  pub zero_covers : covers 3 (just 2) 1 (one 0) ≡ true
  -- the tag (2, 0) is above (1, 7), and (2, 3) is above (2, 1)
  pub higher_number : nat_lt (tag_of 1 7) (tag_of 2 0) ≡ true
  pub higher_server : nat_lt (tag_of 2 1) (tag_of 2 3) ≡ true
  -- two messages of one row and phase are one message, with {0, 1}
  pub one_message : (p r : ℕ) (phase : Phase) → p < 8 → r < 256 → waiting_count (put_twice p r phase) p ≡ 1
  pub joined_mask : (p r : ℕ) (phase : Phase) → p < 8 → r < 256 → put_twice p r phase p r (phase_number phase) ≡ join (one 0) (one 1)
