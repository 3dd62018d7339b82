-- The worked facts hold: each is computed. That one message waits is a sum with a single 1 in it.
use Rattle.std.proofs.Common.{◌≡◌, ℕ, ◌+◌, ◌<◌, refl, ◌∙◌, arith}
use Rattle.std.proofs.lemmas.Bool.Decides.{nat_tests}
use Rattle.messages.specs.declared.Phase.{Phase}
use Rattle.messages.specs.declared.Phase.TheVariants.{PreWrite, Write}
use Rattle.messages.specs.Phases.{phase_number}
use Rattle.messages.specs.Waiting.{entry, waiting_count}
use Rattle.servers.specs.Sets.{has, join, one}
use Rattle.servers.proofs.Members.{sets}
use Rattle.counting.specs.Below.{all}
use Rattle.counting.proofs.Sums.{only, sum_same, sum_only}
use Rattle.circle.specs.Circle.{first_unnoticed, next, stands_in, covers}
use Rattle.model.specs.WorkedFacts.{WorkedFacts, put_twice}

-- of the messages to p, the one of row r counts 1
counts_once : (p r : ℕ) (phase : Phase) → p < 8 → r < 256 → (k : ℕ) → entry (put_twice p r phase p k 1) + entry (put_twice p r phase p k 2) ≡ only r 1 k
counts_once p r PreWrite lp lr k = grind (arith, nat_tests, sets)
counts_once p r Write lp lr k = grind (arith, nat_tests, sets)

-- so one message waits
one_message : (p r : ℕ) (phase : Phase) → p < 8 → r < 256 → waiting_count (put_twice p r phase) p ≡ 1
one_message p r phase lp lr = sum_same (λ k. entry (put_twice p r phase p k 1) + entry (put_twice p r phase p k 2)) (only r 1) 256 (λ k l. counts_once p r phase lp lr k) ∙ sum_only r 1 256 lr

-- a mask that joins nothing
empty_joined : join 0 (one 0) ≡ one 0
unfolding join one
empty_joined = refl

-- its mask is that of both
joined_mask : (p r : ℕ) (phase : Phase) → p < 8 → r < 256 → put_twice p r phase p r (phase_number phase) ≡ join (one 0) (one 1)
joined_mask p r PreWrite lp lr = let e = empty_joined in grind (arith, nat_tests)
joined_mask p r Write lp lr = let e = empty_joined in grind (arith, nat_tests)

-- all of them
pub worked_facts : WorkedFacts
unfolding next first_unnoticed stands_in covers all has join one
worked_facts = record {
  one_server = refl;
  two_servers = refl;
  eight_servers = refl;
  nine_servers = refl;
  next_of_two = refl;
  next_past_zero = refl;
  stands_in_for_two = refl;
  not_for_one = refl;
  both_cover = refl;
  zero_does_not = refl;
  zero_covers = refl;
  higher_number = refl;
  higher_server = refl;
  one_message = one_message;
  joined_mask = joined_mask;
}
