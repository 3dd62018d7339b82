-- What the derived orders of the keys answer, in the words of the definitions.
use Rattle.std.proofs.Common.{◌≡◌, Bool, true, false, rules}
use Rattle.std.specs.Ordering.{is_lt}
use Rattle.std.specs.declared.cmp.Ordering.{Ordering}
use Rattle.choices.specs.contracts.keys.GroupKeyOrd.TheImpl as group_order
use Rattle.choices.specs.declared.keys.Candidate.{Candidate}
use Rattle.choices.specs.declared.keys.Candidate.TheVariants.{Absent, Waits}
use Rattle.choices.specs.declared.keys.GroupKey.{GroupKey}
use Rattle.choices.specs.Keys.{candidate_below, group_below}

a_group_is_less : (a b : GroupKey) → is_lt (group_order.ghosts.cmp a b) ≡ group_below a b
a_group_is_less a b = search rules

pub groups_go_in_order : (λ (a b : GroupKey). is_lt (group_order.ghosts.cmp a b)) ≡ group_below
groups_go_in_order i a b = a_group_is_less a b i

-- an order of candidates that answers so of each two kinds is the one that ranks last what does not wait
module _ {K : Type 0} (below : K → K → Bool) (cmp : Candidate K → Candidate K → Ordering)
    (both : (a b : K) → is_lt (cmp (Waits a) (Waits b)) ≡ below a b)
    (first : (a : K) → is_lt (cmp (Waits a) Absent) ≡ true)
    (last : (b : Candidate K) → is_lt (cmp Absent b) ≡ false) where
  a_candidate_is_less : (a b : Candidate K) → is_lt (cmp a b) ≡ candidate_below below a b
  a_candidate_is_less (Waits a) (Waits b) = both a b
  a_candidate_is_less (Waits a) Absent = first a
  a_candidate_is_less Absent b = last b

  pub candidates_go_in_order : (λ (a b : Candidate K). is_lt (cmp a b)) ≡ candidate_below below
  candidates_go_in_order i a b = a_candidate_is_less a b i
