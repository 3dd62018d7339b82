-- What `cmp` answers of two tags is Less exactly where the one is below the other.
use Rattle.std.proofs.Common.{◌≡◌, rules}
use Rattle.std.specs.Ordering.{is_lt}
use Rattle.operation.specs.contracts.tag.TagOrd.TheImpl as tag_order
use Rattle.operation.specs.declared.tag.Tag.{Tag}
use Rattle.operation.specs.Tags.{tag_below}

pub a_tag_is_less : (a b : Tag) → is_lt (tag_order.ghosts.cmp a b) ≡ tag_below a b
a_tag_is_less a b = search rules

-- the same of the two orders as functions
pub tags_go_in_order : (λ (a b : Tag). is_lt (tag_order.ghosts.cmp a b)) ≡ tag_below
tags_go_in_order i a b = a_tag_is_less a b i
