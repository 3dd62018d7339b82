-- What `cmp` answers of two places is Less exactly where the one is below the other.
use Rattle.std.proofs.Common.{◌≡◌, rules}
use Rattle.std.specs.Ordering.{is_lt}
use Rattle.messages.specs.contracts.PlaceOrd.TheImpl as place_order
use Rattle.messages.specs.declared.Place.{Place}
use Rattle.messages.specs.Places.{place_below}

pub a_place_is_less : (a b : Place) → is_lt (place_order.ghosts.cmp a b) ≡ place_below a b
a_place_is_less a b = search rules

-- the same of the two orders as functions
pub places_go_in_order : (λ (a b : Place). is_lt (place_order.ghosts.cmp a b)) ≡ place_below
places_go_in_order i a b = a_place_is_less a b i
