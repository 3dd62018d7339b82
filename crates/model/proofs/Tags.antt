-- A tag of a number and a server keeps both, and tags compare by number, then by server. Servers are below 256, so it is plain arithmetic.
use Rattle.std.proofs.Common.{◌≡◌, ℕ, ◌<◌, ◌&&◌, ◌||◌, eqb, ltb, arith}
use Rattle.std.proofs.lemmas.Bool.Decides.{nat_tests}
use Rattle.model.specs.State.{tag_of, tag_number, tag_server}

pub a_tag_keeps_its_number : (number server : ℕ) → server < 256 → tag_number (tag_of number server) ≡ number
a_tag_keeps_its_number number server l = omega arith

pub a_tag_keeps_its_server : (number server : ℕ) → server < 256 → tag_server (tag_of number server) ≡ server
a_tag_keeps_its_server number server l = omega arith

pub tags_compare_by_number_then_server : (a p b q : ℕ) → p < 256 → q < 256 → ltb (tag_of a p) (tag_of b q) ≡ (ltb a b || (eqb a b && ltb p q))
tags_compare_by_number_then_server a p b q lp lq = grind (arith, nat_tests)
