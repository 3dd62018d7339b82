-- The orders of the keys that the tests search.
use Rattle.std.specs.Prelude.{Bool, cond, ◌==◌, nat_lt}
use Rattle.search_tests.specs.declared.tag.Tag.{Tag}
use Rattle.search_tests.specs.declared.load.Load.{Load}

-- by number, then server
abbrev pub tag_below : Tag → Tag → Bool
tag_below a b = cond (a.number == b.number) (nat_lt a.server b.server) (nat_lt a.number b.number)

-- by count, then server
abbrev pub load_below : Load → Load → Bool
load_below a b = cond (a.count == b.count) (nat_lt a.server b.server) (nat_lt a.count b.count)
