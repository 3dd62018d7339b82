-- The order of tags, by their two fields and as one number.
use Rattle.std.specs.Prelude.{ℕ, ◌+◌, ◌*◌, Bool, cond, ◌==◌, nat_lt}
use Rattle.operation.specs.declared.tag.Tag.{Tag}

-- the tag of the first value, below every other
abbrev pub first_tag : Tag
first_tag = record { number = 0; server = 0 }

-- a tag as one number, by which the rules compare tags: a server's number is a byte, so this order is the order by number, then by server
abbrev pub tag_key : Tag → ℕ
tag_key t = t.number * 256 + t.server

-- a is below b: its number is smaller, or the numbers are equal and its server is
abbrev pub tag_below : Tag → Tag → Bool
tag_below a b = cond (a.number == b.number) (nat_lt a.server b.server) (nat_lt a.number b.number)

-- the higher of the two
abbrev pub higher_tag : Tag → Tag → Tag
higher_tag a b = cond (tag_below a b) b a
