-- The kinds of value: their numbers and lengths, and what is wrong with bytes that are to be a value.
use Rattle.std.specs.Prelude.{ℕ, ◌<◌, Bool, true, cond, ◌&&◌, ◌||◌, List, length, take, drop, Some, None, Ok, Err, Option, Result, ◌==◌, nat_le, nat_lt, slice_index}
use Rattle.std.specs.List.{list_all}
use Rattle.values.specs.declared.kind.Kind.{Kind}
use Rattle.values.specs.declared.kind.Kind.TheVariants.{Level, Mark}
use Rattle.values.specs.declared.kind.UnknownKind.{UnknownKind}
use Rattle.values.specs.declared.fault.ValueFault.{ValueFault}
use Rattle.values.specs.declared.fault.ValueFault.TheVariants.{Cut, NotAllowed}

-- A schedule's header names a level by 1 and a mark by 2.
abbrev pub kind_number : Kind → ℕ
kind_number Level = 1
kind_number Mark = 2

-- The kind that has a number, if one has.
abbrev pub kind_of : ℕ → Option Kind
kind_of n = cond (n == kind_number Level) (Some Level) (cond (n == kind_number Mark) (Some Mark) None)

-- What reading a kind from its number answers: the kind, or that no kind has the number.
abbrev pub kind_read : ℕ → Result Kind UnknownKind
kind_read n = elim (kind_of n) [ None ↦ Err (record { 0 = n }) | Some k ↦ Ok k ]

-- A level takes four bytes, a mark eight.
abbrev pub value_length : Kind → ℕ
value_length Level = 4
value_length Mark = 8

-- The numbers by which a schedule's reader tells what is wrong with a value.
abbrev pub value_fault_number : ValueFault → ℕ
value_fault_number Cut = 26
value_fault_number NotAllowed = 27

-- A mark's name is made of the bytes A to Z and 0 to 9.
abbrev pub allowed : ℕ → Bool
allowed b = (nat_le 65 b && nat_le b 90) || (nat_le 48 b && nat_le b 57)

-- Every byte of the text is one of these.
unfoldable pub all_allowed : List ℕ → Bool
all_allowed bs = list_all allowed bs

-- The name of a mark stands in the six bytes behind the first two.
abbrev pub name_part : List ℕ → List ℕ
name_part bs = take 6 (drop 2 bs)

-- A level may have any bytes; those of a mark's name must be allowed.
abbrev pub bytes_allowed : Kind → List ℕ → Bool
bytes_allowed Level bs = true
bytes_allowed Mark bs = all_allowed (name_part bs)

-- What is wrong with the value at the front of these bytes, if anything is: too few are there, or one is not allowed.
abbrev pub value_fault : Kind → List ℕ → Option ValueFault
value_fault k bs = cond (nat_lt (length bs) (value_length k)) (Some Cut) (cond (bytes_allowed k bs) None (Some NotAllowed))

-- What a check of the value at the front of these bytes answers.
abbrev pub checked : Kind → List ℕ → Result (Unit {0}) ValueFault
checked k bs = elim (value_fault k bs) [ None ↦ Ok tt | Some f ↦ Err f ]

-- Each number of the list is a byte.
abbrev pub AllBytes : List ℕ → Type 0
AllBytes bs = (i : ℕ) → slice_index bs i < 256
