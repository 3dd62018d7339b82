-- The bytes of a number: one to three groups of seven bits, lowest first, the top bit set on all bytes but the last, as short as can be.
use Rattle.std.specs.Prelude.{ℕ, ◌+◌, ◌-◌, ◌*◌, ◌/◌, ◌%◌, cond, List, [], ◌∷◌, Ok, Err, Result, ◌==◌, nat_lt}
use Rattle.numbers.specs.declared.faults.NumberFault.{NumberFault}
use Rattle.numbers.specs.declared.faults.NumberFault.TheVariants.{Cut, TooLong, NotShortest}
use Rattle.numbers.specs.declared.faults.WriteRefusal.{WriteRefusal}
use Rattle.numbers.specs.declared.faults.WriteRefusal.TheVariants.{NotWritable, NoRoom}

-- The largest number is one less: three groups of seven bits.
abbrev pub number_limit : ℕ
number_limit = 2097152

-- The bytes of a number below the limit.
abbrev pub number_bytes : ℕ → List ℕ
number_bytes n =
    cond (nat_lt n 128) (n ∷ [])
    (cond (nat_lt n 16384) ((n % 128 + 128) ∷ (n / 128) ∷ [])
    ((n % 128 + 128) ∷ (n / 128 % 128 + 128) ∷ (n / 16384) ∷ []))

-- The third byte: it has no top bit, and it is not zero.
abbrev pub third_byte : ℕ → ℕ → List ℕ → Result (ℕ × List ℕ) NumberFault
third_byte place low [] = Err (Cut place)
third_byte place low (b ∷ bs) =
    cond (nat_lt b 128) (cond (b == 0) (Err (NotShortest place)) (Ok (low + b * 16384, bs))) (Err (TooLong place))

-- The second byte: the last unless it has the top bit, and then it is not zero.
abbrev pub second_byte : ℕ → ℕ → List ℕ → Result (ℕ × List ℕ) NumberFault
second_byte place low [] = Err (Cut place)
second_byte place low (b ∷ bs) =
    cond (nat_lt b 128) (cond (b == 0) (Err (NotShortest place)) (Ok (low + b * 128, bs))) (third_byte place (low + (b - 128) * 128) bs)

-- The number at the front of bytes, and the bytes behind it; its first byte stands at the place.
abbrev pub number_at : ℕ → List ℕ → Result (ℕ × List ℕ) NumberFault
number_at place [] = Err (Cut place)
number_at place (b ∷ bs) = cond (nat_lt b 128) (Ok (b, bs)) (second_byte place (b - 128) bs)

-- The number of a number's fault.
abbrev pub number_fault_number : NumberFault → ℕ
number_fault_number (Cut place) = 21
number_fault_number (TooLong place) = 22
number_fault_number (NotShortest place) = 23

-- The place of the first byte of the faulty number.
abbrev pub number_fault_place : NumberFault → ℕ
number_fault_place (Cut place) = place
number_fault_place (TooLong place) = place
number_fault_place (NotShortest place) = place

-- The number of a writer's refusal.
abbrev pub refusal_number : WriteRefusal → ℕ
refusal_number NotWritable = 29
refusal_number NoRoom = 28
