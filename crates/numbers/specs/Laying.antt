-- Bytes laid over a part of a buffer: before and behind them all stays.
use Rattle.std.specs.Prelude.{ℕ, zero, suc, ◌+◌, cond, List, [], ◌∷◌, length, Ok, Err, Result, nat_le, nat_lt}
use Rattle.numbers.specs.declared.faults.WriteRefusal.{WriteRefusal}
use Rattle.numbers.specs.declared.faults.WriteRefusal.TheVariants.{NotWritable, NoRoom}
use Rattle.numbers.specs.Numbers.{number_bytes, number_limit}

-- Bytes laid over the front of a buffer.
unfoldable pub lay : List ℕ → List ℕ → List ℕ
lay [] out = out
lay (b ∷ bs) [] = []
lay (b ∷ bs) (o ∷ os) = b ∷ lay bs os

-- Bytes laid over a buffer from a place on.
unfoldable pub lay_at : ℕ → List ℕ → List ℕ → List ℕ
lay_at zero bs out = lay bs out
lay_at (suc place) bs [] = []
lay_at (suc place) bs (o ∷ os) = o ∷ lay_at place bs os

-- A buffer after bytes were written at a place, or after the writing was refused.
abbrev pub laid_or_kept : {A : Type 0} → Result A WriteRefusal → ℕ → List ℕ → List ℕ → List ℕ
laid_or_kept (Ok length) place bytes out = lay_at place bytes out
laid_or_kept (Err refusal) place bytes out = out

-- What writing a number at a place answers: how many bytes it takes, or that it is too large, or else that they do not fit.
abbrev pub write_number_answer : ℕ → ℕ → List ℕ → Result ℕ WriteRefusal
write_number_answer place n out =
    cond (nat_lt n number_limit)
    (cond (nat_le (place + length (number_bytes n)) (length out)) (Ok (length (number_bytes n))) (Err NoRoom))
    (Err NotWritable)
