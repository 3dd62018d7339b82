-- What the errors say in print.
use Rattle.std.specs.Prelude.{ℕ, List, ◌++◌, codes, decimal}
use Rattle.numbers.specs.declared.faults.NumberFault.{NumberFault}
use Rattle.numbers.specs.declared.faults.NumberFault.TheVariants.{Cut, TooLong, NotShortest}
use Rattle.numbers.specs.declared.faults.WriteRefusal.{WriteRefusal}
use Rattle.numbers.specs.declared.faults.WriteRefusal.TheVariants.{NotWritable, NoRoom}

-- Where a number stands, and what is wrong with it.
abbrev pub number_fault_text : NumberFault → List ℕ
number_fault_text (Cut place) = codes "the number at " ++ (decimal place ++ codes " is cut short")
number_fault_text (TooLong place) = codes "the number at " ++ (decimal place ++ codes " is too long")
number_fault_text (NotShortest place) = codes "the number at " ++ (decimal place ++ codes " could be shorter")

-- Why nothing was written.
abbrev pub refusal_text : WriteRefusal → List ℕ
refusal_text NotWritable = codes "it would not read back"
refusal_text NoRoom = codes "there is no room for it"
