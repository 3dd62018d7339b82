-- What the errors say in print.
use Rattle.std.specs.Prelude.{ℕ, List, ◌++◌, codes, decimal}
use Rattle.numbers.specs.Texts.{number_fault_text}
use Rattle.values.specs.Texts.{value_fault_text}
use Rattle.schedule.specs.declared.faults.RunFault.{RunFault}
use Rattle.schedule.specs.declared.faults.RunFault.TheVariants.{TooLong, Step}
use Rattle.schedule.specs.declared.faults.StepFault.{StepFault}
use Rattle.schedule.specs.declared.faults.StepFault.TheVariants.{Number, UnknownCode, OutOfRange, Value}
use Rattle.schedule.specs.declared.headers.UnknownWiring.{UnknownWiring}
use Rattle.schedule.specs.declared.steps.UnknownCode.{UnknownCode as NoCode}
use Rattle.schedule.specs.declared.whole.ReadError.{ReadError}
use Rattle.schedule.specs.declared.whole.ReadError.TheVariants.{Fault, NoMemory}

-- That a number names no wiring.
abbrev pub unknown_wiring_text : UnknownWiring → List ℕ
unknown_wiring_text unknown = codes "no wiring has the number " ++ decimal unknown.0

-- That no step begins with a byte.
abbrev pub unknown_code_text : NoCode → List ℕ
unknown_code_text unknown = codes "no step begins with the byte " ++ decimal unknown.0

-- What is wrong with the header or a step.
abbrev pub step_fault_text : StepFault → List ℕ
step_fault_text (Number fault) = number_fault_text fault
step_fault_text (UnknownCode place) = codes "no step begins with the byte at " ++ decimal place
step_fault_text (OutOfRange place) = codes "the number at " ++ (decimal place ++ codes " means nothing")
step_fault_text (Value bad) = value_fault_text bad.fault ++ (codes ", at " ++ decimal bad.place)

-- Why the reading of a schedule stopped.
abbrev pub run_fault_text : RunFault → List ℕ
run_fault_text TooLong = codes "the input is longer than any schedule"
run_fault_text (Step faulty) = codes "step " ++ (decimal faulty.step ++ (codes ": " ++ step_fault_text faulty.fault))

-- Why no schedule was read.
abbrev pub read_error_text : ReadError → List ℕ
read_error_text (Fault fault) = run_fault_text fault
read_error_text (NoMemory error) = codes "there is no memory for the steps"
