-- The layer, number, place and step of every fault.
use Rattle.std.specs.Prelude.{ℕ}
use Rattle.numbers.specs.Numbers.{number_fault_number, number_fault_place}
use Rattle.values.specs.Kinds.{value_fault_number}
use Rattle.schedule.specs.declared.faults.Layer.{Layer}
use Rattle.schedule.specs.declared.faults.Layer.TheVariants as layer
use Rattle.schedule.specs.declared.faults.StepFault.{StepFault}
use Rattle.schedule.specs.declared.faults.StepFault.TheVariants.{Number, UnknownCode, OutOfRange, Value}
use Rattle.schedule.specs.declared.faults.FaultyStep.{FaultyStep}
use Rattle.schedule.specs.declared.faults.RunFault.{RunFault}
use Rattle.schedule.specs.declared.faults.RunFault.TheVariants.{TooLong, Step}

-- The letters N, S and V.
abbrev pub layer_letter : Layer → ℕ
layer_letter layer.Number = 78
layer_letter layer.Schedule = 83
layer_letter layer.Value = 86

-- The layer that found what is wrong with the header or a step.
abbrev pub step_fault_layer : StepFault → Layer
step_fault_layer (Number fault) = layer.Number
step_fault_layer (UnknownCode place) = layer.Schedule
step_fault_layer (OutOfRange place) = layer.Schedule
step_fault_layer (Value bad) = layer.Value

-- The number of what is wrong with the header or a step.
abbrev pub step_fault_number : StepFault → ℕ
step_fault_number (Number fault) = number_fault_number fault
step_fault_number (UnknownCode place) = 24
step_fault_number (OutOfRange place) = 25
step_fault_number (Value bad) = value_fault_number bad.fault

-- The place of the first byte of the faulty number, code or value.
abbrev pub step_fault_place : StepFault → ℕ
step_fault_place (Number fault) = number_fault_place fault
step_fault_place (UnknownCode place) = place
step_fault_place (OutOfRange place) = place
step_fault_place (Value bad) = bad.place

-- A fault with the number of its step.
abbrev pub numbered : ℕ → StepFault → FaultyStep
numbered step fault = record { fault = fault; step = step }

-- The layer that found a fault.
abbrev pub fault_layer : RunFault → Layer
fault_layer TooLong = layer.Schedule
fault_layer (Step faulty) = step_fault_layer faulty.fault

-- The number of a fault; an input that is too long is fault 20.
abbrev pub fault_number : RunFault → ℕ
fault_number TooLong = 20
fault_number (Step faulty) = step_fault_number faulty.fault

-- The place of a fault; an input that is too long is at fault from its front.
abbrev pub fault_place : RunFault → ℕ
fault_place TooLong = 0
fault_place (Step faulty) = step_fault_place faulty.fault

-- The step of a fault: 0 in the header or for the whole input.
abbrev pub fault_step : RunFault → ℕ
fault_step TooLong = 0
fault_step (Step faulty) = faulty.step
