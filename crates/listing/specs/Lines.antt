-- The lines of a listing, as lists of bytes.
use Rattle.std.specs.Prelude.{ℕ, List, ◌∷◌, ◌++◌, codes, decimal}
use Rattle.values.specs.declared.kind.Kind.{Kind}
use Rattle.values.specs.declared.kind.Kind.TheVariants.{Level, Mark}
use Rattle.values.specs.Kinds.{kind_number}
use Rattle.values.specs.Levels.{level_text, level_value}
use Rattle.values.specs.Marks.{mark_text, mark_value}
use Rattle.schedule.specs.Faults.{fault_layer, fault_number, fault_place, fault_step, layer_letter}
use Rattle.schedule.specs.Headers.{PlainHeader, wiring_number}
use Rattle.schedule.specs.Steps.{PlainStep, code_letter, write, read, give_up, turn, deliver, crash, notice, pick}
use Rattle.schedule.specs.declared.faults.RunFault.{RunFault}
use Rattle.schedule.specs.declared.steps.Code.TheVariants.{Write, Read, GiveUp, Turn, Deliver, Crash, Notice, Pick}

-- A space and a number in decimal.
abbrev pub spaced : ℕ → List ℕ
spaced n = codes " " ++ decimal n

-- The header's line, `ring N kind K wiring W`: how many servers, the kind's number and the wiring's number.
abbrev pub header_line : PlainHeader → List ℕ
header_line header =
    codes "ring" ++ (spaced header.servers ++ (codes " kind" ++ (spaced (kind_number header.kind) ++ (codes " wiring" ++ spaced (wiring_number header.wiring)))))

-- The value at the front of bytes, as its kind prints it.
abbrev pub value_text : Kind → List ℕ → List ℕ
value_text Level bytes = level_text (level_value bytes)
value_text Mark bytes = mark_text (mark_value bytes)

-- A step's letter and its parts, as `W 0 0 7`.
abbrev pub step_text : Kind → PlainStep → List ℕ
step_text kind (write client server value) = code_letter Write ∷ (spaced client ++ (spaced server ++ (codes " " ++ value_text kind value)))
step_text kind (read client server) = code_letter Read ∷ (spaced client ++ spaced server)
step_text kind (give_up client) = code_letter GiveUp ∷ spaced client
step_text kind (turn server) = code_letter Turn ∷ spaced server
step_text kind (deliver server) = code_letter Deliver ∷ spaced server
step_text kind (crash server) = code_letter Crash ∷ spaced server
step_text kind (notice server crashed) = code_letter Notice ∷ (spaced server ++ spaced crashed)
step_text kind (pick number) = code_letter Pick ∷ spaced number

-- A step's line, `NUMBER LETTER PARTS`.
abbrev pub step_line : Kind → ℕ → PlainStep → List ℕ
step_line kind number step = decimal number ++ (codes " " ++ step_text kind step)

-- The last line of a whole schedule, `end STEPS BYTES`: how many steps and how many bytes it has.
abbrev pub end_line : ℕ → ℕ → List ℕ
end_line steps bytes = codes "end" ++ (spaced steps ++ spaced bytes)

-- The last line of a bad schedule, `bad LAYER NUMBER PLACE STEP`.
abbrev pub bad_line : RunFault → List ℕ
bad_line fault =
    codes "bad " ++ (layer_letter (fault_layer fault) ∷ (spaced (fault_number fault) ++ (spaced (fault_place fault) ++ spaced (fault_step fault))))
