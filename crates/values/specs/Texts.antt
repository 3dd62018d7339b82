-- What the errors say in print.
use Rattle.std.specs.Prelude.{ℕ, List, ◌++◌, codes, decimal}
use Rattle.values.specs.declared.fault.Unwritten.{Unwritten}
use Rattle.values.specs.declared.fault.Unwritten.TheVariants.{NotAllowed as NotWritten, Short}
use Rattle.values.specs.declared.fault.ValueFault.{ValueFault}
use Rattle.values.specs.declared.fault.ValueFault.TheVariants.{Cut, NotAllowed}
use Rattle.values.specs.declared.kind.UnknownKind.{UnknownKind}

-- What is wrong with bytes that are to be a value.
abbrev pub value_fault_text : ValueFault → List ℕ
value_fault_text Cut = codes "the value is cut short"
value_fault_text NotAllowed = codes "the value has a byte that its kind does not allow"

-- Why a value is not written.
abbrev pub unwritten_text : Unwritten → List ℕ
unwritten_text NotWritten = codes "the value has a byte that its kind does not allow"
unwritten_text Short = codes "there is no room for the value"

-- That a number names no kind.
abbrev pub unknown_kind_text : UnknownKind → List ℕ
unknown_kind_text unknown = codes "no kind of value has the number " ++ decimal unknown.0
