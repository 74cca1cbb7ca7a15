-- The faults of reading, by the number of the question that is answered with no, and by the place if it is about one.
use Rattle.std.specs.Prelude.{ℕ, Some, None, Option}
use Rattle.reader.specs.declared.fault.ReadFault.{ReadFault}
use Rattle.reader.specs.declared.fault.ReadFault.TheVariants.{Scratch, TooLong, Syntax, TooDeep, Redeclared, Undeclared}

abbrev pub fault_number : ReadFault → ℕ
fault_number Scratch = 1
fault_number TooLong = 2
fault_number (Syntax p) = 3
fault_number (TooDeep p) = 4
fault_number (Redeclared p) = 5
fault_number (Undeclared p) = 6

abbrev pub fault_place : ReadFault → Option ℕ
fault_place Scratch = None
fault_place TooLong = None
fault_place (Syntax p) = Some p
fault_place (TooDeep p) = Some p
fault_place (Redeclared p) = Some p
fault_place (Undeclared p) = Some p
