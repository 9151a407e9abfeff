-- The numbers and the printed names of the faults.
use Rattle.std.specs.Prelude.{ℕ, List, codes}
use Rattle.cpc_num.specs.declared.kinds.Fault.{Fault}
use Rattle.cpc_num.specs.declared.kinds.Fault.TheVariants.{Overflow, Divide, Shift, Unset, Kind, Null, Bounds, Freed, Compare, Code, SectionSteps, Sections, BadFree, CondVar, Length}

-- the printed name of a fault, as bytes
abbrev pub fault_name : Fault → List ℕ
fault_name Overflow = codes "overflow"
fault_name Divide = codes "divide"
fault_name Shift = codes "shift"
fault_name Unset = codes "unset"
fault_name Kind = codes "kind"
fault_name Null = codes "null"
fault_name Bounds = codes "bounds"
fault_name Freed = codes "freed"
fault_name Compare = codes "compare"
fault_name Code = codes "code"
fault_name SectionSteps = codes "section steps"
fault_name Sections = codes "sections"
fault_name BadFree = codes "badfree"
fault_name CondVar = codes "condvar"
fault_name Length = codes "length"

-- the number of a fault
abbrev pub fault_number : Fault → ℕ
fault_number Overflow = 1
fault_number Divide = 2
fault_number Shift = 3
fault_number Unset = 4
fault_number Kind = 5
fault_number Null = 6
fault_number Bounds = 7
fault_number Freed = 8
fault_number Compare = 9
fault_number Code = 10
fault_number SectionSteps = 11
fault_number Sections = 12
fault_number BadFree = 13
fault_number CondVar = 14
fault_number Length = 15
