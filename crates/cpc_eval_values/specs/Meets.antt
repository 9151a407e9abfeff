-- What code gives, against the answer of a definition.
use Rattle.std.specs.Prelude.{◌≡◌, Result, Ok, Err}
use Rattle.cpc_num.specs.declared.kinds.Fault.{Fault}
use Rattle.cpc_meaning.specs.Answer.{Answer, Gives, Faults, NoAnswer}

-- the same value, or the same fault; where no rule fits nothing is said
abbrev pub Meets : {A : Type 0} → Result A Fault → Answer A → Type 0
Meets r (Gives x) = r ≡ Ok x
Meets r (Faults fault) = r ≡ Err fault
Meets r NoAnswer = Unit {0}
