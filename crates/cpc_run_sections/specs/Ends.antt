-- The ends that a section may have.
use Rattle.std.specs.Prelude.{ℕ, Option, Result, IfOk, IfSome}
use Rattle.cpc_base.specs.declared.stop.NoMemory.{NoMemory}
use Rattle.cpc_tree.specs.declared.program.Program.{Program}
use Rattle.cpc_sections.specs.declared.job.Job.{Job}
use Rattle.cpc_sections.specs.declared.job.SectionEnd.{SectionEnd}
use Rattle.cpc_native_sections.specs.Ends.{IsEndOf}

-- of this program, where there is one, a section comes to the end that the definition tells, or memory was wanting
abbrev pub MayEnd : Option Program → ℕ → Job → Result SectionEnd NoMemory → Type 0
MayEnd p bound job end = IfSome p (λ q. IfOk end (IsEndOf q bound job))
