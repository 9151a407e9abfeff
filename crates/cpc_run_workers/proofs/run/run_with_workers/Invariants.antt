use Rattle.std.specs.Prelude.{Some}
use Rattle.std.specs.Arc.{arc_value}
use Rattle.cpc_run_workers.proofs.run.run_with_workers.Given as goal

-- the pool is for the program and the bound of this call
abbrev pub ghosts-run_over : goal.ghosts-run_over
ghosts-run_over g a = record { program = Some (arc_value a.program.now).program; bound = a.limits.section_steps }
