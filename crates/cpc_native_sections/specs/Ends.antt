-- The end of a job of a program.
use Rattle.std.specs.Prelude.{ℕ, map}
use Rattle.cpc_tree.specs.Erase.{Names, item_of}
use Rattle.cpc_tree.specs.declared.program.Program.{Program}
use Rattle.cpc_meaning.specs.Section.{section_end}
use Rattle.cpc_meaning.specs.Trees.{trees}
use Rattle.cpc_native.specs.Runs.{Runs}
use Rattle.cpc_sections.specs.Jobs.{EndsAs, IsLawfulEnd, job_of}
use Rattle.cpc_sections.specs.declared.job.Job.{Job}
use Rattle.cpc_sections.specs.declared.job.SectionEnd.{SectionEnd}

-- the end of a section of a program that may make so many steps is that of the definition
pub record IsEndOf (p : Program) (bound : ℕ) (job : Job) (end : SectionEnd) : Type 0 where
  pub told : (names : Names) → Runs names p.names (map (item_of names) p.items.items) → EndsAs names end (section_end (trees (map (item_of names) p.items.items)) (job_of names job) bound)
  pub lawful : IsLawfulEnd end
