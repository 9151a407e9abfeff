-- Jobs by number.
use Rattle.std.specs.Prelude.{ℕ, List, Option}
use Rattle.std.specs.BTreeMap.{is_at}
use Rattle.std.specs.Map.{lookup}
use Rattle.std.specs.Ordering.{nat_cmp}
use Rattle.cpc_sections.specs.declared.job.Job.{Job}

-- the job of a number
abbrev pub under : ℕ → List (ℕ × Job) → Option Job
under n es = lookup (is_at (nat_cmp n)) es
