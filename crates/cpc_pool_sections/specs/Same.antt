-- Sections that are the same.
use Rattle.std.specs.Prelude.{◌≡◌}
use Rattle.cpc_sections.specs.declared.job.Job.{Job}

-- of one number, the same function, and the same values
pub record IsSameJob (j k : Job) : Type 0 where
  pub number : j.number ≡ k.number
  pub function : j.function ≡ k.function
  pub args : j.args.items ≡ k.args.items
  pub cells : j.cells.items ≡ k.cells.items
  pub pointer : j.pointer ≡ k.pointer
