-- Jobs and ends of the code, as the definitions have them.
use Rattle.std.specs.Prelude.{◌≡◌}
use Rattle.std.specs.List.{All}
use Rattle.cpc_tree.specs.Erase.{Names}
use Rattle.cpc_store.specs.Seen.{seen, IsLawful}
use Rattle.cpc_meaning.specs.Section as M
use Rattle.cpc_eval_values.specs.Shown.{value_of, values_of}
use Rattle.cpc_sections.specs.declared.job.Job.{Job}
use Rattle.cpc_sections.specs.declared.job.SectionEnd.{SectionEnd}
use Rattle.cpc_sections.specs.declared.job.SectionEnd.TheVariants as E

abbrev pub job_of : Names → Job → M.Job
job_of names j = record {
  number = j.number;
  function = names j.function;
  arguments = values_of names j.args.items;
  cells = values_of names j.cells.items;
  pointer = value_of names j.pointer;
}

abbrev pub end_of : Names → SectionEnd → M.SectionEnd
end_of names (E.Gave v cells) = M.Gave (value_of names v) (values_of names cells.items)
end_of names (E.Faulted fault f) = M.Broke fault (names f)

-- the end of the code is that of the definition; where a section has none nothing is said
abbrev pub EndsAs : Names → SectionEnd → M.SectionEnd → Type 0
EndsAs names end (M.Gave v cells) = end_of names end ≡ M.Gave v cells
EndsAs names end (M.Broke fault f) = end_of names end ≡ M.Broke fault f
EndsAs names end M.NoEnd = Unit {0}

-- its values are lawful
pub record IsLawfulJob (j : Job) : Type 0 where
  pub args : All (λ v. IsLawful (seen v)) j.args.items
  pub cells : All (λ v. IsLawful (seen v)) j.cells.items
  pub pointer : IsLawful (seen j.pointer)

abbrev pub IsLawfulEnd : SectionEnd → Type 0
IsLawfulEnd (E.Gave v cells) = IsLawful (seen v) × All (λ v. IsLawful (seen v)) cells.items
IsLawfulEnd (E.Faulted fault f) = Unit {0}
