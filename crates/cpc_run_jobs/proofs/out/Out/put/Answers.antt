use Rattle.std.proofs.Common.{sym, subst}
use Rattle.std.specs.List.{All}
use Rattle.std.specs.Map.{values_of}
use Rattle.std.specs.Ordering.{nat_cmp}
use Rattle.std.proofs.lemmas.Map.Views.{All-values-insert_entry}
use Rattle.cpc_sections.specs.Jobs.{IsLawfulJob}
use Rattle.cpc_run_jobs.proofs.out.Out.put.Goals as goal

pub invariant_of-self : goal.invariant_of-self
invariant_of-self c =
    subst (λ es. All IsLawfulJob (values_of es)) (sym c.in-Ok.ensures.entries)
    (All-values-insert_entry nat_cmp c.args.job.number c.args.job IsLawfulJob c.self.inside.by_number.entries c.self.invariant c.requires)
