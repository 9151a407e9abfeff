use Rattle.std.proofs.Common.{sym, subst}
use Rattle.std.specs.Prelude.{IfSome}
use Rattle.std.specs.BTreeMap.{is_at}
use Rattle.std.specs.List.{All}
use Rattle.std.specs.Map.{values_of}
use Rattle.std.specs.Ordering.{nat_cmp}
use Rattle.std.proofs.lemmas.Map.Views.{All-map-remove_entry, IfSome-lookup_from_All}
use Rattle.cpc_sections.specs.Jobs.{IsLawfulJob}
use Rattle.cpc_run_jobs.proofs.out.Out.take.Goals as goal

pub invariant_of-self : goal.invariant_of-self
invariant_of-self c =
    subst (λ es. All IsLawfulJob (values_of es)) (sym c.remove.ensures.entries)
    (All-map-remove_entry (is_at (nat_cmp c.args.number)) (λ e. e.1) IsLawfulJob c.self.inside.by_number.entries c.self.invariant)

pub returns-clause-lawful : goal.returns-clause-lawful
returns-clause-lawful c = subst (λ o. IfSome o IsLawfulJob) (sym c.remove.ensures.value) (IfSome-lookup_from_All IsLawfulJob (is_at (nat_cmp c.args.number)) c.self.inside.by_number.entries c.self.invariant)
