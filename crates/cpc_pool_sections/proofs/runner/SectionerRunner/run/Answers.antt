use Rattle.std.proofs.Common.{◌≡◌, Some, sym, subst}
use Rattle.cpc_check.specs.declared.checked.Checked.{Checked}
use Rattle.cpc_pool_sections.proofs.Ending.{may_end}
use Rattle.cpc_pool_sections.proofs.runner.SectionerRunner.run.Goals as goal

pub returns : goal.returns
returns g c =
    let same = subst (λ (x : Checked). g.B.Assigned.program ≡ Some x.program) (sym c.deref-program.ensures) c.self.invariant.0 in
    may_end c.deref-program.result.now.program g.B.Assigned.program c.self.inside.bound g.B.Assigned.bound c.args.job.now c.run_section.result same c.self.invariant.1 c.run_section.ensures
