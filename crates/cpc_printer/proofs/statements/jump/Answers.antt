use Rattle.std.proofs.Common.{arith}
use Rattle.std.proofs.lemmas.Grind.{common_steps}
use Rattle.cpc_base.proofs.Results.{on_ok}
use Rattle.cpc_printer.proofs.StmtRows.{jump_other}
use Rattle.cpc_printer.proofs.statements.jump.Goals as goal

pub returns-in_ok-simple-in_default-clause-row : goal.returns-in_ok-simple-in_default-clause-row
returns-in_ok-simple-in_default-clause-row c =
    on_ok c.mark-in_default.result (λ h names.
    let e = jump_other names c.args.out.now.is_tight c.args.s.now c.in_default.not-Empty c.in_default.not-Spawn c.in_default.not-Goto c.in_default.not-Break c.in_default.not-Continue c.in_default.not-Return in
    grind (arith, common_steps, h names, e)) c.mark-in_default.ensures.row
