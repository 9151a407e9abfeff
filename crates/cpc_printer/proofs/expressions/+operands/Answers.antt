use Rattle.std.proofs.Common.{arith}
use Rattle.std.proofs.lemmas.Grind.{common_steps}
use Rattle.cpc_base.proofs.Results.{on_ok}
use Rattle.cpc_printer.proofs.ExprRows.{bare_call}
use Rattle.cpc_printer.proofs.expressions.+operands.Goals as goal

pub postfix-returns-in_ok-expression-in-CallIn-clause-row : goal.postfix-returns-in_ok-expression-in-CallIn-clause-row
postfix-returns-in_ok-expression-in-CallIn-clause-row t c =
    on_ok c.bracketed_arguments.result (λ h names.
    let e = bare_call names c.args.out.now.is_tight c.args.e.now _ _ _ c.in-CallIn.is in
    grind (arith, common_steps, h names, e)) c.bracketed_arguments.ensures.row
