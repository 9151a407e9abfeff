use Rattle.std.proofs.Common.{arith}
use Rattle.std.proofs.lemmas.Grind.{common_steps}
use Rattle.cpc_base.proofs.Results.{on_ok}
use Rattle.cpc_printer.proofs.StmtRows.{stmt_block, stmt_if_none, stmt_if_some, stmt_for}
use Rattle.cpc_printer.proofs.statements.+sentences.Goals as goal

pub statement-returns-in-Block-clause-row : goal.statement-returns-in-Block-clause-row
statement-returns-in-Block-clause-row t c =
    on_ok c.block.result (λ h names.
    let e = stmt_block names c.args.out.now.is_tight c.args.s.now _ _ c.in-Block.is in
    grind (arith, common_steps, h names, e)) c.block.ensures.row

pub statement-returns-in-None-clause-row : goal.statement-returns-in-None-clause-row
statement-returns-in-None-clause-row t c = λ names.
    let e = stmt_if_none names c.args.out.now.is_tight c.args.s.now _ _ _ _ c.in-If.is c.in-None.is in
    grind (arith, common_steps, e)

pub statement-returns-in-Some-clause-row : goal.statement-returns-in-Some-clause-row
statement-returns-in-Some-clause-row t c =
    on_ok c.otherwise.result (λ h names.
    let e = stmt_if_some names c.args.out.now.is_tight c.args.s.now _ _ _ _ _ c.in-If.is c.in-Some.is in
    grind (arith, common_steps, h names, e)) c.otherwise.ensures.row

pub statement-returns-in_ok-for_head-in-For-clause-row : goal.statement-returns-in_ok-for_head-in-For-clause-row
statement-returns-in_ok-for_head-in-For-clause-row t c =
    on_ok c.body-in-For.result (λ h names.
    let e = stmt_for names c.args.out.now.is_tight c.args.s.now _ _ _ _ _ c.in-For.is in
    grind (arith, common_steps, h names, e)) c.body-in-For.ensures.row
