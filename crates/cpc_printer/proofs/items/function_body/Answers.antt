use Rattle.std.proofs.Common.{arith}
use Rattle.std.proofs.lemmas.Grind.{common_steps}
use Rattle.cpc_base.proofs.Results.{on_ok}
use Rattle.cpc_printer.proofs.ItemRows.{body_block}
use Rattle.cpc_printer.proofs.items.function_body.Goals as goal

pub returns-in-Block-clause-row : goal.returns-in-Block-clause-row
returns-in-Block-clause-row c =
    on_ok c.block.result (λ h names.
    let e = body_block names c.args.out.now.is_tight c.args.body.now _ _ c.in-Block.is in
    grind (arith, common_steps, h names, e)) c.block.ensures.row
