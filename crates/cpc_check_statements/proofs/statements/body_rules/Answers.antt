use Rattle.std.proofs.Common.{ap, ◌∙◌}
use Rattle.std.proofs.lemmas.Result.{on_ok_weaker}
use Rattle.cpc_tree.specs.Locate.{located_list}
use Rattle.cpc_check_rules.specs.Noted.{first_of}
use Rattle.cpc_types.specs.Blocks.{without_block}
use Rattle.cpc_check_statements.specs.Standing.{standing}
use Rattle.cpc_check_statements.proofs.Walk.{walk_body, body_behind, all_left}
use Rattle.cpc_check_statements.proofs.statements.body_rules.Goals as goal

pub returns-in-Block-clause-noted : goal.returns-in-Block-clause-noted
returns-in-Block-clause-noted c = on_ok_weaker c.row_rules.result (λ h names spells.
    walk_body names (standing names c.args.scope.now c.args.around.now) (first_of c.args.first.now) _ c.args.body.now _ _ _ c.in-Block.is c.deref.ensures.value (h names spells)) c.row_rules.ensures.noted

pub returns-in-Block-clause-left : goal.returns-in-Block-clause-left
returns-in-Block-clause-left c = on_ok_weaker c.row_rules.result (λ h names.
    ap without_block (h names) ∙ all_left (standing names c.args.scope.now c.args.around.now) (located_list names c.deref.result.now)) c.row_rules.ensures.scope

pub returns-in-Block-clause-scope : goal.returns-in-Block-clause-scope
returns-in-Block-clause-scope c = on_ok_weaker c.row_rules.result (λ h names.
    body_behind names (standing names c.args.scope.now c.args.around.now) _ c.args.body.now _ _ _ c.in-Block.is c.deref.ensures.value (h names)) c.row_rules.ensures.scope
