use Rattle.std.proofs.Common.{◌∙◌, sym, ap, subst, option_map}
use Rattle.std.proofs.lemmas.Result.{on_ok_weaker}
use Rattle.cpc_tree.specs.Erase.{type_of}
use Rattle.cpc_tree.specs.Locate.{ident, located_expr}
use Rattle.cpc_check_rules.specs.Apart.{Spells}
use Rattle.cpc_check_rules.specs.StmtRules.{in_scope}
use Rattle.cpc_check_rules.specs.Noted.{first_of}
use Rattle.cpc_check_statements.specs.Standing.{standing}
use Rattle.cpc_check_statements.proofs.Declared.{local_noted}
use Rattle.cpc_check_statements.proofs.locals.local_rules.Goals as goal

pub returns-clause-noted : goal.returns-clause-noted
returns-clause-noted c = on_ok_weaker c.start_rules.result (λ h names spells.
    let w = standing names c.args.scope.now c.args.around.now in
    local_noted w _ (ident names c.args.word) (type_of names c.args.of.now) (option_map (located_expr names) c.args.start.now) (first_of c.args.first.now) _ _
    (c.standing.ensures.stands names ∙ ap (in_scope w) (c.in_ok-declare.ensures.ok names))
    (c.note_local.ensures names spells.apart)
    (h names (subst (λ t. Spells t names) (sym c.standing.ensures.named) spells))) c.start_rules.ensures
