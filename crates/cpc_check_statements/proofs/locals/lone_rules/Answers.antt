use Rattle.std.proofs.Common.{◌∙◌, sym, ap, subst, option_map}
use Rattle.cpc_tree.specs.Erase.{type_of}
use Rattle.cpc_tree.specs.Locate.{ident, located_expr}
use Rattle.cpc_check_rules.specs.Apart.{Spells}
use Rattle.cpc_check_rules.specs.Scopes.{with_name}
use Rattle.cpc_check_rules.specs.StmtRules.{in_scope, variable}
use Rattle.cpc_check_rules.specs.Noted.{first_of}
use Rattle.cpc_types.specs.Blocks.{without_block}
use Rattle.cpc_check_statements.specs.Standing.{standing}
use Rattle.cpc_check_statements.proofs.Declared.{lone_noted}
use Rattle.cpc_check_statements.proofs.locals.lone_rules.Goals as goal

pub returns-clause-noted : goal.returns-clause-noted
returns-clause-noted c = λ names spells.
    let w = standing names c.args.scope.now c.args.around.now in
    let x = variable (ident names c.args.word) (type_of names c.args.of.now) in
    lone_noted w _ (ident names c.args.word) (type_of names c.args.of.now) (option_map (located_expr names) c.args.start.now) (first_of c.args.first.now) _ _
    (c.standing.ensures.stands names ∙ ap (in_scope w) (c.in_ok-declare.ensures.ok names ∙ ap (λ s. with_name s x) (c.in_ok-enter_block.ensures.ok names)))
    (c.note_local.ensures names spells.apart)
    (c.in_ok-start_rules.ensures names (subst (λ t. Spells t names) (sym c.standing.ensures.named) spells))

pub returns-clause-scope : goal.returns-clause-scope
returns-clause-scope c = λ names.
    let x = variable (ident names c.args.word) (type_of names c.args.of.now) in
    c.leave_block.ensures.scope names ∙ ap without_block (c.in_ok-declare.ensures.ok names ∙ ap (λ s. with_name s x) (c.in_ok-enter_block.ensures.ok names))
