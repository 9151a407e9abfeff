use Rattle.std.proofs.Common.{Some, option_map}
use Rattle.std.proofs.lemmas.Result.{on_ok_weaker}
use Rattle.cpc_num.specs.declared.kinds.Kind.TheVariants.{Int}
use Rattle.cpc_tree.specs.Syntax.{TyInt}
use Rattle.cpc_tree.specs.Locate.{ident, located_expr, located_exprs}
use Rattle.cpc_check_rules.specs.StmtRules.{to_breaks}
use Rattle.cpc_check_rules.specs.Noted.{first_of}
use Rattle.cpc_check_values.specs.Stands.{where_of}
use Rattle.cpc_check_statements.proofs.Parts.{found_section}
use Rattle.cpc_check_statements.proofs.called.section_rules.Goals as goal

pub returns : goal.returns
returns c = on_ok_weaker c.started_rules.result (λ h names spells q.
    let w = where_of names c.args.w.now in
    found_section w c.args.places.1 (ident names c.args.function) (located_exprs names c.args.arguments.now) (to_breaks w (option_map (located_expr names) c.args.target.now) c.args.places.0 (Some (TyInt Int))) _ _ (first_of c.args.first.now) _ _ _ _
    (c.in_ok-int_rules.ensures names spells) c.is_cps.ensures c.note_if.ensures c.is_event.ensures c.note_if-2.ensures (h names spells)) c.started_rules.ensures
