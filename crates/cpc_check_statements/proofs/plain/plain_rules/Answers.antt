use Rattle.cpc_tree.specs.declared.program.Statement.TheVariants as T
use Rattle.std.proofs.Common.{◌≡◌, subst, sym}
use Rattle.std.proofs.lemmas.Result.{on_ok_weaker}
use Rattle.cpc_check_rules.specs.Noted.{first_of}
use Rattle.cpc_check_values.specs.Stands.{where_of}
use Rattle.cpc_check_statements.proofs.Nodes.{plain_assign, plain_call, plain_section}
use Rattle.cpc_check_statements.proofs.plain.plain_rules.Goals as goal

pub returns-in-Assign : goal.returns-in-Assign
returns-in-Assign c = on_ok_weaker c.assign_rules.result (λ h names spells. plain_assign names (where_of names c.args.w.now) (first_of c.args.first.now) _ c.args.s.now _ _ _ _ _ (subst (λ t. c.args.s.now ≡ T.Assign c.in-Assign.place c.in-Assign.operator t c.in-Assign.op c.expr-in-Assign.result.now) (sym c.expr.ensures) (subst (λ v. c.args.s.now ≡ T.Assign c.in-Assign.place c.in-Assign.operator c.in-Assign.target c.in-Assign.op v) (sym c.expr-in-Assign.ensures) c.in-Assign.is)) (h names spells c.in-Assign.place)) c.assign_rules.ensures

pub returns-in-Call : goal.returns-in-Call
returns-in-Call c = on_ok_weaker c.performed_rules.result (λ h names spells. plain_call names (where_of names c.args.w.now) (first_of c.args.first.now) _ c.args.s.now _ _ _ _ _ _ (subst (λ f. c.args.s.now ≡ T.Call c.in-Call.place c.in-Call.operator c.in-Call.target f c.in-Call.arguments) (sym c.expr-in-Call.ensures) c.in-Call.is) c.deref.ensures.value (h names spells c.in-Call.place)) c.performed_rules.ensures

pub returns-in-Detach : goal.returns-in-Detach
returns-in-Detach c = on_ok_weaker c.section_rules.result (λ h names spells. plain_section names (where_of names c.args.w.now) (first_of c.args.first.now) _ c.args.s.now _ _ _ _ _ _ _ c.in-Detach.is c.deref-in-Detach.ensures.value (h names spells c.in-Detach.place)) c.section_rules.ensures
