use Rattle.std.proofs.Common.{◌∷◌, [], sym, subst, ap, ◌∙◌, Some, option_map, Option}
use Rattle.std.proofs.lemmas.Result.{on_ok_weaker}
use Rattle.cpc_tree.specs.Points as P
use Rattle.cpc_tree.specs.Erase.{expr_of}
use Rattle.cpc_tree.specs.declared.program.Expr.{Expr}
use Rattle.cpc_box.specs.Outline.{here}
use Rattle.cpc_box.specs.Walked.{Walked}
use Rattle.cpc_box.proofs.walk.Walk.push_maybe.Goals as goal

pub returns-in-Some : goal.returns-in-Some
returns-in-Some c = on_ok_weaker c.push_test.result (λ h names ms p sc chain.
    let Q : Option Expr → Type 0 = λ t. Walked names ms c.args.self.now c.push_test.new.self [] (here p sc (P.Test (option_map (expr_of names) t)) ∷ []) in
    subst Q (sym (c.in-Some.is ∙ ap Some (sym c.expr.ensures))) (h names ms p sc chain)) c.push_test.ensures

pub returns-in-None : goal.returns-in-None
returns-in-None c = on_ok_weaker c.push_test-in-None.result (λ h names ms p sc chain.
    let Q : Option Expr → Type 0 = λ t. Walked names ms c.args.self.now c.push_test-in-None.new.self [] (here p sc (P.Test (option_map (expr_of names) t)) ∷ []) in
    subst Q (sym c.in-None.is) (h names ms p sc chain)) c.push_test-in-None.ensures
