-- What is noted of a function that is started by its name.
use Rattle.std.proofs.Common.{◌≡◌, List, length, Option, ap, ◌∙◌}
use Rattle.cpc_base.specs.declared.stop.Place.{Place}
use Rattle.cpc_tree.specs.declared.program.Expr.{Expr}
use Rattle.cpc_tree.specs.Erase.{Names}
use Rattle.cpc_tree.specs.Located.{Ident}
use Rattle.cpc_tree.specs.Locate.{located_exprs}
use Rattle.cpc_tree.specs.Typing.{Meant}
use Rattle.cpc_check_rules.specs.declared.rule.Rule.{Rule}
use Rattle.cpc_check_rules.specs.Noted.{noted}
use Rattle.cpc_check_rules.specs.Scopes.{meant}
use Rattle.cpc_check_rules.specs.Operators.{Where}
use Rattle.cpc_check_rules.specs.Calls as C
use Rattle.cpc_check_rules.specs.ExprRules.{args_breaks}
use Rattle.cpc_check_rules.specs.StmtRules as S
use Rattle.cpc_check_values.specs.Walked.{count_breaks}
use Rattle.cpc_check_values.proofs.Walks.{after_two}
use Rattle.cpc_check_values.proofs.Arguments.{number_is}

abbrev Firsts : Type 0
Firsts = Option (Place × Rule)

pub started_told : (names : Names) (w : Where) (x : Ident) (es : List Expr) (c k : C.Callee) (m : Meant) (o l i n : Firsts) → m ≡ meant w.scope x.text → c ≡ k
    → l ≡ noted o (S.wrong_name m c x.place) → i ≡ noted l (count_breaks c (length es) x.place) → n ≡ noted i (args_breaks w (C.wanted c) (located_exprs names es))
    → n ≡ noted o (S.started_breaks w x k (located_exprs names es))
started_told names w x es c k m o l i n em ek g h j =
    let ES = located_exprs names es in
    let M = meant w.scope x.text in
    j
    ∙ ap (λ z. noted z (args_breaks w (C.wanted c) ES)) (h ∙ ap (λ z. noted z (count_breaks c (length es) x.place)) g)
    ∙ ap (λ z. noted (noted (noted o (S.wrong_name z c x.place)) (count_breaks c (length es) x.place)) (args_breaks w (C.wanted c) ES)) em
    ∙ ap (λ z. noted (noted (noted o (S.wrong_name M z x.place)) (count_breaks z (length es) x.place)) (args_breaks w (C.wanted z) ES)) ek
    ∙ ap (λ z. noted (noted (noted o (S.wrong_name M k x.place)) z) (args_breaks w (C.wanted k) ES)) (number_is names k es x.place)
    ∙ after_two o (S.wrong_name M k x.place) (C.number_breaks k (located_exprs names es) x.place) (args_breaks w (C.wanted k) ES)
