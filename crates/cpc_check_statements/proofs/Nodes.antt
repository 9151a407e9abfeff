-- What plain statements break, by the form that the code finds.
use Rattle.std.proofs.Common.{◌≡◌, List, sym, ap, ◌∙◌, Vec, Global, Option, option_map}
use Rattle.cpc_base.specs.declared.stop.Place.{Place}
use Rattle.cpc_num.specs.declared.kinds.Op.{Op}
use Rattle.cpc_tree.specs.declared.program.Expr.{Expr}
use Rattle.cpc_tree.specs.declared.program.Word.{Word}
use Rattle.cpc_tree.specs.declared.program.Statement.{Statement}
use Rattle.cpc_tree.specs.declared.program.Statement.TheVariants as T
use Rattle.cpc_tree.specs.Located as L
use Rattle.cpc_tree.specs.Erase.{Names}
use Rattle.cpc_tree.specs.Locate.{ident, located_expr, located_exprs, located_stmt}
use Rattle.cpc_check_rules.specs.declared.rule.Rule.{Rule}
use Rattle.cpc_check_rules.specs.Noted.{noted}
use Rattle.cpc_check_rules.specs.Operators.{Where}
use Rattle.cpc_check_rules.specs.StmtRules.{stmt_breaks}
use Rattle.cpc_check_statements.specs.Plain.{plain_breaks}

abbrev Firsts : Type 0
Firsts = Option (Place × Rule)

pub plain_assign : (names : Names) (w : Where) (o x : Firsts) (s : Statement) (p q : Place) (v : Expr) (op : Option Op) (e : Expr) → s ≡ T.Assign p q v op e
    → x ≡ noted o (stmt_breaks w (L.Assign p q (located_expr names v) op (located_expr names e))) → x ≡ noted o (plain_breaks w (located_stmt names s))
plain_assign names w o x s p q v op e i k = k ∙ ap (λ (t : Statement). noted o (plain_breaks w (located_stmt names t))) (sym i)

pub plain_call : (names : Names) (w : Where) (o x : Firsts) (s : Statement) (p q : Place) (to : Option Expr) (f : Expr) (es : Vec Expr Global) (xs : List Expr) → s ≡ T.Call p q to f es → xs ≡ es.items
    → x ≡ noted o (stmt_breaks w (L.Call p q (option_map (located_expr names) to) (located_expr names f) (located_exprs names xs))) → x ≡ noted o (plain_breaks w (located_stmt names s))
plain_call names w o x s p q to f es xs i d k =
    k ∙ ap (λ ys. noted o (stmt_breaks w (L.Call p q (option_map (located_expr names) to) (located_expr names f) (located_exprs names ys)))) d
    ∙ ap (λ (t : Statement). noted o (plain_breaks w (located_stmt names t))) (sym i)

pub plain_section : (names : Names) (w : Where) (o x : Firsts) (s : Statement) (p q r : Place) (to : Option Expr) (f : Word) (es : Vec Expr Global) (xs : List Expr) → s ≡ T.Detach p q r to f es → xs ≡ es.items
    → x ≡ noted o (stmt_breaks w (L.Detach p q r (option_map (located_expr names) to) (ident names f) (located_exprs names xs))) → x ≡ noted o (plain_breaks w (located_stmt names s))
plain_section names w o x s p q r to f es xs i d k =
    k ∙ ap (λ ys. noted o (stmt_breaks w (L.Detach p q r (option_map (located_expr names) to) (ident names f) (located_exprs names ys)))) d
    ∙ ap (λ (t : Statement). noted o (plain_breaks w (located_stmt names t))) (sym i)
