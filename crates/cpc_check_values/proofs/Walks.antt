-- What expressions break, by their parts.
use Rattle.std.proofs.Common.{◌≡◌, Option, is_some, ◌++◌, refl, ap, sym, ◌∙◌}
use Rattle.cpc_base.specs.declared.stop.Place.{Place}
use Rattle.cpc_tree.specs.declared.program.UnaryOp.{UnaryOp}
use Rattle.cpc_tree.specs.declared.program.UnaryOp.TheVariants as U
use Rattle.cpc_tree.specs.Syntax.{Ty}
use Rattle.cpc_tree.specs.Located.{Ident, LExpr, LUnary, LCast, LMember, LArrow, bare_expr}
use Rattle.cpc_check_rules.specs.declared.rule.Rule.{Rule}
use Rattle.cpc_check_rules.specs.Rule.{Broken}
use Rattle.cpc_check_rules.specs.Noted.{noted}
use Rattle.cpc_check_rules.specs.Scopes as S
use Rattle.cpc_check_rules.specs.Operators as O
use Rattle.cpc_check_rules.specs.Operators.{Where, typed_at, first}
use Rattle.cpc_check_rules.specs.ExprRules.{expr_breaks}
use Rattle.cpc_check_rules.proofs.Firsts.{noted_both}
use Rattle.cpc_shapes.specs.Forms as F
use Rattle.cpc_shapes.proofs.FormParts.{unary_typed}
use Rattle.cpc_check_values.specs.Parts.{unary_breaks}

abbrev Firsts : Type 0
Firsts = Option (Place × Rule)

-- ---- one operand

pub unary_whole : (w : Where) (q : Place) (op : UnaryOp) (v : LExpr) → F.unary_of op (F.is_named (bare_expr v)) (typed_at w v) ≡ typed_at w (LUnary q op v)
unary_whole w q op v = sym (unary_typed (S.meant w.scope) w.scope.items op (bare_expr v))

unary_row : (w : Where) (q : Place) (op : UnaryOp) (v : LExpr) → expr_breaks w (LUnary q op v) ≡ expr_breaks w v ++ unary_breaks op (typed_at w v) (typed_at w (LUnary q op v)) q (first v)
unary_row w q U.AddressOf v = refl
unary_row w q op v = refl

pub unary_noted : (w : Where) (o : Firsts) (q : Place) (op : UnaryOp) (v : LExpr)
    → noted (noted o (expr_breaks w v)) (unary_breaks op (typed_at w v) (F.unary_of op (F.is_named (bare_expr v)) (typed_at w v)) q (first v)) ≡ noted o (expr_breaks w (LUnary q op v))
unary_noted w o q op v =
    ap (λ d. noted (noted o (expr_breaks w v)) (unary_breaks op (typed_at w v) d q (first v))) (unary_whole w q op v)
    ∙ sym (ap (noted o) (unary_row w q op v) ∙ noted_both o (expr_breaks w v) (unary_breaks op (typed_at w v) (typed_at w (LUnary q op v)) q (first v)))

pub cast_noted : (w : Where) (o : Firsts) (q : Place) (t : Ty) (v : LExpr)
    → noted (noted o (expr_breaks w v)) (O.no_rule (is_some (typed_at w v)) (typed_at w (LCast q t v)) q) ≡ noted o (expr_breaks w (LCast q t v))
cast_noted w o q t v = sym (noted_both o (expr_breaks w v) (O.no_rule (is_some (typed_at w v)) (typed_at w (LCast q t v)) q))

pub member_noted : (w : Where) (o : Firsts) (q : Place) (v : LExpr) (x : Ident)
    → noted (noted o (expr_breaks w v)) (O.member_breaks w.scope (typed_at w v) q x (typed_at w (LMember q v x))) ≡ noted o (expr_breaks w (LMember q v x))
member_noted w o q v x = sym (noted_both o (expr_breaks w v) (O.member_breaks w.scope (typed_at w v) q x (typed_at w (LMember q v x))))

pub arrow_noted : (w : Where) (o : Firsts) (q : Place) (v : LExpr) (x : Ident)
    → noted (noted o (expr_breaks w v)) (O.arrow_breaks w.scope (typed_at w v) q x (typed_at w (LArrow q v x))) ≡ noted o (expr_breaks w (LArrow q v x))
arrow_noted w o q v x = sym (noted_both o (expr_breaks w v) (O.arrow_breaks w.scope (typed_at w v) q x (typed_at w (LArrow q v x))))

-- ---- two and three operands

-- rows of two parts and of what is noted behind them
pub after_two : (o : Firsts) (a b c : Broken) → noted (noted (noted o a) b) c ≡ noted o (a ++ (b ++ c))
after_two o a b c = sym (noted_both o a (b ++ c) ∙ noted_both (noted o a) b c)

pub after_three : (o : Firsts) (a b c d : Broken) → noted (noted (noted (noted o a) b) c) d ≡ noted o (a ++ (b ++ (c ++ d)))
after_three o a b c d = after_two (noted o a) b c d ∙ sym (noted_both o a (b ++ (c ++ d)))
