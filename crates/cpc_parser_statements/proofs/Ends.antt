-- What may stand behind an expression, and behind a declarator: the marks that statements put there.
use Rattle.std.proofs.Common.{◌≡◌, Some, refl}
use Rattle.cpc_num.specs.declared.kinds.Op.{Op}
use Rattle.cpc_tree.specs.declared.token.Punctuator.{Punctuator}
use Rattle.cpc_tree.specs.declared.token.Punctuator.TheVariants as P
use Rattle.cpc_tree.specs.Tokens.{Mark}
use Rattle.cpc_tree.specs.Located.{LVariable}
use Rattle.cpc_tree.specs.ExprGrammar.{Unary, Whole}
use Rattle.cpc_tree.specs.StmtGrammar.{assigning, stepping}
use Rattle.cpc_tree.specs.Syntax.{Ty}
use Rattle.cpc_parser_types.specs.Declarators.{DeclaratorEnd}
use Rattle.cpc_parser_types.proofs.Declarators.{no_bracket}
use Rattle.cpc_parser_expressions.specs.ExprReaders.{ShapeEnd}

pub equal_unary : ShapeEnd Unary (Mark P.Equal)
equal_unary = refl

pub assign_unary : (p : Punctuator) (op : Op) → assigning p ≡ Some op → ShapeEnd Unary (Mark p)
assign_unary P.LeftParen op e = absurd cc
assign_unary P.LeftBracket op e = absurd cc
assign_unary P.Dot op e = absurd cc
assign_unary P.Arrow op e = absurd cc
assign_unary p op e = refl

pub step_unary : (p : Punctuator) (op : Op) → stepping p ≡ Some op → ShapeEnd Unary (Mark p)
step_unary P.LeftParen op e = absurd cc
step_unary P.LeftBracket op e = absurd cc
step_unary P.Dot op e = absurd cc
step_unary P.Arrow op e = absurd cc
step_unary p op e = refl

pub semicolon_unary : ShapeEnd Unary (Mark P.Semicolon)
semicolon_unary = refl

pub right_unary : ShapeEnd Unary (Mark P.RightParen)
right_unary = refl

pub semicolon_whole : ShapeEnd Whole (Mark P.Semicolon)
semicolon_whole = (refl, refl, refl)

pub right_whole : ShapeEnd Whole (Mark P.RightParen)
right_whole = (refl, refl, refl)

pub comma_whole : ShapeEnd Whole (Mark P.Comma)
comma_whole = (refl, refl, refl)

pub equal_declarator : (base : Ty) (x : LVariable) → DeclaratorEnd base x (Mark P.Equal)
equal_declarator base x = no_bracket base x (Mark P.Equal) refl

pub comma_declarator : (base : Ty) (x : LVariable) → DeclaratorEnd base x (Mark P.Comma)
comma_declarator base x = no_bracket base x (Mark P.Comma) refl

pub semicolon_declarator : (base : Ty) (x : LVariable) → DeclaratorEnd base x (Mark P.Semicolon)
semicolon_declarator base x = no_bracket base x (Mark P.Semicolon) refl
