-- How closely an expression binds, and what is put of one without parentheses round it.
use Rattle.std.specs.Prelude.{suc, Bool, List, [], ◌∷◌, ◌++◌}
use Rattle.cpc_tree.specs.Tokens.{Lexeme, Mark}
use Rattle.cpc_tree.specs.Syntax.{Expr, ENamed, EInteger, ECharacter, EText, EUnary, EBinary, EAnd, EOr, EChoose, ECast, ESizeOf, EIndex, EMember, EArrow, ECall, Exprs, NoExpr, AndExpr}
use Rattle.cpc_tree.specs.declared.token.Punctuator.TheVariants as P
use Rattle.cpc_tree.specs.ExprGrammar.{Rank, Primary, Postfix, Unary, Tier, Whole}
use Rattle.cpc_tree.specs.ExprPrint.{tier_below, expr_row}

-- how closely an expression binds
abbrev pub rank_at : Expr → Rank
rank_at (ENamed x) = Primary
rank_at (EInteger kind z) = Primary
rank_at (ECharacter z) = Primary
rank_at (EText bytes) = Primary
rank_at (EUnary op v) = Unary
rank_at (EBinary op v w) = Tier (suc (tier_below op))
rank_at (EAnd v w) = Tier 9
rank_at (EOr v w) = Tier 10
rank_at (EChoose c v w) = Whole
rank_at (ECast t v) = Tier 0
rank_at (ESizeOf t) = Unary
rank_at (EIndex v w) = Postfix
rank_at (EMember v x) = Postfix
rank_at (EArrow v x) = Postfix
rank_at (ECall v vs) = Postfix

-- the tokens of an index, a field or a call; of others none
abbrev pub postfix_row : Bool → Expr → List Lexeme
postfix_row tight (EIndex v w) = expr_row tight Whole (EIndex v w)
postfix_row tight (EMember v x) = expr_row tight Whole (EMember v x)
postfix_row tight (EArrow v x) = expr_row tight Whole (EArrow v x)
postfix_row tight (ECall v vs) = expr_row tight Whole (ECall v vs)
postfix_row tight v = []

-- the tokens of these and of expressions with an operator of two or three operands
abbrev pub infix_row : Bool → Expr → List Lexeme
infix_row tight (EBinary op v w) = expr_row tight Whole (EBinary op v w)
infix_row tight (EAnd v w) = expr_row tight Whole (EAnd v w)
infix_row tight (EOr v w) = expr_row tight Whole (EOr v w)
infix_row tight (EChoose c v w) = expr_row tight Whole (EChoose c v w)
infix_row tight v = postfix_row tight v

-- further arguments, each behind a comma
abbrev pub further_args : Bool → Exprs → List Lexeme
further_args tight NoExpr = []
further_args tight (AndExpr v vs) = Mark P.Comma ∷ (expr_row tight Whole v ++ further_args tight vs)
