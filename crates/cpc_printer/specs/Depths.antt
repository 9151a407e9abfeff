-- How deep the parts of a print nest in the plain style.
use Rattle.std.specs.Prelude.{ℕ, suc, ◌+◌, false, max}
pub use Rattle.cpc_base.specs.Counts.{capped}
use Rattle.cpc_tree.specs.Syntax.{Ty, TyCode, TyArray, Expr, EUnary, EBinary, EAnd, EOr, EChoose, ECast, ESizeOf, EIndex, EMember, EArrow, ECall}
use Rattle.cpc_tree.specs.ExprGrammar.{Postfix, Tier, Whole, top_tier}
use Rattle.cpc_tree.specs.TypePrint.{star_count, types_depth}
use Rattle.cpc_tree.specs.ExprPrint.{tier_below, expr_depth, args_depth}

-- how deep a declarator nests
abbrev pub declarator_nest : Ty → ℕ
declarator_nest (TyArray t n) = star_count t
declarator_nest (TyCode t ts) = max (star_count t) (types_depth false ts + 1)
declarator_nest t = star_count t

-- how deep a parameter nests
abbrev pub param_nest : Ty → ℕ
param_nest (TyArray t n) = 0
param_nest t = declarator_nest t

-- how deep what stands in an expression nests, where no operator stands before or between its operands
abbrev pub postfix_depth : Expr → ℕ
postfix_depth (ESizeOf t) = declarator_nest t
postfix_depth (EIndex v w) = max (expr_depth false Postfix v) (expr_depth false Whole w)
postfix_depth (EMember v x) = expr_depth false Postfix v
postfix_depth (EArrow v x) = expr_depth false Postfix v
postfix_depth (ECall v vs) = max (expr_depth false Postfix v) (args_depth false vs)
postfix_depth v = 0

-- how deep what stands in an expression nests
abbrev pub inner_depth : Expr → ℕ
inner_depth (EUnary op v) = expr_depth false (Tier 0) v
inner_depth (EBinary op v w) = max (expr_depth false (Tier (suc (tier_below op))) v) (expr_depth false (Tier (tier_below op)) w)
inner_depth (EAnd v w) = max (expr_depth false (Tier 9) v) (expr_depth false (Tier 8) w)
inner_depth (EOr v w) = max (expr_depth false (Tier 10) v) (expr_depth false (Tier 9) w)
inner_depth (EChoose c v w) = max (expr_depth false (Tier top_tier) c) (max (expr_depth false Whole v) (expr_depth false Whole w))
inner_depth (ECast t v) = max (declarator_nest t) (expr_depth false (Tier 0) v)
inner_depth v = postfix_depth v
