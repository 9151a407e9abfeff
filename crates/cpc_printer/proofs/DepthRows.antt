-- How deep the definitions say that types and expressions nest, as the code counts it.
use Rattle.std.proofs.Common.{◌≡◌, ℕ, ◌+◌, ◌<◌, ◌≤◌, max, false, List, length, get_or, drop, refl, ap, sym, ◌∙◌, Vec, Box, Global, arith}
use Rattle.std.proofs.lemmas.List.{drop_all}
use Rattle.cpc_base.specs.declared.stop.Place.{Place}
use Rattle.cpc_base.proofs.Lists.{drop_to_item}
use Rattle.cpc_tree.specs.declared.program.CType.{CType}
use Rattle.cpc_tree.specs.declared.program.CType.TheVariants as C
use Rattle.cpc_tree.specs.declared.program.Expr as GExpr
use Rattle.cpc_tree.specs.declared.program.Expr.TheVariants as E
use Rattle.cpc_tree.specs.Syntax.{Ty, TyCode, TyArray, Tys, NoTy, AndTy, Expr, ENamed, EInteger, ECharacter, EText, ECast, ESizeOf, Exprs, NoExpr, AndExpr}
use Rattle.cpc_tree.specs.ExprGrammar.{Rank, Postfix, Unary, Tier, Whole}
use Rattle.cpc_tree.specs.Erase.{Names, type_of, expr_of, exprs_of}
use Rattle.cpc_tree.specs.TypePrint.{star_count, param_depth, types_depth, declarator_depth}
use Rattle.cpc_tree.specs.ExprPrint.{is_loose, deeper_if, expr_depth, args_depth}
use Rattle.cpc_tree.proofs.Nodes.{call_is}
use Rattle.cpc_printer.specs.Types.{listed_types}
use Rattle.cpc_printer.specs.Expressions.{rank_at}
use Rattle.cpc_printer.specs.Depths.{declarator_nest, param_nest, inner_depth, postfix_depth}
use Rattle.cpc_printer.proofs.TypeRows.{code_is}
use Rattle.cpc_printer.proofs.ExprRows.{primary_tight}

types_nil : types_depth false NoTy ≡ 0
unfolding types_depth
types_nil = refl

types_one : (t : Ty) → types_depth false (AndTy t NoTy) ≡ param_depth false t
unfolding types_depth
types_one t = refl

types_two : (t u : Ty) (us : Tys) → types_depth false (AndTy t (AndTy u us)) ≡ max (param_depth false t) (types_depth false (AndTy u us))
unfolding types_depth
types_two t u us = refl

pub param_is : (t : Ty) → param_depth false t ≡ param_nest t
unfolding param_depth
param_is (TyArray t n) = refl
param_is (TyCode t ts) = refl
param_is t = refl

types_cons : (t : Ty) (ts : Tys) → types_depth false (AndTy t ts) ≡ max (param_nest t) (types_depth false ts)
types_cons t NoTy = omega (arith, types_one t, types_nil, param_is t)
types_cons t (AndTy u us) = types_two t u us ∙ ap (λ n. max n (types_depth false (AndTy u us))) (param_is t)

pub types_end : (names : Names) (xs : List CType) (i : ℕ) → length xs ≤ i → types_depth false (listed_types names (drop i xs)) ≡ 0
types_end names xs i h = ap (λ ys. types_depth false (listed_types names ys)) (drop_all i xs h) ∙ types_nil

pub types_more : (names : Names) (xs : List CType) (i : ℕ) (x : CType) → i < length xs → x ≡ get_or xs i x
    → types_depth false (listed_types names (drop i xs)) ≡ max (param_nest (type_of names x)) (types_depth false (listed_types names (drop (i + 1) xs)))
types_more names xs i x h e = ap (λ ys. types_depth false (listed_types names ys)) (drop_to_item xs i x h e) ∙ types_cons (type_of names x) (listed_types names (drop (i + 1) xs))

pub declarator_is : (t : Ty) → declarator_depth false t ≡ declarator_nest t
unfolding declarator_depth
declarator_is (TyArray t n) = refl
declarator_is (TyCode t ts) = refl
declarator_is t = refl

pub code_depth : (names : Names) (t : CType) (b : Box CType Global) (ts : Vec CType Global) → t ≡ C.Code b ts
    → declarator_nest (type_of names t) ≡ max (star_count (type_of names b.value)) (types_depth false (listed_types names ts.items) + 1)
code_depth names t b ts e = ap declarator_nest (ap (type_of names) e ∙ code_is names b ts)

args_nil : args_depth false NoExpr ≡ 0
unfolding args_depth
args_nil = refl

args_one : (v : Expr) → args_depth false (AndExpr v NoExpr) ≡ expr_depth false Whole v
unfolding args_depth
args_one v = refl

args_two : (v w : Expr) (ws : Exprs) → args_depth false (AndExpr v (AndExpr w ws)) ≡ max (expr_depth false Whole v) (args_depth false (AndExpr w ws))
unfolding args_depth
args_two v w ws = refl

args_cons : (v : Expr) (vs : Exprs) → args_depth false (AndExpr v vs) ≡ max (expr_depth false Whole v) (args_depth false vs)
args_cons v NoExpr = omega (arith, args_one v, args_nil)
args_cons v (AndExpr w ws) = args_two v w ws

pub args_depth_end : (names : Names) (xs : List GExpr.Expr) (i : ℕ) → length xs ≤ i → args_depth false (exprs_of names (drop i xs)) ≡ 0
args_depth_end names xs i h = ap (λ ys. args_depth false (exprs_of names ys)) (drop_all i xs h) ∙ args_nil

pub args_depth_more : (names : Names) (xs : List GExpr.Expr) (i : ℕ) (x : GExpr.Expr) → i < length xs → x ≡ get_or xs i x
    → args_depth false (exprs_of names (drop i xs)) ≡ max (expr_depth false Whole (expr_of names x)) (args_depth false (exprs_of names (drop (i + 1) xs)))
args_depth_more names xs i x h e = ap (λ ys. args_depth false (exprs_of names ys)) (drop_to_item xs i x h e) ∙ args_cons (expr_of names x) (exprs_of names (drop (i + 1) xs))

pub call_depth : (names : Names) (e : GExpr.Expr) (place : Place) (f : Box GExpr.Expr Global) (es : Vec GExpr.Expr Global) → e ≡ E.CallIn place f es
    → postfix_depth (expr_of names e) ≡ max (expr_depth false Postfix (expr_of names f.value)) (args_depth false (exprs_of names es.items))
call_depth names e place f es h = ap postfix_depth (ap (expr_of names) h ∙ call_is names place f es)

pub depth_round : (k : Rank) (e : Expr) → expr_depth false k e ≡ deeper_if (is_loose k (rank_at e)) (inner_depth e + 1)
unfolding expr_depth
depth_round k (ENamed x) = sym (ap (λ b. deeper_if b 1) (primary_tight k))
depth_round k (EInteger kind z) = sym (ap (λ b. deeper_if b 1) (primary_tight k))
depth_round k (ECharacter z) = sym (ap (λ b. deeper_if b 1) (primary_tight k))
depth_round k (EText bytes) = sym (ap (λ b. deeper_if b 1) (primary_tight k))
depth_round k (ECast t v) = ap (λ n. deeper_if (is_loose k (Tier 0)) (max n (expr_depth false (Tier 0) v) + 1)) (declarator_is t)
depth_round k (ESizeOf t) = ap (λ n. deeper_if (is_loose k Unary) (n + 1)) (declarator_is t)
depth_round k e = refl
