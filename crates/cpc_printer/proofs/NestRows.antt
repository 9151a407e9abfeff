-- How deep the definitions say that statements and items nest, as the code counts it.
use Rattle.std.proofs.Common.{◌≡◌, ℕ, ◌+◌, ◌<◌, ◌≤◌, max, leb, ltb, not, false, List, [], ◌∷◌, length, get_or, drop, map, refl, ap, sym, ◌∙◌, Vec, Box, Global, Option, Some, None, option_map, arith}
use Rattle.std.proofs.lemmas.List.{drop_all}
use Rattle.std.proofs.lemmas.Bool.Decides.{nat_tests}
use Rattle.cpc_base.specs.Bytes.{Text}
use Rattle.cpc_base.specs.declared.stop.Place.{Place}
use Rattle.cpc_base.proofs.Lists.{drop_to_item}
use Rattle.cpc_tree.specs.declared.program.Expr as GExpr
use Rattle.cpc_tree.specs.declared.program.Parameter as GParameter
use Rattle.cpc_tree.specs.declared.program.Field as GField
use Rattle.cpc_tree.specs.declared.program.Item as GItem
use Rattle.cpc_tree.specs.declared.program.Statement.{Statement}
use Rattle.cpc_tree.specs.declared.program.Statement.TheVariants as T
use Rattle.cpc_tree.specs.Syntax.{Ty, Expr, Exprs, Stmt, Call, Detach, If, DoWhile, For, Stmts, NoStmt, AndStmt, MaybeStmt, Absent, Present, Parameter, Variable, Function, Item, StructItem, GlobalItem, PrototypeItem, FunctionItem}
use Rattle.cpc_tree.specs.declared.program.Mode.{Mode}
use Rattle.cpc_tree.specs.ExprGrammar.{Postfix, Whole}
use Rattle.cpc_tree.specs.Erase.{Names, expr_of, stmt_of, list_of, maybe_at, parameter_of, field_of, item_of}
use Rattle.cpc_tree.specs.TypePrint.{params_depth, param_depth, declarator_depth}
use Rattle.cpc_tree.specs.ExprPrint.{expr_depth, args_depth}
use Rattle.cpc_tree.specs.StmtPrint.{stmt_depth, block_depth, simple_depth, first_depth, step_depth, maybe_depth}
use Rattle.cpc_tree.specs.ItemPrint.{fields_depth, head_depth, body_depth, item_depth, program_depth}
use Rattle.cpc_tree.proofs.Clauses.{block_is, for_is}
use Rattle.cpc_tree.proofs.Nodes.{if_is}
use Rattle.cpc_printer.specs.Depths.{capped, declarator_nest, param_nest}
use Rattle.cpc_printer.specs.Nesting.{place_depth, else_depth, stmt_nest}
use Rattle.cpc_printer.proofs.DepthRows.{declarator_is, param_is}

pub call_nest : (o : Option Expr) (v : Expr) (vs : Exprs) → simple_depth false (Call o v vs) ≡ max (place_depth o) (max (expr_depth false Postfix v) (args_depth false vs)) + 1
call_nest None v vs = omega arith
call_nest (Some u) v vs = refl

pub detach_nest : (o : Option Expr) (x : Text) (vs : Exprs) → simple_depth false (Detach o x vs) ≡ max (place_depth o) (args_depth false vs) + 1
detach_nest None x vs = omega arith
detach_nest (Some u) x vs = refl

if_alone : (c : Expr) (s : Stmt) → stmt_depth false (If c s Absent) ≡ max (expr_depth false Whole c) (stmt_depth false s) + 1
unfolding stmt_depth
if_alone c s = refl

if_else : (c : Expr) (s r : Stmt) → stmt_depth false (If c s (Present r)) ≡ max (expr_depth false Whole c) (max (stmt_depth false s) (stmt_depth false r)) + 1
unfolding stmt_depth
if_else c s r = refl

for_parts : (ss : Stmts) (o : Option Expr) (p : MaybeStmt) (s : Stmt) → stmt_depth false (For ss o p s) ≡ max (first_depth false ss) (max (maybe_depth false o) (max (step_depth false p) (stmt_depth false s))) + 1
unfolding stmt_depth
for_parts ss o p s = refl

do_parts : (s : Stmt) (c : Expr) → stmt_depth false (DoWhile s c) ≡ max (stmt_depth false s) (expr_depth false Whole c) + 1
unfolding stmt_depth
do_parts s c = refl

-- how deep a statement nests, by its parts
pub stmt_is : (s : Stmt) → stmt_depth false s ≡ stmt_nest s
unfolding stmt_depth
stmt_is (If c s Absent) = omega (arith, if_alone c s)
stmt_is (If c s (Present r)) = omega (arith, if_else c s r)
stmt_is (For ss o p s) = omega (arith, for_parts ss o p s)
stmt_is (DoWhile s c) = omega (arith, do_parts s c)
stmt_is s = refl

pub block_nest : (names : Names) (e : Statement) (place : Place) (inner : Vec Statement Global) → e ≡ T.Block place inner → stmt_nest (stmt_of names e) ≡ block_depth false (list_of names inner.items) + 1
block_nest names e place inner h = ap stmt_nest (ap (stmt_of names) h ∙ block_is names place inner)

pub body_nest : (names : Names) (e : Statement) (place : Place) (inner : Vec Statement Global) → e ≡ T.Block place inner → body_depth false (stmt_of names e) ≡ block_depth false (list_of names inner.items) + 1
body_nest names e place inner h = ap (body_depth false) (ap (stmt_of names) h ∙ block_is names place inner)

pub if_nest : (names : Names) (e : Statement) (place : Place) (test : GExpr.Expr) (a : Box Statement Global) (b : Option (Box Statement Global)) → e ≡ T.If place test a b
    → stmt_nest (stmt_of names e) ≡ max (max (expr_depth false Whole (expr_of names test)) (stmt_depth false (stmt_of names a.value))) (else_depth (maybe_at names b)) + 1
if_nest names e place test a b h = ap stmt_nest (ap (stmt_of names) h ∙ if_is names place test a b)

pub for_nest : (names : Names) (e : Statement) (place : Place) (first : Vec Statement Global) (test : Option GExpr.Expr) (step : Option (Box Statement Global)) (body : Box Statement Global) → e ≡ T.For place first test step body
    → stmt_nest (stmt_of names e) ≡ max (max (first_depth false (list_of names first.items)) (max (maybe_depth false (option_map (expr_of names) test)) (step_depth false (maybe_at names step)))) (stmt_depth false (stmt_of names body.value)) + 1
for_nest names e place first test step body h = ap stmt_nest (ap (stmt_of names) h ∙ sym (for_is names place first test step body))

pub item_struct : (tag : Text) (xs : List Variable) → item_depth false (StructItem tag xs) ≡ fields_depth false xs
unfolding item_depth
item_struct tag xs = refl

global_none : (x : Text) (t : Ty) → item_depth false (GlobalItem x t None) ≡ declarator_depth false t
unfolding item_depth
global_none x t = refl

global_some : (x : Text) (t : Ty) (v : Expr) → item_depth false (GlobalItem x t (Some v)) ≡ max (declarator_depth false t) (expr_depth false Whole v)
unfolding item_depth
global_some x t v = refl

pub item_global : (x : Text) (t : Ty) (o : Option Expr) → item_depth false (GlobalItem x t o) ≡ max (declarator_nest t) (maybe_depth false o)
item_global x t None = omega (arith, global_none x t, declarator_is t)
item_global x t (Some v) = omega (arith, global_some x t v, declarator_is t)

pub item_prototype : (mode : Mode) (x : Text) (t : Ty) (ps : List Parameter) → item_depth false (PrototypeItem mode x t ps) ≡ head_depth false t ps
unfolding item_depth
item_prototype mode x t ps = refl

pub item_function : (f : Function) → item_depth false (FunctionItem f) ≡ max (head_depth false f.result f.parameters) (body_depth false f.body)
unfolding item_depth
item_function f = refl

block_nil : block_depth false NoStmt ≡ 0
unfolding block_depth
block_nil = refl

block_two : (s : Stmt) (ss : Stmts) → block_depth false (AndStmt s ss) ≡ max (stmt_depth false s) (block_depth false ss)
unfolding block_depth
block_two s ss = refl

block_cons : (s : Stmt) (ss : Stmts) → block_depth false (AndStmt s ss) ≡ max (stmt_nest s) (block_depth false ss)
block_cons s ss = block_two s ss ∙ ap (λ n. max n (block_depth false ss)) (stmt_is s)

pub block_end : (names : Names) (xs : List Statement) (i : ℕ) → length xs ≤ i → block_depth false (list_of names (drop i xs)) ≡ 0
block_end names xs i h = ap (λ ys. block_depth false (list_of names ys)) (drop_all i xs h) ∙ block_nil

pub block_more : (names : Names) (xs : List Statement) (i : ℕ) (x : Statement) → i < length xs → x ≡ get_or xs i x
    → block_depth false (list_of names (drop i xs)) ≡ max (stmt_nest (stmt_of names x)) (block_depth false (list_of names (drop (i + 1) xs)))
block_more names xs i x h e = ap (λ ys. block_depth false (list_of names ys)) (drop_to_item xs i x h e) ∙ block_cons (stmt_of names x) (list_of names (drop (i + 1) xs))

first_nil : first_depth false NoStmt ≡ 0
unfolding first_depth
first_nil = refl

first_two : (s : Stmt) (ss : Stmts) → first_depth false (AndStmt s ss) ≡ max (simple_depth false s) (first_depth false ss)
unfolding first_depth
first_two s ss = refl

pub first_end : (names : Names) (xs : List Statement) (i : ℕ) → length xs ≤ i → first_depth false (list_of names (drop i xs)) ≡ 0
first_end names xs i h = ap (λ ys. first_depth false (list_of names ys)) (drop_all i xs h) ∙ first_nil

pub first_more : (names : Names) (xs : List Statement) (i : ℕ) (x : Statement) → i < length xs → x ≡ get_or xs i x
    → first_depth false (list_of names (drop i xs)) ≡ max (simple_depth false (stmt_of names x)) (first_depth false (list_of names (drop (i + 1) xs)))
first_more names xs i x h e = ap (λ ys. first_depth false (list_of names ys)) (drop_to_item xs i x h e) ∙ first_two (stmt_of names x) (list_of names (drop (i + 1) xs))

params_nil : params_depth false [] ≡ 0
unfolding params_depth
params_nil = refl

params_one : (p : Parameter) → params_depth false (p ∷ []) ≡ param_depth false p.type
unfolding params_depth
params_one p = refl

params_two : (p q : Parameter) (ps : List Parameter) → params_depth false (p ∷ (q ∷ ps)) ≡ max (param_depth false p.type) (params_depth false (q ∷ ps))
unfolding params_depth
params_two p q ps = refl

params_cons : (p : Parameter) (ps : List Parameter) → params_depth false (p ∷ ps) ≡ max (param_nest p.type) (params_depth false ps)
params_cons p [] = omega (arith, params_one p, params_nil, param_is p.type)
params_cons p (q ∷ ps) = params_two p q ps ∙ ap (λ n. max n (params_depth false (q ∷ ps))) (param_is p.type)

pub params_end : (names : Names) (xs : List GParameter.Parameter) (i : ℕ) → length xs ≤ i → params_depth false (map (parameter_of names) (drop i xs)) ≡ 0
params_end names xs i h = ap (λ ys. params_depth false (map (parameter_of names) ys)) (drop_all i xs h) ∙ params_nil

pub params_more : (names : Names) (xs : List GParameter.Parameter) (i : ℕ) (x : GParameter.Parameter) → i < length xs → x ≡ get_or xs i x
    → params_depth false (map (parameter_of names) (drop i xs)) ≡ max (param_nest (parameter_of names x).type) (params_depth false (map (parameter_of names) (drop (i + 1) xs)))
params_more names xs i x h e = ap (λ ys. params_depth false (map (parameter_of names) ys)) (drop_to_item xs i x h e) ∙ params_cons (parameter_of names x) (map (parameter_of names) (drop (i + 1) xs))

fields_nil : fields_depth false [] ≡ 0
unfolding fields_depth
fields_nil = refl

fields_one : (p : Variable) → fields_depth false (p ∷ []) ≡ declarator_depth false p.type
unfolding fields_depth
fields_one p = refl

fields_two : (p q : Variable) (ps : List Variable) → fields_depth false (p ∷ (q ∷ ps)) ≡ max (declarator_depth false p.type) (fields_depth false (q ∷ ps))
unfolding fields_depth
fields_two p q ps = refl

fields_cons : (p : Variable) (ps : List Variable) → fields_depth false (p ∷ ps) ≡ max (declarator_nest p.type) (fields_depth false ps)
fields_cons p [] = omega (arith, fields_one p, fields_nil, declarator_is p.type)
fields_cons p (q ∷ ps) = fields_two p q ps ∙ ap (λ n. max n (fields_depth false (q ∷ ps))) (declarator_is p.type)

pub fields_end : (names : Names) (xs : List GField.Field) (i : ℕ) → length xs ≤ i → fields_depth false (map (field_of names) (drop i xs)) ≡ 0
fields_end names xs i h = ap (λ ys. fields_depth false (map (field_of names) ys)) (drop_all i xs h) ∙ fields_nil

pub fields_more : (names : Names) (xs : List GField.Field) (i : ℕ) (x : GField.Field) → i < length xs → x ≡ get_or xs i x
    → fields_depth false (map (field_of names) (drop i xs)) ≡ max (declarator_nest (field_of names x).type) (fields_depth false (map (field_of names) (drop (i + 1) xs)))
fields_more names xs i x h e = ap (λ ys. fields_depth false (map (field_of names) ys)) (drop_to_item xs i x h e) ∙ fields_cons (field_of names x) (map (field_of names) (drop (i + 1) xs))

program_nil : program_depth false [] ≡ 0
unfolding program_depth
program_nil = refl

program_cons : (x : Item) (xs : List Item) → program_depth false (x ∷ xs) ≡ max (item_depth false x) (program_depth false xs)
unfolding program_depth
program_cons x xs = refl

pub program_end : (names : Names) (xs : List GItem.Item) (i : ℕ) → length xs ≤ i → program_depth false (map (item_of names) (drop i xs)) ≡ 0
program_end names xs i h = ap (λ ys. program_depth false (map (item_of names) ys)) (drop_all i xs h) ∙ program_nil

pub program_more : (names : Names) (xs : List GItem.Item) (i : ℕ) (x : GItem.Item) → i < length xs → x ≡ get_or xs i x
    → program_depth false (map (item_of names) (drop i xs)) ≡ max (item_depth false (item_of names x)) (program_depth false (map (item_of names) (drop (i + 1) xs)))
program_more names xs i x h e = ap (λ ys. program_depth false (map (item_of names) ys)) (drop_to_item xs i x h e) ∙ program_cons (item_of names x) (map (item_of names) (drop (i + 1) xs))

-- what a limit of 32 bits says of a capped depth it says of the depth
pub fits_is : (d n limit : ℕ) → n ≡ capped d → limit < 4294967296 → leb n limit ≡ not (ltb limit d)
fits_is d n limit e h = grind (arith, nat_tests)
