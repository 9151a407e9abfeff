-- What the definitions of rows give at each statement.
use Rattle.std.proofs.Common.{◌≡◌, ℕ, ◌+◌, ◌<◌, ◌≤◌, Bool, List, [], ◌∷◌, ◌++◌, length, get_or, drop, refl, ap, sym, ◌∙◌, Vec, Box, Global, Option, Some, None, option_map, append_assoc, arith}
use Rattle.std.proofs.lemmas.List.{drop_all}
use Rattle.cpc_base.specs.Bytes.{Text}
use Rattle.cpc_base.specs.declared.stop.Place.{Place}
use Rattle.cpc_base.proofs.Lists.{drop_to_item}
use Rattle.cpc_tree.specs.declared.program.Expr as GExpr
use Rattle.cpc_tree.specs.declared.program.Statement.{Statement}
use Rattle.cpc_tree.specs.declared.program.Statement.TheVariants as T
use Rattle.cpc_tree.specs.declared.token.Keyword.TheVariants as K
use Rattle.cpc_tree.specs.declared.token.Punctuator.TheVariants as P
use Rattle.cpc_tree.specs.Tokens.{Word, Mark, Named}
use Rattle.cpc_tree.specs.Syntax.{Ty, Expr, Exprs, Stmt, Empty, Declare, Call, Detach, Spawn, If, While, DoWhile, For, Goto, Label, Break, Continue, Return, Stmts, NoStmt, AndStmt, MaybeStmt, Absent, Present}
use Rattle.cpc_tree.specs.ExprGrammar.{Whole, Unary}
use Rattle.cpc_tree.specs.Erase.{Names, expr_of, stmt_of, list_of, maybe_at}
use Rattle.cpc_tree.specs.TypePrint.{base_row}
use Rattle.cpc_tree.specs.ExprPrint.{expr_row, args_row}
use Rattle.cpc_tree.specs.StmtPrint.{stmt_row, block_row, simple_row, first_row, locals_row, maybe_row, local_row, call_row, section_row}
use Rattle.cpc_tree.proofs.Clauses.{block_is, for_is}
use Rattle.cpc_tree.proofs.Nodes.{if_is}
use Rattle.cpc_printer.specs.Statements.{jump_row, for_row, place_row, further_row}

if_alone : (tight : Bool) (c : Expr) (s : Stmt) → stmt_row tight (If c s Absent) ≡ Word K.If ∷ Mark P.LeftParen ∷ (expr_row tight Whole c ++ Mark P.RightParen ∷ stmt_row tight s)
unfolding stmt_row
if_alone tight c s = refl

if_else : (tight : Bool) (c : Expr) (s r : Stmt) → stmt_row tight (If c s (Present r)) ≡ Word K.If ∷ Mark P.LeftParen ∷ (expr_row tight Whole c ++ Mark P.RightParen ∷ (stmt_row tight s ++ Word K.Else ∷ stmt_row tight r))
unfolding stmt_row
if_else tight c s r = refl

pub stmt_if_none : (names : Names) (tight : Bool) (e : Statement) (place : Place) (test : GExpr.Expr) (a : Box Statement Global) (b : Option (Box Statement Global)) → e ≡ T.If place test a b → b ≡ None
    → stmt_row tight (stmt_of names e) ≡ Word K.If ∷ Mark P.LeftParen ∷ (expr_row tight Whole (expr_of names test) ++ Mark P.RightParen ∷ stmt_row tight (stmt_of names a.value))
stmt_if_none names tight e place test a b h k =
    ap (stmt_row tight) (ap (stmt_of names) h ∙ if_is names place test a b ∙ ap (λ m. If (expr_of names test) (stmt_of names a.value) (maybe_at names m)) k) ∙ if_alone tight (expr_of names test) (stmt_of names a.value)

pub stmt_if_some : (names : Names) (tight : Bool) (e : Statement) (place : Place) (test : GExpr.Expr) (a : Box Statement Global) (b : Option (Box Statement Global)) (r : Box Statement Global) → e ≡ T.If place test a b → b ≡ Some r
    → stmt_row tight (stmt_of names e) ≡ Word K.If ∷ Mark P.LeftParen ∷ (expr_row tight Whole (expr_of names test) ++ Mark P.RightParen ∷ (stmt_row tight (stmt_of names a.value) ++ Word K.Else ∷ stmt_row tight (stmt_of names r.value)))
stmt_if_some names tight e place test a b r h k =
    ap (stmt_row tight) (ap (stmt_of names) h ∙ if_is names place test a b ∙ ap (λ m. If (expr_of names test) (stmt_of names a.value) (maybe_at names m)) k) ∙ if_else tight (expr_of names test) (stmt_of names a.value) (stmt_of names r.value)

pub stmt_block : (names : Names) (tight : Bool) (e : Statement) (place : Place) (inner : Vec Statement Global) → e ≡ T.Block place inner
    → stmt_row tight (stmt_of names e) ≡ Mark P.LeftBrace ∷ (block_row tight (list_of names inner.items) ++ Mark P.RightBrace ∷ [])
unfolding stmt_row
stmt_block names tight e place inner h = ap (stmt_row tight) (ap (stmt_of names) h ∙ block_is names place inner)

for_parts : (tight : Bool) (ss : Stmts) (o : Option Expr) (p : MaybeStmt) (s : Stmt) → stmt_row tight (For ss o p s) ≡ for_row tight ss o p ++ stmt_row tight s
unfolding stmt_row
for_parts tight ss o p s = grind (arith, append_assoc)

pub stmt_for : (names : Names) (tight : Bool) (e : Statement) (place : Place) (first : Vec Statement Global) (test : Option GExpr.Expr) (step : Option (Box Statement Global)) (body : Box Statement Global) → e ≡ T.For place first test step body
    → stmt_row tight (stmt_of names e) ≡ for_row tight (list_of names first.items) (option_map (expr_of names) test) (maybe_at names step) ++ stmt_row tight (stmt_of names body.value)
stmt_for names tight e place first test step body h =
    ap (stmt_row tight) (ap (stmt_of names) h ∙ sym (for_is names place first test step body)) ∙ for_parts tight (list_of names first.items) (option_map (expr_of names) test) (maybe_at names step) (stmt_of names body.value)

pub stmt_while : (tight : Bool) (c : Expr) (s : Stmt) → stmt_row tight (While c s) ≡ Word K.While ∷ Mark P.LeftParen ∷ (expr_row tight Whole c ++ Mark P.RightParen ∷ stmt_row tight s)
unfolding stmt_row
stmt_while tight c s = refl

pub stmt_do : (tight : Bool) (s : Stmt) (c : Expr) → stmt_row tight (DoWhile s c) ≡ Word K.Do ∷ (stmt_row tight s ++ Word K.While ∷ Mark P.LeftParen ∷ (expr_row tight Whole c ++ Mark P.RightParen ∷ Mark P.Semicolon ∷ []))
unfolding stmt_row
stmt_do tight s c = refl

pub stmt_label : (tight : Bool) (x : Text) (s : Stmt) → stmt_row tight (Label x s) ≡ Named x ∷ Mark P.Colon ∷ stmt_row tight s
unfolding stmt_row
stmt_label tight x s = refl

pub jump_empty : (tight : Bool) → stmt_row tight Empty ≡ Mark P.Semicolon ∷ []
unfolding stmt_row
jump_empty tight = refl

pub jump_spawn : (tight : Bool) (x : Text) (vs : Exprs) → stmt_row tight (Spawn x vs) ≡ Word K.CpcSpawn ∷ Named x ∷ Mark P.LeftParen ∷ (args_row tight vs ++ Mark P.RightParen ∷ Mark P.Semicolon ∷ [])
unfolding stmt_row
jump_spawn tight x vs = refl

pub jump_goto : (tight : Bool) (x : Text) → stmt_row tight (Goto x) ≡ Word K.Goto ∷ Named x ∷ Mark P.Semicolon ∷ []
unfolding stmt_row
jump_goto tight x = refl

pub jump_break : (tight : Bool) → stmt_row tight Break ≡ Word K.Break ∷ Mark P.Semicolon ∷ []
unfolding stmt_row
jump_break tight = refl

pub jump_continue : (tight : Bool) → stmt_row tight Continue ≡ Word K.Continue ∷ Mark P.Semicolon ∷ []
unfolding stmt_row
jump_continue tight = refl

pub jump_return : (tight : Bool) (o : Option Expr) → stmt_row tight (Return o) ≡ Word K.Return ∷ (maybe_row tight o ++ Mark P.Semicolon ∷ [])
unfolding stmt_row
jump_return tight o = refl

pub jump_other : (names : Names) (tight : Bool) (e : Statement) → ((p : Place) → e ≡ T.Empty p → ⊥) → ((p : Place) (w : _) (es : _) → e ≡ T.Spawn p w es → ⊥) → ((p : Place) (w : _) → e ≡ T.Goto p w → ⊥) → ((p : Place) → e ≡ T.Break p → ⊥) → ((p : Place) → e ≡ T.Continue p → ⊥) → ((p : Place) (o : _) → e ≡ T.Return p o → ⊥)
    → jump_row tight (stmt_of names e) ≡ simple_row tight (stmt_of names e) ++ Mark P.Semicolon ∷ []
unfolding stmt_row
jump_other names tight (T.Empty p) f1 f2 f3 f4 f5 f6 = absurd (f1 p refl)
jump_other names tight (T.Spawn p w es) f1 f2 f3 f4 f5 f6 = absurd (f2 p w es refl)
jump_other names tight (T.Goto p w) f1 f2 f3 f4 f5 f6 = absurd (f3 p w refl)
jump_other names tight (T.Break p) f1 f2 f3 f4 f5 f6 = absurd (f4 p refl)
jump_other names tight (T.Continue p) f1 f2 f3 f4 f5 f6 = absurd (f5 p refl)
jump_other names tight (T.Return p o) f1 f2 f3 f4 f5 f6 = absurd (f6 p o refl)
jump_other names tight e f1 f2 f3 f4 f5 f6 = refl

pub simple_call : (tight : Bool) (o : Option Expr) (v : Expr) (vs : Exprs) → simple_row tight (Call o v vs) ≡ place_row tight o ++ call_row tight v vs
simple_call tight None v vs = refl
simple_call tight (Some u) v vs = sym (append_assoc (expr_row tight Unary u) (Mark P.Equal ∷ []) (call_row tight v vs))

pub simple_detach : (tight : Bool) (o : Option Expr) (x : Text) (vs : Exprs) → simple_row tight (Detach o x vs) ≡ place_row tight o ++ section_row tight x vs
simple_detach tight None x vs = refl
simple_detach tight (Some u) x vs = sym (append_assoc (expr_row tight Unary u) (Mark P.Equal ∷ []) (section_row tight x vs))

block_nil : (tight : Bool) → block_row tight NoStmt ≡ []
unfolding block_row
block_nil tight = refl

block_cons : (tight : Bool) (s : Stmt) (ss : Stmts) → block_row tight (AndStmt s ss) ≡ stmt_row tight s ++ block_row tight ss
unfolding block_row
block_cons tight s ss = refl

pub block_end : (tight : Bool) (names : Names) (xs : List Statement) (i : ℕ) → length xs ≤ i → block_row tight (list_of names (drop i xs)) ≡ []
block_end tight names xs i h = ap (λ ys. block_row tight (list_of names ys)) (drop_all i xs h) ∙ block_nil tight

pub block_more : (tight : Bool) (names : Names) (xs : List Statement) (i : ℕ) (x : Statement) → i < length xs → x ≡ get_or xs i x
    → block_row tight (list_of names (drop i xs)) ≡ stmt_row tight (stmt_of names x) ++ block_row tight (list_of names (drop (i + 1) xs))
block_more tight names xs i x h e = ap (λ ys. block_row tight (list_of names ys)) (drop_to_item xs i x h e) ∙ block_cons tight (stmt_of names x) (list_of names (drop (i + 1) xs))

locals_nil : (tight : Bool) → locals_row tight NoStmt ≡ []
unfolding locals_row
locals_nil tight = refl

pub locals_cons : (tight : Bool) (s : Stmt) (ss : Stmts) → locals_row tight (AndStmt s ss) ≡ further_row tight s ++ locals_row tight ss
unfolding locals_row
locals_cons tight (Declare x t start) ss = refl
locals_cons tight (Call o v vs) ss = refl
locals_cons tight (Detach o x vs) ss = refl
locals_cons tight s ss = refl

pub locals_end : (tight : Bool) (names : Names) (xs : List Statement) (i : ℕ) → length xs ≤ i → locals_row tight (list_of names (drop i xs)) ≡ []
locals_end tight names xs i h = ap (λ ys. locals_row tight (list_of names ys)) (drop_all i xs h) ∙ locals_nil tight

pub locals_more : (tight : Bool) (names : Names) (xs : List Statement) (i : ℕ) (x : Statement) → i < length xs → x ≡ get_or xs i x
    → locals_row tight (list_of names (drop i xs)) ≡ further_row tight (stmt_of names x) ++ locals_row tight (list_of names (drop (i + 1) xs))
locals_more tight names xs i x h e = ap (λ ys. locals_row tight (list_of names ys)) (drop_to_item xs i x h e) ∙ locals_cons tight (stmt_of names x) (list_of names (drop (i + 1) xs))

pub first_declare : (tight : Bool) (x : Text) (t : Ty) (o : Option Expr) (ss : Stmts) → first_row tight (AndStmt (Declare x t o) ss) ≡ simple_row tight (Declare x t o) ++ locals_row tight ss
first_declare tight x t o ss = sym (append_assoc (base_row t) (local_row tight x t o) (locals_row tight ss))
