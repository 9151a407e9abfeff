-- What statements break that hold others, by what was noted of these.
use Rattle.std.proofs.Common.{◌≡◌, ℕ, ◌+◌, ◌<◌, ◌≤◌, List, length, get_or, drop, refl, sym, ap, ◌∙◌, Vec, Box, Global, Option, option_map}
use Rattle.cpc_base.specs.declared.stop.Place.{Place}
use Rattle.cpc_tree.specs.declared.program.CType as GType
use Rattle.cpc_tree.specs.declared.program.Expr as GExpr
use Rattle.cpc_tree.specs.declared.program.Word.{Word}
use Rattle.cpc_tree.specs.declared.program.Statement.{Statement}
use Rattle.cpc_tree.specs.declared.program.Statement.TheVariants as T
use Rattle.cpc_tree.specs.Located as L
use Rattle.cpc_tree.specs.Located.{LStmt, LStmts, NoLStmt, AndLStmt, Declare}
use Rattle.cpc_tree.specs.Erase.{Names}
use Rattle.cpc_tree.specs.Locate.{located_expr, located_stmt, located_list, located_at}
use Rattle.cpc_tree.proofs.LocatedNodes.{block_seen, if_seen, for_seen, row_end, row_more}
use Rattle.cpc_check_rules.specs.declared.rule.Rule.{Rule}
use Rattle.cpc_check_rules.specs.Noted.{noted}
use Rattle.cpc_check_rules.specs.Scopes.{Scope, with_block}
use Rattle.cpc_check_rules.specs.Operators.{Where}
use Rattle.cpc_check_rules.specs.StmtRules.{in_scope, inner, behind, all_behind, test_breaks, maybe_test, stmt_breaks, stmts_breaks, maybe_breaks}
use Rattle.cpc_check_rules.specs.ItemRules.{body_breaks}
use Rattle.cpc_types.specs.Blocks.{without_block}
use Rattle.cpc_types.proofs.Entered.{without_name}
use Rattle.cpc_check_statements.specs.Plain.{for_breaks}
use Rattle.cpc_check_statements.specs.Standing.{behind_body}
use Rattle.cpc_check_statements.proofs.Parts.{after_one, after_two, after_three}

abbrev Firsts : Type 0
Firsts = Option (Place × Rule)

-- ---- statements with their places

while_seen : (names : Names) (s : Statement) (place : Place) (test : GExpr.Expr) (a : Box Statement Global) → s ≡ T.While place test a → located_stmt names s ≡ L.While place (located_expr names test) (located_stmt names a.value)
while_seen names s place test a h = ap (located_stmt names) h

do_seen : (names : Names) (s : Statement) (place : Place) (a : Box Statement Global) (test : GExpr.Expr) → s ≡ T.DoWhile place a test → located_stmt names s ≡ L.DoWhile place (located_stmt names a.value) (located_expr names test)
do_seen names s place a test h = ap (located_stmt names) h

-- ---- what is in scope

behind_is : (w : Where) (s : LStmt) → in_scope w (behind w s).scope ≡ behind w s
behind_is w (Declare q x t start) = refl
behind_is w s = refl

all_behind_is : (w : Where) (ss : LStmts) → in_scope w (all_behind w ss).scope ≡ all_behind w ss
all_behind_is w NoLStmt = refl
all_behind_is w (AndLStmt (Declare q x t start) ss) = all_behind_is (behind w (Declare q x t start)) ss
all_behind_is w (AndLStmt s ss) = all_behind_is w ss

-- rows leave the blocks round them
pub all_left : (w : Where) (ss : LStmts) → without_block (all_behind w ss).scope ≡ without_block w.scope
all_left w NoLStmt = refl
all_left w (AndLStmt (Declare q x t start) ss) = all_left (behind w (Declare q x t start)) ss ∙ without_name w.scope (record { called = x.text; type = t })
all_left w (AndLStmt s ss) = all_left w ss

-- after a block that was entered, and in which a row was walked
pub walk_left : (w : Where) (ss : LStmts) (y z : Scope) → y ≡ with_block w.scope → z ≡ (all_behind (in_scope w y) ss).scope → without_block z ≡ w.scope
walk_left w ss y z e f = ap without_block (f ∙ ap (λ u. (all_behind (in_scope w u) ss).scope) e) ∙ all_left (inner w) ss

-- ---- rows

pub walk_end : (names : Names) (w : Where) (o : Firsts) (xs : List Statement) (i : ℕ) → length xs ≤ i → noted o (stmts_breaks w (located_list names (drop i xs))) ≡ o
walk_end names w o xs i h = ap (λ ss. noted o (stmts_breaks w ss)) (row_end names xs i h)

pub walk_more : (names : Names) (w : Where) (o x : Firsts) (z : Scope) (xs : List Statement) (i : ℕ) (s : Statement) → i < length xs → s ≡ get_or xs i s
    → x ≡ noted o (stmt_breaks w (located_stmt names s)) → z ≡ (behind w (located_stmt names s)).scope
    → noted x (stmts_breaks (in_scope w z) (located_list names (drop (i + 1) xs))) ≡ noted o (stmts_breaks w (located_list names (drop i xs)))
walk_more names w o x z xs i s h e f g =
    let t = located_stmt names s in
    let rest = located_list names (drop (i + 1) xs) in
    ap (λ u. noted u (stmts_breaks (in_scope w z) rest)) f
    ∙ ap (λ v. noted (noted o (stmt_breaks w t)) (stmts_breaks v rest)) (ap (in_scope w) g ∙ behind_is w t)
    ∙ after_one o (stmt_breaks w t) (stmts_breaks (behind w t) rest)
    ∙ ap (λ ss. noted o (stmts_breaks w ss)) (sym (row_more names xs i s h e))

pub behind_end : (names : Names) (w : Where) (xs : List Statement) (i : ℕ) → length xs ≤ i → (all_behind w (located_list names (drop i xs))).scope ≡ w.scope
behind_end names w xs i h = ap (λ ss. (all_behind w ss).scope) (row_end names xs i h)

pub behind_more : (names : Names) (w : Where) (z : Scope) (xs : List Statement) (i : ℕ) (s : Statement) → i < length xs → s ≡ get_or xs i s → z ≡ (behind w (located_stmt names s)).scope
    → (all_behind (in_scope w z) (located_list names (drop (i + 1) xs))).scope ≡ (all_behind w (located_list names (drop i xs))).scope
behind_more names w z xs i s h e g =
    let t = located_stmt names s in
    ap (λ v. (all_behind v (located_list names (drop (i + 1) xs))).scope) (ap (in_scope w) g ∙ behind_is w t)
    ∙ ap (λ ss. (all_behind w ss).scope) (sym (row_more names xs i s h e))

-- ---- statements

pub walk_block : (names : Names) (w : Where) (o x : Firsts) (s : Statement) (place : Place) (row : Vec Statement Global) (xs : List Statement) → s ≡ T.Block place row → xs ≡ row.items
    → x ≡ noted o (stmts_breaks (inner w) (located_list names xs)) → x ≡ noted o (stmt_breaks w (located_stmt names s))
walk_block names w o x s place row xs i d k =
    k ∙ ap (λ ys. noted o (stmts_breaks (inner w) (located_list names ys))) d ∙ ap (λ t. noted o (stmt_breaks w t)) (sym (block_seen names s place row i))

pub walk_if : (names : Names) (w u v : Where) (o o1 o2 o3 : Firsts) (s : Statement) (place : Place) (test : GExpr.Expr) (a : Box Statement Global) (b : Option (Box Statement Global)) (y : Statement) → s ≡ T.If place test a b → y ≡ a.value → u ≡ w → v ≡ w
    → o1 ≡ noted o (test_breaks u (located_expr names test)) → o2 ≡ noted o1 (stmt_breaks w (located_stmt names y)) → o3 ≡ noted o2 (maybe_breaks v (located_at names b))
    → o3 ≡ noted o (stmt_breaks w (located_stmt names s))
walk_if names w u v o o1 o2 o3 s place test a b y i d e f g h k =
    let c = located_expr names test in
    let n = located_at names b in
    let yes = located_stmt names a.value in
    k
    ∙ ap (λ z. noted o2 (maybe_breaks z n)) f
    ∙ ap (λ z. noted z (maybe_breaks w n)) (h ∙ ap (λ z. noted o1 (stmt_breaks w (located_stmt names z))) d ∙ ap (λ z. noted z (stmt_breaks w yes)) (g ∙ ap (λ z. noted o (test_breaks z c)) e))
    ∙ after_two o (test_breaks w c) (stmt_breaks w yes) (maybe_breaks w n)
    ∙ ap (λ t. noted o (stmt_breaks w t)) (sym (if_seen names s place test a b i))

pub walk_while : (names : Names) (w u : Where) (o o1 o2 : Firsts) (s : Statement) (place : Place) (test : GExpr.Expr) (a : Box Statement Global) (y : Statement) → s ≡ T.While place test a → y ≡ a.value → u ≡ w
    → o1 ≡ noted o (test_breaks u (located_expr names test)) → o2 ≡ noted o1 (stmt_breaks w (located_stmt names y)) → o2 ≡ noted o (stmt_breaks w (located_stmt names s))
walk_while names w u o o1 o2 s place test a y i d e g h =
    let c = located_expr names test in
    let body = located_stmt names a.value in
    h
    ∙ ap (λ z. noted o1 (stmt_breaks w (located_stmt names z))) d ∙ ap (λ z. noted z (stmt_breaks w body)) (g ∙ ap (λ z. noted o (test_breaks z c)) e)
    ∙ after_one o (test_breaks w c) (stmt_breaks w body)
    ∙ ap (λ t. noted o (stmt_breaks w t)) (sym (while_seen names s place test a i))

pub walk_do : (names : Names) (w u : Where) (o o1 o2 : Firsts) (s : Statement) (place : Place) (a : Box Statement Global) (test : GExpr.Expr) (y : Statement) → s ≡ T.DoWhile place a test → y ≡ a.value → u ≡ w
    → o1 ≡ noted o (stmt_breaks w (located_stmt names y)) → o2 ≡ noted o1 (test_breaks u (located_expr names test)) → o2 ≡ noted o (stmt_breaks w (located_stmt names s))
walk_do names w u o o1 o2 s place a test y i d e g h =
    let c = located_expr names test in
    let body = located_stmt names a.value in
    h
    ∙ ap (λ z. noted o1 (test_breaks z c)) e
    ∙ ap (λ z. noted z (test_breaks w c)) (g ∙ ap (λ z. noted o (stmt_breaks w (located_stmt names z))) d)
    ∙ after_one o (stmt_breaks w body) (test_breaks w c)
    ∙ ap (λ t. noted o (stmt_breaks w t)) (sym (do_seen names s place a test i))

pub walk_for : (names : Names) (w u : Where) (z1 z2 z3 : Scope) (o o1 o2 o3 o4 : Firsts) (s : Statement) (place : Place) (first : Vec Statement Global) (test : Option GExpr.Expr) (step : Option (Box Statement Global)) (body : Box Statement Global) (xs : List Statement) (y : Statement)
    → s ≡ T.For place first test step body → xs ≡ first.items → y ≡ body.value
    → z1 ≡ with_block w.scope → z2 ≡ (all_behind (in_scope w z1) (located_list names xs)).scope → u ≡ in_scope w z2 → z3 ≡ z2
    → o1 ≡ noted o (stmts_breaks (in_scope w z1) (located_list names xs)) → o2 ≡ noted o1 (maybe_test u (option_map (located_expr names) test)) → o3 ≡ noted o2 (maybe_breaks (in_scope w z2) (located_at names step))
    → o4 ≡ noted o3 (stmt_breaks (in_scope w z3) (located_stmt names y)) → o4 ≡ noted o (for_breaks w (located_stmt names s))
walk_for names w u z1 z2 z3 o o1 o2 o3 o4 s place first test step body xs y i d e f g h j p q r t =
    let row = located_list names first.items in
    let c = option_map (located_expr names) test in
    let n = located_at names step in
    let l = located_stmt names body.value in
    let in_row : in_scope w z1 ≡ inner w = ap (in_scope w) f in
    let in_rest : in_scope w z2 ≡ all_behind (inner w) row =
    ap (in_scope w) (g ∙ ap (λ v. (all_behind v (located_list names xs)).scope) in_row ∙ ap (λ ys. (all_behind (inner w) (located_list names ys)).scope) d) ∙ all_behind_is (inner w) row in
    let told_row : o1 ≡ noted o (stmts_breaks (inner w) row) = p ∙ ap (λ v. noted o (stmts_breaks v (located_list names xs))) in_row ∙ ap (λ ys. noted o (stmts_breaks (inner w) (located_list names ys))) d in
    let told_test : o2 ≡ noted o1 (maybe_test (all_behind (inner w) row) c) = q ∙ ap (λ v. noted o1 (maybe_test v c)) (h ∙ in_rest) in
    let told_step : o3 ≡ noted o2 (maybe_breaks (all_behind (inner w) row) n) = r ∙ ap (λ v. noted o2 (maybe_breaks v n)) in_rest in
    let told_body : o4 ≡ noted o3 (stmt_breaks (all_behind (inner w) row) l) =
    t ∙ ap (λ v. noted o3 (stmt_breaks v (located_stmt names y))) (ap (in_scope w) j ∙ in_rest) ∙ ap (λ v. noted o3 (stmt_breaks (all_behind (inner w) row) (located_stmt names v))) e in
    told_body
    ∙ ap (λ v. noted v (stmt_breaks (all_behind (inner w) row) l)) (told_step ∙ ap (λ v. noted v (maybe_breaks (all_behind (inner w) row) n)) (told_test ∙ ap (λ v. noted v (maybe_test (all_behind (inner w) row) c)) told_row))
    ∙ after_three o (stmts_breaks (inner w) row) (maybe_test (all_behind (inner w) row) c) (maybe_breaks (all_behind (inner w) row) n) (stmt_breaks (all_behind (inner w) row) l)
    ∙ ap (λ v. noted o (for_breaks w v)) (sym (for_seen names s place first test step body i))

-- a statement that declares nothing
pub kept_behind : (names : Names) (w : Where) (s : Statement) → ((p : Place) (x : Word) (t : GType.CType) (o : Option GExpr.Expr) → s ≡ T.Declare p x t o → ⊥) → (behind w (located_stmt names s)).scope ≡ w.scope
kept_behind names w (T.Declare p x t o) h = absurd (h p x t o refl)
kept_behind names w s h = refl

pub walk_body : (names : Names) (w : Where) (o x : Firsts) (s : Statement) (place : Place) (row : Vec Statement Global) (xs : List Statement) → s ≡ T.Block place row → xs ≡ row.items
    → x ≡ noted o (stmts_breaks w (located_list names xs)) → x ≡ noted o (body_breaks w (located_stmt names s))
walk_body names w o x s place row xs i d k =
    k ∙ ap (λ ys. noted o (stmts_breaks w (located_list names ys))) d ∙ ap (λ t. noted o (body_breaks w t)) (sym (block_seen names s place row i))

pub body_behind : (names : Names) (w : Where) (z : Scope) (s : Statement) (place : Place) (row : Vec Statement Global) (xs : List Statement) → s ≡ T.Block place row → xs ≡ row.items
    → z ≡ (all_behind w (located_list names xs)).scope → z ≡ (behind_body w (located_stmt names s)).scope
body_behind names w z s place row xs i d k =
    k ∙ ap (λ ys. (all_behind w (located_list names ys)).scope) d ∙ ap (λ t. (behind_body w t).scope) (sym (block_seen names s place row i))
