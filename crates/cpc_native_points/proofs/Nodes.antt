-- What stands in a statement of the tree, by the form that the code finds.
use Rattle.std.proofs.Common.{◌≡◌, ℕ, zero, suc, ◌<◌, ◌≤◌, List, [], ◌∷◌, length, get_or, refl, sym, ap, ◌∙◌, arith, Box, Global, rules}
use Rattle.cpc_base.specs.declared.stop.Place.{Place}
use Rattle.cpc_tree.specs.declared.program.Expr as GExpr
use Rattle.cpc_tree.specs.declared.program.Statement.{Statement}
use Rattle.cpc_tree.specs.declared.program.Statement.TheVariants as T
use Rattle.cpc_tree.specs.Syntax as S
use Rattle.cpc_tree.specs.Syntax.{MaybeStmt, Absent, Present}
use Rattle.cpc_tree.specs.Erase.{Names, expr_of, stmt_of, list_of}
use Rattle.cpc_tree.specs.Points.{Out, NoMove}
use Rattle.cpc_tree.specs.declared.program.Word.{Word}
use Rattle.cpc_tree.specs.declared.program.Statement.TheViews.{the_lemmas}
use Rattle.cpc_native_points.specs.Parts.{nth, leaf}

-- the n-th of a row of the tree
pub nth_there : (names : Names) (xs : List Statement) (n : ℕ) (x : Statement) → n < length xs → x ≡ get_or xs n x → nth (list_of names xs) n ≡ Present (stmt_of names x)
nth_there names [] n x h e = absurd (omega arith)
nth_there names (y ∷ xs) zero x h e = ap (λ s. Present (stmt_of names s)) (sym e)
nth_there names (y ∷ xs) (suc n) x h e = nth_there names xs n x (omega arith) e

pub nth_past : (names : Names) (xs : List Statement) (n : ℕ) → length xs ≤ n → nth (list_of names xs) n ≡ Absent
nth_past names [] n h = refl
nth_past names (y ∷ xs) zero h = absurd (omega arith)
nth_past names (y ∷ xs) (suc n) h = nth_past names xs n (omega arith)

-- whether a block has statements
pub leaf_empty : (ss : S.Stmts) → Absent ≡ nth ss 0 → leaf (S.Block ss) ≡ Out
leaf_empty S.NoStmt h = refl
leaf_empty (S.AndStmt s ss) h = let no : ⊥ = cc in absurd no

pub leaf_full : (ss : S.Stmts) (s : S.Stmt) → Present s ≡ nth ss 0 → leaf (S.Block ss) ≡ NoMove
leaf_full S.NoStmt s h = let no : ⊥ = cc in absurd no
leaf_full (S.AndStmt t ss) s h = refl

pub while_seen : (names : Names) (e : Statement) (place : Place) (test : GExpr.Expr) (body : Box Statement Global) → e ≡ T.While place test body → stmt_of names e ≡ S.While (expr_of names test) (stmt_of names body.value)
while_seen names e place test body h = ap (stmt_of names) h ∙ search (rules, the_lemmas)

pub do_seen : (names : Names) (e : Statement) (place : Place) (body : Box Statement Global) (test : GExpr.Expr) → e ≡ T.DoWhile place body test → stmt_of names e ≡ S.DoWhile (stmt_of names body.value) (expr_of names test)
do_seen names e place body test h = ap (stmt_of names) h ∙ search (rules, the_lemmas)

pub label_seen : (names : Names) (e : Statement) (label : Word) (inner : Box Statement Global) → e ≡ T.Label label inner → stmt_of names e ≡ S.Label (names label.name) (stmt_of names inner.value)
label_seen names e label inner h = ap (stmt_of names) h ∙ search (rules, the_lemmas)
