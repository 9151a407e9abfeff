-- Statements as code sees their parts: a form whose rows and bodies were read one by one is the statement.
use Rattle.std.proofs.Common.{◌≡◌, List, sym, ap, ◌∙◌, Vec, Box, Global, Option, option_map, rules}
use Rattle.cpc_base.specs.declared.stop.Place.{Place}
use Rattle.cpc_tree.specs.declared.program.Expr as GExpr
use Rattle.cpc_tree.specs.declared.program.Statement.{Statement}
use Rattle.cpc_tree.specs.declared.program.Statement.TheVariants as T
use Rattle.cpc_tree.specs.declared.program.Statement.TheViews.{the_lemmas}
use Rattle.cpc_tree.specs.Syntax.{If, While, DoWhile, For}
use Rattle.cpc_tree.specs.Erase.{Names, expr_of, stmt_of, list_of, maybe_at}
use Rattle.cpc_tree.proofs.Nodes.{if_seen, for_seen}

-- ---- `for`

module _ (names : Names) (e : Statement) (place : Place) (first : Vec Statement Global) (test : Option GExpr.Expr) (step : Option (Box Statement Global)) (body : Box Statement Global) (row : List Statement) (b : Statement) (is : e ≡ T.For place first test step body) (rows : row ≡ first.items) (bs : b ≡ body.value) where
  -- a `for` as its parts are seen
  pub for_row : For (list_of names row) (option_map (expr_of names) test) (maybe_at names step) (stmt_of names b) ≡ stmt_of names e
  for_row =
      ap (λ r. For (list_of names r) (option_map (expr_of names) test) (maybe_at names step) (stmt_of names b)) rows
      ∙ (ap (λ (x : Statement). For (list_of names first.items) (option_map (expr_of names) test) (maybe_at names step) (stmt_of names x)) bs
      ∙ sym (for_seen names e place first test step body is))

-- ---- an `if` and other loops

module _ (names : Names) (e : Statement) where
  pub if_row : (place : Place) (test : GExpr.Expr) (a : Box Statement Global) (b : Option (Box Statement Global)) (s : Statement) → e ≡ T.If place test a b → s ≡ a.value → If (expr_of names test) (stmt_of names s) (maybe_at names b) ≡ stmt_of names e
  if_row place test a b s is as_is = ap (λ (x : Statement). If (expr_of names test) (stmt_of names x) (maybe_at names b)) as_is ∙ sym (if_seen names e place test a b is)

  while_is : (place : Place) (test : GExpr.Expr) (a : Box Statement Global) → While (expr_of names test) (stmt_of names a.value) ≡ stmt_of names (T.While place test a)
  while_is place test a = search (rules, the_lemmas)

  pub while_row : (place : Place) (test : GExpr.Expr) (a : Box Statement Global) (s : Statement) → e ≡ T.While place test a → s ≡ a.value → While (expr_of names test) (stmt_of names s) ≡ stmt_of names e
  while_row place test a s is as_is = ap (λ (x : Statement). While (expr_of names test) (stmt_of names x)) as_is ∙ (while_is place test a ∙ ap (stmt_of names) (sym is))

  do_is : (place : Place) (a : Box Statement Global) (test : GExpr.Expr) → DoWhile (stmt_of names a.value) (expr_of names test) ≡ stmt_of names (T.DoWhile place a test)
  do_is place a test = search (rules, the_lemmas)

  pub do_row : (place : Place) (a : Box Statement Global) (test : GExpr.Expr) (s : Statement) → e ≡ T.DoWhile place a test → s ≡ a.value → DoWhile (stmt_of names s) (expr_of names test) ≡ stmt_of names e
  do_row place a test s is as_is = ap (λ (x : Statement). DoWhile (stmt_of names x) (expr_of names test)) as_is ∙ (do_is place a test ∙ ap (stmt_of names) (sym is))
