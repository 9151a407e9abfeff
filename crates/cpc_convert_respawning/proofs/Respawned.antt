-- The copies of statements in which spawns are calls of the spawners, by the form that the code finds.
use Rattle.std.proofs.Common.{◌≡◌, refl, sym, ap, ◌∙◌, ℕ, zero, suc, ◌+◌, ◌<◌, arith, Vec, Global, Option, Box, List, [], ◌∷◌, ◌++◌, option_map, length, get_or, take}
use Rattle.cpc_base.specs.declared.stop.Place.{Place}
use Rattle.cpc_tree.specs.declared.program.Expr as GExpr
use Rattle.cpc_tree.specs.declared.program.Statement.{Statement}
use Rattle.cpc_tree.specs.declared.program.Statement.TheVariants as T
use Rattle.cpc_tree.specs.Syntax as S
use Rattle.cpc_tree.specs.Syntax.{Stmts, NoStmt, AndStmt}
use Rattle.cpc_tree.specs.Erase.{Names, expr_of, stmt_of, list_of, maybe_at}
use Rattle.cpc_tree.proofs.Clauses.{block_is, for_is}
use Rattle.cpc_tree.proofs.Nodes.{if_is}
use Rattle.cpc_convert_common.specs.Converted.{respawned, respawned_all, respawned_arm}
use Rattle.cpc_shapes.proofs.Indexes.{next_item}

module _ (from to : Names) (e : Statement) (alike : stmt_of from e ≡ stmt_of to e) where
  pub block_respawned : (place : Place) (inner made : Vec Statement Global) → e ≡ T.Block place inner
      → (list_of from inner.items ≡ list_of to inner.items → list_of to made.items ≡ respawned_all (list_of to inner.items))
      → stmt_of to (T.Block place made) ≡ respawned (stmt_of to e)
  block_respawned place inner made is all =
      let at_from : stmt_of from e ≡ S.Block (list_of from inner.items) = ap (stmt_of from) is ∙ block_is from place inner in
      let at_to : stmt_of to e ≡ S.Block (list_of to inner.items) = ap (stmt_of to) is ∙ block_is to place inner in
      let same : list_of from inner.items ≡ list_of to inner.items = cc in
      block_is to place made ∙ (ap S.Block (all same) ∙ sym (ap respawned at_to))

  pub if_respawned : (place : Place) (test test' : GExpr.Expr) (a a' : Box Statement Global) (b b' : Option (Box Statement Global)) → e ≡ T.If place test a b
      → expr_of to test' ≡ expr_of to test
      → (stmt_of from a.value ≡ stmt_of to a.value → stmt_of to a'.value ≡ respawned (stmt_of to a.value))
      → (maybe_at from b ≡ maybe_at to b → maybe_at to b' ≡ respawned_arm (maybe_at to b))
      → stmt_of to (T.If place test' a' b') ≡ respawned (stmt_of to e)
  if_respawned place test test' a a' b b' is copied one two =
      let at_from : stmt_of from e ≡ S.If (expr_of from test) (stmt_of from a.value) (maybe_at from b) = ap (stmt_of from) is ∙ if_is from place test a b in
      let at_to : stmt_of to e ≡ S.If (expr_of to test) (stmt_of to a.value) (maybe_at to b) = ap (stmt_of to) is ∙ if_is to place test a b in
      let same_yes : stmt_of from a.value ≡ stmt_of to a.value = cc in
      let same_no : maybe_at from b ≡ maybe_at to b = cc in
      let at_yes : stmt_of to a'.value ≡ respawned (stmt_of to a.value) = one same_yes in
      let at_no : maybe_at to b' ≡ respawned_arm (maybe_at to b) = two same_no in
      if_is to place test' a' b' ∙ (ap (λ u. S.If u (stmt_of to a'.value) (maybe_at to b')) copied ∙ (ap (λ u. S.If (expr_of to test) u (maybe_at to b')) at_yes
      ∙ (ap (S.If (expr_of to test) (respawned (stmt_of to a.value))) at_no ∙ sym (ap respawned at_to))))

  pub for_respawned : (place : Place) (first first' : Vec Statement Global) (test test' : Option GExpr.Expr) (step step' : Option (Box Statement Global)) (a a' : Box Statement Global) → e ≡ T.For place first test step a
      → option_map (expr_of to) test' ≡ option_map (expr_of to) test
      → (list_of from first.items ≡ list_of to first.items → list_of to first'.items ≡ respawned_all (list_of to first.items))
      → (maybe_at from step ≡ maybe_at to step → maybe_at to step' ≡ respawned_arm (maybe_at to step))
      → (stmt_of from a.value ≡ stmt_of to a.value → stmt_of to a'.value ≡ respawned (stmt_of to a.value))
      → stmt_of to (T.For place first' test' step' a') ≡ respawned (stmt_of to e)
  for_respawned place first first' test test' step step' a a' is copied begin goes body =
      let at_from : stmt_of from e ≡ S.For (list_of from first.items) (option_map (expr_of from) test) (maybe_at from step) (stmt_of from a.value) = ap (stmt_of from) is ∙ sym (for_is from place first test step a) in
      let at_to : stmt_of to e ≡ S.For (list_of to first.items) (option_map (expr_of to) test) (maybe_at to step) (stmt_of to a.value) = ap (stmt_of to) is ∙ sym (for_is to place first test step a) in
      let same_first : list_of from first.items ≡ list_of to first.items = cc in
      let same_step : maybe_at from step ≡ maybe_at to step = cc in
      let same_body : stmt_of from a.value ≡ stmt_of to a.value = cc in
      let at_first : list_of to first'.items ≡ respawned_all (list_of to first.items) = begin same_first in
      let at_step : maybe_at to step' ≡ respawned_arm (maybe_at to step) = goes same_step in
      let at_body : stmt_of to a'.value ≡ respawned (stmt_of to a.value) = body same_body in
      let whole : S.For (list_of to first'.items) (option_map (expr_of to) test') (maybe_at to step') (stmt_of to a'.value)
      ≡ S.For (respawned_all (list_of to first.items)) (option_map (expr_of to) test) (respawned_arm (maybe_at to step)) (respawned (stmt_of to a.value)) = cc in
      sym (for_is to place first' test' step' a') ∙ (whole ∙ sym (ap respawned at_to))

-- ---- rows

-- a row with a row behind it
abbrev and_all : Stmts → Stmts → Stmts
and_all NoStmt ts = ts
and_all (AndStmt s ss) ts = AndStmt s (and_all ss ts)

list_append : (names : Names) (xs ys : List Statement) → list_of names (xs ++ ys) ≡ and_all (list_of names xs) (list_of names ys)
list_append names [] ys = refl
list_append names (x ∷ xs) ys = ap (AndStmt (stmt_of names x)) (list_append names xs ys)

row_respawned : (ss ts : Stmts) → respawned_all (and_all ss ts) ≡ and_all (respawned_all ss) (respawned_all ts)
row_respawned NoStmt ts = refl
row_respawned (AndStmt s ss) ts = ap (AndStmt (respawned s)) (row_respawned ss ts)

-- rows that are alike are so one by one
one_alike : (from to : Names) (xs : List Statement) (i : ℕ) (x : Statement) → list_of from xs ≡ list_of to xs → i < length xs → x ≡ get_or xs i x → stmt_of from x ≡ stmt_of to x
one_alike from to [] i x e lt is = absurd (omega (arith, lt))
one_alike from to (y ∷ ys) zero x e lt is = let h : stmt_of from y ≡ stmt_of to y = cc in ap (stmt_of from) is ∙ (h ∙ sym (ap (stmt_of to) is))
one_alike from to (y ∷ ys) (suc i) x e lt is = let h : list_of from ys ≡ list_of to ys = cc in one_alike from to ys i x h (omega (arith, lt)) is

-- one more of a row
pub row_more : (from to : Names) (row made longer : List Statement) (i : ℕ) (x y : Statement) → i < length row → x ≡ get_or row i x → longer ≡ made ++ y ∷ [] → list_of from row ≡ list_of to row
    → list_of to made ≡ respawned_all (list_of to (take i row))
    → (stmt_of from x ≡ stmt_of to x → stmt_of to y ≡ respawned (stmt_of to x))
    → list_of to longer ≡ respawned_all (list_of to (take (i + 1) row))
row_more from to row made longer i x y lt at is alike before last =
    ap (list_of to) is ∙ (list_append to made (y ∷ []) ∙ (ap (λ u. and_all u (AndStmt (stmt_of to y) NoStmt)) before ∙ (ap (λ u. and_all (respawned_all (list_of to (take i row))) (AndStmt u NoStmt)) (last (one_alike from to row i x alike lt at))
    ∙ (sym (row_respawned (list_of to (take i row)) (AndStmt (stmt_of to x) NoStmt)) ∙ (sym (ap respawned_all (list_append to (take i row) (x ∷ []))) ∙ ap (λ u. respawned_all (list_of to u)) (sym (next_item row i x lt at)))))))

-- ---- what is looked at through a reference

pub row_through : (from to : Names) (xs ys made : List Statement) → xs ≡ ys → (list_of from xs ≡ list_of to xs → list_of to made ≡ respawned_all (list_of to xs)) → list_of from ys ≡ list_of to ys → list_of to made ≡ respawned_all (list_of to ys)
row_through from to xs ys made e all alike = let same : list_of from xs ≡ list_of to xs = ap (list_of from) e ∙ (alike ∙ sym (ap (list_of to) e)) in all same ∙ ap (λ u. respawned_all (list_of to u)) e

pub one_through : (from to : Names) (x y made : Statement) → x ≡ y → (stmt_of from x ≡ stmt_of to x → stmt_of to made ≡ respawned (stmt_of to x)) → stmt_of from y ≡ stmt_of to y → stmt_of to made ≡ respawned (stmt_of to y)
one_through from to x y made e one alike = let same : stmt_of from x ≡ stmt_of to x = ap (stmt_of from) e ∙ (alike ∙ sym (ap (stmt_of to) e)) in one same ∙ ap (λ u. respawned (stmt_of to u)) e
