-- What a statement of the tree with its places is, by the form that code finds, and rows of statements one by one.
use Rattle.std.proofs.Common.{◌≡◌, ℕ, ◌+◌, ◌<◌, ◌≤◌, List, length, get_or, drop, sym, ap, ◌∙◌, Vec, Box, Global, Option, option_map}
use Rattle.std.proofs.lemmas.List.{drop_all}
use Rattle.cpc_base.specs.declared.stop.Place.{Place}
use Rattle.cpc_base.proofs.Lists.{drop_to_item}
use Rattle.cpc_tree.specs.declared.program.Expr as GExpr
use Rattle.cpc_tree.specs.declared.program.Statement.{Statement}
use Rattle.cpc_tree.specs.declared.program.Statement.TheVariants as T
use Rattle.cpc_tree.specs.Located as L
use Rattle.cpc_tree.specs.Located.{NoLStmt, AndLStmt}
use Rattle.cpc_tree.specs.Erase.{Names}
use Rattle.cpc_tree.specs.Locate.{located_expr, located_stmt, located_list, located_at}
use Rattle.cpc_tree.proofs.LocatedClauses.{located_block_is, located_for_is, located_if_is}

pub block_seen : (names : Names) (e : Statement) (place : Place) (inner : Vec Statement Global) → e ≡ T.Block place inner → located_stmt names e ≡ L.Block place (located_list names inner.items)
block_seen names e place inner h = ap (located_stmt names) h ∙ located_block_is names place inner

pub if_seen : (names : Names) (e : Statement) (place : Place) (test : GExpr.Expr) (a : Box Statement Global) (b : Option (Box Statement Global)) → e ≡ T.If place test a b
    → located_stmt names e ≡ L.If place (located_expr names test) (located_stmt names a.value) (located_at names b)
if_seen names e place test a b h = ap (located_stmt names) h ∙ sym (located_if_is names place test a b)

pub for_seen : (names : Names) (e : Statement) (place : Place) (first : Vec Statement Global) (test : Option GExpr.Expr) (step : Option (Box Statement Global)) (body : Box Statement Global) → e ≡ T.For place first test step body
    → located_stmt names e ≡ L.For place (located_list names first.items) (option_map (located_expr names) test) (located_at names step) (located_stmt names body.value)
for_seen names e place first test step body h = ap (located_stmt names) h ∙ sym (located_for_is names place first test step body)

pub row_end : (names : Names) (xs : List Statement) (i : ℕ) → length xs ≤ i → located_list names (drop i xs) ≡ NoLStmt
row_end names xs i h = ap (located_list names) (drop_all i xs h)

pub row_more : (names : Names) (xs : List Statement) (i : ℕ) (x : Statement) → i < length xs → x ≡ get_or xs i x
    → located_list names (drop i xs) ≡ AndLStmt (located_stmt names x) (located_list names (drop (i + 1) xs))
row_more names xs i x h e = ap (located_list names) (drop_to_item xs i x h e)
