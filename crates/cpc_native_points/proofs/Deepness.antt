-- How deep statements are, by the form that the code finds, and rows of statements one by one.
use Rattle.std.proofs.Common.{◌≡◌, ℕ, suc, max, ◌+◌, ◌<◌, ◌≤◌, List, length, get_or, drop, ap, Vec, Box, Global, Option}
use Rattle.std.proofs.lemmas.List.{drop_all}
use Rattle.cpc_base.specs.declared.stop.Place.{Place}
use Rattle.cpc_base.proofs.Lists.{drop_to_item}
use Rattle.cpc_tree.specs.declared.program.Expr as GExpr
use Rattle.cpc_tree.specs.declared.program.Statement.{Statement}
use Rattle.cpc_tree.specs.declared.program.Statement.TheVariants as T
use Rattle.cpc_tree.specs.Erase.{Names, stmt_of, list_of, maybe_at}
use Rattle.cpc_tree.proofs.Nodes.{block_seen, for_seen, if_seen}
use Rattle.cpc_native_points.specs.Depth.{depth, depth_row, depth_arm}

pub depth_block : (names : Names) (e : Statement) (place : Place) (inner : Vec Statement Global) → e ≡ T.Block place inner → depth (stmt_of names e) ≡ depth_row (list_of names inner.items)
depth_block names e place inner h = ap depth (block_seen names e place inner h)

pub depth_if : (names : Names) (e : Statement) (place : Place) (test : GExpr.Expr) (a : Box Statement Global) (b : Option (Box Statement Global)) → e ≡ T.If place test a b
    → depth (stmt_of names e) ≡ suc (max (depth (stmt_of names a.value)) (depth_arm (maybe_at names b)))
depth_if names e place test a b h = ap depth (if_seen names e place test a b h)

pub depth_for : (names : Names) (e : Statement) (place : Place) (first : Vec Statement Global) (test : Option GExpr.Expr) (step : Option (Box Statement Global)) (body : Box Statement Global)
    → e ≡ T.For place first test step body → depth (stmt_of names e) ≡ max (depth_row (list_of names first.items)) (suc (max (depth_arm (maybe_at names step)) (depth (stmt_of names body.value))))
depth_for names e place first test step body h = ap depth (for_seen names e place first test step body h)

pub depth_end : (names : Names) (xs : List Statement) (i : ℕ) → length xs ≤ i → depth_row (list_of names (drop i xs)) ≡ 0
depth_end names xs i h = ap (λ ys. depth_row (list_of names ys)) (drop_all i xs h)

pub depth_more : (names : Names) (xs : List Statement) (i : ℕ) (x : Statement) → i < length xs → x ≡ get_or xs i x
    → depth_row (list_of names (drop i xs)) ≡ max (suc (depth (stmt_of names x))) (depth_row (list_of names (drop (i + 1) xs)))
depth_more names xs i x h e = ap (λ ys. depth_row (list_of names ys)) (drop_to_item xs i x h e)
