-- How many statements blocks and loops are.
use Rattle.std.proofs.Common.{◌≡◌, ℕ, suc, ◌+◌, ◌<◌, ◌≤◌, List, length, get_or, drop, ap, ◌∙◌, Vec, Box, Global, Option, Some, None}
use Rattle.cpc_base.specs.declared.stop.Place.{Place}
use Rattle.cpc_tree.specs.declared.program.Expr as GExpr
use Rattle.cpc_tree.specs.declared.program.Statement.{Statement}
use Rattle.cpc_tree.specs.declared.program.Statement.TheVariants as T
use Rattle.cpc_tree.specs.Erase.{Names}
use Rattle.cpc_tree.specs.Locate.{located_stmt, located_list}
use Rattle.cpc_tree.proofs.LocatedNodes.{block_seen, for_seen, row_end, row_more}
use Rattle.cpc_check_rules.specs.FunctionRules.{statements, statements_in}

pub counted_block : (names : Names) (e : Statement) (place : Place) (inner : Vec Statement Global) → e ≡ T.Block place inner
    → statements (located_stmt names e) ≡ suc (statements_in (located_list names inner.items))
counted_block names e place inner h = ap statements (block_seen names e place inner h)

pub counted_for : (names : Names) (e : Statement) (place : Place) (first : Vec Statement Global) (test : Option GExpr.Expr) (r : Option (Box Statement Global)) (body step : Box Statement Global)
    → e ≡ T.For place first test r body → r ≡ Some step
    → statements (located_stmt names e) ≡ suc (statements_in (located_list names first.items) + (statements (located_stmt names step.value) + statements (located_stmt names body.value)))
counted_for names e place first test r body step h k = ap statements (for_seen names e place first test (Some step) body (h ∙ ap (λ q. T.For place first test q body) k))

pub counted_alone : (names : Names) (e : Statement) (place : Place) (first : Vec Statement Global) (test : Option GExpr.Expr) (r : Option (Box Statement Global)) (body : Box Statement Global)
    → e ≡ T.For place first test r body → r ≡ None
    → statements (located_stmt names e) ≡ suc (statements_in (located_list names first.items) + (0 + statements (located_stmt names body.value)))
counted_alone names e place first test r body h k = ap statements (for_seen names e place first test None body (h ∙ ap (λ q. T.For place first test q body) k))

pub counted_end : (names : Names) (xs : List Statement) (i : ℕ) → length xs ≤ i → statements_in (located_list names (drop i xs)) ≡ 0
counted_end names xs i h = ap statements_in (row_end names xs i h)

pub counted_more : (names : Names) (xs : List Statement) (i : ℕ) (x : Statement) → i < length xs → x ≡ get_or xs i x
    → statements_in (located_list names (drop i xs)) ≡ statements (located_stmt names x) + statements_in (located_list names (drop (i + 1) xs))
counted_more names xs i x h e = ap statements_in (row_more names xs i x h e)
