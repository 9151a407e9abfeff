-- What is noted of break and continue, statement by statement.
use Rattle.std.proofs.Common.{◌≡◌, ℕ, ◌+◌, ◌<◌, ◌≤◌, List, length, get_or, drop, ap, ◌∙◌, Vec, Box, Global, Option, Some}
use Rattle.cpc_base.specs.declared.stop.Place.{Place}
use Rattle.cpc_tree.specs.declared.program.Expr as GExpr
use Rattle.cpc_tree.specs.declared.program.Statement.{Statement}
use Rattle.cpc_tree.specs.declared.program.Statement.TheVariants as T
use Rattle.cpc_tree.specs.Erase.{Names}
use Rattle.cpc_tree.specs.Locate.{located_stmt, located_list}
use Rattle.cpc_tree.proofs.LocatedNodes.{block_seen, if_seen, row_end, row_more}
use Rattle.cpc_check_rules.specs.declared.rule.Rule.{Rule}
use Rattle.cpc_check_rules.specs.FunctionRules.{stray_breaks, stray_in}
use Rattle.cpc_check_rules.specs.Noted.{noted}
use Rattle.cpc_check_rules.proofs.Firsts.{noted_both}

abbrev Firsts : Type 0
Firsts = Option (Place × Rule)

pub stray_block : (names : Names) (o : Firsts) (e : Statement) (place : Place) (inner : Vec Statement Global) → e ≡ T.Block place inner
    → noted o (stray_breaks (located_stmt names e)) ≡ noted o (stray_in (located_list names inner.items))
stray_block names o e place inner h = ap (λ s. noted o (stray_breaks s)) (block_seen names e place inner h)

pub stray_else : (names : Names) (o : Firsts) (e : Statement) (place : Place) (test : GExpr.Expr) (a : Box Statement Global) (r : Option (Box Statement Global)) (b : Box Statement Global) → e ≡ T.If place test a r → r ≡ Some b
    → noted o (stray_breaks (located_stmt names e)) ≡ noted (noted o (stray_breaks (located_stmt names a.value))) (stray_breaks (located_stmt names b.value))
stray_else names o e place test a r b h k =
    ap (λ s. noted o (stray_breaks s)) (if_seen names e place test a (Some b) (h ∙ ap (λ q. T.If place test a q) k))
    ∙ noted_both o (stray_breaks (located_stmt names a.value)) (stray_breaks (located_stmt names b.value))

pub stray_end : (names : Names) (o : Firsts) (xs : List Statement) (i : ℕ) → length xs ≤ i → noted o (stray_in (located_list names (drop i xs))) ≡ o
stray_end names o xs i h = ap (λ ss. noted o (stray_in ss)) (row_end names xs i h)

pub stray_more : (names : Names) (o : Firsts) (xs : List Statement) (i : ℕ) (x : Statement) → i < length xs → x ≡ get_or xs i x
    → noted o (stray_in (located_list names (drop i xs))) ≡ noted (noted o (stray_breaks (located_stmt names x))) (stray_in (located_list names (drop (i + 1) xs)))
stray_more names o xs i x h e =
    ap (λ ss. noted o (stray_in ss)) (row_more names xs i x h e)
    ∙ noted_both o (stray_breaks (located_stmt names x)) (stray_in (located_list names (drop (i + 1) xs)))
