-- How many locals statements declare, capped.
use Rattle.std.proofs.Common.{◌≡◌, ℕ, ◌+◌, ◌<◌, ◌≤◌, List, length, get_or, drop, ap, ◌∙◌, Vec, Box, Global, Option, length-append}
use Rattle.cpc_base.specs.declared.stop.Place.{Place}
use Rattle.cpc_tree.specs.declared.program.Expr as GExpr
use Rattle.cpc_tree.specs.declared.program.Statement.{Statement}
use Rattle.cpc_tree.specs.declared.program.Statement.TheVariants as T
use Rattle.cpc_tree.specs.Erase.{Names, stmt_of, list_of}
use Rattle.cpc_tree.specs.Points.{locals, locals_in, declared}
use Rattle.cpc_tree.proofs.Nodes.{row_end, row_more, block_seen, for_seen}

pub declared_block : (names : Names) (e : Statement) (place : Place) (inner : Vec Statement Global) → e ≡ T.Block place inner → declared (stmt_of names e) ≡ length (locals_in (list_of names inner.items))
declared_block names e place inner h = ap declared (block_seen names e place inner h)

pub declared_for : (names : Names) (e : Statement) (place : Place) (first : Vec Statement Global) (test : Option GExpr.Expr) (step : Option (Box Statement Global)) (body : Box Statement Global)
    → e ≡ T.For place first test step body → declared (stmt_of names e) ≡ length (locals_in (list_of names first.items)) + declared (stmt_of names body.value)
declared_for names e place first test step body h = ap declared (for_seen names e place first test step body h) ∙ length-append (locals_in (list_of names first.items)) (locals (stmt_of names body.value))

pub declared_end : (names : Names) (xs : List Statement) (i : ℕ) → length xs ≤ i → length (locals_in (list_of names (drop i xs))) ≡ 0
declared_end names xs i h = ap (λ ss. length (locals_in ss)) (row_end names xs i h)

pub declared_more : (names : Names) (xs : List Statement) (i : ℕ) (x : Statement) → i < length xs → x ≡ get_or xs i x
    → length (locals_in (list_of names (drop i xs))) ≡ declared (stmt_of names x) + length (locals_in (list_of names (drop (i + 1) xs)))
declared_more names xs i x h e = ap (λ ss. length (locals_in ss)) (row_more names xs i x h e) ∙ length-append (locals (stmt_of names x)) (locals_in (list_of names (drop (i + 1) xs)))
