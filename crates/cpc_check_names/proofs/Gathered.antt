-- What is gathered of blocks and loops.
use Rattle.std.proofs.Common.{◌≡◌, List, ◌++◌, refl, sym, ap, ◌∙◌, append_assoc, Vec, Box, Global, Option}
use Rattle.cpc_base.specs.declared.stop.Place.{Place}
use Rattle.cpc_tree.specs.declared.program.Expr as GExpr
use Rattle.cpc_tree.specs.declared.program.Statement.{Statement}
use Rattle.cpc_tree.specs.declared.program.Statement.TheVariants as T
use Rattle.cpc_tree.specs.Located.{Ident, Block, LStmts}
use Rattle.cpc_tree.specs.Erase.{Names}
use Rattle.cpc_tree.specs.Locate.{located_stmt, located_list}
use Rattle.cpc_tree.proofs.LocatedNodes.{block_seen, for_seen}
use Rattle.cpc_check_rules.specs.FunctionRules.{locals, locals_in}
use Rattle.cpc_check_names.specs.declared.words.Wanted.{Wanted}
use Rattle.cpc_check_names.specs.declared.words.Wanted.TheVariants.{Labels, Jumps, Locals}
use Rattle.cpc_check_names.specs.Words.{words_of, words_in}

in_block : (w : Wanted) (place : Place) (ss : LStmts) → words_of w (Block place ss) ≡ words_in w ss
in_block Labels place ss = refl
in_block Jumps place ss = refl
in_block Locals place ss = refl

pub gathered_block : (names : Names) (w : Wanted) (e : Statement) (place : Place) (inner : Vec Statement Global) → e ≡ T.Block place inner
    → words_of w (located_stmt names e) ≡ words_in w (located_list names inner.items)
gathered_block names w e place inner h = ap (words_of w) (block_seen names e place inner h) ∙ in_block w place (located_list names inner.items)

locals_for : (names : Names) (e : Statement) (place : Place) (first : Vec Statement Global) (test : Option GExpr.Expr) (step : Option (Box Statement Global)) (body : Box Statement Global) → e ≡ T.For place first test step body
    → locals (located_stmt names e) ≡ locals_in (located_list names first.items) ++ locals (located_stmt names body.value)
locals_for names e place first test step body h = ap locals (for_seen names e place first test step body h)

pub gathered_for : (names : Names) (w : Wanted) (e : Statement) (place : Place) (first : Vec Statement Global) (test : Option GExpr.Expr) (step : Option (Box Statement Global)) (body : Box Statement Global) → w ≡ Locals → e ≡ T.For place first test step body
    → words_of w (located_stmt names e) ≡ words_in w (located_list names first.items) ++ words_of w (located_stmt names body.value)
gathered_for names Locals e place first test step body k h = locals_for names e place first test step body h
gathered_for names Labels e place first test step body k h = absurd cc
gathered_for names Jumps e place first test step body k h = absurd cc

-- words gathered one after the other
pub both_added : (x a b all y z : List Ident) → y ≡ x ++ a → z ≡ y ++ b → all ≡ a ++ b → z ≡ x ++ all
both_added x a b all y z k m e = m ∙ (ap (λ v. v ++ b) k ∙ (append_assoc x a b ∙ ap (λ v. x ++ v) (sym e)))
