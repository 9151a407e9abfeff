-- A call's arguments as the list of their trees.
use Rattle.std.proofs.Common.{◌≡◌, Box, Vec, rules}
use Rattle.std.specs.Global.{Global}
use Rattle.cpc_base.specs.declared.stop.Place.{Place}
use Rattle.cpc_tree.specs.declared.program.Expr.{Expr}
use Rattle.cpc_tree.specs.declared.program.Expr.TheVariants as E
use Rattle.cpc_tree.specs.declared.program.Expr.TheViews.{the_lemmas}
use Rattle.cpc_tree.specs.Erase.{Names}
use Rattle.cpc_tree.specs.Located.{LCall}
use Rattle.cpc_tree.specs.Locate.{located_expr, located_exprs}
use Rattle.cpc_tree.proofs.LocatedClauses.{located_args_is}

pub call_is : (names : Names) (place : Place) (f : Box Expr Global) (vs : Vec Expr Global) → located_expr names (E.CallIn place f vs) ≡ LCall place (located_expr names f.value) (located_exprs names vs.items)
call_is names place f vs = search (rules, the_lemmas, located_args_is)
