use Rattle.cpc_tree.specs.Erase.{expr_of}
use Rattle.cpc_tree.specs.Locate.{located_expr}
use Rattle.cpc_tree.proofs.Places.{bare_located}
use Rattle.cpc_types.specs.Found.{found_of}
use Rattle.cpc_check_values.specs.Stands.{where_of}
use Rattle.cpc_check_statements.proofs.Parts.{found_unfit}
use Rattle.cpc_check_statements.proofs.returned.is_unfit_return.Goals as goal

pub returns-else-is_void : goal.returns-else-is_void
returns-else-is_void c = λ names apart.
    found_unfit (where_of names c.args.w.now) (located_expr names c.args.e.now) (found_of names c.args.found) (expr_of names c.args.e.now) _ _ (c.is_void.ensures names) c.if-is_void.false (c.is_unfit.ensures names apart) (bare_located names c.args.e.now)
