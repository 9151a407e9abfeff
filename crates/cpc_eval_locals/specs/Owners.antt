-- The function whose locals these are, as the code has it.
use Rattle.cpc_tree.specs.declared.program.Function.{Function}
use Rattle.cpc_eval_locals.specs.declared.locals.Locals.{Locals}

abbrev pub owner_of : Locals → Function
owner_of l = l.function.now
