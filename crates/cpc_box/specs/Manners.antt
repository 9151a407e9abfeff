-- How a call is left, by what it calls.
use Rattle.cpc_tree.specs.Syntax.{Expr, ENamed, Program}
use Rattle.cpc_tree.specs.Typing.{Scope, named}
use Rattle.cpc_meaning.specs.Ways.{Manner, ByFrame, meant_manner}
use Rattle.cpc_tree.specs.Primitives.{primitive_named}

abbrev pub called_manner : Program → Scope → Expr → Manner
called_manner p scope (ENamed f) = meant_manner (named p scope f) (primitive_named f)
called_manner p scope _ = ByFrame
