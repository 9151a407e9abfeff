-- The type of the value that arrives at a leader.
use Rattle.std.specs.Prelude.{Bool, true, false, slice_get, Option, Some, None}
use Rattle.cpc_num.specs.declared.kinds.Kind.TheVariants.{Int}
use Rattle.cpc_tree.specs.Syntax.{Ty, TyInt, ENamed, Call, Function, Program}
use Rattle.cpc_tree.specs.Points.{Found, Simple}
use Rattle.cpc_tree.specs.Typing.{is_scalar, function_named}
use Rattle.cpc_meaning.specs.Act.{Stood, AtArrival}
use Rattle.cpc_meaning.specs.Ways.{Manner, AsCps}
use Rattle.cpc_forms.specs.Graph.{at_node}
use Rattle.cpc_forms.specs.Flow.{Place, Start, At}
use Rattle.cpc_convert_routines.specs.Routines.{Routine}

-- the type of the values that arrive from a function: that of its result, where it has one
abbrev pub arriving_if : (is_scalar : Bool) → Ty → Ty
arriving_if true t = t
arriving_if false t = TyInt Int

-- the same, where there may be no function
abbrev pub arriving_from : Option Function → Ty
arriving_from None = TyInt Int
arriving_from (Some f) = arriving_if (is_scalar f.result) f.result

-- the type of the value that arrives at a statement; the result of a wait or of a section is an int
abbrev pub arriving_found : Program → Found → Ty
arriving_found p (Simple (Call to (ENamed f) es)) = arriving_from (function_named p f)
arriving_found p x = TyInt Int

-- that of the value that arrives at a node; where a value arrives at none, the field is there all the same
abbrev pub arriving_stood : Program → Manner → Stood → Ty
arriving_stood p AsCps (AtArrival x) = arriving_found p x
arriving_stood p manner stood = TyInt Int

-- that of the value that arrives in a frame of an owner
abbrev pub arriving_type : Program → Routine → Place → Ty
arriving_type p r Start = TyInt Int
arriving_type p r (At n) = at_node (TyInt Int) (λ node. arriving_stood p node.manner node.stood) (slice_get r.split.graph.nodes n)
