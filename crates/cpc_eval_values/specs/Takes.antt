-- How the arguments of primitives are taken, where a type is known by what its one cell holds.
use Rattle.std.specs.Prelude.{Option, Some}
use Rattle.std.specs.Option.{option_map}
use Rattle.cpc_tree.specs.Primitives as P
use Rattle.cpc_meaning.specs.Layout.{scalar_of}
use Rattle.cpc_eval_values.specs.declared.assignment.Taken.{Taken}
use Rattle.cpc_eval_values.specs.declared.assignment.Taken.TheVariants.{AnyInteger, SetOf, FreeOf}

abbrev pub taken_of : P.Taken → Option Taken
taken_of P.AnyInteger = Some AnyInteger
taken_of (P.SetOf t) = option_map SetOf (scalar_of t)
taken_of (P.FreeOf t) = option_map FreeOf (scalar_of t)
