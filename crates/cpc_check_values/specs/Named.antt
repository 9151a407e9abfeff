-- What is called by its name, where it is no variable.
use Rattle.std.specs.Prelude.{[], ◌∷◌, Option, Some, None}
use Rattle.cpc_base.specs.declared.stop.Place.{Place}
use Rattle.cpc_tree.specs.Erase.{Names}
use Rattle.cpc_tree.specs.PrimitiveNames.{primitive_of}
use Rattle.cpc_check_rules.specs.Rule.{Broken}
use Rattle.cpc_check_rules.specs.Operators.{Where}
use Rattle.cpc_check_rules.specs.Calls as C
use Rattle.cpc_check_rules.specs.declared.rule.Rule.TheVariants.{Undeclared}
use Rattle.cpc_check_values.specs.declared.wants.Callee.{Callee}
use Rattle.cpc_check_values.specs.declared.wants.Callee.TheVariants as V
use Rattle.cpc_check_values.specs.Wants.{callee_of}

-- what calling it by its name breaks
abbrev pub callee_breaks : Where → Place → Callee → Broken
callee_breaks w q (V.Function mode r ps) = C.function_breaks w q mode
callee_breaks w q (V.Primitive p o given) = C.primitive_breaks w q (primitive_of p)
callee_breaks w q V.Unknown = (q, Undeclared) ∷ []
callee_breaks w q c = []

-- this, or else that
abbrev pub callee_or : Names → Option Callee → C.Callee → C.Callee
callee_or names None other = other
callee_or names (Some c) other = callee_of names c

abbrev pub breaks_or : Where → Place → Option Callee → Broken → Broken
breaks_or w q None other = other
breaks_or w q (Some c) other = callee_breaks w q c
