-- The parts of what was found of an expression, and what an operator on one operand breaks by them.
use Rattle.std.specs.Prelude.{Option, Some, None, is_some}
use Rattle.cpc_base.specs.declared.stop.Place.{Place}
use Rattle.cpc_tree.specs.declared.program.UnaryOp.{UnaryOp}
use Rattle.cpc_tree.specs.declared.program.UnaryOp.TheVariants.{AddressOf}
use Rattle.cpc_tree.specs.Syntax.{Ty}
use Rattle.cpc_tree.specs.Typing.{Typed, typed_place}
use Rattle.cpc_check_rules.specs.Rule.{Broken}
use Rattle.cpc_check_rules.specs.Operators.{no_rule, address_breaks}

-- the type of a place
abbrev pub place_of : Option Typed → Option Ty
place_of None = None
place_of (Some d) = typed_place d

-- an operator at a place on an operand that begins at another
abbrev pub unary_breaks : UnaryOp → Option Typed → Option Typed → Place → Place → Broken
unary_breaks AddressOf operand whole q start = address_breaks operand whole start
unary_breaks op operand whole q start = no_rule (is_some operand) whole q
