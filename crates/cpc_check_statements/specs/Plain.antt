-- What statements break that hold no others and declare nothing, and the parts of that.
use Rattle.std.specs.Prelude.{Bool, false, not, [], Option, Some, None}
use Rattle.cpc_tree.specs.Syntax.{Ty, Expr}
use Rattle.cpc_tree.specs.Typing.{Typed, AValue}
use Rattle.cpc_tree.specs.Located.{LStmt, Assign, Call, Detach, Spawn, For, Return}
use Rattle.cpc_check_rules.specs.Rule.{Broken}
use Rattle.cpc_check_rules.specs.Scopes.{takes_typed}
use Rattle.cpc_check_rules.specs.Operators.{Where}
use Rattle.cpc_check_rules.specs.StmtRules.{stmt_breaks}

abbrev pub plain_breaks : Where → LStmt → Broken
plain_breaks w (Assign q o v op e) = stmt_breaks w (Assign q o v op e)
plain_breaks w (Call q o to f es) = stmt_breaks w (Call q o to f es)
plain_breaks w (Detach q o k to f es) = stmt_breaks w (Detach q o k to f es)
plain_breaks w (Spawn q f es) = stmt_breaks w (Spawn q f es)
plain_breaks w (Return q e) = stmt_breaks w (Return q e)
plain_breaks w s = []

-- what loops break that are written with `for`
abbrev pub for_breaks : Where → LStmt → Broken
for_breaks w (For q ss c r s) = stmt_breaks w (For q ss c r s)
for_breaks w s = []

-- an expression that has a type, and is not assignable to this one
abbrev pub is_unfit : Ty → Expr → Option Typed → Bool
is_unfit t e None = false
is_unfit t e (Some d) = not (takes_typed t e d)

-- the type of a value
abbrev pub value_type : Option Typed → Option Ty
value_type (Some (AValue t)) = Some t
value_type d = None
