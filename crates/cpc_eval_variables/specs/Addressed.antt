-- The variables to which `&` is applied, where the name that it is applied to is known.
use Rattle.std.specs.Prelude.{ℕ, List, [], ◌++◌, Option, Some, None}
use Rattle.cpc_base.specs.declared.names.Name.{Name}
use Rattle.cpc_tree.specs.Syntax.{Expr, Stmt, Assign, Call, Detach, Spawn, Return}
use Rattle.cpc_tree.specs.Erase.{Names}
use Rattle.cpc_tree.specs.Typing.{Scope}
use Rattle.cpc_tree.specs.Registers.{slot_of, addresses, addresses_all, addresses_if}

-- of an operator on an expression: it is applied to a name, or it is not
abbrev pub addresses_by_name : Names → Scope → Option Name → Expr → List ℕ
addresses_by_name names scope None e = addresses scope e
addresses_by_name names scope (Some x) e = slot_of scope (names x)

-- in the parts of a statement that has no statement in it and declares nothing
abbrev pub leaf_addresses : Scope → Stmt → List ℕ
leaf_addresses scope (Assign e op v) = addresses scope e ++ addresses scope v
leaf_addresses scope (Call e f es) = addresses_if scope e ++ addresses scope f ++ addresses_all scope es
leaf_addresses scope (Detach e f es) = addresses_if scope e ++ addresses_all scope es
leaf_addresses scope (Spawn f es) = addresses_all scope es
leaf_addresses scope (Return v) = addresses_if scope v
leaf_addresses scope _ = []
