-- Names where they occur.
use Rattle.std.specs.Prelude.{ℕ, List, [], ◌++◌, Option, Some, None}
use Rattle.cpc_base.specs.Bytes.{Text}
use Rattle.cpc_tree.specs.Erase.{Names}
use Rattle.cpc_tree.specs.Syntax.{Expr}
use Rattle.cpc_tree.specs.Registers.{slot_of}
use Rattle.cpc_tree.specs.Typing.{Scope}
use Rattle.cpc_forms_code.specs.Seen.{scope_seen}
use Rattle.cpc_lift_laws.specs.Used.{used_in}
use Rattle.cpc_lift.specs.declared.names.Scoped.{Scoped}

-- the names in scope
abbrev pub scope_at : Names → Scoped → Scope
scope_at names at = scope_seen names at.variables.now at.scope

-- the variables of a declaration, which does nothing without a start value
abbrev pub started : Scope → Text → Option Expr → List ℕ
started scope x None = []
started scope x (Some e) = slot_of scope x ++ used_in scope e
