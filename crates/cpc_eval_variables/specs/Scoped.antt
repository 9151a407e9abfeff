-- The scope at a place of a function, as the code has it.
use Rattle.std.specs.Prelude.{List, [], ◌∷◌, map}
use Rattle.cpc_tree.specs.Erase.{Names, type_of, parameter_of}
use Rattle.cpc_tree.specs.Typing as T
use Rattle.cpc_tree.specs.Registers.{parameter_scope}
use Rattle.cpc_eval_variables.specs.declared.scope.Local.{Local}
use Rattle.cpc_eval_variables.specs.declared.scope.Scope.{Scope}

abbrev pub local_of : Names → Local → T.Local
local_of names l = record { called = names l.name; type = type_of names l.of.now; slot = l.slot }

-- these locals, of which the last is the innermost, inside of a scope
abbrev pub scope_over : Names → T.Scope → List Local → T.Scope
scope_over names scope [] = scope
scope_over names scope (l ∷ ls) = scope_over names (local_of names l ∷ scope) ls

-- the scope
abbrev pub scope_of : Names → Scope → T.Scope
scope_of names s = scope_over names (parameter_scope 0 (map (parameter_of names) s.parameters.now) []) s.locals.items
