-- Where statements stand, as the code has it.
use Rattle.cpc_tree.specs.Erase.{Names, type_of}
use Rattle.cpc_tree.specs.Located as L
use Rattle.cpc_types.specs.Scoped.{scope_of}
use Rattle.cpc_types.specs.declared.scope.Scope.{Scope}
use Rattle.cpc_check_rules.specs.Operators as O
use Rattle.cpc_check_rules.specs.StmtRules.{all_behind}
use Rattle.cpc_check_statements.specs.declared.around.Around.{Around}

abbrev pub standing : Names → Scope → Around → O.Where
standing names s a = record { scope = scope_of names s; mode = a.mode; result = type_of names a.result.now; dialect = a.dialect }

-- behind a function's body: what its block declares is in scope with what was
abbrev pub behind_body : O.Where → L.LStmt → O.Where
behind_body w (L.Block q row) = all_behind w row
behind_body w s = w
