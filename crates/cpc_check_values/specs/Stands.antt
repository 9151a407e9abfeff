-- Where expressions stand, as the code has it.
use Rattle.cpc_tree.specs.Erase.{Names, type_of}
use Rattle.cpc_types.specs.Scoped.{scope_of}
use Rattle.cpc_check_rules.specs.Operators as O
use Rattle.cpc_check_values.specs.declared.wheres.Where.{Where}

abbrev pub where_of : Names → Where → O.Where
where_of names w = record { scope = scope_of names w.scope.now; mode = w.mode; result = type_of names w.result.now; dialect = w.dialect }
