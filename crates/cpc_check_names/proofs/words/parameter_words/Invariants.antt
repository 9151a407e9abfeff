use Rattle.std.proofs.Common.{◌≡◌, ◌++◌, drop, map}
use Rattle.cpc_tree.specs.Erase.{Names}
use Rattle.cpc_tree.specs.Locate.{ident, located_parameter}
use Rattle.cpc_check_rules.specs.FunctionRules.{parameter_names}
use Rattle.cpc_check_names.proofs.words.parameter_words.Given as goal

-- with what is left, all names are there
abbrev pub invariant-loop-parameter : goal.invariant-loop-parameter
invariant-loop-parameter l = (names : Names) → map (ident names) l.words.items ++ parameter_names (map (located_parameter names) (drop l.parameter-index l.parameters)) ≡ parameter_names (map (located_parameter names) l.parameters)
