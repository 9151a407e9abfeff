use Rattle.std.proofs.Common.{◌≡◌, map, drop}
use Rattle.cpc_tree.specs.Erase.{Names, parameter_of}
use Rattle.cpc_tree.specs.Typing as T
use Rattle.cpc_check_rules.specs.Calls as C
use Rattle.cpc_check_values.proofs.called.are_integers.Given as goal

-- the parameters so far are integers, so those that are left decide
abbrev pub invariant-loop-parameter : goal.invariant-loop-parameter
invariant-loop-parameter l = (names : Names) → C.all_integers (map T.parameter_type (map (parameter_of names) (drop l.parameter-index l.parameters))) ≡ C.all_integers (map T.parameter_type (map (parameter_of names) l.parameters))
