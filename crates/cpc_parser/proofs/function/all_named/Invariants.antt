use Rattle.std.proofs.Common.{◌≡◌, map, drop}
use Rattle.cpc_tree.specs.Erase.{Names}
use Rattle.cpc_tree.specs.Located.{LParameter}
use Rattle.cpc_tree.specs.Locate.{located_parameter}
use Rattle.cpc_tree.specs.ItemGrammar.{all_named}
use Rattle.cpc_parser.proofs.function.all_named.Given as goal

abbrev pub invariant-loop-parameter : goal.invariant-loop-parameter
invariant-loop-parameter l = (names : Names) → all_named (λ (p : LParameter). p.called) (map (located_parameter names) (drop l.parameter-index l.parameters)) ≡ all_named (λ (p : LParameter). p.called) (map (located_parameter names) l.parameters)
