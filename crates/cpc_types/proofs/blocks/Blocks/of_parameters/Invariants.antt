use Rattle.std.proofs.Common.{◌≡◌, [], drop}
use Rattle.cpc_tree.specs.Erase.{Names}
use Rattle.cpc_tree.specs.Syntax.{Program}
use Rattle.cpc_check_rules.specs.Scopes.{with_block}
use Rattle.cpc_types.specs.Blocks.{inside, with_parameters}
use Rattle.cpc_types.proofs.blocks.Blocks.of_parameters.Given as goal

-- the parameters that are left make the block whole
abbrev pub invariant-loop-parameter : goal.invariant-loop-parameter
invariant-loop-parameter l = (names : Names) (items : Program)
    → with_parameters names (inside names items l.blocks) (drop l.parameter-index l.parameters) ≡ with_parameters names (with_block (record { items = items; blocks = [] })) l.parameters
