use Rattle.std.proofs.Common.{◌≡◌, vec_len}
use Rattle.cpc_tree.specs.Erase.{Names}
use Rattle.cpc_tree.specs.Syntax.{Program}
use Rattle.cpc_types.specs.Blocks.{inside, without_block}
use Rattle.cpc_types.proofs.blocks.Blocks.leave.Given as goal

-- only names of the innermost block were dropped
abbrev pub invariant-loop-entry : goal.invariant-loop-entry
invariant-loop-entry l = (names : Names) (items : Program) → without_block (inside names items l.self) ≡ without_block (inside names items l.initial.self)

abbrev pub decreases-loop-entry : goal.decreases-loop-entry
decreases-loop-entry l = vec_len l.self.entries
