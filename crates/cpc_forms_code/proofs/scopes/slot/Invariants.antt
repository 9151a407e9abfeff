use Rattle.std.proofs.Common.{◌≡◌, length}
use Rattle.cpc_tree.specs.Erase.{Names}
use Rattle.cpc_tree.specs.Registers.{slot_of}
use Rattle.cpc_eval_variables.specs.Apart.{AreApart}
use Rattle.cpc_forms_code.specs.Seen.{scope_within, AreNamed}
use Rattle.cpc_forms_code.proofs.scopes.slot.Given as goal

-- what is left of the scope is still to be looked through
abbrev pub invariant-loop-depth : goal.invariant-loop-depth
invariant-loop-depth l = (names : Names) → AreApart names → AreNamed names l.variables
    → slot_of (scope_within names l.variables l.depth l.inner) (names l.name) ≡ slot_of (scope_within names l.variables (length l.variables) l.initial.inner) (names l.name)

abbrev pub decreases-loop-depth : goal.decreases-loop-depth
decreases-loop-depth l = l.depth
