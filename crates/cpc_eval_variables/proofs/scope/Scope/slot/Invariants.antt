use Rattle.std.proofs.Common.{◌≡◌, drop}
use Rattle.std.specs.Prelude.{option_to_list}
use Rattle.cpc_tree.specs.Erase.{Names}
use Rattle.cpc_check_rules.specs.Apart.{AreApart}
use Rattle.cpc_eval_variables.proofs.Slots.{slot_over}
use Rattle.cpc_eval_variables.proofs.scope.Scope.slot.Given as goal

-- the locals that are left decide
abbrev pub invariant-loop-local : goal.invariant-loop-local
invariant-loop-local l = (names : Names) → AreApart names
    → slot_over names (names l.name) (option_to_list l.found) (drop l.local-index l.self.locals.items) ≡ slot_over names (names l.name) (option_to_list l.initial.found) l.self.locals.items
