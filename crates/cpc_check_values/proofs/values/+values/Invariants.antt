use Rattle.std.proofs.Common.{◌≡◌, drop}
use Rattle.cpc_tree.specs.Erase.{Names}
use Rattle.cpc_tree.specs.Locate.{located_exprs}
use Rattle.cpc_check_rules.specs.Apart.{Spells}
use Rattle.cpc_check_rules.specs.Calls as C
use Rattle.cpc_check_rules.specs.ExprRules as E
use Rattle.cpc_check_rules.specs.Noted.{noted, first_of}
use Rattle.cpc_check_values.specs.Wants.{callee_of}
use Rattle.cpc_check_values.specs.Stands.{where_of}
use Rattle.cpc_check_values.proofs.values.+values.Given as goal

-- with what is left, all that the arguments break is noted
abbrev pub invariant-argument_rules-loop-i : goal.invariant-argument_rules-loop-i
invariant-argument_rules-loop-i l = (names : Names) → Spells l.w.names.now names
    → noted (first_of l.first) (E.args_breaks (where_of names l.w) (drop l.i (C.wanted (callee_of names l.callee))) (located_exprs names (drop l.i l.arguments)))
    ≡ noted (first_of l.initial.first) (E.args_breaks (where_of names l.w) (C.wanted (callee_of names l.callee)) (located_exprs names l.arguments))
