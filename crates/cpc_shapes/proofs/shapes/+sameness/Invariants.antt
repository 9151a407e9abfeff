use Rattle.std.proofs.Common.{◌≡◌, drop}
use Rattle.cpc_tree.specs.Erase.{Names}
use Rattle.cpc_check_rules.specs.Apart.{AreApart}
use Rattle.cpc_shapes.specs.Listed.{listed_of}
use Rattle.cpc_tree.specs.Typing as T
use Rattle.cpc_shapes.proofs.shapes.+sameness.Given as goal

-- the types that are left decide
abbrev pub invariant-same_types-loop-i : goal.invariant-same_types-loop-i
invariant-same_types-loop-i l = (names : Names) → AreApart names → T.same_types (listed_of names l.list) (listed_of names l.others) ≡ T.same_types (listed_of names (drop l.i l.list)) (listed_of names (drop l.i l.others))
