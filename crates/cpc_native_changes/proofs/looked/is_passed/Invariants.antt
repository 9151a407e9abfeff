use Rattle.cpc_tree.specs.Erase.{Names, exprs_of}
use Rattle.cpc_eval_index.specs.Indexed.{items_of}
use Rattle.cpc_eval.specs.Around.{context_of, IsToldIn}
use Rattle.cpc_eval.specs.Numbers.{AllNumbers}
use Rattle.cpc_native_plans.specs.Rows.{row_types}
use Rattle.cpc_native_changes.proofs.Foreseeing.{LeftPass}
use Rattle.cpc_native_changes.proofs.looked.is_passed.Given as goal

-- the arguments that are left decide
abbrev pub invariant-loop-i : goal.invariant-loop-i
invariant-loop-i l = (names : Names) → IsToldIn names l.around → AllNumbers (items_of names l.around.index.now) (exprs_of names l.arguments)
    → LeftPass names (context_of names l.around) (row_types names l.types) l.arguments l.i
