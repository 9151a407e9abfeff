use Rattle.std.proofs.Common.{◌≡◌, ◌+◌, ◌<◌, ◌^◌, drop}
use Rattle.cpc_tree.specs.Erase.{Names}
use Rattle.cpc_check_rules.specs.Apart.{AreApart}
use Rattle.cpc_eval_index.specs.Indexed.{items_of}
use Rattle.cpc_eval_index.specs.Sized.{capped}
use Rattle.cpc_eval_locals.specs.Kept.{kept_by}
use Rattle.cpc_eval_variables.specs.Kept.{types_kept}
use Rattle.cpc_native_frames.specs.Costs.{types_cells}
use Rattle.cpc_native_frames.proofs.cells.types_cells.Given as goal

-- with the variables that are left, all are counted
abbrev pub invariant-loop-variable : goal.invariant-loop-variable
invariant-loop-variable l = record {
  low : l.total < 2 ^ 64;
  rest : (names : Names) → AreApart names
      → capped (l.total + types_cells (items_of names l.index) (types_kept (kept_by names (drop l.variable-index l.variables)))) ≡ capped (types_cells (items_of names l.index) (types_kept (kept_by names l.variables)));
}
