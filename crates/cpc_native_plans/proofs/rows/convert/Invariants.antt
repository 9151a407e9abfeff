use Rattle.std.specs.List.{All}
use Rattle.cpc_tree.specs.Erase.{Names}
use Rattle.cpc_store.specs.Seen.{seen, IsLawful}
use Rattle.cpc_meaning.specs.Eval.{assigned}
use Rattle.cpc_eval_values.specs.Shown.{values_of}
use Rattle.cpc_native_plans.specs.Parts.{Stands}
use Rattle.cpc_native_plans.specs.Rows.{row_types}
use Rattle.cpc_native_plans.proofs.Rowing.{each, so_far}
use Rattle.cpc_native_plans.proofs.rows.convert.Given as goal

-- the values that are left decide
abbrev pub invariant-loop-i : goal.invariant-loop-i
invariant-loop-i l = record {
  lawful : All (λ v. IsLawful (seen v)) l.values;
  rest : (names : Names) → Stands (so_far assigned names (row_types names l.row) l.values l.i) (each assigned (row_types names l.row) (values_of names l.initial.values));
}
