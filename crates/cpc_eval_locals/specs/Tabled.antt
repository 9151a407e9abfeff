-- What a table says of a function.
use Rattle.std.specs.Prelude.{◌≡◌}
use Rattle.cpc_tree.specs.declared.program.Function.{Function}
use Rattle.cpc_tree.specs.Erase.{Names, stmt_of, function_of}
use Rattle.cpc_tree.specs.Registers as R
use Rattle.cpc_native_points.specs.Bodies.{IsBodyTable}
use Rattle.cpc_eval_variables.specs.Kept.{kept_from, types_kept}
use Rattle.cpc_eval_variables.specs.Told.{IsTold}
use Rattle.cpc_eval_variables.specs.Typed.{types_in}
use Rattle.cpc_eval_locals.specs.Kept.{kept_by}
use Rattle.cpc_eval_locals.specs.Marks as M
use Rattle.cpc_eval_locals.specs.Seen.{marks_seen}
use Rattle.cpc_eval_locals.specs.declared.locals.FunctionTable.{FunctionTable}

-- the table has the function's variables, the statements that declare its locals, and the labels of its body
pub record IsFunctionTable (f : Function) (t : FunctionTable) : Type 0 where
  pub marked : (names : Names) → marks_seen names t.marks.items ≡ M.marks 0 (stmt_of names f.body)
  pub kept : (names : Names) → IsTold names f.parameters.items → kept_by names t.variables.items ≡ kept_from (function_of names f) 0 (R.variables (function_of names f))
  pub typed : (names : Names) → types_kept (kept_by names t.variables.items) ≡ types_in (R.variables (function_of names f))
  pub labels : IsBodyTable f.body t.labels
