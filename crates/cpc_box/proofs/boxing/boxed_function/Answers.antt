use Rattle.std.proofs.Common.{◌≡◌, sym, subst}
use Rattle.std.proofs.Math.Logic.{∥∥₁_map}
use Rattle.cpc_tree.specs.Erase.{function_of}
use Rattle.cpc_tree.specs.Registers.{variables}
use Rattle.cpc_tree.specs.declared.program.Function.{Function}
use Rattle.cpc_eval_locals.specs.Kept.{kept_by}
use Rattle.cpc_eval_variables.specs.Kept.{kept_from}
use Rattle.cpc_eval_variables.specs.Told.{IsTold}
use Rattle.cpc_box.proofs.Finished.{is_boxed}
use Rattle.cpc_box.proofs.boxing.boxed_function.Goals as goal

pub invariant_of-result : goal.invariant_of-result
invariant_of-result c =
    let ms = c.variables.result.now in
    let own = c.requires.locals in
    record {
      formed = ∥∥₁_map c.requires.told (is_boxed c.args.source.now c.args.function.now c.args.index.now ms c.in_ok-walk.walk c.requires.index
          (λ names told.
          let P : Function → Type 0 = λ f. kept_by names ms ≡ kept_from (function_of names f) 0 (variables (function_of names f)) in
          let T : Function → Type 0 = λ f. IsTold names f.parameters.items in
          subst P own (c.variables.ensures.kept names (subst T (sym own) told)))
          c.in_ok-walk.ensures.variables c.in_ok-walk.ensures.named c.in_ok-walk.ensures.points);
    }
