use Rattle.std.proofs.Common.{List, ◌++◌, refl, ap, ◌∙◌}
use Rattle.cpc_store.specs.Store.{Value}
use Rattle.cpc_store.specs.declared.values.Value as V
use Rattle.cpc_meaning.specs.Section as M
use Rattle.cpc_eval_values.specs.Shown.{value_of, values_of}
use Rattle.cpc_sections.specs.declared.job.Job.{Job}
use Rattle.cpc_run_jobs.proofs.Submitted.{submitted, not_submitted}
use Rattle.cpc_run_jobs.proofs.jobs.Jobs.submit.Goals as goal

pub returns-in_err-cells-clause-submitted : goal.returns-in_err-cells-clause-submitted
returns-in_err-cells-clause-submitted g c = λ names serves jobs outs holds f is.
    not_submitted names c.args.self.now jobs c.args.number outs _ c.from_residual.result c.in_err-cells.field-0.0 _ c.from_residual.ensures.1
    (c.in_err-cells.ensures.value names serves.runs.spells.apart serves.layouts f is)

pub returns-clause-submitted : goal.returns-clause-submitted
returns-clause-submitted g c = λ names serves jobs outs holds f is.
    let x : Job = record { number = c.args.number; function = c.args.function; args = c.extend_from_slice.new.self; cells = c.in_ok-cells.cells; pointer = c.args.pointer } in
    let made : List V.Value → List Value → M.Job = λ args cells. record {
      number = c.args.number;
      function = names c.args.function;
      arguments = values_of names args;
      cells = cells;
      pointer = value_of names c.args.pointer;
    } in
    let args = c.in_ok-extend_from_slice.ensures.items ∙ ap (λ xs. xs ++ c.args.arguments.now) c.new-args.ensures.items in
    submitted names (record c.args.self.now { out = c.put.new.self }) jobs c.args.number outs (made c.args.arguments.now) c.args.self.now.out x _ holds refl c.in_ok-put.ensures.ok
    (ap (λ xs. made xs (values_of names c.in_ok-cells.cells.items)) args) (c.in_ok-cells.ensures.value names serves.runs.spells.apart serves.layouts f is)
