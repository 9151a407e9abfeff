use Rattle.cpc_eval_locals.proofs.locals.FunctionTable.of.Goals as goal

pub returns : goal.returns
returns c = record {
  marked = c.in_ok-marks.ensures;
  kept = c.in_ok-variables.ensures.kept;
  typed = c.in_ok-variables.ensures.types;
  labels = c.in_ok-labels.ensures;
}
