use Rattle.std.proofs.Common.{◌∙◌, arith}
use Rattle.cpc_eval_index.specs.Indexed.{items_of}
use Rattle.cpc_native_frames.proofs.Counting.{cells_more, cells_end}
use Rattle.cpc_native_frames.proofs.cells.types_cells.Goals as goal

pub loop-variable-preserved : goal.loop-variable-preserved
loop-variable-preserved c = record {
  low = omega arith;
  rest = λ names apart.
      cells_more (items_of names c.args.index.now) names c.args.variables.now c.loop-variable.variable-index c.variable-item.result c.loop-variable.total c.type_cells.result c.saturating_add-total.result
      c.loop-variable-test.true c.variable-item.is (c.type_cells.ensures names apart) c.saturating_add-total.ensures
      ∙ c.loop-variable.invariant.rest names apart;
}

pub returns : goal.returns
returns c = λ names apart.
    let l = c.loop-variable in
    cells_end (items_of names c.args.index.now) names c.args.variables.now l.variable-index l.total c.loop-variable-test.false l.invariant.low ∙ l.invariant.rest names apart
