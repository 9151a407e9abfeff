use Rattle.std.proofs.Common.{ap, ◌∙◌}
use Rattle.cpc_tree.specs.Erase.{function_of}
use Rattle.cpc_tree.specs.Registers.{variables}
use Rattle.cpc_eval_index.specs.Indexed.{items_of}
use Rattle.cpc_eval_index.specs.Sized.{capped}
use Rattle.cpc_eval_locals.specs.Owners.{owner_of}
use Rattle.cpc_native_frames.specs.Costs.{types_cells}
use Rattle.cpc_native_frames.proofs.Counting.{cells_by_types}
use Rattle.cpc_native_frames.proofs.cells.call_cells.Goals as goal

pub returns : goal.returns
returns c = λ names apart.
    let p = items_of names c.args.index.now in
    c.types_cells.ensures names apart
    ∙ ap (λ ts. capped (types_cells p ts)) (c.variables.ensures.types names)
    ∙ ap capped (cells_by_types p (variables (function_of names (owner_of c.args.locals.now))))
