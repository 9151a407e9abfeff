use Rattle.std.proofs.Common.{◌≤◌, Some, get_or, map, ap, ◌∙◌, arith}
use Rattle.cpc_shapes.specs.Counted.{tag_of}
use Rattle.cpc_shapes.specs.Indexed.{last_below}
use Rattle.cpc_eval_index.specs.Ends.{cells_at}
use Rattle.cpc_eval_index.specs.Indexed.{program_items}
use Rattle.cpc_eval_index.proofs.Ended.{end_low, cells_found, cells_missing}
use Rattle.cpc_eval_index.proofs.Kept.{known, structs_known}
use Rattle.cpc_eval_index.proofs.Standing.{tag_cells}
use Rattle.cpc_eval_index.proofs.index.Index.struct_before.Goals as goal

pub returns-in_err-last-clause-cells : goal.returns-in_err-last-clause-cells
returns-in_err-last-clause-cells c = λ names apart.
    let i = c.args.self.now in
    ap (cells_at names (program_items i)) c.from_residual.ensures
    ∙ cells_missing (program_items i) i.table.now.items (known i) i.table.now.declared.structs (structs_known i) names apart c.args.tag c.args.before c.requires c.in_err-last.ensures

pub returns-then-last-before-clause-earlier : goal.returns-then-last-before-clause-earlier
returns-then-last-before-clause-earlier c =
    let i = c.args.self.now in
    let low : get_or i.table.now.items.ends.items c.in_ok-last.last c.in_ok-last.last ≤ c.in_ok-last.last = end_low (program_items i) i.table.now.items (known i) c.in_ok-last.last in
    omega (arith, low, c.end.ensures, c.if-last-before.true)

pub returns-then-last-before-clause-cells : goal.returns-then-last-before-clause-cells
returns-then-last-before-clause-cells c = λ names apart.
    let i = c.args.self.now in
    ap (λ k. cells_at names (program_items i) (Some k)) c.end.ensures
    ∙ cells_found (program_items i) i.table.now.items (known i) i.table.now.declared.structs (structs_known i) names apart c.args.tag c.args.before c.requires c.in_ok-last.last c.in_ok-last.ensures c.if-last-before.true

pub returns-clause-cells : goal.returns-clause-cells
returns-clause-cells c = λ names apart.
    let i = c.args.self.now in
    ap (cells_at names (program_items i)) (c.last_struct.ensures.value ∙ ap (λ xs. last_below c.args.before (map tag_of xs) c.args.tag.0) c.deref.ensures.value)
    ∙ tag_cells names apart (program_items i) c.args.tag c.args.before c.requires

pub tagged-requires : goal.tagged-requires
tagged-requires c = (structs_known c.args.self.now).structs.tagged
