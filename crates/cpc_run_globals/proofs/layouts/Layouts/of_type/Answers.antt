use Rattle.std.proofs.Common.{cond, length, Some, None, sym, ap, ◌∙◌}
use Rattle.cpc_tree.specs.Erase.{type_of}
use Rattle.cpc_eval_index.specs.Ends.{items_before}
use Rattle.cpc_eval_index.specs.Indexed.{program_items}
use Rattle.cpc_run_globals.specs.Rows.{type_layout}
use Rattle.cpc_run_globals.proofs.Held.{of_row, all_before}
use Rattle.cpc_run_globals.proofs.layouts.Layouts.of_type.Goals as goal

pub returns-then-branch : goal.returns-then-branch
returns-then-branch c = λ names items are.
    let xs = program_items c.args.self.now.index in
    of_row (type_layout (items_before names xs (length c.items.result.now)) (type_of names c.args.of.now)) _ c.new-row.result.items c.new-row.ensures.items
    (c.in_ok-put.ensures names items are ∙ ap (λ there. cond there (Some c.put.new.row.items) None) c.if-branch.true)
    ∙ ap (λ is. type_layout is (type_of names c.args.of.now)) (all_before names xs (length c.items.result.now) (ap length c.items.ensures) ∙ sym are.same)

pub returns : goal.returns
returns c = λ names items are.
    let xs = program_items c.args.self.now.index in
    of_row (type_layout (items_before names xs (length c.items.result.now)) (type_of names c.args.of.now)) _ c.new-row.result.items c.new-row.ensures.items
    (c.in_ok-put.ensures names items are ∙ ap (λ there. cond there (Some c.put.new.row.items) None) c.if-branch.false)
    ∙ ap (λ is. type_layout is (type_of names c.args.of.now)) (all_before names xs (length c.items.result.now) (ap length c.items.ensures) ∙ sym are.same)
