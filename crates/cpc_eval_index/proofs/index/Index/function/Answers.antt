use Rattle.std.proofs.Common.{◌∙◌}
use Rattle.cpc_eval_index.proofs.Kept.{declared_known}
use Rattle.cpc_eval_index.proofs.Known.{defined_absent, defined_missing, defined_found}
use Rattle.cpc_eval_index.proofs.index.Index.function.Goals as goal

pub returns-in-None : goal.returns-in-None
returns-in-None c = λ names apart.
    let i = c.args.self.now in
    defined_absent names apart i.program.now.items.items i.table.now.declared c.args.name (declared_known i).declares c.in-None.ensures

pub returns-in-None-item_at : goal.returns-in-None-item_at
returns-in-None-item_at c = λ names apart.
    let i = c.args.self.now in
    defined_missing names apart i.program.now.items.items i.table.now.declared c.args.name (declared_known i).declares c.in-Some.place c.in-Some.ensures c.in-None-item_at.ensures

pub returns-in-Some-item_at : goal.returns-in-Some-item_at
returns-in-Some-item_at c = λ names apart.
    let i = c.args.self.now in
    c.function_of.ensures names
    ∙ defined_found names apart i.program.now.items.items i.table.now.declared c.args.name (declared_known i).declares c.in-Some.place c.in-Some-item_at.item.now c.in-Some.ensures c.in-Some-item_at.ensures
