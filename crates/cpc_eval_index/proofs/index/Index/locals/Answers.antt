use Rattle.std.proofs.Common.{◌∙◌, get_or, None, ap}
use Rattle.cpc_eval_index.proofs.Kept.{declared_known, one_known}
use Rattle.cpc_eval_index.proofs.Known.{defined_absent, defined_missing, defined_found}
use Rattle.cpc_eval_index.proofs.index.Index.locals.Goals as goal

pub locals_in-requires : goal.locals_in-requires
locals_in-requires c =
    one_known c.args.self.now c.in-Some.place c.in-Some-item_at.item.now _ c.in-Some-item_at.ensures
    (c.table_at.ensures ∙ ap (λ rows. get_or rows c.in-Some.place None) c.deref.ensures.value)

pub returns-in-None : goal.returns-in-None
returns-in-None c =
    let i = c.args.self.now in
    ∣ (λ names apart. defined_absent names apart i.program.now.items.items i.table.now.declared c.args.name (declared_known i).declares c.in-None.ensures) ∣₁

pub returns-in-None-item_at : goal.returns-in-None-item_at
returns-in-None-item_at c =
    let i = c.args.self.now in
    ∣ (λ names apart. defined_missing names apart i.program.now.items.items i.table.now.declared c.args.name (declared_known i).declares c.in-Some.place c.in-Some.ensures c.in-None-item_at.ensures) ∣₁

pub returns-in-Some-item_at : goal.returns-in-Some-item_at
returns-in-Some-item_at c =
    let i = c.args.self.now in
    ∣ (λ names apart.
    c.locals_in.ensures.seen names
    ∙ defined_found names apart i.program.now.items.items i.table.now.declared c.args.name (declared_known i).declares c.in-Some.place c.in-Some-item_at.item.now c.in-Some.ensures c.in-Some-item_at.ensures) ∣₁
