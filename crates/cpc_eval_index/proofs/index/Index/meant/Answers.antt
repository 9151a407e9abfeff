use Rattle.std.proofs.Common.{◌∙◌, ap}
use Rattle.cpc_eval_index.specs.Meanings.{meaning}
use Rattle.cpc_eval_index.proofs.Kept.{known, declared_known}
use Rattle.cpc_eval_index.proofs.Known.{named_absent, named_missing, named_found}
use Rattle.cpc_eval_index.proofs.index.Index.meant.Goals as goal

pub returns-in-None : goal.returns-in-None
returns-in-None c = λ names apart.
    let i = c.args.self.now in
    named_absent names apart i.program.now.items.items i.table.now.declared c.args.name (declared_known i).declares c.in-None.ensures

pub returns-in-None-item_at : goal.returns-in-None-item_at
returns-in-None-item_at c = λ names apart.
    let i = c.args.self.now in
    named_missing names apart i.program.now.items.items i.table.now.declared c.args.name (declared_known i).declares c.in-Some.place c.in-Some.ensures c.in-None-item_at.ensures

pub returns-in-Some-item_at : goal.returns-in-Some-item_at
returns-in-Some-item_at c = λ names apart.
    let i = c.args.self.now in
    c.meaning.ensures names
    ∙ ap (λ n. meaning names n c.in-Some-item_at.item.now) c.globals_before.ensures
    ∙ named_found names apart i.program.now.items.items i.table.now.declared c.args.name (declared_known i).declares i.table.now.items c.in-Some.place c.in-Some-item_at.item.now (known i) c.in-Some.ensures c.in-Some-item_at.ensures
