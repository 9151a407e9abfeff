use Rattle.cpc_eval_index.specs.Indexed.{items_of}
use Rattle.cpc_eval_index.proofs.Kept.{structs_known}
use Rattle.cpc_types_structs.proofs.Known.{all_known}
use Rattle.cpc_eval_index.proofs.index.Index.size.Goals as goal

pub returns : goal.returns
returns c = λ names apart.
    let i = c.args.self.now in
    c.measure.ensures names (items_of names i) (all_known names apart i.program.now.items.items i.table.now.declared.structs (structs_known i))

pub measure-requires : goal.measure-requires
measure-requires c = (structs_known c.args.self.now).structs.tagged
