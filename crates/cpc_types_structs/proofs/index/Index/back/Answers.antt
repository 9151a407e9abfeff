use Rattle.std.proofs.Common.{◌≡◌, ◌+◌, ◌-◌, ◌≤◌, length, arith}
use Rattle.cpc_shapes.proofs.Indexes.{read_at, back_read}
use Rattle.cpc_types_structs.proofs.index.Index.back.Goals as goal

pub returns-in-Some-clause-index : goal.returns-in-Some-clause-index
returns-in-Some-clause-index c =
    let i = c.args.self.now in
    let h : i.count ≤ length i.names.items = c.requires.index.within in
    let e : i.count ≡ i.count - 1 + 1 = omega arith in
    back_read i.names.items i.before.items i.last.items (i.count - 1) c.in-Some.name _ i.count e c.index-in-Some.ensures c.requires.index (read_at i.names.items (i.count - 1) _ _ (omega arith) c.index.ensures c.in-Some.is)
