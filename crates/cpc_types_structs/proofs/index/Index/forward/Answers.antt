use Rattle.std.proofs.Common.{◌+◌, subst, sym}
use Rattle.cpc_shapes.specs.Indexed.{AreLinked}
use Rattle.cpc_types_structs.specs.declared.index.Index.{Index}
use Rattle.cpc_shapes.proofs.Indexes.{read_at, forward_none, forward_some}
use Rattle.cpc_types_structs.proofs.index.Index.forward.Goals.{in-Some, in_default}
use Rattle.cpc_types_structs.proofs.index.Index.forward.Goals as goal

pub returns-clause-index : goal.returns-clause-index
returns-clause-index c =
    let P : Index → Type 0 = λ i. AreLinked i.names.items i.before.items i.last.items (i.count + 1) in
    let i = c.args.self.now in
    elim c.match-index.branch [
      | in-Some w ↦ subst P (sym w.self-is) (forward_some i.names.items i.before.items i.last.items i.count w.in-Some.name c.requires.index (read_at i.names.items i.count _ _ c.requires.more c.index.ensures w.in-Some.is))
      | in_default w ↦ subst P (sym w.self-is) (forward_none i.names.items i.before.items i.last.items i.count c.requires.index (read_at i.names.items i.count _ _ c.requires.more c.index.ensures w.in_default.is))
    ]
