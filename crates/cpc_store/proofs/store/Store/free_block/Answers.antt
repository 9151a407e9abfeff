use Rattle.std.proofs.Common.{arith, ap, sym, ◌∙◌}
use Rattle.cpc_store.specs.Store as S
use Rattle.cpc_store.proofs.CellLemmas.{store_cells-free, freed-none}
use Rattle.cpc_store.proofs.store.Store.free_block.Goals as goal

pub overflow_sub-self : goal.overflow_sub-self
overflow_sub-self c =
    let e = store_cells-free c.args.block.class c.args.block.number c.in-Some.cells c.self.inside.classes (sym c.in-Some.ensures.size) in
    let i = c.self.invariant.0 in omega arith

pub invariant_of-self : goal.invariant_of-self
invariant_of-self c =
    let e = store_cells-free c.args.block.class c.args.block.number c.in-Some.cells c.self.inside.classes (sym c.in-Some.ensures.size) in
    let f = ap S.store_cells c.in-Some.ensures.freed in
    let i = c.self.invariant.0 in (omega arith, omega arith)

pub invariant_of-self-in-None : goal.invariant_of-self-in-None
invariant_of-self-in-None c =
    (c.self.invariant.0 ∙ ap S.store_cells (sym (c.in-None.ensures.freed ∙ freed-none c.args.block.class c.args.block.number c.self.inside.classes (sym c.in-None.ensures.size))), c.self.invariant.1)

pub returns-in-None-clause-err : goal.returns-in-None-clause-err
returns-in-None-clause-err c = c.in-None.ensures.freed ∙ freed-none c.args.block.class c.args.block.number c.self.inside.classes (sym c.in-None.ensures.size) ∙ c.self.view_is
