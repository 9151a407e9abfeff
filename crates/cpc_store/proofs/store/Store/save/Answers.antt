use Rattle.std.proofs.Common.{sym, ◌∙◌}
use Rattle.cpc_store.specs.Seen.{seen}
use Rattle.cpc_store.proofs.CellLemmas.{store_cells-saved}
use Rattle.cpc_store.proofs.store.Store.save.Goals as goal

pub invariant_of-self : goal.invariant_of-self
invariant_of-self c = (c.self.invariant.0 ∙ sym (store_cells-saved c.args.block.class c.args.block.number c.args.offset (seen c.args.value) c.self.inside.classes c.save.new.self c.save.result c.save.ensures.value c.save.ensures.err), c.self.invariant.1)
