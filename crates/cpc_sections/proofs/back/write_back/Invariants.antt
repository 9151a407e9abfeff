use Rattle.std.proofs.Common.{◌≡◌, ◌+◌, drop}
use Rattle.cpc_tree.specs.Erase.{Names}
use Rattle.cpc_meaning.specs.Copies.{write_back}
use Rattle.cpc_eval_values.specs.Shown.{values_of, store_of}
use Rattle.cpc_sections.proofs.back.write_back.Given as goal

-- the cells that are left go behind those that were written
abbrev pub invariant-loop-k : goal.invariant-loop-k
invariant-loop-k l = (names : Names) → write_back (values_of names l.cells) l.block.class l.block.number l.offset (store_of names l.fn.store)
    ≡ write_back (values_of names (drop l.k l.cells)) l.block.class l.block.number (l.offset + l.k) (store_of names l.store)
