use Rattle.std.proofs.Common.{◌≡◌, ◌-◌, ◌++◌, map, take, length}
use Rattle.cpc_store.specs.declared.values.Class.TheVariants.{Static}
use Rattle.cpc_store.specs.Store as S
use Rattle.cpc_store.specs.Seen.{seen}
use Rattle.cpc_run_globals.proofs.making.make_block.Given as goal

-- the cells so far are written, and the others unset
abbrev pub invariant-loop-k : goal.invariant-loop-k
invariant-loop-k l = record {
  class : l.block.class ≡ Static;
  number : l.block.number ≡ S.next_block Static l.fn.store;
  written : l.store ≡ S.alloc Static (map seen (take l.k l.cells) ++ S.unset_cells (length l.cells - l.k)) l.fn.store;
}
