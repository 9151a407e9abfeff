use Rattle.std.proofs.Common.{refl}
use Rattle.cpc_run_globals.proofs.Blocks.{saved, all_saved}
use Rattle.cpc_run_globals.proofs.making.make_block.Goals as goal

pub loop-k-preserved : goal.loop-k-preserved
loop-k-preserved c = record {
  class = c.loop-k.invariant.class;
  number = c.loop-k.invariant.number;
  written = saved c.args.store.now c.args.cells.now c.loop-k.k _ _ c.in_ok-block.block c.save.result c.loop-k.store c.save.new.self c.loop-k-test.true refl c.loop-k.invariant.class c.loop-k.invariant.number c.loop-k.invariant.written c.save.ensures.value;
}

pub returns-clause-made : goal.returns-clause-made
returns-clause-made c = λ names. all_saved c.args.store.now c.args.cells.now names c.loop-k.k c.loop-k.store c.loop-k-test.false c.loop-k.invariant.written
