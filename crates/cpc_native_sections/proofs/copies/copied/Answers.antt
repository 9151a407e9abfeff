use Rattle.std.proofs.Common.{◌+◌, sym, subst}
use Rattle.std.specs.List.{All}
use Rattle.std.proofs.lemmas.List.Elements.{All-push}
use Rattle.cpc_store.specs.Seen.{seen, IsLawful}
use Rattle.cpc_native_sections.proofs.Copying.{Copied, copy_goes_on, copy_fails, copy_ends}
use Rattle.cpc_native_sections.proofs.copies.copied.Goals as goal

pub returns-in-Err-clause-value : goal.returns-in-Err-clause-value
returns-in-Err-clause-value c = λ names.
    copy_fails names c.args.row.now c.args.block.class c.args.block.number c.args.offset c.args.store.now c.loop-k.k c.loop-k.cells.items (c.loop-k.invariant.told names) _ c.in-Err.fault c.loop-k-test.true
    c.in-Err.ensures.value

pub loop-k-preserved : goal.loop-k-preserved
loop-k-preserved c =
    let more = sym c.in_ok-push-in-Ok.ensures.items in
    record {
      lawful = subst (All (λ v. IsLawful (seen v))) more (All-push (λ v. IsLawful (seen v)) c.loop-k.cells.items c.in-Ok.value c.loop-k.invariant.lawful c.in-Ok.ensures.lawful);
      told = λ names.
          subst (Copied names c.args.row.now c.args.block.class c.args.block.number c.args.offset c.args.store.now (c.loop-k.k + 1)) more
          (copy_goes_on names c.args.row.now c.args.block.class c.args.block.number c.args.offset c.args.store.now c.loop-k.k c.loop-k.cells.items (c.loop-k.invariant.told names) _ c.in-Ok.value c.loop-k-test.true
          c.in-Ok.ensures.value);
    }

pub returns-clause-value : goal.returns-clause-value
returns-clause-value c = λ names.
    copy_ends names c.args.row.now c.args.block.class c.args.block.number c.args.offset c.args.store.now c.loop-k.k c.loop-k.cells.items (c.loop-k.invariant.told names) c.loop-k-test.false
