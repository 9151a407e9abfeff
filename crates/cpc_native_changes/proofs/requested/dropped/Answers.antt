use Rattle.std.proofs.Common.{sym, subst}
use Rattle.cpc_store.specs.declared.values.Value.{Value}
use Rattle.cpc_meaning.specs.Section.{freed}
use Rattle.cpc_eval_values.specs.Shown.{value_of}
use Rattle.cpc_native_changes.specs.Foreseen.{FreesSo}
use Rattle.cpc_native_changes.specs.declared.changes.Change.TheVariants as C
use Rattle.cpc_native_changes.proofs.Blocks.{freed_there, freed_gone}
use Rattle.cpc_native_changes.proofs.requested.dropped.Goals as goal

pub returns-in-None-clause-value : goal.returns-in-None-clause-value
returns-in-None-clause-value c = λ names k at.
    let b = c.in-At.block in
    let P : Value → Type 0 = λ v. FreesSo k C.Stays (freed c.args.class (value_of names v) k.store) in
    subst P (sym c.in-At.is) (freed_gone k names c.args.around.now.store.now c.args.class b.class b.number at c.in-At.offset c.in-None.ensures)

pub returns-then-is_same-clause-value : goal.returns-then-is_same-clause-value
returns-then-is_same-clause-value c = λ names k at.
    let b = c.in-At.block in
    let P : Value → Type 0 = λ v. FreesSo k (C.Frees c.in-Some.cells) (freed c.args.class (value_of names v) k.store) in
    subst P (sym c.in-At.is) (freed_there k names c.args.around.now.store.now c.args.class b.class b.number at c.in-Some.cells c.in-At.offset c.if-is_same.ensures c.if-offset-eq0.true c.in-Some.ensures)
