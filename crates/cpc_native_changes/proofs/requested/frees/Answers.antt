use Rattle.std.proofs.Common.{◌≡◌, Some, None, refl, subst}
use Rattle.cpc_tree.specs.Erase.{exprs_of}
use Rattle.cpc_tree.specs.Primitives as P
use Rattle.cpc_store.specs.Store.{Value}
use Rattle.cpc_meaning.specs.Section.{freed}
use Rattle.cpc_eval_values.specs.Shown.{value_of}
use Rattle.cpc_eval.specs.Around.{context_of}
use Rattle.cpc_native_changes.specs.Foreseen.{FreesSo}
use Rattle.cpc_native_changes.specs.declared.changes.Change.TheVariants as C
use Rattle.cpc_native_changes.proofs.Requesting.{freed_alone}
use Rattle.cpc_native_changes.proofs.requested.frees.Goals as goal

pub returns-in-Some-clause-value : goal.returns-in-Some-clause-value
returns-in-Some-clause-value c = λ names stood b e told n.
    let k = context_of names c.args.around.now in
    let w = value_of names c.in-Some.pointer in
    let Q : Value → Type 0 = λ v. FreesSo k c.dropped.result (freed c.args.class v k.store) in
    freed_alone names k stood b c.args.class (exprs_of names c.args.arguments.now) c.dropped.result (Some w) e (c.in-Some.ensures.value names (P.SetOf P.any_pointer) refl told n)
    (λ v i. let is : w ≡ v = cc in subst Q is (c.dropped.ensures.value names k refl)) (λ i. absurd cc)

pub returns-in-None-clause-value : goal.returns-in-None-clause-value
returns-in-None-clause-value c = λ names stood b e told n.
    freed_alone names (context_of names c.args.around.now) stood b c.args.class (exprs_of names c.args.arguments.now) C.Stays None e (c.in-None.ensures.value names (P.SetOf P.any_pointer) refl told n) (λ v i. absurd cc) (λ i. refl)
