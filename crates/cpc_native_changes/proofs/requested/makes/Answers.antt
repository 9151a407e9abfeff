use Rattle.std.proofs.Common.{◌≡◌, Some, None, refl, subst}
use Rattle.cpc_tree.specs.Erase.{exprs_of}
use Rattle.cpc_tree.specs.Primitives as P
use Rattle.cpc_store.specs.Store.{Value}
use Rattle.cpc_meaning.specs.Section.{allocated}
use Rattle.cpc_meaning.specs.Act as M
use Rattle.cpc_native_points.specs.Finds.{found_of}
use Rattle.cpc_eval_values.specs.Shown.{value_of}
use Rattle.cpc_eval.specs.Around.{context_of}
use Rattle.cpc_native_changes.specs.Foreseen.{MakesSo}
use Rattle.cpc_native_changes.specs.declared.changes.Change.TheVariants as C
use Rattle.cpc_native_changes.proofs.Requesting.{made_alone}
use Rattle.cpc_native_changes.proofs.requested.makes.Goals as goal

pub returns-in-Some-clause-value : goal.returns-in-Some-clause-value
returns-in-Some-clause-value c = λ names b e told m n.
    let k = context_of names c.args.around.now in
    let es = exprs_of names c.args.arguments.now in
    let stood = M.AtStatement (found_of names c.args.there) in
    let w = value_of names c.in-Some.length in
    let Q : Value → Type 0 = λ v. MakesSo k stood c.made.result (allocated c.args.class v k.store) in
    made_alone names k stood b c.args.class es c.made.result (Some w) e (c.in-Some.ensures.value names P.long refl told n)
    (λ v i. let is : w ≡ v = cc in subst Q is (c.made.ensures.value names told m)) (λ i. absurd cc)

pub returns-in-None-clause-value : goal.returns-in-None-clause-value
returns-in-None-clause-value c = λ names b e told m n.
    let es = exprs_of names c.args.arguments.now in
    made_alone names (context_of names c.args.around.now) (M.AtStatement (found_of names c.args.there)) b c.args.class es C.Stays None e (c.in-None.ensures.value names P.long refl told n) (λ v i. absurd cc) (λ i. refl)
