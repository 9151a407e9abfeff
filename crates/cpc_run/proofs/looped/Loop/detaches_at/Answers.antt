use Rattle.std.proofs.Common.{◌∷◌, ◌++◌, sym, subst}
use Rattle.cpc_tree.specs.Primitives.{RtDetach}
use Rattle.cpc_meaning.specs.Events.{event_primitive}
use Rattle.cpc_meaning.specs.Trees.{trees}
use Rattle.cpc_eval_values.specs.Shown.{value_of, values_of}
use Rattle.cpc_store.specs.declared.values.Value.TheVariants as V
use Rattle.cpc_run_code.specs.Code.{stack_in}
use Rattle.cpc_run.specs.Going.{IsKnownCode}
use Rattle.cpc_run.specs.Sections.{submitted}
use Rattle.cpc_run.specs.States.{Did, settles, program_in}
use Rattle.cpc_run.proofs.Takes.{callback_is}
use Rattle.cpc_run.proofs.looped.Loop.detaches_at.Goals as goal

pub returns-clause-did : goal.returns-clause-did
returns-clause-did g c = λ names fits spells sent s acted.
    let l = c.args.self.now in
    let after = sent ++ c.submits.new.pending.items in
    subst (λ v. Did names c.submits.result c.submits.new.self after s (settles names l s (event_primitive (trees (program_in names l)) RtDetach (value_of names v ∷ value_of names c.args.callback.1 ∷ value_of names c.args.called ∷ values_of names c.args.arguments.now) (stack_in names l.machine) s))) (sym c.in-Code.is)
    (subst (λ v. Did names c.submits.result c.submits.new.self after s (settles names l s (event_primitive (trees (program_in names l)) RtDetach (value_of names (V.Code c.in-Code.back) ∷ value_of names c.args.callback.1 ∷ value_of names v ∷ values_of names c.args.arguments.now) (stack_in names l.machine) s))) (sym c.in-Code-called.is)
    (subst (λ x. Did names c.submits.result c.submits.new.self after s (settles names l s (submitted (trees (program_in names l)) (names c.in-Code-called.called) (values_of names c.args.arguments.now) x (stack_in names l.machine) s)))
    (callback_is names c.of.result c.in-Code.back c.args.callback.1 c.of.ensures.function c.of.ensures.pointer) (c.submits.ensures.did names fits spells sent s acted)))

pub submits-requires-clause-known : goal.submits-requires-clause-known
submits-requires-clause-known g c = subst (λ v. IsKnownCode c.args.table.now v) c.in-Code-called.is c.requires.known
