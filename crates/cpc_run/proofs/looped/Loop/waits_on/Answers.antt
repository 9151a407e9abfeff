use Rattle.std.proofs.Common.{[], ◌∷◌, ◌++◌, refl, sym, subst}
use Rattle.cpc_tree.specs.Primitives.{RtWait}
use Rattle.cpc_tree.specs.Trace.{Waiting}
use Rattle.cpc_meaning.specs.Agenda as A
use Rattle.cpc_meaning.specs.Events.{CallWith, event_primitive}
use Rattle.cpc_meaning.specs.Trees.{trees}
use Rattle.cpc_meaning.proofs.Agendas.{waits}
use Rattle.cpc_eval_values.specs.Shown.{value_of}
use Rattle.cpc_store.specs.declared.values.Value.TheVariants as V
use Rattle.cpc_run_code.specs.Code.{stack_in}
use Rattle.cpc_run.specs.States.{IsCallback, Did, lists_in, settles, program_in}
use Rattle.cpc_run_code.specs.declared.items.Item.TheVariants as I
use Rattle.cpc_run.proofs.Alike.{wait_keeps}
use Rattle.cpc_run.proofs.Asks.{acts_marked}
use Rattle.cpc_run.proofs.Takes.{callback_is}
use Rattle.cpc_run.proofs.looped.Loop.waits_on.Goals as goal

pub returns-in-Ok-clause-did : goal.returns-in-Ok-clause-did
returns-in-Ok-clause-did c = λ names fits sent s acted.
    let l = c.args.self.now in
    let mid = record l { turns = record l.turns { agenda = c.wait.new.self } } in
    let n = c.in-Cond.number in
    let item = I.With c.of.result in
    let callback = CallWith (names c.in-Code.called) (value_of names c.args.pointer) in
    let is = callback_is names c.of.result c.in-Code.called c.args.pointer c.of.ensures.function c.of.ensures.pointer in
    let after = sent ++ c.marks.new.pending.items in
    subst (λ v. Did names c.marks.result c.marks.new.self after s (settles names l s (event_primitive (trees (program_in names l)) RtWait (value_of names v ∷ value_of names c.args.callback ∷ value_of names c.args.pointer ∷ []) (stack_in names l.machine) s))) (sym c.in-Cond.is)
    (subst (λ v. Did names c.marks.result c.marks.new.self after s (settles names l s (event_primitive (trees (program_in names l)) RtWait (value_of names (V.Cond n) ∷ value_of names v ∷ value_of names c.args.pointer ∷ []) (stack_in names l.machine) s))) (sym c.in-Code.is)
    (acts_marked names l mid c.marks.new.self c.args.function c.marks.result s (A.wait n item (lists_in names l)) (A.wait n callback s.agenda) (waits (IsCallback names) n item callback _ _ is acted.lists.agenda) (wait_keeps n callback s.agenda)
    (c.in-Ok.ensures.ok names) refl refl refl refl (Waiting n) (sent ++ c.args.pending.now.items) after acted
    (λ t a. c.marks.ensures.did names (record { runs = fits.runs; main = fits.main; serves = fits.serves; items = fits.items }) sent s t a)))
