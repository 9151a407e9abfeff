use Rattle.std.proofs.Common.{[], ◌∷◌, Ok, refl, sym, ap, subst}
use Rattle.cpc_tree.specs.Primitives.{RtReady}
use Rattle.cpc_meaning.specs.Agenda as A
use Rattle.cpc_meaning.specs.Events.{CallWith, event_primitive}
use Rattle.cpc_meaning.specs.Trees.{trees}
use Rattle.cpc_meaning.proofs.Agendas.{BothOk, readies_all}
use Rattle.cpc_meaning.proofs.Both.{Ends, Goes}
use Rattle.cpc_eval_values.specs.Shown.{value_of}
use Rattle.cpc_run_code.specs.Code.{stack_in}
use Rattle.cpc_run.specs.States.{IsCallback, Did, lists_in, settles, program_in}
use Rattle.cpc_run_code.specs.declared.items.Item.TheVariants as I
use Rattle.cpc_run.proofs.Asks.{acts_so}
use Rattle.cpc_run.proofs.Takes.{callback_is}
use Rattle.cpc_run.proofs.looped.Loop.readies_callback.Goals as goal

pub returns-in-Ok-clause-did : goal.returns-in-Ok-clause-did
returns-in-Ok-clause-did c = λ names fits printed s acted.
    let l = c.args.self.now in
    let mid = record l { turns = record l.turns { agenda = c.ready.new.self } } in
    let item = I.With c.of.result in
    let callback = CallWith (names c.in-Code.called) (value_of names c.args.pointer) in
    let is = callback_is names c.of.result c.in-Code.called c.args.pointer c.of.ensures.function c.of.ensures.pointer in
    subst (λ v. Did names c.reply.result c.reply.new.self printed s (settles names l s (event_primitive (trees (program_in names l)) RtReady (value_of names v ∷ value_of names c.args.pointer ∷ []) (stack_in names l.machine) s))) (sym c.in-Code.is)
    (acts_so names l mid c.reply.new.self c.args.function c.reply.result s (Ok (A.ready_one item (lists_in names l))) (Ok (A.ready_one callback s.agenda))
    (BothOk _ _ (readies_all (IsCallback names) (item ∷ []) (callback ∷ []) (lists_in names l) s.agenda (Goes item callback [] [] is Ends) acted.lists.agenda)) (refl, refl) (ap Ok (sym (c.in-Ok.ensures.ready names))) refl refl refl refl printed printed acted
    (λ t a. c.reply.ensures.did names (record { runs = fits.runs; main = fits.main; serves = fits.serves; items = fits.items }) printed s t a))
