use Rattle.std.proofs.Common.{◌≡◌, ◌++◌, Some, Ok, Err, refl, sym, ap, subst, ◌∙◌}
use Rattle.cpc_base.specs.declared.stop.NoMemory.{NoMemory}
use Rattle.cpc_tree.specs.Erase.{Names}
use Rattle.cpc_meaning.specs.Trees.{trees}
use Rattle.cpc_agenda.specs.Acts.{IfFault}
use Rattle.cpc_run_code.specs.Code.{stack_in}
use Rattle.cpc_run.specs.Sections.{submitted}
use Rattle.cpc_run_shown.specs.declared.outcome.Outcome.TheVariants.{Failed}
use Rattle.cpc_tree.specs.Trace.{Submitted}
use Rattle.cpc_eval_values.specs.Shown.{value_of, values_of, store_of}
use Rattle.cpc_meaning.specs.Agenda as A
use Rattle.cpc_run_jobs.specs.Holding.{Holds}
use Rattle.cpc_run_shown.specs.Shown.{shown_of}
use Rattle.cpc_run.specs.States.{Did, Fits, callback_of, lists_in, program_in, settles}
use Rattle.cpc_run.proofs.Asks.{marked}
use Rattle.cpc_run.proofs.Ends.{text_is}
use Rattle.cpc_run.proofs.Kept.{kept_then, relisted_keeps}
use Rattle.cpc_run.proofs.Submits.{submit_refused, submit_broke, submit_done}
use Rattle.cpc_base.proofs.Lists.{found_within, none_not_some}
use Rattle.cpc_run.proofs.looped.Loop.submits.Goals as goal

pub returns-in-Err-default-Fault-clause-did : goal.returns-in-Err-default-Fault-clause-did
returns-in-Err-default-Fault-clause-did g c = λ names fits spells sent s acted.
    let l = c.args.self.now in
    let before = sent ++ c.args.pending.now.items in
    let new = record l { turns = record l.turns { agenda = c.section.new.self } } in
    let at = subst (λ x. IfFault {X = Unit {0}} (Err x) (λ fault. (names : Names) → A.section c.args.item (lists_in names l) ≡ Err fault)) c.in-Err-default-Fault.field-0-1-is c.in-Err-default-Fault.ensures.fault in
    subst (λ fault. Did {E = NoMemory} names (Ok (Some (Failed fault c.args.function))) new before s (settles names l s (submitted (trees (program_in names l)) (names c.args.called) (values_of names c.args.arguments.now) (callback_of names c.args.item) (stack_in names l.machine) s)))
    (sym c.in-Err-default-Fault.fault-is)
    (submit_refused names l new c.args.function c.args.called c.args.item (values_of names c.args.arguments.now) before before s acted c.in-Err-default-Fault.fault (at names))

pub returns-in_err-put_section-in-Ok-submit-clause-keeps : goal.returns-in_err-put_section-in-Ok-submit-clause-keeps
returns-in_err-put_section-in-Ok-submit-clause-keeps g c = relisted_keeps c.args.self.now _ c.submit.new.self c.submit.ensures.keeps

pub returns-in-Err-Fault-clause-keeps : goal.returns-in-Err-Fault-clause-keeps
returns-in-Err-Fault-clause-keeps g c = relisted_keeps c.args.self.now _ c.submit.new.self c.submit.ensures.keeps

pub returns-in-Err-Memory-clause-keeps : goal.returns-in-Err-Memory-clause-keeps
returns-in-Err-Memory-clause-keeps g c = relisted_keeps c.args.self.now _ c.submit.new.self c.submit.ensures.keeps

pub returns-in_ok-put_section-in-Ok-submit-clause-keeps : goal.returns-in_ok-put_section-in-Ok-submit-clause-keeps
returns-in_ok-put_section-in-Ok-submit-clause-keeps g c = kept_then c.args.self.now _ c.reply.new.self (relisted_keeps c.args.self.now _ c.submit.new.self c.submit.ensures.keeps) c.reply.ensures.keeps

pub returns-in-Err-Fault-clause-did : goal.returns-in-Err-Fault-clause-did
returns-in-Err-Fault-clause-did g c = λ names fits spells sent s acted.
    let l = c.args.self.now in
    let mid = record l { turns = record l.turns { agenda = c.section.new.self }; jobs = c.submit.new.self } in
    let number = c.in-Ok.ensures.number ∙ acted.lists.agenda.sections_made in
    let before = sent ++ c.args.pending.now.items in
    subst (λ fault. Did {E = NoMemory} names (Ok (Some (Failed fault c.args.function))) mid before s (settles names l s (submitted (trees (program_in names l)) (names c.args.called) (values_of names c.args.arguments.now) (callback_of names c.args.item) (stack_in names l.machine) s)))
    (sym c.in-Err-Fault.fault-is)
    (submit_broke names l mid c.args.function c.args.called c.args.item (values_of names c.args.arguments.now) before before s acted mid fits (c.in-Ok.ensures.ok names)
    c.submit.result c.in-Ok.number (value_of names c.parted-pointer.result.0) (values_of names c.parted-pointer.result.1.now) (store_of names c.store-store.result.now)
    number (c.parted-pointer.ensures.first names) (c.parted-pointer.ensures.rest names) (c.store-store.ensures names)
    (λ f e. c.submit.ensures.submitted names fits.serves s.jobs (A.out s.agenda) (subst (λ n. Holds names l.jobs s.jobs n (A.out s.agenda)) (sym number) acted.lists.held) f e) c.in-Err-Fault.fault (c.in-Err-Fault.is ∙ ap Err c.in-Err-Fault.field-0-is))

pub returns-in_ok-put_section-in-Ok-submit-clause-did : goal.returns-in_ok-put_section-in-Ok-submit-clause-did
returns-in_ok-put_section-in-Ok-submit-clause-did g c = λ names fits spells sent s acted.
    let l = c.args.self.now in
    let mid = record l { turns = record l.turns { agenda = c.section.new.self }; jobs = c.submit.new.self } in
    let number = c.in-Ok.ensures.number ∙ acted.lists.agenda.sections_made in
    let before = sent ++ c.args.pending.now.items in
    let after = sent ++ c.put_section.new.pending.items in
    let keeps = c.submit.ensures.keeps in
    let fits_mid : Fits names mid = record { runs = fits.runs; main = fits.main; serves = keeps.serves names fits.serves; items = keeps.items names ∙ fits.items } in
    let text = text_is names c.args.table.now c.args.called c.in-Some.text.now spells (sym c.in-Some.ensures.text) in
    submit_done names l c.reply.new.self c.args.function c.args.called c.args.item (values_of names c.args.arguments.now) before after s acted mid fits (c.in-Ok.ensures.ok names)
    c.submit.result c.in-Ok.number (value_of names c.parted-pointer.result.0) (values_of names c.parted-pointer.result.1.now) (store_of names c.store-store.result.now)
    number (c.parted-pointer.ensures.first names) (c.parted-pointer.ensures.rest names) (c.store-store.ensures names)
    (λ f e. c.submit.ensures.submitted names fits.serves s.jobs (A.out s.agenda) (subst (λ n. Holds names l.jobs s.jobs n (A.out s.agenda)) (sym number) acted.lists.held) f e)
    c.reply.result refl refl refl keeps.bound _ c.in-Ok-submit.is
    (λ t a. c.reply.ensures.did names fits_mid after s t a)
    (λ cells a. marked names mid c.args.function sent c.args.pending.now.items c.put_section.new.pending.items s _ (Submitted s.agenda.sections_made (names c.args.called))
    (c.in_ok-put_section-in-Ok-submit.ensures ∙ ap (λ m. c.args.pending.now.items ++ shown_of l.trace m) (ap (λ n. Submitted n c.in-Some.text.now) number ∙ ap (Submitted s.agenda.sections_made) (sym text))) a)

pub unreachable-requires : goal.unreachable-requires
unreachable-requires g c = let there = found_within c.args.table.now c.args.called.0 c.requires.known in none_not_some there.0 (c.in_default.ensures.text ∙ there.1)
