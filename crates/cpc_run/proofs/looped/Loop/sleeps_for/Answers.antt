use Rattle.std.proofs.Common.{◌≡◌, [], ◌∷◌, ◌++◌, Ok, refl, sym, subst, arith}
use Rattle.std.proofs.lemmas.Int.{ints, to_z-of_z}
use mir.Val.{to_z, of_z}
use mir.Syntax.{w64}
use Rattle.cpc_tree.specs.Primitives.{RtSleep}
use Rattle.cpc_tree.specs.Trace.{Sleeping}
use Rattle.cpc_store.specs.Store.{Unset}
use Rattle.cpc_meaning.specs.Agenda as A
use Rattle.cpc_meaning.specs.Events.{CallWith, event_primitive}
use Rattle.cpc_meaning.specs.Answer.{◌>>=◌}
use Rattle.cpc_meaning.specs.Machine.{acts, marks, reply}
use Rattle.cpc_meaning.specs.Trees.{trees}
use Rattle.cpc_meaning.proofs.Agendas.{slept}
use Rattle.cpc_eval_values.specs.Shown.{value_of}
use Rattle.cpc_run_code.specs.Code.{stack_in}
use Rattle.cpc_run.specs.States.{IsCallback, Did, lists_in, settles, program_in}
use Rattle.cpc_run_code.specs.declared.items.Item.TheVariants as I
use Rattle.cpc_run.proofs.Alike.{sleep_keeps}
use Rattle.cpc_run.proofs.Asks.{acts_marked}
use Rattle.cpc_run.proofs.Takes.{callback_is}
use Rattle.cpc_run.proofs.looped.Loop.sleeps_for.Goals as goal

pub returns-in-Ok-clause-did : goal.returns-in-Ok-clause-did
returns-in-Ok-clause-did c = λ names fits sent s acted.
    let l = c.args.self.now in
    let mid = record l { turns = record l.turns { agenda = c.sleep.new.self } } in
    let z = c.long-micros.result in
    let same : to_z w64 (of_z w64 z) ≡ z = grind (arith, ints, to_z-of_z) in
    let item = I.With c.of.result in
    let callback = CallWith (names c.in-Code.called) (value_of names c.args.pointer) in
    let is = callback_is names c.of.result c.in-Code.called c.args.pointer c.of.ensures.function c.of.ensures.pointer in
    let after = sent ++ c.marks.new.pending.items in
    subst (λ v. Did names c.marks.result c.marks.new.self after s (settles names l s (event_primitive (trees (program_in names l)) RtSleep (value_of names c.args.length ∷ value_of names v ∷ value_of names c.args.pointer ∷ []) (stack_in names l.machine) s))) (sym c.in-Code.is)
    (subst (λ a. Did names c.marks.result c.marks.new.self after s (settles names l s (a >>= λ y. acts (trees (program_in names l)) (stack_in names l.machine) (A.sleep y callback s.agenda) (marks (Sleeping y) s)))) (sym (c.long-micros.ensures names))
    (acts_marked names l mid c.marks.new.self c.args.function c.marks.result s (A.sleep z item (lists_in names l)) (A.sleep z callback s.agenda) (slept (IsCallback names) z item callback _ _ is acted.lists.agenda) (sleep_keeps z callback s.agenda)
    (subst (λ y. A.sleep y item (lists_in names l) ≡ Ok (lists_in names mid)) same (c.in-Ok.ensures.ok names)) refl refl refl refl (Sleeping z) (sent ++ c.args.pending.now.items) after acted
    (λ t a. subst (λ y. Did names c.marks.result c.marks.new.self after s (settles names mid s (reply (trees (program_in names mid)) (stack_in names mid.machine) Unset (marks (Sleeping y) t)))) same
    (c.marks.ensures.did names (record { runs = fits.runs; main = fits.main; serves = fits.serves; items = fits.items }) sent s t a))))
