use Rattle.std.proofs.Common.{◌≡◌, [], ◌∷◌, ◌++◌, Result, Ok, refl, sym, ap, subst, ◌∙◌, arith}
use Rattle.std.proofs.lemmas.Int.{ints, to_z-of_z}
use mir.Val.{to_z, of_z}
use mir.Syntax.{w64}
use Rattle.cpc_num.specs.declared.kinds.Fault.{Fault}
use Rattle.cpc_run_code.specs.declared.items.Item.{Item}
use Rattle.cpc_tree.specs.Primitives.{RtIo}
use Rattle.cpc_tree.specs.Trace.{Awaiting}
use Rattle.cpc_store.specs.Store.{Unset}
use Rattle.cpc_meaning.specs.Agenda as A
use Rattle.cpc_meaning.specs.Events.{CallWith, event_primitive}
use Rattle.cpc_meaning.specs.Answer.{◌>>=◌}
use Rattle.cpc_meaning.specs.Machine.{acts, marks, int_of, direction_of, reply}
use Rattle.cpc_meaning.specs.Trees.{trees}
use Rattle.cpc_meaning.proofs.Agendas.{BothOk, ios}
use Rattle.cpc_eval_values.specs.Shown.{value_of}
use Rattle.cpc_run_code.specs.Code.{stack_in}
use Rattle.cpc_run.specs.States.{IsCallback, Did, lists_in, settles, program_in}
use Rattle.cpc_run_code.specs.declared.items.Item.TheVariants as I
use Rattle.cpc_run.proofs.Asks.{acts_marked}
use Rattle.cpc_run.proofs.Takes.{callback_is}
use Rattle.cpc_run.proofs.looped.Loop.awaits_at.Goals as goal

abbrev done_of : A.Agenda Item → Result (A.Agenda Item) Fault
done_of a = Ok a

pub returns-in-Ok-clause-did : goal.returns-in-Ok-clause-did
returns-in-Ok-clause-did c = λ names fits sent s acted.
    let l = c.args.self.now in
    let mid = record l { turns = record l.turns { agenda = c.io.new.self } } in
    let fd = c.long-descriptor.result in
    let same : to_z w64 (of_z w64 fd) ≡ fd = grind (arith, ints, to_z-of_z) in
    let z = c.long-number.result in
    let same_way : to_z w64 (of_z w64 z) ≡ z = grind (arith, ints, to_z-of_z) in
    let item = I.With c.of.result in
    let callback = CallWith (names c.in-Code.called) (value_of names c.args.pointer) in
    let is = callback_is names c.of.result c.in-Code.called c.args.pointer c.of.ensures.function c.of.ensures.pointer in
    let after = sent ++ c.marks.new.pending.items in
    let k = stack_in names l.machine in
    let p = trees (program_in names l) in
    subst (λ v. Did names c.marks.result c.marks.new.self after s (settles names l s (event_primitive p RtIo (value_of names c.args.place.0 ∷ value_of names c.args.place.1 ∷ value_of names v ∷ value_of names c.args.pointer ∷ []) k s))) (sym c.in-Code.is)
    (subst (λ a. Did names c.marks.result c.marks.new.self after s (settles names l s (a >>= λ x. int_of (value_of names c.args.place.1) >>= λ y. acts p k (Ok (A.io x (direction_of y) callback s.agenda)) (marks (Awaiting x (direction_of y)) s)))) (sym (c.long-descriptor.ensures names))
    (subst (λ a. Did names c.marks.result c.marks.new.self after s (settles names l s (a >>= λ y. acts p k (Ok (A.io fd (direction_of y) callback s.agenda)) (marks (Awaiting fd (direction_of y)) s)))) (sym (c.long-number.ensures names))
    (subst (λ w. Did names c.marks.result c.marks.new.self after s (settles names l s (acts p k (Ok (A.io fd w callback s.agenda)) (marks (Awaiting fd w) s)))) (c.direction-way.ensures ∙ ap direction_of same_way)
    (acts_marked names l mid c.marks.new.self c.args.function c.marks.result s (Ok (A.io fd c.direction-way.result item (lists_in names l))) (Ok (A.io fd c.direction-way.result callback s.agenda)) (BothOk _ _ (ios (IsCallback names) fd c.direction-way.result item callback _ _ is acted.lists.agenda)) (refl, refl)
    (subst (λ y. done_of (A.io y c.direction-way.result item (lists_in names l)) ≡ done_of (lists_in names mid)) same (ap Ok (sym (c.in-Ok.ensures.ok names)))) refl refl refl refl (Awaiting fd c.direction-way.result) (sent ++ c.args.pending.now.items) after acted
    (λ t a. subst (λ y. Did names c.marks.result c.marks.new.self after s (settles names mid s (reply (trees (program_in names mid)) (stack_in names mid.machine) Unset (marks (Awaiting y c.direction-way.result) t)))) same
    (c.marks.ensures.did names (record { runs = fits.runs; main = fits.main; serves = fits.serves; items = fits.items }) sent s t a))))))
