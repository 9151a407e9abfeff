use Rattle.std.proofs.Common.{◌≡◌, None, ◌++◌, [], refl, sym, ap, subst, ◌∙◌, append_assoc, arith}
use Rattle.cpc_tree.specs.Erase.{Names}
use Rattle.cpc_tree.specs.Trace.{Polled}
use Rattle.cpc_eval_values.specs.Shown.{values_of, store_of}
use Rattle.cpc_history_marks.specs.Views.{told_of}
use Rattle.cpc_meaning.specs.Agenda as A
use Rattle.cpc_meaning.specs.Copies as C
use Rattle.cpc_meaning.specs.Trees.{trees}
use Rattle.cpc_sections.specs.Backs.{CollectsAs, collected_of}
use Rattle.cpc_agenda_turns.specs.Turns.{TakesPoll}
use Rattle.cpc_run_jobs.specs.Holding.{Holds, IfAllGave, are_out, items_of, left_out}
use Rattle.cpc_run_jobs.proofs.AreOut.{all_are_out}
use Rattle.cpc_run_shown.specs.Shown.{shown_of}
use Rattle.cpc_run.specs.States.{lists_in, polls_in}
use Rattle.cpc_run.proofs.Kept.{moved_keeps}
use Rattle.cpc_run.proofs.Polls.{collected_so, poll_broke, poll_taken, fewer_polls, some_left, outs_so}
use Rattle.cpc_run.proofs.looped.Loop.polls.Goals as goal

pub returns-in_err-values-clause-keeps : goal.returns-in_err-values-clause-keeps
returns-in_err-values-clause-keeps g c =
    moved_keeps c.args.self.now c.replace_store.new.self c.args.self.now.turns c.finish-collected.new.self (λ names. c.replace_store.ensures.items names ∙ c.replace_store-store.ensures.items names)
    (λ names h. c.replace_store.ensures.runs names (c.replace_store-store.ensures.runs names h)) c.finish-collected.ensures.keeps

pub put_poll-requires : goal.put_poll-requires
put_poll-requires g c = let none : Names = λ n. [] in some_left none c.args.self.now _ (c.requires.wants none)

pub poll-requires-clause-next : goal.poll-requires-clause-next
poll-requires-clause-next g c = let none : Names = λ n. [] in some_left none c.args.self.now _ (c.requires.wants none)

pub returns-in_err-poll-in-AllGave-clause-keeps : goal.returns-in_err-poll-in-AllGave-clause-keeps
returns-in_err-poll-in-AllGave-clause-keeps g c =
    moved_keeps c.args.self.now c.replace_store.new.self c.poll.new.self c.finish-collected.new.self (λ names. c.replace_store.ensures.items names ∙ c.replace_store-store.ensures.items names)
    (λ names h. c.replace_store.ensures.runs names (c.replace_store-store.ensures.runs names h)) c.finish-collected.ensures.keeps

pub returns-in_ok-poll-in-AllGave-clause-keeps : goal.returns-in_ok-poll-in-AllGave-clause-keeps
returns-in_ok-poll-in-AllGave-clause-keeps g c =
    moved_keeps c.args.self.now c.replace_store.new.self c.poll.new.self c.finish-collected.new.self (λ names. c.replace_store.ensures.items names ∙ c.replace_store-store.ensures.items names)
    (λ names h. c.replace_store.ensures.runs names (c.replace_store-store.ensures.runs names h)) c.finish-collected.ensures.keeps

pub returns-in_ok-poll-in-AllGave-clause-steady : goal.returns-in_ok-poll-in-AllGave-clause-steady
returns-in_ok-poll-in-AllGave-clause-steady g c =
    let none : Names = λ n. [] in
    let steady = c.requires.steady in
    let counted = steady.counted in
    let fewer = fewer_polls _ c.poll.new.self.polls.now c.args.self.now.turns.polls.now (c.in_ok-poll-in-AllGave.ensures.taken none).next in
    record { well = c.replace_store.ensures.well; idle = λ e. c.replace_store.ensures.idle (c.replace_store-store.ensures.idle (steady.idle c.requires.idle)); fits = c.poll.ensures.fits; counted = omega (arith, fewer, counted); numbered = steady.numbered }

pub returns-in_ok-poll-in-AllGave-clause-did : goal.returns-in_ok-poll-in-AllGave-clause-did
returns-in_ok-poll-in-AllGave-clause-did g c = λ names fits sent s stands.
    let l = c.args.self.now in
    let new = record l { machine = c.replace_store.new.self; turns = c.poll.new.self; jobs = c.finish-collected.new.self } in
    let printed = sent ++ c.args.pending.now.items in
    let told = told_of c.args.told.now in
    let ns = A.completed told.events in
    let vs = values_of names c.in-AllGave.values.items in
    let t = store_of names c.finish-collected.new.store in
    let wants = c.requires.wants names in
    let all_out = subst (λ xs. A.not_out ns xs ≡ None) (outs_so names l s stands.lists.agenda) wants.all_out in
    let came = subst (λ ms. CollectsAs (collected_of names t c.in_ok-values.field-0) (C.collect (trees (items_of names l.jobs)) l.jobs.bound s.jobs ms (store_of names c.replace_store-store.result)))
    (ap (λ es. are_out (A.completed es) (A.out s.agenda)) c.deref.ensures.value ∙ all_are_out ns (A.out s.agenda) all_out)
    (c.in_ok-values.ensures.collected names fits.serves s.jobs s.agenda.sections_made (A.out s.agenda) stands.lists.held) in
    let left = subst (λ es. IfAllGave c.in_ok-values.field-0 (Holds names c.finish-collected.new.self s.jobs s.agenda.sections_made (left_out (A.completed es) (A.out s.agenda))))
    c.deref.ensures.value (c.in_ok-values.ensures.holds names fits.serves s.jobs s.agenda.sections_made (A.out s.agenda) stands.lists.held) in
    let gave = subst (λ x. CollectsAs (collected_of names t x) (C.collect (trees (items_of names l.jobs)) l.jobs.bound s.jobs ns (store_of names c.replace_store-store.result))) c.in-AllGave.is came in
    let held = subst (λ x. IfAllGave x (Holds names c.finish-collected.new.self s.jobs s.agenda.sections_made (left_out ns (A.out s.agenda)))) c.in-AllGave.is left in
    let taken = subst (λ xs. TakesPoll (values_of names xs) (lists_in names l) (polls_in l) (lists_in names new) (polls_in new)) c.as_slice.ensures.value (c.in_ok-poll-in-AllGave.ensures.taken names) in
    poll_taken names l printed s stands fits told new (sent ++ c.put_poll.new.pending.items) refl wants
    (ap (λ x. sent ++ x) (c.in_ok-put_poll.ensures told wants.left wants.next) ∙ sym (append_assoc sent c.args.pending.now.items (shown_of l.trace (Polled told))))
    vs t (c.replace_store.ensures.store names) (c.replace_store.ensures.stack names ∙ c.replace_store-store.ensures.stack names) refl c.finish-collected.ensures.keeps.bound taken held
    (collected_so names l printed s stands fits told (C.AllGave vs t) (store_of names c.replace_store-store.result) (c.replace_store-store.ensures.value names) gave)

pub returns-in-OneFailed-clause-keeps : goal.returns-in-OneFailed-clause-keeps
returns-in-OneFailed-clause-keeps g c =
    moved_keeps c.args.self.now c.replace_store.new.self c.args.self.now.turns c.finish-collected.new.self (λ names. c.replace_store.ensures.items names ∙ c.replace_store-store.ensures.items names)
    (λ names h. c.replace_store.ensures.runs names (c.replace_store-store.ensures.runs names h)) c.finish-collected.ensures.keeps

pub returns-in-OneFailed-clause-polls : goal.returns-in-OneFailed-clause-polls
returns-in-OneFailed-clause-polls g c = let none : Names = λ n. [] in some_left none c.args.self.now _ (c.requires.wants none)

pub returns-in-OneFailed-clause-did : goal.returns-in-OneFailed-clause-did
returns-in-OneFailed-clause-did g c = λ names fits sent s stands.
    let l = c.args.self.now in
    let new = record l { machine = c.replace_store.new.self; jobs = c.finish-collected.new.self } in
    let printed = sent ++ c.args.pending.now.items in
    let told = told_of c.args.told.now in
    let ns = A.completed told.events in
    let t = store_of names c.finish-collected.new.store in
    let wants = c.requires.wants names in
    let all_out = subst (λ xs. A.not_out ns xs ≡ None) (outs_so names l s stands.lists.agenda) wants.all_out in
    let came = subst (λ ms. CollectsAs (collected_of names t c.in_ok-values.field-0) (C.collect (trees (items_of names l.jobs)) l.jobs.bound s.jobs ms (store_of names c.replace_store-store.result)))
    (ap (λ es. are_out (A.completed es) (A.out s.agenda)) c.deref.ensures.value ∙ all_are_out ns (A.out s.agenda) all_out)
    (c.in_ok-values.ensures.collected names fits.serves s.jobs s.agenda.sections_made (A.out s.agenda) stands.lists.held) in
    let failed = subst (λ x. CollectsAs (collected_of names t x) (C.collect (trees (items_of names l.jobs)) l.jobs.bound s.jobs ns (store_of names c.replace_store-store.result))) c.in-OneFailed.is came in
    poll_broke names l printed s stands fits told new (sent ++ c.put_poll.new.pending.items) refl wants
    (ap (λ x. sent ++ x) (c.in_ok-put_poll.ensures told wants.left wants.next) ∙ sym (append_assoc sent c.args.pending.now.items (shown_of l.trace (Polled told))))
    c.in-OneFailed.fault c.in-OneFailed.function
    (collected_so names l printed s stands fits told (C.OneFailed c.in-OneFailed.fault (names c.in-OneFailed.function)) (store_of names c.replace_store-store.result) (c.replace_store-store.ensures.value names) failed)
