use Rattle.std.proofs.Common.{[], ◌++◌, ◌+◌, Ok, inl, refl, ap, sym, subst, ◌∙◌, append_assoc, arith}
use Rattle.std.proofs.lemmas.List.{append-nil}
use Rattle.cpc_base.proofs.Pieces.{append_known-nil}
use Rattle.cpc_meaning.specs.Events.{callbacks}
use Rattle.cpc_meaning.specs.Machine.{try_step}
use Rattle.cpc_tree.specs.Erase.{in_table}
use Rattle.cpc_run.specs.Answers.{HasSaid, MadeAnswered}
use Rattle.cpc_run.specs.Hosts.{with_answers}
use Rattle.cpc_run.specs.States.{program_in}
use Rattle.cpc_run_shown.specs.declared.outcome.RunReport.{RunReport}
use Rattle.cpc_run_shown.specs.Known.{IsInTable}
use Rattle.cpc_run.specs.Reports.{MadeSo, MadePolls, MadeSteady, Reached, IsLeft, KeepsFirst, Tells, run_of}
use Rattle.cpc_run.proofs.Given.{has_next, has_same, none_given, ran_with, reached_first}
use Rattle.cpc_run.proofs.Runs.{AtEnd, first_within, within_cap, ends_told, left_in, left_over, left_broke, left_full, reached_more, at_end, tells_cut, tells_memory}
use Rattle.cpc_run.proofs.Twice.{goes_twice, over_known, broke_known}
use Rattle.cpc_run.proofs.run.run_on.Goals as goal

pub returns-in-Ok-Over-clause-told : goal.returns-in-Ok-Over-clause-told
returns-in-Ok-Over-clause-told g c = λ names q hist spells begins.
    let allows = g.R.HostRule.answers in
    let l = c.steps.run in
    let n = c.steps.steps in
    let table = c.args.table.now in
    let trace = c.args.run.now.trace in
    let limits = c.args.limits in
    let (given, told) = c.steps.invariant.so_far in
    let (sent, taken, far) = told names q hist spells begins in
    let (said, make) = c.in-Ok-Over.ensures.made in
    let answers = given ++ said in
    let h = with_answers hist answers in
    let stuck = (begins answers).never_stuck in
    let (reached, has) = far said in
    let old = sent ++ c.steps.pending.items in
    let new = sent ++ c.make.new.pending.items in
    let s = run_of q h n in
    let o = try_step (callbacks (program_in names l)) s in
    let both = subst (λ m. MadeSo names limits.cells (Ok m) c.make.new.self old new s o × MadeAnswered allows said [] m s o) c.in-Ok-Over.field-0-is
    (make names reached.fits spells sent s (within_cap names q h limits.cells trace l old n c.steps.cells reached) reached.stands [] (has.left ∙ sym (append-nil said))) in
    let said_so = has_next allows given said [] names q h l n stuck (reached.going n (omega arith)) reached.program both.1 (subst (λ r. HasSaid allows given r s) (sym (append-nil said)) has) in
    let (left, at) = subst (λ d. IsLeft names q h limits d.steps d.ended × AtEnd q h limits trace d.steps d.cells d.polls new) (sym c.report-due.ensures)
    (left_over names q h limits trace l old n c.steps.cells c.steps.polls stuck reached c.steps.invariant.counted c.steps-test.true c.make.new.self new c.in-Ok-Over.outcome both.0) in
    ran_with allows (in_table table) q hist limits trace c.told.result answers (n + 1) (g.O.Sink.taken c.args.out.now) (g.O.Sink.taken c.told.new.out) (ap (λ r. r.steps) c.told.ensures.same ∙ ap (λ r. r.steps) c.report-due.ensures) said_so
    (ends_told table q h limits trace c.report-due.result c.told.result new (g.O.Sink.taken c.args.out.now) (g.O.Sink.taken c.told.new.out)
    (λ i. left_in names table spells q h limits c.report-due.result.steps c.report-due.result.ended i left)
    (subst (λ d. KeepsFirst q h limits.cells d.ended) (sym c.report-due.ensures) (first_within names q h limits.cells trace l old n c.steps.cells reached)) at c.told.ensures.same (c.told.ensures.told (g.O.Sink.taken c.args.out.now) sent taken))

pub returns-in-Ok-Broke-clause-told : goal.returns-in-Ok-Broke-clause-told
returns-in-Ok-Broke-clause-told g c = λ names q hist spells begins.
    let allows = g.R.HostRule.answers in
    let l = c.steps.run in
    let n = c.steps.steps in
    let table = c.args.table.now in
    let trace = c.args.run.now.trace in
    let limits = c.args.limits in
    let (given, told) = c.steps.invariant.so_far in
    let (sent, taken, far) = told names q hist spells begins in
    let (said, make) = c.in-Ok-Broke.ensures.made in
    let answers = given ++ said in
    let h = with_answers hist answers in
    let stuck = (begins answers).never_stuck in
    let (reached, has) = far said in
    let old = sent ++ c.steps.pending.items in
    let new = sent ++ c.make.new.pending.items in
    let s = run_of q h n in
    let o = try_step (callbacks (program_in names l)) s in
    let both = subst (λ m. MadeSo names limits.cells (Ok m) c.make.new.self old new s o × MadeAnswered allows said [] m s o) c.in-Ok-Broke.field-0-is
    (make names reached.fits spells sent s (within_cap names q h limits.cells trace l old n c.steps.cells reached) reached.stands [] (has.left ∙ sym (append-nil said))) in
    let said_so = has_next allows given said [] names q h l n stuck (reached.going n (omega arith)) reached.program both.1 (subst (λ r. HasSaid allows given r s) (sym (append-nil said)) has) in
    let (left, at) = subst (λ d. IsLeft names q h limits d.steps d.ended × AtEnd q h limits trace d.steps d.cells d.polls new) (sym c.report-due-in-Ok-Broke.ensures)
    (left_broke names q h limits trace l old n c.steps.cells c.steps.polls stuck reached c.steps.invariant.counted c.steps-test.true c.make.new.self new c.in-Ok-Broke.fault c.in-Ok-Broke.function c.in-Ok-Broke.ensures.keeps.trace both.0) in
    ran_with allows (in_table table) q hist limits trace c.told-in-Ok-Broke.result answers (n + 1) (g.O.Sink.taken c.args.out.now) (g.O.Sink.taken c.told-in-Ok-Broke.new.out) (ap (λ r. r.steps) c.told-in-Ok-Broke.ensures.same ∙ ap (λ r. r.steps) c.report-due-in-Ok-Broke.ensures) said_so
    (ends_told table q h limits trace c.report-due-in-Ok-Broke.result c.told-in-Ok-Broke.result new (g.O.Sink.taken c.args.out.now) (g.O.Sink.taken c.told-in-Ok-Broke.new.out)
    (λ i. left_in names table spells q h limits c.report-due-in-Ok-Broke.result.steps c.report-due-in-Ok-Broke.result.ended i left)
    (subst (λ d. KeepsFirst q h limits.cells d.ended) (sym c.report-due-in-Ok-Broke.ensures) (first_within names q h limits.cells trace l old n c.steps.cells reached)) at c.told-in-Ok-Broke.ensures.same (c.told-in-Ok-Broke.ensures.told (g.O.Sink.taken c.args.out.now) sent taken))

pub returns-in-Ok-Full-clause-told : goal.returns-in-Ok-Full-clause-told
returns-in-Ok-Full-clause-told g c = λ names q hist spells begins.
    let allows = g.R.HostRule.answers in
    let l = c.steps.run in
    let n = c.steps.steps in
    let table = c.args.table.now in
    let trace = c.args.run.now.trace in
    let limits = c.args.limits in
    let (given, told) = c.steps.invariant.so_far in
    let (sent, taken, far) = told names q hist spells begins in
    let (said, make) = c.in-Ok-Full.ensures.made in
    let answers = given ++ said in
    let h = with_answers hist answers in
    let stuck = (begins answers).never_stuck in
    let (reached, has) = far said in
    let old = sent ++ c.steps.pending.items in
    let new = sent ++ c.make.new.pending.items in
    let s = run_of q h n in
    let o = try_step (callbacks (program_in names l)) s in
    let both = subst (λ m. MadeSo names limits.cells (Ok m) c.make.new.self old new s o × MadeAnswered allows said [] m s o) c.in-Ok-Full.field-0-is
    (make names reached.fits spells sent s (within_cap names q h limits.cells trace l old n c.steps.cells reached) reached.stands [] (has.left ∙ sym (append-nil said))) in
    let said_so = has_same allows given said [] s both.1 (subst (λ r. HasSaid allows given r s) (sym (append-nil said)) has) in
    let (left, at) = subst (λ d. IsLeft names q h limits d.steps d.ended × AtEnd q h limits trace d.steps d.cells d.polls new) (sym c.report-due-in-Ok-Full.ensures)
    (left_full names q h limits trace l old n c.steps.cells c.steps.polls stuck reached c.steps.invariant.counted c.steps-test.true c.make.new.self new c.in-Ok-Full.left both.0) in
    ran_with allows (in_table table) q hist limits trace c.told-in-Ok-Full.result answers n (g.O.Sink.taken c.args.out.now) (g.O.Sink.taken c.told-in-Ok-Full.new.out) (ap (λ r. r.steps) c.told-in-Ok-Full.ensures.same ∙ ap (λ r. r.steps) c.report-due-in-Ok-Full.ensures) said_so
    (ends_told table q h limits trace c.report-due-in-Ok-Full.result c.told-in-Ok-Full.result new (g.O.Sink.taken c.args.out.now) (g.O.Sink.taken c.told-in-Ok-Full.new.out)
    (λ i. left_in names table spells q h limits c.report-due-in-Ok-Full.result.steps c.report-due-in-Ok-Full.result.ended i left)
    (subst (λ d. KeepsFirst q h limits.cells d.ended) (sym c.report-due-in-Ok-Full.ensures) tt) at c.told-in-Ok-Full.ensures.same (c.told-in-Ok-Full.ensures.told (g.O.Sink.taken c.args.out.now) sent taken))

pub returns-in-Err-clause-told : goal.returns-in-Err-clause-told
returns-in-Err-clause-told g c = λ names q hist spells begins.
    let allows = g.R.HostRule.answers in
    let l = c.steps.run in
    let n = c.steps.steps in
    let trace = c.args.run.now.trace in
    let limits = c.args.limits in
    let (given, told) = c.steps.invariant.so_far in
    let (sent, taken, far) = told names q hist spells begins in
    let answers = given ++ [] in
    let h = with_answers hist answers in
    let (reached, has) = far [] in
    let whole = sent ++ c.steps.pending.items in
    let at = at_end names q h limits trace l whole n c.steps.cells c.steps.polls reached c.steps.invariant.counted c.steps.invariant.within in
    let tells = tells_memory (in_table c.args.table.now) q h limits trace n c.steps.cells c.steps.polls sent whole
    (inl (first_within names q h limits.cells trace l whole n c.steps.cells reached)) at (record { rest = c.steps.pending.items; whole = refl }) in
    ran_with allows (in_table c.args.table.now) q hist limits trace c.report.result answers n (g.O.Sink.taken c.args.out.now) (g.O.Sink.taken c.steps.out) (ap (λ r. r.steps) c.report.ensures)
    (has_same allows given [] [] (run_of q h n) refl has) (sent, taken, subst (λ r. Tells (in_table c.args.table.now) q h limits trace r sent) (sym c.report.ensures) tells)

pub returns-in-Err-drain-clause-told : goal.returns-in-Err-drain-clause-told
returns-in-Err-drain-clause-told g c = λ names q hist spells begins.
    let allows = g.R.HostRule.answers in
    let l = c.steps.run in
    let n = c.steps.steps in
    let trace = c.args.run.now.trace in
    let limits = c.args.limits in
    let (given, told) = c.steps.invariant.so_far in
    let (sent, taken, far) = told names q hist spells begins in
    let (said, make) = c.in-Ok-On.ensures.made in
    let answers = given ++ said in
    let h = with_answers hist answers in
    let stuck = (begins answers).never_stuck in
    let (reached, has) = far said in
    let old = sent ++ c.steps.pending.items in
    let new = sent ++ c.make.new.pending.items in
    let s = run_of q h n in
    let o = try_step (callbacks (program_in names l)) s in
    let both = subst (λ m. MadeSo names limits.cells (Ok m) c.make.new.self old new s o × MadeAnswered allows said [] m s o) c.in-Ok-On.field-0-is
    (make names reached.fits spells sent s (within_cap names q h limits.cells trace l old n c.steps.cells reached) reached.stands [] (has.left ∙ sym (append-nil said))) in
    let said_so = has_next allows given said [] names q h l n stuck (reached.going n (omega arith)) reached.program both.1 (subst (λ r. HasSaid allows given r s) (sym (append-nil said)) has) in
    let next = reached_more names q h limits.cells trace l old n c.steps.cells stuck reached c.make.new.self new c.in-Ok-On.left c.in-Ok-On.ensures.keeps both.0 in
    let part = c.in-Err-drain.ensures.part (g.O.Sink.taken c.args.out.now) sent taken in
    let tells = tells_cut (in_table c.args.table.now) q h limits trace (n + 1) c.in-Ok-On.left c.taken-polls-in-steps.result part.0 new
    (first_within names q h limits.cells trace l old n c.steps.cells reached)
    (at_end names q h limits trace c.make.new.self new (n + 1) c.in-Ok-On.left c.taken-polls-in-steps.result next c.taken-polls-in-steps.ensures (omega (arith, c.steps-test.true))) part.2 in
    ran_with allows (in_table c.args.table.now) q hist limits trace c.report-in-Err-drain.result answers (n + 1) (g.O.Sink.taken c.args.out.now) (g.O.Sink.taken c.drain.new.out) (ap (λ r. r.steps) c.report-in-Err-drain.ensures) said_so
    (part.0, part.1, subst (λ r. Tells (in_table c.args.table.now) q h limits trace r part.0) (sym c.report-in-Err-drain.ensures) tells)

pub steps-init : goal.steps-init
steps-init g c = record {
  steady = c.requires.steady;
  assigned = c.requires.assigned;
  within = omega arith;
  later = omega arith;
  counted = c.taken-polls.ensures;
  so_far = (
    [],
    λ names q hist spells begins. (
      [],
      sym (append_known-nil (g.O.Sink.taken c.args.out.now)),
      λ rest. (reached_first names q (with_answers hist rest) c.args.limits.cells c.args.run.now c.args.first c.new-pending.result.items (begins rest) c.requires.within c.new-pending.ensures.items, none_given g.R.HostRule.answers q hist rest),
    ),
  );
}

pub steps-preserved : goal.steps-preserved
steps-preserved g c = record {
  assigned = c.in-Ok-On.ensures.keeps.assigned g.S.Sections.program g.S.Sections.bound c.steps.invariant.assigned;
  steady = subst (λ m. MadeSteady (Ok m) c.make.new.self) c.in-Ok-On.field-0-is c.in-Ok-On.ensures.steady;
  within = omega (arith, c.steps-test.true);
  later = omega (arith, c.steps.invariant.later, c.drain.ensures.later);
  counted = c.taken-polls-in-steps.ensures;
  so_far = (
    c.steps.invariant.so_far.0 ++ c.in-Ok-On.ensures.made.0,
    λ names q hist spells begins.
        let allows = g.R.HostRule.answers in
        let l = c.steps.run in
        let n = c.steps.steps in
        let trace = c.args.run.now.trace in
        let limits = c.args.limits in
        let (given, told) = c.steps.invariant.so_far in
        let (sent, taken, far) = told names q hist spells begins in
        let (said, make) = c.in-Ok-On.ensures.made in
        let old = sent ++ c.steps.pending.items in
        let new = sent ++ c.make.new.pending.items in
        let left = c.in-Ok.ensures.all (g.O.Sink.taken c.args.out.now) sent taken in (
          left.0,
          left.1,
          λ rest.
              let answers = given ++ (said ++ rest) in
              let h = with_answers hist answers in
              let stuck = (begins answers).never_stuck in
              let (reached, has) = far (said ++ rest) in
              let s = run_of q h n in
              let o = try_step (callbacks (program_in names l)) s in
              let both = subst (λ m. MadeSo names limits.cells (Ok m) c.make.new.self old new s o × MadeAnswered allows said rest m s o) c.in-Ok-On.field-0-is
              (make names reached.fits spells sent s (within_cap names q h limits.cells trace l old n c.steps.cells reached) reached.stands rest has.left) in
              let said_so = has_next allows given said rest names q h l n stuck (reached.going n (omega arith)) reached.program both.1 has in
              let next = reached_more names q h limits.cells trace l old n c.steps.cells stuck reached c.make.new.self new c.in-Ok-On.left c.in-Ok-On.ensures.keeps both.0 in
              subst (λ zs. Reached names q (with_answers hist zs) limits.cells trace c.make.new.self (left.0 ++ c.drain.new.pending.items) (n + 1) c.in-Ok-On.left × HasSaid allows (given ++ said) rest (run_of q (with_answers hist zs) (n + 1)))
              (sym (append_assoc given said rest))
              (subst (λ p. Reached names q h limits.cells trace c.make.new.self p (n + 1) c.in-Ok-On.left) (sym left.2) next, said_so),
        ),
  );
}

pub returns-clause-told : goal.returns-clause-told
returns-clause-told g c = λ names q hist spells begins.
    let allows = g.R.HostRule.answers in
    let l = c.steps.run in
    let n = c.steps.steps in
    let table = c.args.table.now in
    let trace = c.args.run.now.trace in
    let limits = c.args.limits in
    let (given, told) = c.steps.invariant.so_far in
    let (sent, taken, far) = told names q hist spells begins in
    let answers = given ++ [] in
    let h = with_answers hist answers in
    let (reached, has) = far [] in
    let whole = sent ++ c.steps.pending.items in
    let here = at_end names q h limits trace l whole n c.steps.cells c.steps.polls reached c.steps.invariant.counted c.steps.invariant.within in
    let (left, at) = subst (λ d. IsLeft names q h limits d.steps d.ended × AtEnd q h limits trace d.steps d.cells d.polls whole) (sym c.report-due-2.ensures)
    (record { at_bound = omega (arith, c.steps-test.false, c.steps.invariant.within); going = reached.going n (omega arith); first = first_within names q h limits.cells trace l whole n c.steps.cells reached }, here) in
    ran_with allows (in_table table) q hist limits trace c.told-2.result answers n (g.O.Sink.taken c.args.out.now) (g.O.Sink.taken c.told-2.new.out) (ap (λ r. r.steps) c.told-2.ensures.same ∙ ap (λ r. r.steps) c.report-due-2.ensures)
    (has_same allows given [] [] (run_of q h n) refl has)
    (ends_told table q h limits trace c.report-due-2.result c.told-2.result whole (g.O.Sink.taken c.args.out.now) (g.O.Sink.taken c.told-2.new.out)
    (λ i. left_in names table spells q h limits c.report-due-2.result.steps c.report-due-2.result.ended i left)
    (subst (λ d. KeepsFirst q h limits.cells d.ended) (sym c.report-due-2.ensures) (first_within names q h limits.cells trace l whole n c.steps.cells reached)) at c.told-2.ensures.same (c.told-2.ensures.told (g.O.Sink.taken c.args.out.now) sent taken))

pub overflow_add-polls : goal.overflow_add-polls
overflow_add-polls g c =
    let some = subst (λ m. MadePolls m c.steps.run) c.in-Ok-Broke.field-0-is c.in-Ok-Broke.ensures.polls in
    let counted = c.steps.invariant.counted in
    let numbered = c.steps.invariant.steady.numbered in
    omega (arith, some, counted, numbered)

pub make-requires-clause-goes : goal.make-requires-clause-goes
make-requires-clause-goes g c =
    let b = c.requires.begins in
    let l = c.steps.run in
    let (given, told) = c.steps.invariant.so_far in
    let (sent, taken, far) = told b.names b.program b.history b.spells b.begins in
    let (sent_other, taken_other, far_other) = told b.other b.program b.history b.spells_other b.begins_other in
    let answers = given ++ [] in
    let pending = c.steps.pending.items in
    goes_twice c.args.table.now b.names b.other b.others b.program (with_answers b.history answers) c.args.limits.cells c.args.run.now.trace l (sent ++ pending) (sent_other ++ pending) c.steps.steps c.steps.cells
    (b.begins answers).never_stuck (far []).0 (far_other []).0 b.spells b.hosts

pub told-requires : goal.told-requires
told-requires g c =
    let b = c.requires.begins in
    let l = c.steps.run in
    let n = c.steps.steps in
    let trace = c.args.run.now.trace in
    let cap = c.args.limits.cells in
    let (given, told) = c.steps.invariant.so_far in
    let (sent, taken, far) = told b.names b.program b.history b.spells b.begins in
    let (sent_other, taken_other, far_other) = told b.other b.program b.history b.spells_other b.begins_other in
    let (said, make) = c.in-Ok-Over.ensures.made in
    let h = with_answers b.history (given ++ said) in
    let (reached, has) = far said in
    let (reached_other, has_other) = far_other said in
    let pending = c.steps.pending.items in
    let more = c.make.new.pending.items in
    let s = run_of b.program h n in
    let first = make b.names reached.fits b.spells sent s (within_cap b.names b.program h cap trace l (sent ++ pending) n c.steps.cells reached) reached.stands [] (has.left ∙ sym (append-nil said)) in
    let second = make b.other reached_other.fits b.spells_other sent_other s (within_cap b.other b.program h cap trace l (sent_other ++ pending) n c.steps.cells reached_other) reached_other.stands [] (has_other.left ∙ sym (append-nil said)) in
    subst (λ (d : RunReport). IsInTable c.args.table.now d.ended) (sym c.report-due.ensures)
    (over_known c.args.table.now b.names b.other b.others b.program h cap trace l (sent ++ pending) (sent_other ++ pending) n c.steps.cells (b.begins (given ++ said)).never_stuck reached reached_other
    c.make.new.self (sent ++ more) (sent_other ++ more) c.in-Ok-Over.outcome
    (subst (λ m. MadeSo b.names cap (Ok m) c.make.new.self (sent ++ pending) (sent ++ more) s (try_step (callbacks (program_in b.names l)) s)) c.in-Ok-Over.field-0-is first.0)
    (subst (λ m. MadeSo b.other cap (Ok m) c.make.new.self (sent_other ++ pending) (sent_other ++ more) s (try_step (callbacks (program_in b.other l)) s)) c.in-Ok-Over.field-0-is second.0))

pub told-requires-in-Ok-Broke : goal.told-requires-in-Ok-Broke
told-requires-in-Ok-Broke g c =
    let b = c.requires.begins in
    let l = c.steps.run in
    let n = c.steps.steps in
    let trace = c.args.run.now.trace in
    let cap = c.args.limits.cells in
    let (given, told) = c.steps.invariant.so_far in
    let (sent, taken, far) = told b.names b.program b.history b.spells b.begins in
    let (sent_other, taken_other, far_other) = told b.other b.program b.history b.spells_other b.begins_other in
    let (said, make) = c.in-Ok-Broke.ensures.made in
    let h = with_answers b.history (given ++ said) in
    let (reached, has) = far said in
    let (reached_other, has_other) = far_other said in
    let pending = c.steps.pending.items in
    let more = c.make.new.pending.items in
    let s = run_of b.program h n in
    let first = make b.names reached.fits b.spells sent s (within_cap b.names b.program h cap trace l (sent ++ pending) n c.steps.cells reached) reached.stands [] (has.left ∙ sym (append-nil said)) in
    let second = make b.other reached_other.fits b.spells_other sent_other s (within_cap b.other b.program h cap trace l (sent_other ++ pending) n c.steps.cells reached_other) reached_other.stands [] (has_other.left ∙ sym (append-nil said)) in
    subst (λ (d : RunReport). IsInTable c.args.table.now d.ended) (sym c.report-due-in-Ok-Broke.ensures)
    (broke_known c.args.table.now b.names b.other b.others b.program h cap trace l (sent ++ pending) (sent_other ++ pending) n c.steps.cells (b.begins (given ++ said)).never_stuck reached reached_other
    c.make.new.self (sent ++ more) (sent_other ++ more) c.in-Ok-Broke.fault c.in-Ok-Broke.function
    (subst (λ m. MadeSo b.names cap (Ok m) c.make.new.self (sent ++ pending) (sent ++ more) s (try_step (callbacks (program_in b.names l)) s)) c.in-Ok-Broke.field-0-is first.0)
    (subst (λ m. MadeSo b.other cap (Ok m) c.make.new.self (sent_other ++ pending) (sent_other ++ more) s (try_step (callbacks (program_in b.other l)) s)) c.in-Ok-Broke.field-0-is second.0))

pub told-requires-in-Ok-Full : goal.told-requires-in-Ok-Full
told-requires-in-Ok-Full g c = subst (λ (d : RunReport). IsInTable c.args.table.now d.ended) (sym c.report-due-in-Ok-Full.ensures) tt

pub told-requires-2 : goal.told-requires-2
told-requires-2 g c = subst (λ (d : RunReport). IsInTable c.args.table.now d.ended) (sym c.report-due-2.ensures) tt
