use Rattle.std.proofs.Common.{subst}
use Rattle.cpc_tree.specs.Erase.{in_table, program_of}
use Rattle.cpc_run.specs.Hosts.{with_answers}
use Rattle.cpc_run.specs.Reports.{Ran, Wrote, history_of}
use Rattle.cpc_run.proofs.Ends.{begins}
use Rattle.cpc_run.proofs.Given.{opened_with, starved_ran}
use Rattle.cpc_run.proofs.Twice.{main_there}
use Rattle.cpc_run.proofs.run.run_from.Goals as goal

pub returns-clause-told : goal.returns-clause-told
returns-clause-told g c =
    let p = c.args.program.now in
    let h = history_of c.args.polls.now c.args.limits.section_steps in
    let names = c.requires.given.names in
    let given = c.requires.given.first in
    subst (λ b. Wrote (g.O.Sink.taken c.args.out.now) (g.O.Sink.taken c.run_on.new.out) (Ran g.R.HostRule.answers (in_table p.names) (program_of p) h c.args.limits b c.run_on.result)) c.in-Ok.ensures.trace
    (c.run_on.ensures.told names (program_of p) h given.spelled.spells (λ answers.
    let now = with_answers h answers in
    begins names p now c.in-Ok.run' c.args.first (opened_with names p h c.in-Ok.run' answers (c.in-Ok.ensures.opened names given)) given.spelled.same (c.requires.never_stuck now) c.requires.first))

pub returns-in-Err-clause-told : goal.returns-in-Err-clause-told
returns-in-Err-clause-told g c = starved_ran g.R.HostRule.answers (in_table c.args.program.now.names) (program_of c.args.program.now) (history_of c.args.polls.now c.args.limits.section_steps) c.args.limits c.args.trace (g.O.Sink.taken c.args.out.now)

pub open-requires-clause-main : goal.open-requires-clause-main
open-requires-clause-main g c =
    let h = history_of c.args.polls.now c.args.limits.section_steps in
    main_there (program_of c.args.program.now) h (c.requires.never_stuck h)

pub run_on-requires-clause-begins : goal.run_on-requires-clause-begins
run_on-requires-clause-begins g c =
    let p = c.args.program.now in
    let h = history_of c.args.polls.now c.args.limits.section_steps in
    let both = c.requires.given in
    record {
      names = both.names;
      other = both.other;
      others = both.others;
      program = program_of p;
      history = h;
      spells = both.first.spelled.spells;
      spells_other = both.second.spelled.spells;
      hosts = c.requires.hosts;
      begins = λ answers.
          begins both.names p (with_answers h answers) c.in-Ok.run' c.args.first (opened_with both.names p h c.in-Ok.run' answers (c.in-Ok.ensures.opened both.names both.first)) both.first.spelled.same (c.requires.never_stuck (with_answers h answers)) c.requires.first;
      begins_other = λ answers.
          begins both.other p (with_answers h answers) c.in-Ok.run' c.args.first (opened_with both.other p h c.in-Ok.run' answers (c.in-Ok.ensures.opened both.other both.second)) both.second.spelled.same (c.requires.never_stuck (with_answers h answers)) c.requires.first;
    }
