use Rattle.std.proofs.Common.{[]}
use Rattle.cpc_tree.specs.Erase.{in_table, program_of}
use Rattle.cpc_run.specs.Hosts.{with_answers}
use Rattle.cpc_run.specs.Reports.{history_of}
use Rattle.cpc_run.proofs.Given.{none_given, ran_with, starved_ran}
use Rattle.cpc_run.proofs.run.run_program.Goals as goal

pub returns-then-first-limits-clause-told : goal.returns-then-first-limits-clause-told
returns-then-first-limits-clause-told g c =
    let both = c.requires.given in
    let p = c.args.program.now in
    let h = history_of c.args.polls.now c.args.limits.section_steps in
    let allows = g.R.HostRule.answers in
    ran_with allows (in_table p.names) (program_of p) h c.args.limits c.args.trace c.left_at_first.result [] 0 (g.O.Sink.taken c.args.out.now) (g.O.Sink.taken c.left_at_first.new.out) c.left_at_first.ensures.steps (none_given allows (program_of p) h [])
    (c.left_at_first.ensures.told (with_answers h []) c.args.limits (c.in-Ok.ensures both.names both.first h) c.if-first-limits.true)

pub returns-in-Err-clause-told : goal.returns-in-Err-clause-told
returns-in-Err-clause-told g c = starved_ran g.R.HostRule.answers (in_table c.args.program.now.names) (program_of c.args.program.now) (history_of c.args.polls.now c.args.limits.section_steps) c.args.limits c.args.trace (g.O.Sink.taken c.args.out.now)

pub run_from-requires-clause-first : goal.run_from-requires-clause-first
run_from-requires-clause-first g c =
    let both = c.requires.given in
    c.in-Ok.ensures both.names both.first (history_of c.args.polls.now c.args.limits.section_steps)
