use Rattle.std.proofs.Common.{refl, sym}
use Rattle.std.specs.Arc.{arc_value}
use Rattle.cpc_tree.specs.Erase.{in_table, program_of}
use Rattle.cpc_run_workers.specs.Hosts.{with_answers}
use Rattle.cpc_run_workers.specs.Reports.{history_of}
use Rattle.cpc_cli_command.specs.Commands.{asked_options}
use Rattle.cpc_cli.proofs.RunLemmas.{ended_full, ended_hosted, ended_over, ended_starved, ended_steps, ended_unwritten, over_starved}
use Rattle.cpc_cli.proofs.running.run_bare.Goals as goal

pub returns-in-Ok-clause-ended : goal.returns-in-Ok-clause-ended
returns-in-Ok-clause-ended g c =
    let told = c.run_with_workers-ran.ensures.told c.requires.hosts in
    let ran = told.2 in
    let p = (arc_value c.args.program.now).program in (
      told.0,
      told.1,
      record {
        answers = ran.answers;
        answered = record { answered = ran.answered; meets = ran.meets };
        ran = ended_over (in_table p.names) (program_of p) (with_answers (history_of c.args.polls.now c.args.options.section_steps) ran.answers) (asked_options c.args.options) _ refl refl c.requires.some c.run_with_workers-ran.result told.0 ran.tells c.args.report.now
            c.in-Over.outcome c.in-Ok.outcome c.in-Over.is (rw (sym c.deref.ensures) c.in-Ok.ensures.is) c.in-Ok.ensures.counted;
      },
    )

pub returns-in-Err-clause-ended : goal.returns-in-Err-clause-ended
returns-in-Err-clause-ended g c =
    let told = c.run_with_workers-ran.ensures.told c.requires.hosts in
    let ran = told.2 in
    let p = (arc_value c.args.program.now).program in (
      told.0,
      told.1,
      record {
        answers = ran.answers;
        answered = record { answered = ran.answered; meets = ran.meets };
        ran = over_starved (in_table p.names) (program_of p) (with_answers (history_of c.args.polls.now c.args.options.section_steps) ran.answers) (asked_options c.args.options) _ refl refl c.requires.some c.run_with_workers-ran.result told.0 ran.tells c.args.report.now
            c.in-Over.outcome c.in-Over.is;
      },
    )

pub returns-in-Steps-clause-ended : goal.returns-in-Steps-clause-ended
returns-in-Steps-clause-ended g c =
    let told = c.run_with_workers-ran.ensures.told c.requires.hosts in
    let ran = told.2 in
    let p = (arc_value c.args.program.now).program in (
      told.0,
      told.1,
      record {
        answers = ran.answers;
        answered = record { answered = ran.answered; meets = ran.meets };
        ran = ended_steps (in_table p.names) (program_of p) (with_answers (history_of c.args.polls.now c.args.options.section_steps) ran.answers) (asked_options c.args.options) _ refl refl c.requires.some c.run_with_workers-ran.result told.0 ran.tells c.args.report.now
            c.in-Steps.is;
      },
    )

pub returns-in-Full-clause-ended : goal.returns-in-Full-clause-ended
returns-in-Full-clause-ended g c =
    let told = c.run_with_workers-ran.ensures.told c.requires.hosts in
    let ran = told.2 in
    let p = (arc_value c.args.program.now).program in (
      told.0,
      told.1,
      record {
        answers = ran.answers;
        answered = record { answered = ran.answered; meets = ran.meets };
        ran = ended_full (in_table p.names) (program_of p) (with_answers (history_of c.args.polls.now c.args.options.section_steps) ran.answers) (asked_options c.args.options) _ refl refl c.requires.some c.run_with_workers-ran.result told.0 ran.tells c.args.report.now
            c.in-Full.asked c.in-Full.is;
      },
    )

pub returns-in-WriteFault-clause-ended : goal.returns-in-WriteFault-clause-ended
returns-in-WriteFault-clause-ended g c =
    let told = c.run_with_workers-ran.ensures.told c.requires.hosts in
    let ran = told.2 in
    let p = (arc_value c.args.program.now).program in (
      told.0,
      told.1,
      record {
        answers = ran.answers;
        answered = record { answered = ran.answered; meets = ran.meets };
        ran = (
          c.run_with_workers-ran.ensures.cause c.in-WriteFault.is,
          ended_unwritten (in_table p.names) (program_of p) (with_answers (history_of c.args.polls.now c.args.options.section_steps) ran.answers) (asked_options c.args.options) _ refl refl c.requires.some c.run_with_workers-ran.result told.0 ran.tells c.args.report.now
              c.in-WriteFault.is,
        );
      },
    )

pub returns-in-Memory-clause-ended : goal.returns-in-Memory-clause-ended
returns-in-Memory-clause-ended g c =
    let told = c.run_with_workers-ran.ensures.told c.requires.hosts in
    let ran = told.2 in
    let p = (arc_value c.args.program.now).program in (
      told.0,
      told.1,
      record {
        answers = ran.answers;
        answered = record { answered = ran.answered; meets = ran.meets };
        ran = ended_starved (in_table p.names) (program_of p) (with_answers (history_of c.args.polls.now c.args.options.section_steps) ran.answers) (asked_options c.args.options) _ refl refl c.requires.some c.run_with_workers-ran.result told.0 ran.tells c.args.report.now
            c.in-Memory.is;
      },
    )

-- all functions of the host are there
pub unreachable-requires : goal.unreachable-requires
unreachable-requires g c =
    let told = c.run_with_workers-ran.ensures.told c.requires.hosts in
    let ran = told.2 in
    let p = (arc_value c.args.program.now).program in
    ended_hosted (in_table p.names) (program_of p) (with_answers (history_of c.args.polls.now c.args.options.section_steps) ran.answers) (asked_options c.args.options) _ refl refl c.requires.some
    c.run_with_workers-ran.result told.0 ran.tells c.args.report.now _ c.in-NoHost.is
