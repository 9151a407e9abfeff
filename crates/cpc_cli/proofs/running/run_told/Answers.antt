use Rattle.std.proofs.Common.{◌≡◌, ◌∙◌, ap, inl, inr, map, refl, subst, sym, option_map, Some, None, []}
use Rattle.cpc_base.proofs.Pieces.{append_known-nil}
use Rattle.cpc_base.specs.Outside.{Rose}
use Rattle.cpc_check.specs.declared.checked.Checked.{Checked}
use Rattle.cpc_tree.specs.Erase.{in_table, program_of}
use Rattle.cpc_history_marks.specs.Views.{told_of}
use Rattle.cpc_run_workers.specs.Hosts.{missing_of}
use Rattle.cpc_cli_command.specs.Commands.{asked_options}
use Rattle.cpc_cli.specs.Command.{host_of}
use Rattle.cpc_cli.proofs.TopLemmas.{told_polls}
use Rattle.cpc_cli.specs.Asked.{is_early}
use Rattle.cpc_cli.proofs.AskedLemmas.{asks_nothing, late_history, ran_late, untold_late}
use Rattle.cpc_cli.proofs.running.run_told.Goals as goal

pub run_back-requires-clause-hosts : goal.run_back-requires-clause-hosts
run_back-requires-clause-hosts g c = λ κs within.
    rw c.in-Ok-new.ensures.ok (sym c.missing_host.ensures ∙ ap (option_map (in_table c.args.program.program.names)) c.in_default.is)

pub returns-in-Some-clause-ended : goal.returns-in-Some-clause-ended
returns-in-Some-clause-ended g c =
    let missing = sym c.missing_host.ensures ∙ ap (option_map (in_table c.args.program.program.names)) c.in-Some.is in
    ([], sym (append_known-nil (g.O.Sink.taken c.args.out.now)), inl (c.lacks.ensures _ missing, c.requires.fresh, refl))

pub returns-in-Ok-new-clause-ended : goal.returns-in-Ok-new-clause-ended
returns-in-Ok-new-clause-ended g c =
    let has = sym c.missing_host.ensures ∙ ap (option_map (in_table c.args.program.program.names)) c.in_default.is in
    let ran = c.run_back.ensures.ended in
    let unwritten = Rose (g.O.Sink.faults c.args.out.now) (g.O.Sink.faults c.run_back.new.out) in
    let same = ap (λ (p : Checked). program_of p.program) c.in-Ok-new.ensures.ok in
    let so = told_polls _ _ (program_of c.args.program.program) (asked_options c.args.options) c.args.text c.run_back.new.report unwritten ran.0 c.run_back.result _ c.in-Ok.polls.items same c.as_slice.ensures.value ran.2 in
    (ran.0, ran.1, inr (has, inr (map told_of c.in-Ok.polls.items, c.in-Ok.ensures.told, so)))

pub returns-clause-ended : goal.returns-clause-ended
returns-clause-ended g c =
    let has = sym c.missing_host.ensures ∙ ap (option_map (in_table c.args.program.program.names)) c.in_default.is in
    ([], sym (append_known-nil (g.O.Sink.taken c.args.out.now)), inr (has, inl (tt, c.requires.fresh, refl)))

pub returns-in-Err-clause-ended : goal.returns-in-Err-clause-ended
returns-in-Err-clause-ended g c =
    let has = sym c.missing_host.ensures ∙ ap (option_map (in_table c.args.program.program.names)) c.in_default.is in
    ([], sym (append_known-nil (g.O.Sink.taken c.args.out.now)), inr (has, inl (c.in-Err.ensures.refused c.in-Err.end refl, c.requires.fresh, refl)))

pub returns-in-Some-clause-asked : goal.returns-in-Some-clause-asked
returns-in-Some-clause-asked g c = asks_nothing (g.F.Shelf.asked c.args.shelf.now) _

pub returns-in-Ok-new-clause-asked : goal.returns-in-Ok-new-clause-asked
returns-in-Ok-new-clause-asked g c =
    late_history (g.F.Shelf.asked c.args.shelf.now) (g.F.Shelf.asked c.polls_of.new.shelf) (asked_options c.args.options).history (is_early c.run_back.result)
    (ran_late _ _ _ _ _ _ _ c.run_back.result c.run_back.ensures.ended.2.ran) c.polls_of.ensures.asked

pub returns-in-Err-clause-asked : goal.returns-in-Err-clause-asked
returns-in-Err-clause-asked g c =
    late_history (g.F.Shelf.asked c.args.shelf.now) (g.F.Shelf.asked c.polls_of.new.shelf) (asked_options c.args.options).history (is_early c.in-Err.end)
    (untold_late _ _ _ c.in-Err.end (c.in-Err.ensures.refused c.in-Err.end refl)) c.polls_of.ensures.asked
