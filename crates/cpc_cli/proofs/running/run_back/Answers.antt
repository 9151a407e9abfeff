use Rattle.std.proofs.Common.{◌≡◌, ◌∙◌, ap, sym, subst, refl, [], ◌++◌}
use Rattle.std.specs.Arc.{arc_value}
use Rattle.std.specs.Io.KnownBytes.{append_known}
use Rattle.cpc_base.proofs.Pieces.{append_known-append}
use Rattle.cpc_tree.specs.Erase.{program_of}
use Rattle.cpc_cli_command.specs.Commands.{asked_options}
use Rattle.cpc_run_workers.specs.Reports.{IsCutShort}
use Rattle.cpc_cli.specs.Ran.{heading}
use Rattle.cpc_cli.proofs.TopLemmas.{answered_behind, rose_earlier, unasked, unbegun}
use Rattle.cpc_cli.proofs.running.run_back.Goals as goal

pub returns-in-Err-clause-ended : goal.returns-in-Err-clause-ended
returns-in-Err-clause-ended g c =
    let h = c.in-Err.ensures.wrote in (
      h.0,
      h.1,
      record {
        answers = [];
        answered = unasked _ _ (asked_options c.args.options) _ c.args.report.now c.requires.fresh;
        ran = (c.in-Err.ensures.cause _ refl, unbegun _ _ _ c.args.text c.args.report.now h.0 c.requires.fresh (subst (λ t. IsCutShort h.0 (heading c.args.text t)) c.as_slice.ensures.value h.2));
      },
    )

pub returns-in-Ok-clause-ended : goal.returns-in-Ok-clause-ended
returns-in-Ok-clause-ended g c =
    let h = c.in-Ok.ensures.wrote in
    let ran = c.run_bare.ensures.ended in
    let front : h.0 ≡ heading c.args.text c.run_bare.new.report.printed.items = h.2 ∙ ap (heading c.args.text) (c.as_slice.ensures.value ∙ ap (λ v. v.items) (sym c.run_bare.ensures.kept)) in (
      h.0 ++ ran.0,
      ran.1 ∙ ap (λ t. append_known t ran.0) h.1 ∙ append_known-append (g.O.Sink.taken c.args.out.now) h.0 ran.0,
      answered_behind _ (program_of (arc_value c.args.program.now).program) _ _ c.args.text c.run_bare.new.report _ _ h.0 ran.0 (rose_earlier _ _ _ c.in-Ok.ensures.later) front c.run_bare.result ran.2,
    )
