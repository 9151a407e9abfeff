use Rattle.std.proofs.Common.{subst, sym, ◌∙◌}
use Rattle.cpc_tree.specs.Erase.{program_of}
use Rattle.cpc_printer.specs.Style.{IsPrint}
use Rattle.cpc_chains_event.specs.Converted.{converted}
use Rattle.cpc_translate.proofs.Whole.{print_accepted, runs_same, runs_within, has_shape, has_no_leak}
use Rattle.cpc_translate.proofs.translating.translate.Goals as goal

pub read_again-requires : goal.read_again-requires
read_again-requires c =
    let s = c.in_ok-source.ensures in
    let p = c.in_ok-source.source.program in
    let q = print_accepted c.args.text.now p s.accepted s.bytes c.as_slice.result.now (subst (λ t. IsPrint t (converted (program_of p))) (sym c.as_slice.ensures.value) c.in-Ok.ensures) in
    (q.0, q.1)

pub returns-in-Ok-read_again-clause-equal : goal.returns-in-Ok-read_again-clause-equal
returns-in-Ok-read_again-clause-equal c =
    let s = c.in_ok-source.ensures in
    let p = c.in_ok-source.source.program in
    let q = print_accepted c.args.text.now p s.accepted s.bytes c.as_slice.result.now (subst (λ t. IsPrint t (converted (program_of p))) (sym c.as_slice.ensures.value) c.in-Ok.ensures) in
    c.in-Ok-read_again.ensures.equal q.0 q.1 ∙ q.2

pub returns-in-Ok-read_again-clause-print : goal.returns-in-Ok-read_again-clause-print
returns-in-Ok-read_again-clause-print c = subst (λ q. IsPrint c.in-Ok.printed.items q) (sym (returns-in-Ok-read_again-clause-equal c)) c.in-Ok.ensures

pub returns-in-Ok-read_again-clause-same : goal.returns-in-Ok-read_again-clause-same
returns-in-Ok-read_again-clause-same c =
    let s = c.in_ok-source.ensures in
    runs_same c.args.text.now c.in_ok-source.source.program s.accepted c.converted_has_the_same_runs.ensures.law (program_of c.in-Ok-read_again.read_back.program) (returns-in-Ok-read_again-clause-equal c)

pub returns-in-Ok-read_again-clause-within : goal.returns-in-Ok-read_again-clause-within
returns-in-Ok-read_again-clause-within c =
    let s = c.in_ok-source.ensures in
    runs_within c.args.text.now c.in_ok-source.source.program s.accepted c.converted_has_the_same_runs.ensures.law (program_of c.in-Ok-read_again.read_back.program) (returns-in-Ok-read_again-clause-equal c)

pub returns-in-Ok-read_again-clause-shape : goal.returns-in-Ok-read_again-clause-shape
returns-in-Ok-read_again-clause-shape c =
    let s = c.in_ok-source.ensures in
    has_shape c.args.text.now c.in_ok-source.source.program s.accepted (program_of c.in-Ok-read_again.read_back.program) (returns-in-Ok-read_again-clause-equal c)

pub returns-in-Ok-read_again-clause-no_leak : goal.returns-in-Ok-read_again-clause-no_leak
returns-in-Ok-read_again-clause-no_leak c =
    let s = c.in_ok-source.ensures in
    has_no_leak c.args.text.now c.in_ok-source.source.program s.accepted c.converted_rests_with_held_frames.ensures.law (program_of c.in-Ok-read_again.read_back.program) (returns-in-Ok-read_again-clause-equal c)
