use Rattle.std.proofs.Common.{ap, sym, ◌∙◌, Err}
use Rattle.cpc_tree.specs.Located.{bare}
use Rattle.cpc_tree.specs.Locate.{located}
use Rattle.cpc_tree.proofs.Places.{bare_program}
use Rattle.cpc_translate.proofs.OneReading.{one_program, not_refused}
use Rattle.cpc_translate.proofs.reading.read_again.Goals as goal

pub unreachable-requires : goal.unreachable-requires
unreachable-requires c =
    let fault = c.in-Err-Fault.field-0-0 in
    not_refused c.args.dialect c.args.text.now c.requires.0 c.requires.1 fault (c.read.ensures.refused fault (c.in-Err-Fault.is ∙ ap Err c.in-Err-Fault.field-0-is))

pub returns-in-Ok-clause-equal : goal.returns-in-Ok-clause-equal
returns-in-Ok-clause-equal c = λ q accepted.
    let p = c.in-Ok.checked.program in
    sym (bare_program p) ∙ ap bare (one_program c.args.dialect c.args.text.now (located p) q c.in-Ok.ensures.accepted.parses accepted.parses)
