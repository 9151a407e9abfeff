use Rattle.std.proofs.Common.{IfOk, subst}
use Rattle.cpc_printer.specs.Style.{IsPrint}
use Rattle.cpc_translate.proofs.passes.lifted_text.Goals as goal

pub returns : goal.returns
returns c =
    let given = c.requires.given in
    subst (λ q. IfOk c.print.result (λ printed. IsPrint printed.items q)) (c.in_ok-event.ensures.is given.speakable given.within c.requires.functions given.names) c.print.ensures.row
