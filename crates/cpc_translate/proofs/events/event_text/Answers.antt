use Rattle.std.proofs.Common.{IfOk, subst, sym}
use Rattle.cpc_tree.specs.Erase.{program_of}
use Rattle.cpc_printer.specs.Style.{IsPrint}
use Rattle.cpc_chains_event.specs.Converted.{converted}
use Rattle.cpc_translate.specs.Passes.{IsGiven}
use Rattle.cpc_translate.proofs.Whole.{is_given}
use Rattle.cpc_translate.proofs.events.event_text.Goals as goal

pub boxed_text-requires-clause-given : goal.boxed_text-requires-clause-given
boxed_text-requires-clause-given c =
    let read = c.requires.read in
    subst IsGiven (sym c.in_ok-boxed.ensures.source)
    (is_given read.text c.args.source.now (record { parses = read.parses; unbroken = c.requires.unbroken }) c.is_speakable.ensures c.requires.within)

pub returns : goal.returns
returns c = subst (λ p. IfOk c.boxed_text.result (λ printed. IsPrint printed.items (converted (program_of p)))) c.in_ok-boxed.ensures.source c.boxed_text.ensures
