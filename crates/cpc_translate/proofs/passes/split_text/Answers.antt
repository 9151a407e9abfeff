use Rattle.std.proofs.Common.{IfOk, subst}
use Rattle.cpc_tree.specs.Erase.{program_of}
use Rattle.cpc_printer.specs.Style.{IsPrint}
use Rattle.cpc_chains_event.specs.Converted.{converted}
use Rattle.cpc_translate.proofs.Functions.{lifted_is_of}
use Rattle.cpc_translate.proofs.passes.split_text.Goals as goal

pub lifted_text-requires-clause-functions : goal.lifted_text-requires-clause-functions
lifted_text-requires-clause-functions c = lifted_is_of c.args.split.now c.in_ok-lifted.lifted c.in_ok-lifted.ensures.source c.in_ok-lifted.ensures.functions c.requires.functions

pub returns : goal.returns
returns c = subst (λ p. IfOk c.lifted_text.result (λ printed. IsPrint printed.items (converted (program_of p)))) c.in_ok-lifted.ensures.source c.lifted_text.ensures
