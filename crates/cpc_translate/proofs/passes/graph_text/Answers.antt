use Rattle.std.proofs.Common.{IfOk, subst}
use Rattle.cpc_tree.specs.Erase.{program_of}
use Rattle.cpc_printer.specs.Style.{IsPrint}
use Rattle.cpc_chains_event.specs.Converted.{converted}
use Rattle.cpc_translate.proofs.Functions.{split_is_of}
use Rattle.cpc_translate.proofs.passes.graph_text.Goals as goal

pub split_text-requires-clause-functions : goal.split_text-requires-clause-functions
split_text-requires-clause-functions c = split_is_of c.args.graph.now c.in_ok-split.split c.in_ok-split.ensures.source c.in_ok-split.ensures.functions c.requires.functions

pub returns : goal.returns
returns c = subst (λ p. IfOk c.split_text.result (λ printed. IsPrint printed.items (converted (program_of p)))) c.in_ok-split.ensures.source c.split_text.ensures
