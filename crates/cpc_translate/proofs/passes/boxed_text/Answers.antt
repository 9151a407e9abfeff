use Rattle.std.proofs.Common.{IfOk, subst}
use Rattle.cpc_tree.specs.Erase.{program_of}
use Rattle.cpc_printer.specs.Style.{IsPrint}
use Rattle.cpc_chains_event.specs.Converted.{converted}
use Rattle.cpc_translate.proofs.Functions.{graph_is_of}
use Rattle.cpc_translate.proofs.passes.boxed_text.Goals as goal

pub graph_text-requires-clause-functions : goal.graph_text-requires-clause-functions
graph_text-requires-clause-functions c = graph_is_of c.args.boxed.now c.in_ok-graph.graph c.in_ok-graph.ensures.source c.in_ok-graph.ensures.functions c.requires.functions

pub returns : goal.returns
returns c = subst (λ p. IfOk c.graph_text.result (λ printed. IsPrint printed.items (converted (program_of p)))) c.in_ok-graph.ensures.source c.graph_text.ensures
