use Rattle.std.proofs.Common.{◌≡◌, map, take}
use Rattle.cpc_forms_code.specs.declared.graph.GraphFunction.{GraphFunction}
use Rattle.cpc_graph.proofs.graphs.graph.Given as goal

-- the functions so far
abbrev pub invariant-loop-function : goal.invariant-loop-function
invariant-loop-function l = map (λ (g : GraphFunction). g.boxed.now) l.functions.items ≡ take l.function-index l.function-items
