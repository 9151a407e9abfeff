use Rattle.std.proofs.Common.{◌≡◌, map, take}
use Rattle.cpc_forms_code.specs.declared.split.SplitFunction.{SplitFunction}
use Rattle.cpc_split.proofs.splitting.split.Given as goal

-- the functions so far
abbrev pub invariant-loop-function : goal.invariant-loop-function
invariant-loop-function l = map (λ (f : SplitFunction). f.graph.now) l.functions.items ≡ take l.function-index l.function-items
