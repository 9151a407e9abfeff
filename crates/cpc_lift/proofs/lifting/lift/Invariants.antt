use Rattle.std.proofs.Common.{◌≡◌, map, take}
use Rattle.cpc_forms_code.specs.declared.lifted.LiftedFunction.{LiftedFunction}
use Rattle.cpc_lift.proofs.lifting.lift.Given as goal

-- the functions so far
abbrev pub invariant-loop-function : goal.invariant-loop-function
invariant-loop-function l = map (λ (f : LiftedFunction). f.split.now) l.functions.items ≡ take l.function-index l.function-items
