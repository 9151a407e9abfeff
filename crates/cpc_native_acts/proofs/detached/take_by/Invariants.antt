use Rattle.std.specs.List.{All}
use Rattle.std.specs.Borrow.{Bor}
use Rattle.std.proofs.Common.{option_map}
use Rattle.cpc_tree.specs.Erase.{Names, function_of}
use Rattle.cpc_tree.specs.declared.program.Function as G
use Rattle.cpc_store.specs.Seen.{seen, IsLawful}
use Rattle.cpc_meaning.specs.Requests.{taken_as}
use Rattle.cpc_eval_values.specs.Shown.{values_of}
use Rattle.cpc_native_plans.specs.Rows.{detached_with}
use Rattle.cpc_native_plans.specs.Parts.{Stands}
use Rattle.cpc_native_plans.proofs.Rowing.{each, so_far}
use Rattle.cpc_native_acts.proofs.detached.take_by.Given as goal

-- the values that are left decide
abbrev pub invariant-loop-i : goal.invariant-loop-i
invariant-loop-i l = record {
  lawful : All (λ v. IsLawful (seen v)) l.values;
  rest : (names : Names) → Stands (so_far taken_as names (detached_with (option_map (λ (f : Bor G.Function). function_of names f.now) l.function)) l.values l.i)
      (each taken_as (detached_with (option_map (λ (f : Bor G.Function). function_of names f.now) l.function)) (values_of names l.initial.values));
}
