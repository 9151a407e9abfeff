use Rattle.std.proofs.Common.{◌≡◌, List, map, Some}
use Rattle.std.specs.List.{All}
use Rattle.cpc_tree.specs.Erase.{Names}
use Rattle.cpc_tree.specs.Primitives as P
use Rattle.cpc_store.specs.Seen.{seen, IsLawful}
use Rattle.cpc_meaning.specs.Requests.{taken_as}
use Rattle.cpc_eval_values.specs.Shown.{values_of}
use Rattle.cpc_eval_values.specs.Takes.{taken_of}
use Rattle.cpc_native_plans.specs.Parts.{Stands}
use Rattle.cpc_native_plans.proofs.Rowing.{each, so_far}
use Rattle.cpc_native_acts.proofs.taken.take_all.Given as goal

-- the values that are left decide
abbrev pub invariant-loop-i : goal.invariant-loop-i
invariant-loop-i l = record {
  lawful : All (λ v. IsLawful (seen v)) l.values;
  rest : (names : Names) (ts : List P.Taken) → map Some l.takes ≡ map taken_of ts → Stands (so_far taken_as names ts l.values l.i) (each taken_as ts (values_of names l.initial.values));
}
