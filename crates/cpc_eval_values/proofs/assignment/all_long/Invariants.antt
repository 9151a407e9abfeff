use Rattle.std.proofs.Common.{◌≡◌, take, drop, Ok}
use Rattle.std.specs.List.{All}
use Rattle.cpc_tree.specs.Erase.{Names}
use Rattle.cpc_store.specs.Seen.{seen, IsLawful}
use Rattle.cpc_meaning.specs.Requests as R
use Rattle.cpc_eval_values.specs.Meets.{Meets}
use Rattle.cpc_eval_values.specs.Shown.{values_of}
use Rattle.cpc_eval_values.proofs.assignment.all_long.Given as goal

abbrev pub invariant-loop-value : goal.invariant-loop-value
invariant-loop-value l = record {
  done : (names : Names) → Meets (Ok (values_of names (take l.value-index l.values))) (R.all_long (values_of names (take l.value-index l.fn.values)));
  left : drop l.value-index l.values ≡ drop l.value-index l.fn.values;
  lawful : All (λ v. IsLawful (seen v)) l.values;
}
