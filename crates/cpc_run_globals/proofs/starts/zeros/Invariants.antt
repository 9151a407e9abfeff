use Rattle.std.proofs.Common.{◌≡◌, map, take}
use Rattle.std.specs.List.{All}
use Rattle.cpc_store.specs.Seen.{seen, IsLawful}
use Rattle.cpc_tree.specs.Erase.{Names}
use Rattle.cpc_meaning.specs.Start as M
use Rattle.cpc_eval_values.specs.Shown.{values_of}
use Rattle.cpc_run_globals.proofs.starts.zeros.Given as goal

-- the cells so far
abbrev pub invariant-loop-scalar : goal.invariant-loop-scalar
invariant-loop-scalar l = record {
  value : (names : Names) → values_of names l.cells.items ≡ map M.zero_of (take l.scalar-index l.row);
  lawful : All (λ v. IsLawful (seen v)) l.cells.items;
}
