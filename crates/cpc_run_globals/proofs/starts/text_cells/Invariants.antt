use Rattle.std.proofs.Common.{◌≡◌, ◌++◌, map, drop}
use Rattle.std.specs.List.{All}
use Rattle.cpc_store.specs.Seen.{seen, IsLawful}
use Rattle.cpc_tree.specs.Erase.{Names}
use Rattle.cpc_meaning.specs.Start as M
use Rattle.cpc_eval_values.specs.Shown.{values_of}
use Rattle.cpc_run_globals.proofs.starts.text_cells.Given as goal

-- the cells so far, and those that are left
abbrev pub invariant-loop-i : goal.invariant-loop-i
invariant-loop-i l = record {
  value : (names : Names) → M.text_over l.bytes (map M.zero_of l.row) ≡ values_of names l.cells.items ++ M.text_over (drop l.i l.bytes) (map M.zero_of (drop l.i l.row));
  lawful : All (λ v. IsLawful (seen v)) l.cells.items;
}
