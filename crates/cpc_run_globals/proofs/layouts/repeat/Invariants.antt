use Rattle.std.proofs.Common.{◌≡◌, ◌≤◌, ◌++◌, List, length}
use Rattle.cpc_store.specs.declared.values.Scalar.{Scalar}
use Rattle.cpc_run_globals.specs.Rows.{repeated}
use Rattle.cpc_run_globals.proofs.layouts.repeat.Given as goal

-- so many rows are there
abbrev pub invariant-loop-round : goal.invariant-loop-round
invariant-loop-round l = record {
  room : length l.fn.row.items ≤ length l.row.items;
  rows : (front cells : List Scalar) → l.fn.row.items ≡ front ++ cells → length front ≡ l.start → l.row.items ≡ front ++ repeated l._round cells;
}
