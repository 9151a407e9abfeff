use Rattle.std.proofs.Common.{◌≡◌, ◌+◌, ◌<◌, ◌^◌, map, drop, option_map}
use Rattle.cpc_tree.specs.Erase.{Names, item_of}
use Rattle.cpc_check_rules.specs.Apart.{AreApart}
use Rattle.cpc_eval_index.specs.Sized.{capped}
use Rattle.cpc_run_globals.specs.Counts.{all_cells}
use Rattle.cpc_run_globals.proofs.counts.global_cells.Given as goal

-- the cells of the globals so far, and of those that are left
abbrev pub invariant-loop-item : goal.invariant-loop-item
invariant-loop-item l = record {
  low : l.total < 2 ^ 64;
  rest : (names : Names) → AreApart names
      → option_map capped (all_cells (map (item_of names) l.program.items.items) (map (item_of names) l.program.items.items))
      ≡ option_map (λ n. capped (l.total + n)) (all_cells (map (item_of names) l.program.items.items) (map (item_of names) (drop l.item-index l.program.items.items)));
}
