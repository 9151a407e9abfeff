use Rattle.std.proofs.Common.{◌≡◌, map, drop, reverse}
use Rattle.cpc_store.specs.Store as S
use Rattle.cpc_tree.specs.Erase.{Names, item_of}
use Rattle.cpc_meaning.specs.Start as M
use Rattle.cpc_check_rules.specs.Apart.{AreApart}
use Rattle.cpc_run_globals.specs.Layouts.{AreLayouts}
use Rattle.cpc_eval_values.specs.Shown.{store_of}
use Rattle.cpc_run_globals.proofs.making.globals.Given as goal

-- the globals that are left go behind those that are there
abbrev pub invariant-loop-item : goal.invariant-loop-item
invariant-loop-item l = (names : Names) → AreApart names → AreLayouts l.layouts names (reverse (map (item_of names) l.program.items.items))
    → M.make_globals (map (item_of names) l.program.items.items) (map (item_of names) l.program.items.items) S.empty_store ≡ M.make_globals (map (item_of names) l.program.items.items) (map (item_of names) (drop l.item-index l.program.items.items)) (store_of names l.store)
