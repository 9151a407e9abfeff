use Rattle.std.proofs.Common.{◌≡◌, ℕ, List, Some, length, map}
use Rattle.cpc_tree.specs.Erase.{Names, item_of}
use Rattle.cpc_tree.specs.declared.program.Program.{Program}
use Rattle.cpc_meaning.specs.Agenda.{completed}
use Rattle.cpc_meaning.specs.Copies.{collect}
use Rattle.cpc_meaning.specs.Section as M
use Rattle.cpc_meaning.specs.Trees.{trees}
use Rattle.cpc_eval_values.specs.Shown.{values_of, store_of}
use Rattle.cpc_run_sections.specs.Runs.{Runs}
use Rattle.cpc_run_jobs.specs.Held.{AreHeld, are_out, left_out}
use Rattle.cpc_run_jobs.specs.Telling.{Reached}
use Rattle.cpc_run_jobs.proofs.ends.all_told.Given as goal

-- the values so far stand before those of the events that are left
abbrev pub invariant-events : goal.invariant-events
invariant-events g l = (p : Program) → g.S.Sections.program ≡ Some p → (names : Names) → Runs names p.names (map (item_of names) p.items.items)
    → (jobs : List M.Job) (made : ℕ) (outs : List ℕ) → AreHeld names l.fn.out jobs made outs
    → Reached names (trees (map (item_of names) p.items.items)) g.S.Sections.bound jobs made (collect (trees (map (item_of names) p.items.items)) g.S.Sections.bound jobs (are_out (completed l.fn.events) outs) (store_of names l.fn.store))
    (left_out (completed l.fn.events) outs) l.out (values_of names l.values.items) (store_of names l.store) l.rest

abbrev pub decreases-events : goal.decreases-events
decreases-events g l = length l.rest
