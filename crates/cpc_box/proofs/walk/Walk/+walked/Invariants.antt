use Rattle.std.proofs.Common.{drop}
use Rattle.cpc_tree.specs.Erase.{Names, list_of}
use Rattle.cpc_tree.specs.Typing as T
use Rattle.cpc_eval_index.specs.Indexed.{items_of}
use Rattle.cpc_box.specs.Walked.{Stands}
use Rattle.cpc_box.proofs.Rows.{SoFar}
use Rattle.cpc_box.proofs.walk.Walk.+walked.Given as goal

-- the row so far
abbrev pub invariant-row-loop-s : goal.invariant-row-loop-s
invariant-row-loop-s l = (names : Names) (sc : T.Scope) → Stands names l.known.around.texts.now l.initial.self l.initial.inner sc
    → SoFar names l.known.kept.now (items_of names l.known.around.index.now) l.fixed l.initial.self l.self l.inner sc (list_of names l.row) (list_of names (drop l.s-index l.row))
