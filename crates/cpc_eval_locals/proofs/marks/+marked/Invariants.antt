use Rattle.std.proofs.Common.{◌≡◌, ◌++◌, ◌≤◌, length, drop}
use Rattle.cpc_tree.specs.Erase.{Names, list_of}
use Rattle.cpc_eval_locals.specs.Marks.{marks_row}
use Rattle.cpc_eval_locals.specs.Seen.{marks_seen}
use Rattle.cpc_eval_locals.proofs.marks.+marked.Given as goal

-- with those of what is left, there are the marks of the row
abbrev pub invariant-mark_row-loop-n : goal.invariant-mark_row-loop-n
invariant-mark_row-loop-n l = (l.n ≤ length l.row)
    × ((names : Names) → marks_seen names l.marks.items ++ marks_row l.heads l.depth l.n (list_of names (drop l.n l.row)) ≡ marks_seen names l.fn.marks.items ++ marks_row l.heads l.depth 0 (list_of names l.row))
