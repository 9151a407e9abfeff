use Rattle.std.proofs.Common.{◌≡◌, drop}
use Rattle.cpc_tree.specs.Erase.{Names}
use Rattle.cpc_shapes.specs.Apart.{AreApart}
use Rattle.cpc_eval_locals.specs.Locals.{look_from}
use Rattle.cpc_eval_locals.specs.Seen.{marks_seen}
use Rattle.cpc_eval_locals.proofs.looking.look.Given as goal

-- the marks that are left decide
abbrev pub invariant-loop-mark : goal.invariant-loop-mark
invariant-loop-mark l = (names : Names) → AreApart names
    → look_from names (names l.name) l.path l.at (marks_seen names (drop l.mark-index l.marks)) ≡ look_from names (names l.name) l.path l.before (marks_seen names l.marks)
