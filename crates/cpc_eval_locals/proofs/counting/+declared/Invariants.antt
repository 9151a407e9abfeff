use Rattle.std.proofs.Common.{◌≡◌, ◌+◌, ◌≤◌, length, drop}
use Rattle.cpc_tree.specs.Erase.{Names, list_of}
use Rattle.cpc_tree.specs.Points.{locals_in}
use Rattle.cpc_eval_values.specs.Counted.{capped}
use Rattle.cpc_eval_locals.proofs.counting.+declared.Given as goal

-- with what is left, all of the row is counted
abbrev pub invariant-declared_in-loop-statement : goal.invariant-declared_in-loop-statement
invariant-declared_in-loop-statement l = (l.count ≤ 18446744073709551615)
    × ((names : Names) → capped (l.count + length (locals_in (list_of names (drop l.statement-index l.row)))) ≡ capped (length (locals_in (list_of names l.row))))
