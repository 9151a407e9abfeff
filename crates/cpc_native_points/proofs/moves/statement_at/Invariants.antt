use Rattle.std.proofs.Common.{◌≡◌, drop}
use Rattle.cpc_tree.specs.Erase.{Names, stmt_of}
use Rattle.cpc_native_points.specs.Parts as S
use Rattle.cpc_native_points.specs.Seen.{path_of}
use Rattle.cpc_native_points.proofs.moves.statement_at.Given as goal

-- what is left of the path leads on from here
abbrev pub invariant-loop-part : goal.invariant-loop-part
invariant-loop-part l = (names : Names) → S.statement_at (stmt_of names l.at) (path_of (drop l.part-index l.path)) ≡ S.statement_at (stmt_of names l.s) (path_of l.path)
