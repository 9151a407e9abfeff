-- Statements of a Vec, as they are written.
use Rattle.std.proofs.Common.{◌≡◌, List, [], ◌∷◌, map, refl, ap}
use Rattle.cpc_tree.specs.declared.program.Statement.{Statement}
use Rattle.cpc_tree.specs.Syntax.{NoStmt, AndStmt}
use Rattle.cpc_tree.specs.Erase.{Names, stmt_of, list_of}
use Rattle.cpc_convert_flat_laws.specs.Flat.{before}

pub listed : (to : Names) (ss : List Statement) → list_of to ss ≡ before (map (stmt_of to) ss) NoStmt
listed to [] = refl
listed to (s ∷ ss) = ap (AndStmt (stmt_of to s)) (listed to ss)
