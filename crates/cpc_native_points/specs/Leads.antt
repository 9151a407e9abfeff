-- The moves of the code as the moves of a body.
use Rattle.std.specs.Prelude.{◌≡◌, ◌≤◌, ◌+◌, ◌-◌, suc, ℕ, [], ◌∷◌, ◌++◌, length, Option, Some, None}
use Rattle.std.specs.Borrow.{Bor}
use Rattle.cpc_tree.specs.declared.program.Statement.{Statement}
use Rattle.cpc_tree.specs.Erase.{Names, stmt_of}
use Rattle.cpc_tree.specs.Points as P
use Rattle.cpc_tree.specs.Points.{Path, enter}
use Rattle.cpc_native_points.specs.declared.moves.Move.{Move}
use Rattle.cpc_native_points.specs.declared.moves.Move.TheVariants as M
use Rattle.cpc_native_points.specs.Depth.{numbers}
use Rattle.cpc_native_points.specs.Seen.{part_of}

-- a move to these parts, which stand in place of so many at the end of the path
pub record Goes (path : Path) (dropped : ℕ) (to : Path) (m : P.Move) : Type 0 where
  pub front : Path
  pub back : Path
  pub whole : path ≡ front ++ back
  pub so_many : length back ≡ dropped
  pub is : m ≡ P.Into (front ++ to)

-- where a statement begins that may be there
abbrev pub begun : Names → Option (Bor Statement) → Path
begun names None = []
begun names (Some s) = enter (stmt_of names s.now)

-- the move, from a point at the path
abbrev pub Leads : Names → Path → Move → P.Move → Type 0
Leads names path (M.Into dropped part target) m = Goes path dropped (part_of part ∷ begun names target) m
Leads names path M.Out m = m ≡ P.Out
Leads names path (M.ToLabel l) m = m ≡ P.ToLabel (names l)
Leads names path M.Broken m = m ≡ P.Broken
Leads names path M.Continued m = m ≡ P.Continued
Leads names path M.Nowhere m = m ≡ P.NoMove

-- a path of this length has room for the parts that the move puts at its end, where there is room for so many
abbrev pub HasRoom : (room : ℕ) → (len : ℕ) → Move → Type 0
HasRoom room len (M.Into dropped part target) = (len - dropped) + suc (length (begun numbers target)) ≤ room
HasRoom room len m = Unit {0}
