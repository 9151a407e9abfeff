-- The shape of trees that texts give: the body of a function is a block, and the last part of a `for` is an assignment, a call or a section.
-- Of other trees the rules do not see every name: none in a body that is no block, and no local of the last part of a `for`.
use Rattle.std.specs.Prelude.{Bool, true, false, ◌&&◌, List, [], ◌∷◌}
use Rattle.cpc_tree.specs.Located.{LStmt, Block, Assign, Call, Detach, If, While, DoWhile, For, Label, LStmts, NoLStmt, AndLStmt, MaybeLStmt, NoneLStmt, SomeLStmt, LItem, LFunctionItem}

-- an assignment, a call or a section, or nothing
abbrev pub is_step : MaybeLStmt → Bool
is_step NoneLStmt = true
is_step (SomeLStmt (Assign q o v op e)) = true
is_step (SomeLStmt (Call q o to f es)) = true
is_step (SomeLStmt (Detach q o k to f es)) = true
is_step s = false

abbrev mutual
  -- each `for` in a statement has such a last part
  pub is_shaped : LStmt → Bool
  is_shaped (Block q ss) = all_shaped ss
  is_shaped (If q c s r) = is_shaped s && is_shaped_arm r
  is_shaped (While q c s) = is_shaped s
  is_shaped (DoWhile q s c) = is_shaped s
  is_shaped (For q ss c r s) = all_shaped ss && (is_step r && is_shaped s)
  is_shaped (Label x s) = is_shaped s
  is_shaped s = true

  pub all_shaped : LStmts → Bool
  all_shaped NoLStmt = true
  all_shaped (AndLStmt s ss) = is_shaped s && all_shaped ss

  pub is_shaped_arm : MaybeLStmt → Bool
  is_shaped_arm NoneLStmt = true
  is_shaped_arm (SomeLStmt s) = is_shaped s

abbrev pub is_block : LStmt → Bool
is_block (Block q ss) = true
is_block s = false

abbrev pub is_shaped_item : LItem → Bool
is_shaped_item (LFunctionItem f) = is_block f.body && is_shaped f.body
is_shaped_item x = true

abbrev pub are_shaped : List LItem → Bool
are_shaped [] = true
are_shaped (x ∷ xs) = is_shaped_item x && are_shaped xs
