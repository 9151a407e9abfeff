-- Programs of native code alone, which are event programs as they stand: no cps function, and nothing is spawned.
use Rattle.std.specs.Prelude.{Bool, true, false, ◌&&◌, not, List, [], ◌∷◌}
use Rattle.cpc_tree.specs.Located.{LStmt, Block, Spawn, If, While, DoWhile, For, Label, LStmts, NoLStmt, AndLStmt, MaybeLStmt, NoneLStmt, SomeLStmt, LItem, LPrototype, LFunctionItem}
use Rattle.cpc_check_rules.specs.Operators.{is_cps}

abbrev mutual
  -- a statement in which nothing is spawned
  pub spawns_none : LStmt → Bool
  spawns_none (Block q ss) = all_spawn_none ss
  spawns_none (Spawn q f es) = false
  spawns_none (If q c s r) = spawns_none s && maybe_spawns_none r
  spawns_none (While q c s) = spawns_none s
  spawns_none (DoWhile q s c) = spawns_none s
  spawns_none (For q ss c r s) = all_spawn_none ss && (maybe_spawns_none r && spawns_none s)
  spawns_none (Label x s) = spawns_none s
  spawns_none s = true

  pub all_spawn_none : LStmts → Bool
  all_spawn_none NoLStmt = true
  all_spawn_none (AndLStmt s ss) = spawns_none s && all_spawn_none ss

  pub maybe_spawns_none : MaybeLStmt → Bool
  maybe_spawns_none NoneLStmt = true
  maybe_spawns_none (SomeLStmt s) = spawns_none s

abbrev pub is_native_item : LItem → Bool
is_native_item (LPrototype q mode x r ps) = not (is_cps mode)
is_native_item (LFunctionItem f) = not (is_cps f.mode) && spawns_none f.body
is_native_item x = true

-- the items of a program of native code alone
abbrev pub are_native : List LItem → Bool
are_native [] = true
are_native (x ∷ xs) = is_native_item x && are_native xs
