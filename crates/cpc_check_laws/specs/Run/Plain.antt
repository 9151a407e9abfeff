-- Plain programs: native code alone, in which nothing is spawned or detached, and no primitive is called that gives up the processor or belongs to the event loop.
use Rattle.std.specs.Prelude.{Bool, true, false, ◌&&◌, ◌||◌, not, [], ◌∷◌, Option, Some, None}
use Rattle.cpc_tree.specs.Syntax.{Expr, ENamed, Stmt, Block, Call, Detach, Spawn, If, While, DoWhile, For, Label, Stmts, NoStmt, AndStmt, MaybeStmt, Absent, Present, Function, Item, PrototypeItem, FunctionItem, Program}
use Rattle.cpc_tree.specs.Primitives.{Primitive, primitive_named}
use Rattle.cpc_check_rules.specs.Operators.{is_cps}
use Rattle.cpc_check_rules.specs.Calls.{gives_up, is_rt}
use Rattle.cpc_check_rules.specs.FunctionRules.{holds_underscores}

-- a primitive that does the same in both machines
abbrev pub is_shared : Primitive → Bool
is_shared p = not (gives_up p || is_rt p)

-- what a name would call as a primitive, if it is the name of one, is shared
abbrev pub shares : Option Primitive → Bool
shares None = true
shares (Some p) = is_shared p

-- a call is of no name of a primitive that is not shared
abbrev pub calls_shared : Expr → Bool
calls_shared (ENamed x) = shares (primitive_named x)
calls_shared f = true

abbrev mutual
  -- a statement in which nothing is spawned or detached, and shared primitives alone are called
  pub is_plain_stmt : Stmt → Bool
  is_plain_stmt (Block ss) = are_plain ss
  is_plain_stmt (Call to f es) = calls_shared f
  is_plain_stmt (Detach to f es) = false
  is_plain_stmt (Spawn f es) = false
  is_plain_stmt (If t a b) = is_plain_stmt a && is_plain_arm b
  is_plain_stmt (While t s) = is_plain_stmt s
  is_plain_stmt (DoWhile s t) = is_plain_stmt s
  is_plain_stmt (For first t step s) = are_plain first && (is_plain_arm step && is_plain_stmt s)
  is_plain_stmt (Label l s) = is_plain_stmt s
  is_plain_stmt s = true

  pub are_plain : Stmts → Bool
  are_plain NoStmt = true
  are_plain (AndStmt s ss) = is_plain_stmt s && are_plain ss

  pub is_plain_arm : MaybeStmt → Bool
  is_plain_arm Absent = true
  is_plain_arm (Present s) = is_plain_stmt s

-- a native or detached function, whose name is as it is told in faults: it holds no two underscores in a row
abbrev pub is_plain_function : Function → Bool
is_plain_function f = not (is_cps f.mode) && (not (holds_underscores f.called) && is_plain_stmt f.body)

abbrev pub is_plain_item : Item → Bool
is_plain_item (PrototypeItem mode f r ps) = not (is_cps mode)
is_plain_item (FunctionItem f) = is_plain_function f
is_plain_item x = true

-- a plain program
abbrev pub is_plain : Program → Bool
is_plain [] = true
is_plain (x ∷ items) = is_plain_item x && is_plain items
