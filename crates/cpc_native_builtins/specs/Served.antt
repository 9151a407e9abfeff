-- Programs whose code asks only for what the loop answers.
use Rattle.std.specs.Prelude.{◌≡◌, Bool, true, false, ◌&&◌, [], ◌∷◌, Option, Some, None}
use Rattle.cpc_tree.specs.Syntax.{Expr, ENamed, Stmt, Block, Call, Detach, Spawn, If, While, DoWhile, For, Label, Stmts, NoStmt, AndStmt, MaybeStmt, Absent, Present, Function, Item, FunctionItem, Program}
use Rattle.cpc_tree.specs.Primitives.{Primitive, Print, Putc, Puts, Now, CondNew, CondFree, Signal, SignalAll, Exit, Malloc, Free, RtFrame, RtBox, RtFrameFree, RtUnbox, RtReady, RtWait, RtSleep, RtIo, RtDetach, primitive_named}
use Rattle.cpc_tree.specs.Points.{Found, Simple}
use Rattle.cpc_native_builtins.specs.declared.call.Call as H
use Rattle.cpc_native_builtins.specs.declared.call.Call.TheVariants as C
use Rattle.cpc_tree.specs.PrimitiveNames.{primitive_of}

-- a primitive that the loop answers
abbrev pub is_served : Primitive → Bool
is_served Print = true
is_served Putc = true
is_served Puts = true
is_served Now = true
is_served CondNew = true
is_served CondFree = true
is_served Signal = true
is_served SignalAll = true
is_served Exit = true
is_served Malloc = true
is_served Free = true
is_served RtFrame = true
is_served RtBox = true
is_served RtFrameFree = true
is_served RtUnbox = true
is_served RtReady = true
is_served RtWait = true
is_served RtSleep = true
is_served RtIo = true
is_served RtDetach = true
is_served _ = false

-- what a name would call as a primitive, if it is the name of one, is served
abbrev pub serves : Option Primitive → Bool
serves None = true
serves (Some p) = is_served p

-- a call is of no name of a primitive that is not served
abbrev pub calls_served : Expr → Bool
calls_served (ENamed x) = serves (primitive_named x)
calls_served f = true

abbrev mutual
  -- a statement in which nothing is spawned or detached, and served primitives alone are called
  pub is_served_stmt : Stmt → Bool
  is_served_stmt (Block ss) = are_served ss
  is_served_stmt (Call to f es) = calls_served f
  is_served_stmt (Detach to f es) = false
  is_served_stmt (Spawn f es) = false
  is_served_stmt (If t a b) = is_served_stmt a && is_served_arm b
  is_served_stmt (While t s) = is_served_stmt s
  is_served_stmt (DoWhile s t) = is_served_stmt s
  is_served_stmt (For first t step s) = are_served first && (is_served_arm step && is_served_stmt s)
  is_served_stmt (Label l s) = is_served_stmt s
  is_served_stmt s = true

  pub are_served : Stmts → Bool
  are_served NoStmt = true
  are_served (AndStmt s ss) = is_served_stmt s && are_served ss

  pub is_served_arm : MaybeStmt → Bool
  is_served_arm Absent = true
  is_served_arm (Present s) = is_served_stmt s

-- what stands at a point asks only for what is served
abbrev pub is_served_found : Found → Bool
is_served_found (Simple s) = is_served_stmt s
is_served_found f = true

-- an item; a function of the host is served whatever it is called with
abbrev pub is_served_item : Item → Bool
is_served_item (FunctionItem f) = is_served_stmt f.body
is_served_item x = true

-- a program that asks only for what the loop answers
abbrev pub is_served_program : Program → Bool
is_served_program [] = true
is_served_program (x ∷ items) = is_served_item x && is_served_program items

-- a primitive that the loop answers, or a function of the host
abbrev pub IsServedCall : H.Call → Type 0
IsServedCall (C.Builtin b) = is_served (primitive_of b) ≡ true
IsServedCall (C.Host x) = Unit {0}
