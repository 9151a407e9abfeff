-- What the conversion makes of names, of the spawns in native code, and of functions.
use Rattle.std.specs.Prelude.{◌∷◌, ◌++◌, None, codes}
use Rattle.cpc_base.specs.Bytes.{Text}
use Rattle.cpc_tree.specs.Syntax.{ENamed, Stmt, Block, Call, Spawn, If, While, DoWhile, For, Label, Stmts, NoStmt, AndStmt, MaybeStmt, Absent, Present, Function, Item, PrototypeItem, FunctionItem}

-- ---- names

-- `f__rest`
abbrev pub marked : Text → Text → Text
marked f rest = f ++ 95 ∷ 95 ∷ rest

-- what a spawn of a cps function calls
unfoldable pub spawner_name : Text → Text
spawner_name f = marked f (codes "spawn")

-- ---- native code

-- each spawn is a call of the spawner
abbrev mutual
  pub respawned : Stmt → Stmt
  respawned (Block ss) = Block (respawned_all ss)
  respawned (Spawn f es) = Call None (ENamed (spawner_name f)) es
  respawned (If t a b) = If t (respawned a) (respawned_arm b)
  respawned (While t s) = While t (respawned s)
  respawned (DoWhile s t) = DoWhile (respawned s) t
  respawned (For first t step s) = For (respawned_all first) t (respawned_arm step) (respawned s)
  respawned (Label l s) = Label l (respawned s)
  respawned s = s

  -- in a row of statements
  pub respawned_all : Stmts → Stmts
  respawned_all NoStmt = NoStmt
  respawned_all (AndStmt s ss) = AndStmt (respawned s) (respawned_all ss)

  -- in an arm or a step
  pub respawned_arm : MaybeStmt → MaybeStmt
  respawned_arm Absent = Absent
  respawned_arm (Present s) = Present (respawned s)

-- ---- functions

-- a function as an item
abbrev pub function_item : Function → Item
function_item f = FunctionItem f

-- its prototype
abbrev pub prototype : Function → Item
prototype f = PrototypeItem f.mode f.called f.result f.parameters
