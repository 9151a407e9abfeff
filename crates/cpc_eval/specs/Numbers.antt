-- Expressions whose literals are numbers of their kinds and whose sizes are numbers of 64 bits.
use Rattle.std.specs.Prelude.{ℕ, ◌<◌, ◌^◌, pos, List, [], ◌∷◌, Option, Some, None}
use Rattle.cpc_num.specs.Number.{IsOf}
use Rattle.cpc_num.specs.declared.kinds.Kind.TheVariants.{Int, ULong}
use Rattle.cpc_store.specs.Store.{Value, Whole}
use Rattle.cpc_tree.specs.Syntax.{Expr, EInteger, ECharacter, EUnary, EBinary, EAnd, EOr, EChoose, ECast, ESizeOf, EIndex, EMember, EArrow, Exprs, NoExpr, AndExpr, Stmt, Block, Declare, Assign, Call, Detach, Spawn, If, While, DoWhile, For, Label, Return, Stmts, NoStmt, AndStmt, MaybeStmt, Absent, Present, Item, FunctionItem, Program}
use Rattle.cpc_tree.specs.Points.{Found, Simple, Test, Nothing}
use Rattle.cpc_tree.specs.Typing.{size}
use Rattle.cpc_meaning.specs.Answer.{Answer, Gives, ◌>>=◌, needed}

-- the size of a type is a number of 64 bits
abbrev pub FitsSize : Option ℕ → Type 0
FitsSize None = Unit {0}
FitsSize (Some n) = n < 2 ^ 64

-- what `sizeof` gives
abbrev pub size_value : Option ℕ → Answer Value
size_value o = do
  n ← needed o
  Gives (Whole ULong (pos n))

abbrev pub HasNumbers : Program → Expr → Type 0
HasNumbers p (EInteger kind z) = IsOf kind z
HasNumbers p (ECharacter z) = IsOf Int z
HasNumbers p (ESizeOf t) = FitsSize (size p t)
HasNumbers p (EUnary op e) = HasNumbers p e
HasNumbers p (EBinary op a b) = HasNumbers p a × HasNumbers p b
HasNumbers p (EAnd a b) = HasNumbers p a × HasNumbers p b
HasNumbers p (EOr a b) = HasNumbers p a × HasNumbers p b
HasNumbers p (EChoose e a b) = HasNumbers p e × HasNumbers p a × HasNumbers p b
HasNumbers p (ECast t e) = HasNumbers p e
HasNumbers p (EIndex a i) = HasNumbers p a × HasNumbers p i
HasNumbers p (EMember e x) = HasNumbers p e
HasNumbers p (EArrow e x) = HasNumbers p e
HasNumbers p _ = Unit {0}

-- ---- statements

abbrev pub MaybeNumbers : Program → Option Expr → Type 0
MaybeNumbers p None = Unit {0}
MaybeNumbers p (Some e) = HasNumbers p e

abbrev pub AllNumbers : Program → Exprs → Type 0
AllNumbers p NoExpr = Unit {0}
AllNumbers p (AndExpr e es) = HasNumbers p e × AllNumbers p es

abbrev mutual
  -- all expressions of a statement have numbers
  pub StmtNumbers : Program → Stmt → Type 0
  StmtNumbers p (Block ss) = StmtsNumbers p ss
  StmtNumbers p (Declare x t start) = MaybeNumbers p start
  StmtNumbers p (Assign e op v) = HasNumbers p e × HasNumbers p v
  StmtNumbers p (Call e f es) = MaybeNumbers p e × HasNumbers p f × AllNumbers p es
  StmtNumbers p (Detach e f es) = MaybeNumbers p e × AllNumbers p es
  StmtNumbers p (Spawn f es) = AllNumbers p es
  StmtNumbers p (If t a b) = HasNumbers p t × StmtNumbers p a × ArmNumbers p b
  StmtNumbers p (While t s) = HasNumbers p t × StmtNumbers p s
  StmtNumbers p (DoWhile s t) = StmtNumbers p s × HasNumbers p t
  StmtNumbers p (For first t step s) = StmtsNumbers p first × MaybeNumbers p t × ArmNumbers p step × StmtNumbers p s
  StmtNumbers p (Label l s) = StmtNumbers p s
  StmtNumbers p (Return v) = MaybeNumbers p v
  StmtNumbers p _ = Unit {0}

  pub StmtsNumbers : Program → Stmts → Type 0
  StmtsNumbers p NoStmt = Unit {0}
  StmtsNumbers p (AndStmt s ss) = StmtNumbers p s × StmtsNumbers p ss

  pub ArmNumbers : Program → MaybeStmt → Type 0
  ArmNumbers p Absent = Unit {0}
  ArmNumbers p (Present s) = StmtNumbers p s

-- all expressions of what stands at a point
abbrev pub FoundNumbers : Program → Found → Type 0
FoundNumbers p (Simple s) = StmtNumbers p s
FoundNumbers p (Test o) = MaybeNumbers p o
FoundNumbers p Nothing = Unit {0}

-- all expressions of the functions among these items
abbrev pub ItemsNumbers : Program → List Item → Type 0
ItemsNumbers p [] = Unit {0}
ItemsNumbers p (FunctionItem f ∷ items) = StmtNumbers p f.body × ItemsNumbers p items
ItemsNumbers p (_ ∷ items) = ItemsNumbers p items

-- all expressions of a program
abbrev pub ProgramNumbers : Program → Type 0
ProgramNumbers p = ItemsNumbers p p
