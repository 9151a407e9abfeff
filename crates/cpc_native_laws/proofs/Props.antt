-- That a program has numbers is one fact: any two proofs of it are equal.
use Rattle.std.proofs.Common.{ℕ, List, [], ◌∷◌, Option, Some, None}
use Rattle.std.proofs.Props.{props}
use Rattle.cpc_num.specs.declared.kinds.Kind.{Kind}
use Rattle.cpc_num.specs.declared.kinds.Kind.TheVariants.{Int}
use Rattle.cpc_num.specs.Number.{IsOf}
use Rattle.cpc_tree.specs.Syntax.{Expr, ENamed, EInteger, ECharacter, EText, EUnary, EBinary, EAnd, EOr, EChoose, ECast, ESizeOf, EIndex, EMember, EArrow, ECall, Exprs, NoExpr, AndExpr, Stmt, Block, Empty, Declare, Assign, Call, Detach, Spawn, If, While, DoWhile, For, Goto, Label, Break, Continue, Return, Stmts, NoStmt, AndStmt, MaybeStmt, Absent, Present, Item, StructItem, GlobalItem, PrototypeItem, FunctionItem, Program}
use Rattle.cpc_tree.specs.Typing.{size}
use Rattle.cpc_eval.specs.Numbers.{FitsSize, HasNumbers, MaybeNumbers, AllNumbers, StmtNumbers, StmtsNumbers, ArmNumbers, ItemsNumbers, ProgramNumbers}

unit : IsProp (Unit {0})
unit = hlevel props

pair : {A B : Type 0} → IsProp A → IsProp B → IsProp (A × B)
pair h k = hlevel (h, k)

of_kind : (kind : Kind) (z : _) → IsProp (IsOf kind z)
of_kind kind z = hlevel props

fits : (o : Option ℕ) → IsProp (FitsSize o)
fits None = unit
fits (Some n) = hlevel props

triple : {A B C : Type 0} → IsProp A → IsProp B → IsProp C → IsProp (A × B × C)
triple h k l = hlevel (h, k, l)

four : {A B C D : Type 0} → IsProp A → IsProp B → IsProp C → IsProp D → IsProp (A × B × C × D)
four h k l m = hlevel (h, k, l, m)

module _ (p : Program) where
  expr_prop : (e : Expr) → IsProp (HasNumbers p e)
  expr_prop (EInteger kind z) = of_kind kind z
  expr_prop (ECharacter z) = of_kind Int z
  expr_prop (ESizeOf t) = fits (size p t)
  expr_prop (EUnary op e) = expr_prop e
  expr_prop (EBinary op a b) = pair (expr_prop a) (expr_prop b)
  expr_prop (EAnd a b) = pair (expr_prop a) (expr_prop b)
  expr_prop (EOr a b) = pair (expr_prop a) (expr_prop b)
  expr_prop (EChoose e a b) = triple (expr_prop e) (expr_prop a) (expr_prop b)
  expr_prop (ECast t e) = expr_prop e
  expr_prop (EIndex a i) = pair (expr_prop a) (expr_prop i)
  expr_prop (EMember e x) = expr_prop e
  expr_prop (EArrow e x) = expr_prop e
  expr_prop (ENamed x) = unit
  expr_prop (EText bytes) = unit
  expr_prop (ECall f es) = unit

  maybe_prop : (o : Option Expr) → IsProp (MaybeNumbers p o)
  maybe_prop None = unit
  maybe_prop (Some e) = expr_prop e

  all_prop : (es : Exprs) → IsProp (AllNumbers p es)
  all_prop NoExpr = unit
  all_prop (AndExpr e es) = pair (expr_prop e) (all_prop es)

  mutual
    stmt_prop : (s : Stmt) → IsProp (StmtNumbers p s)
    stmt_prop (Block ss) = stmts_prop ss
    stmt_prop Empty = unit
    stmt_prop (Declare x t start) = maybe_prop start
    stmt_prop (Assign e op v) = pair (expr_prop e) (expr_prop v)
    stmt_prop (Call e f es) = triple (maybe_prop e) (expr_prop f) (all_prop es)
    stmt_prop (Detach e f es) = pair (maybe_prop e) (all_prop es)
    stmt_prop (Spawn f es) = all_prop es
    stmt_prop (If t a b) = triple (expr_prop t) (stmt_prop a) (arm_prop b)
    stmt_prop (While t s) = pair (expr_prop t) (stmt_prop s)
    stmt_prop (DoWhile s t) = pair (stmt_prop s) (expr_prop t)
    stmt_prop (For first t step s) = four (stmts_prop first) (maybe_prop t) (arm_prop step) (stmt_prop s)
    stmt_prop (Goto l) = unit
    stmt_prop (Label l s) = stmt_prop s
    stmt_prop Break = unit
    stmt_prop Continue = unit
    stmt_prop (Return v) = maybe_prop v

    stmts_prop : (ss : Stmts) → IsProp (StmtsNumbers p ss)
    stmts_prop NoStmt = unit
    stmts_prop (AndStmt s ss) = pair (stmt_prop s) (stmts_prop ss)

    arm_prop : (o : MaybeStmt) → IsProp (ArmNumbers p o)
    arm_prop Absent = unit
    arm_prop (Present s) = stmt_prop s

  items_prop : (items : List Item) → IsProp (ItemsNumbers p items)
  items_prop [] = unit
  items_prop (StructItem tag fs ∷ items) = items_prop items
  items_prop (GlobalItem x t start ∷ items) = items_prop items
  items_prop (PrototypeItem mode f r ps ∷ items) = items_prop items
  items_prop (FunctionItem f ∷ items) = pair (stmt_prop f.body) (items_prop items)

pub program_prop : (p : Program) → IsProp (ProgramNumbers p)
program_prop p = items_prop p p
