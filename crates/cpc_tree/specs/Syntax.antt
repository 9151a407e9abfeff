-- Programs without places, in which each name is its text. Two programs are equal where these are.
use Rattle.std.specs.Prelude.{ℕ, Bool, true, false, List, Option, ℤ, Some, None}
use Rattle.cpc_base.specs.Bytes.{Text}
use Rattle.cpc_num.specs.declared.kinds.Kind.{Kind}
use Rattle.cpc_num.specs.declared.kinds.Op.{Op}
use Rattle.cpc_tree.specs.declared.program.UnaryOp.{UnaryOp}
use Rattle.cpc_tree.specs.declared.program.Mode.{Mode}
use Rattle.cpc_tree.specs.declared.program.Mode.TheVariants.{Cps}

mutual
  pub data Ty : Type 0 where
    TyVoid : Ty
    TyInt : Kind → Ty
    TyCondvar : Ty
    TyPointer : Ty → Ty
    TyCode : (result : Ty) → (parameters : Tys) → Ty
    TyStruct : Text → Ty
    TyArray : Ty → ℕ → Ty

  pub data Tys : Type 0 where
    NoTy : Tys
    AndTy : Ty → Tys → Tys

mutual
  pub data Expr : Type 0 where
    ENamed : Text → Expr
    EInteger : Kind → ℤ → Expr
    ECharacter : ℤ → Expr
    EText : Text → Expr
    EUnary : UnaryOp → Expr → Expr
    EBinary : Op → Expr → Expr → Expr
    EAnd : Expr → Expr → Expr
    EOr : Expr → Expr → Expr
    EChoose : (test yes no : Expr) → Expr
    ECast : Ty → Expr → Expr
    ESizeOf : Ty → Expr
    EIndex : (operand index : Expr) → Expr
    EMember : Expr → Text → Expr
    EArrow : Expr → Text → Expr
    ECall : (function : Expr) → (arguments : Exprs) → Expr

  pub data Exprs : Type 0 where
    NoExpr : Exprs
    AndExpr : Expr → Exprs → Exprs

-- a local that begins with a whole call or section is two statements: the declaration without a start, and the call
mutual
  pub data Stmt : Type 0 where
    Block : Stmts → Stmt
    Empty : Stmt
    Declare : Text → Ty → (start : Option Expr) → Stmt
    Assign : (target : Expr) → Option Op → (value : Expr) → Stmt
    Call : (target : Option Expr) → (function : Expr) → (arguments : Exprs) → Stmt
    Detach : (target : Option Expr) → (function : Text) → (arguments : Exprs) → Stmt
    Spawn : (function : Text) → (arguments : Exprs) → Stmt
    If : (test : Expr) → (yes : Stmt) → (no : MaybeStmt) → Stmt
    While : (test : Expr) → (body : Stmt) → Stmt
    DoWhile : (body : Stmt) → (test : Expr) → Stmt
    For : (first : Stmts) → (test : Option Expr) → (step : MaybeStmt) → (body : Stmt) → Stmt
    Goto : Text → Stmt
    Label : Text → Stmt → Stmt
    Break : Stmt
    Continue : Stmt
    Return : Option Expr → Stmt

  pub data Stmts : Type 0 where
    NoStmt : Stmts
    AndStmt : Stmt → Stmts → Stmts

  pub data MaybeStmt : Type 0 where
    Absent : MaybeStmt
    Present : Stmt → MaybeStmt

-- a variable with its type: a parameter, a field or a local
pub record Variable : Type 0 where
  pub called : Text
  pub type : Ty

-- a parameter of a prototype may have no name
pub record Parameter : Type 0 where
  pub called : Option Text
  pub type : Ty

pub record Function : Type 0 where
  pub mode : Mode
  pub called : Text
  pub result : Ty
  pub parameters : List Parameter
  pub body : Stmt

pub data Item : Type 0 where
  StructItem : (tag : Text) → List Variable → Item
  GlobalItem : Text → Ty → Option Expr → Item
  PrototypeItem : Mode → Text → (result : Ty) → List Parameter → Item
  FunctionItem : Function → Item

-- a program is its items in order
abbrev pub Program : Type 0
Program = List Item

-- whether a mode is cps
abbrev pub is_cps_mode : Mode → Bool
is_cps_mode Cps = true
is_cps_mode _ = false

-- the bytes of a string
abbrev pub text_in : Expr → Option Text
text_in (EText bytes) = Some bytes
text_in _ = None
