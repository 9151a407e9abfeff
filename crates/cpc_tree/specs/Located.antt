-- Programs with places, in which each name is its text, and the programs without places that they are.
use Rattle.std.specs.Prelude.{List, Option, map, option_map, ℤ}
use Rattle.cpc_base.specs.Bytes.{Text}
use Rattle.cpc_base.specs.declared.stop.Place.{Place}
use Rattle.cpc_num.specs.declared.kinds.Kind.{Kind}
use Rattle.cpc_num.specs.declared.kinds.Op.{Op}
use Rattle.cpc_tree.specs.declared.program.UnaryOp.{UnaryOp}
use Rattle.cpc_tree.specs.declared.program.Mode.{Mode}
use Rattle.cpc_tree.specs.Syntax.{Ty, Expr, ENamed, EInteger, ECharacter, EText, EUnary, EBinary, EAnd, EOr, EChoose, ECast, ESizeOf, EIndex, EMember, EArrow, ECall, Exprs, NoExpr, AndExpr, Stmt, Stmts, NoStmt, AndStmt, MaybeStmt, Absent, Present, Variable, Parameter, Function, Item, StructItem, GlobalItem, PrototypeItem, FunctionItem, Program}
use Rattle.cpc_tree.specs.Syntax as S

-- a name where it is written
pub record Ident : Type 0 where
  pub place : Place
  pub text : Text

-- Each expression with the place of its literal or operator: of an element, a call and a cast that of the opening
-- bracket, of ?: that of the question mark.
mutual
  pub data LExpr : Type 0 where
    LNamed : Ident → LExpr
    LInteger : Place → Kind → ℤ → LExpr
    LCharacter : Place → ℤ → LExpr
    LText : Place → Text → LExpr
    LUnary : Place → UnaryOp → LExpr → LExpr
    LBinary : Place → Op → LExpr → LExpr → LExpr
    LAnd : Place → LExpr → LExpr → LExpr
    LOr : Place → LExpr → LExpr → LExpr
    LChoose : Place → (test yes no : LExpr) → LExpr
    LCast : Place → Ty → LExpr → LExpr
    LSizeOf : Place → Ty → LExpr
    LIndex : Place → (operand index : LExpr) → LExpr
    LMember : Place → LExpr → Ident → LExpr
    LArrow : Place → LExpr → Ident → LExpr
    LCall : Place → (function : LExpr) → (arguments : LExprs) → LExpr

  pub data LExprs : Type 0 where
    NoLExpr : LExprs
    AndLExpr : LExpr → LExprs → LExprs

-- Each statement with the place of its first token. Where a value is written, the operator is the place of = or of the
-- assignment's operator; of an initialiser that is a call or a section it is the declared name's, and where no place is
-- written it is the statement's own.
mutual
  pub data LStmt : Type 0 where
    Block : Place → LStmts → LStmt
    Empty : Place → LStmt
    Declare : Place → Ident → Ty → (start : Option LExpr) → LStmt
    Assign : Place → (operator : Place) → (target : LExpr) → Option Op → (value : LExpr) → LStmt
    Call : Place → (operator : Place) → (target : Option LExpr) → (function : LExpr) → (arguments : LExprs) → LStmt
    Detach : Place → (operator keyword : Place) → (target : Option LExpr) → (function : Ident) → (arguments : LExprs) → LStmt
    Spawn : Place → (function : Ident) → (arguments : LExprs) → LStmt
    If : Place → (test : LExpr) → (yes : LStmt) → (no : MaybeLStmt) → LStmt
    While : Place → (test : LExpr) → (body : LStmt) → LStmt
    DoWhile : Place → (body : LStmt) → (test : LExpr) → LStmt
    For : Place → (first : LStmts) → (test : Option LExpr) → (step : MaybeLStmt) → (body : LStmt) → LStmt
    Goto : Place → Ident → LStmt
    Label : Ident → LStmt → LStmt
    Break : Place → LStmt
    Continue : Place → LStmt
    Return : Place → Option LExpr → LStmt

  pub data LStmts : Type 0 where
    NoLStmt : LStmts
    AndLStmt : LStmt → LStmts → LStmts

  pub data MaybeLStmt : Type 0 where
    NoneLStmt : MaybeLStmt
    SomeLStmt : LStmt → MaybeLStmt

pub record LVariable : Type 0 where
  pub called : Ident
  pub type : Ty

pub record LParameter : Type 0 where
  pub called : Option Ident
  pub type : Ty

pub record LFunction : Type 0 where
  pub place : Place
  pub mode : Mode
  pub called : Ident
  pub result : Ty
  pub parameters : List LParameter
  pub body : LStmt

pub data LItem : Type 0 where
  LStruct : (tag : Ident) → List LVariable → LItem
  LGlobal : Ident → Ty → Option LExpr → LItem
  LPrototype : Place → Mode → Ident → (result : Ty) → List LParameter → LItem
  LFunctionItem : LFunction → LItem

-- a program, and the place behind its text
pub record LProgram : Type 0 where
  pub items : List LItem
  pub end : Place

abbrev mutual
  pub bare_expr : LExpr → Expr
  bare_expr (LNamed x) = ENamed x.text
  bare_expr (LInteger q kind z) = EInteger kind z
  bare_expr (LCharacter q z) = ECharacter z
  bare_expr (LText q bytes) = EText bytes
  bare_expr (LUnary q op v) = EUnary op (bare_expr v)
  bare_expr (LBinary q op v w) = EBinary op (bare_expr v) (bare_expr w)
  bare_expr (LAnd q v w) = EAnd (bare_expr v) (bare_expr w)
  bare_expr (LOr q v w) = EOr (bare_expr v) (bare_expr w)
  bare_expr (LChoose q c v w) = EChoose (bare_expr c) (bare_expr v) (bare_expr w)
  bare_expr (LCast q t v) = ECast t (bare_expr v)
  bare_expr (LSizeOf q t) = ESizeOf t
  bare_expr (LIndex q v w) = EIndex (bare_expr v) (bare_expr w)
  bare_expr (LMember q v x) = EMember (bare_expr v) x.text
  bare_expr (LArrow q v x) = EArrow (bare_expr v) x.text
  bare_expr (LCall q v vs) = ECall (bare_expr v) (bare_exprs vs)

  pub bare_exprs : LExprs → Exprs
  bare_exprs NoLExpr = NoExpr
  bare_exprs (AndLExpr v vs) = AndExpr (bare_expr v) (bare_exprs vs)

abbrev mutual
  pub bare_stmt : LStmt → Stmt
  bare_stmt (Block q ss) = S.Block (bare_stmts ss)
  bare_stmt (Empty q) = S.Empty
  bare_stmt (Declare q x t start) = S.Declare x.text t (option_map bare_expr start)
  bare_stmt (Assign q o v op w) = S.Assign (bare_expr v) op (bare_expr w)
  bare_stmt (Call q o u v vs) = S.Call (option_map bare_expr u) (bare_expr v) (bare_exprs vs)
  bare_stmt (Detach q o k u x vs) = S.Detach (option_map bare_expr u) x.text (bare_exprs vs)
  bare_stmt (Spawn q x vs) = S.Spawn x.text (bare_exprs vs)
  bare_stmt (If q c s r) = S.If (bare_expr c) (bare_stmt s) (bare_maybe r)
  bare_stmt (While q c s) = S.While (bare_expr c) (bare_stmt s)
  bare_stmt (DoWhile q s c) = S.DoWhile (bare_stmt s) (bare_expr c)
  bare_stmt (For q ss c r s) = S.For (bare_stmts ss) (option_map bare_expr c) (bare_maybe r) (bare_stmt s)
  bare_stmt (Goto q x) = S.Goto x.text
  bare_stmt (Label x s) = S.Label x.text (bare_stmt s)
  bare_stmt (Break q) = S.Break
  bare_stmt (Continue q) = S.Continue
  bare_stmt (Return q v) = S.Return (option_map bare_expr v)

  pub bare_stmts : LStmts → Stmts
  bare_stmts NoLStmt = NoStmt
  bare_stmts (AndLStmt s ss) = AndStmt (bare_stmt s) (bare_stmts ss)

  pub bare_maybe : MaybeLStmt → MaybeStmt
  bare_maybe NoneLStmt = Absent
  bare_maybe (SomeLStmt s) = Present (bare_stmt s)

abbrev pub bare_variable : LVariable → Variable
bare_variable x = record { called = x.called.text; type = x.type }

abbrev pub bare_parameter : LParameter → Parameter
bare_parameter p = record { called = option_map (λ (x : Ident). x.text) p.called; type = p.type }

abbrev pub bare_function : LFunction → Function
bare_function f = record { mode = f.mode; called = f.called.text; result = f.result; parameters = map bare_parameter f.parameters; body = bare_stmt f.body }

abbrev pub bare_item : LItem → Item
bare_item (LStruct tag xs) = StructItem tag.text (map bare_variable xs)
bare_item (LGlobal x t start) = GlobalItem x.text t (option_map bare_expr start)
bare_item (LPrototype q mode x t ps) = PrototypeItem mode x.text t (map bare_parameter ps)
bare_item (LFunctionItem f) = FunctionItem (bare_function f)

-- the program without its places
abbrev pub bare : LProgram → Program
bare p = map bare_item p.items
