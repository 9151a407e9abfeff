-- Programs are a set: any two proofs of one equation of programs are equal. Types, expressions and statements are each a copy of one type, of which this is
-- derived.
use Rattle.std.proofs.Common.{◌≡◌, ℕ, ℤ, pos, Option, refl, ap}
use Rattle.std.proofs.Math.Nat.{ℕ_set}
use Rattle.std.proofs.Math.IntN.{ℤ_set}
use Rattle.std.proofs.Props.{props}
use Rattle.cpc_base.specs.Bytes.{Text}
use Rattle.cpc_base.proofs.Sets.{retract_set}
use Rattle.cpc_num.specs.declared.kinds.Kind.{Kind}
use Rattle.cpc_num.specs.declared.kinds.Op.{Op}
use Rattle.cpc_num.proofs.KindSets.{kind_set}
use Rattle.cpc_tree.specs.declared.program.UnaryOp.{UnaryOp}
use Rattle.cpc_tree.specs.Syntax.{Ty, TyVoid, TyInt, TyCondvar, TyPointer, TyCode, TyStruct, TyArray, Tys, NoTy, AndTy}
use Rattle.cpc_tree.specs.Syntax.{Expr, ENamed, EInteger, ECharacter, EText, EUnary, EBinary, EAnd, EOr, EChoose, ECast, ESizeOf, EIndex, EMember, EArrow, ECall, Exprs, NoExpr, AndExpr}
use Rattle.cpc_tree.specs.Syntax.{Stmt, Block, Empty, Declare, Assign, Call, Detach, Spawn, If, While, DoWhile, For, Goto, Label, Break, Continue, Return, Stmts, NoStmt, AndStmt, MaybeStmt, Absent, Present}
use Rattle.cpc_tree.specs.Syntax.{Item, Program}

op_set : IsSet Op
op_set = hlevel props

unary_set : IsSet UnaryOp
unary_set = hlevel props

text_set : IsSet Text
text_set = hlevel props

-- ---- types

data TyCopy : Type 0 where
  CVoid : TyCopy
  CInt : Kind → TyCopy
  CCondvar : TyCopy
  CPointer : TyCopy → TyCopy
  CCode : TyCopy → TyCopy → TyCopy
  CStruct : Text → TyCopy
  CArray : TyCopy → ℕ → TyCopy
  CNoTy : TyCopy
  CAndTy : TyCopy → TyCopy → TyCopy
  deriving IsSet as ty_copy_set

abbrev mutual
  copy_ty : Ty → TyCopy
  copy_ty TyVoid = CVoid
  copy_ty (TyInt k) = CInt k
  copy_ty TyCondvar = CCondvar
  copy_ty (TyPointer t) = CPointer (copy_ty t)
  copy_ty (TyCode t ts) = CCode (copy_ty t) (copy_tys ts)
  copy_ty (TyStruct x) = CStruct x
  copy_ty (TyArray t n) = CArray (copy_ty t) n

  copy_tys : Tys → TyCopy
  copy_tys NoTy = CNoTy
  copy_tys (AndTy t ts) = CAndTy (copy_ty t) (copy_tys ts)

-- the type and the types of which this is a copy
abbrev ty_back : TyCopy → Ty × Tys
ty_back CVoid = (TyVoid, NoTy)
ty_back (CInt k) = (TyInt k, NoTy)
ty_back CCondvar = (TyCondvar, NoTy)
ty_back (CPointer c) = (TyPointer (ty_back c).0, NoTy)
ty_back (CCode c d) = (TyCode (ty_back c).0 (ty_back d).1, NoTy)
ty_back (CStruct x) = (TyStruct x, NoTy)
ty_back (CArray c n) = (TyArray (ty_back c).0 n, NoTy)
ty_back CNoTy = (TyVoid, NoTy)
ty_back (CAndTy c d) = (TyVoid, AndTy (ty_back c).0 (ty_back d).1)

mutual
  ty_again : (t : Ty) → (ty_back (copy_ty t)).0 ≡ t
  ty_again TyVoid = refl
  ty_again (TyInt k) = refl
  ty_again TyCondvar = refl
  ty_again (TyPointer t) = ap TyPointer (ty_again t)
  ty_again (TyCode t ts) = let one = ty_again t in let more = tys_again ts in λ i. TyCode (one i) (more i)
  ty_again (TyStruct x) = refl
  ty_again (TyArray t n) = ap (λ u. TyArray u n) (ty_again t)

  tys_again : (ts : Tys) → (ty_back (copy_tys ts)).1 ≡ ts
  tys_again NoTy = refl
  tys_again (AndTy t ts) = let one = ty_again t in let more = tys_again ts in λ i. AndTy (one i) (more i)

ty_set : IsSet Ty
ty_set = retract_set copy_ty (λ c. (ty_back c).0) ty_again (ty_copy_set kind_set text_set ℕ_set)

-- ---- expressions

data ExprCopy : Type 0 where
  CNamed : Text → ExprCopy
  CInteger : Kind → ℤ → ExprCopy
  CCharacter : ℤ → ExprCopy
  CText : Text → ExprCopy
  CUnary : UnaryOp → ExprCopy → ExprCopy
  CBinary : Op → ExprCopy → ExprCopy → ExprCopy
  CAnd : ExprCopy → ExprCopy → ExprCopy
  COr : ExprCopy → ExprCopy → ExprCopy
  CChoose : ExprCopy → ExprCopy → ExprCopy → ExprCopy
  CCast : Ty → ExprCopy → ExprCopy
  CSizeOf : Ty → ExprCopy
  CIndex : ExprCopy → ExprCopy → ExprCopy
  CMember : ExprCopy → Text → ExprCopy
  CArrow : ExprCopy → Text → ExprCopy
  CECall : ExprCopy → ExprCopy → ExprCopy
  CNoExpr : ExprCopy
  CAndExpr : ExprCopy → ExprCopy → ExprCopy
  deriving IsSet as expr_copy_set

abbrev mutual
  copy_expr : Expr → ExprCopy
  copy_expr (ENamed x) = CNamed x
  copy_expr (EInteger k z) = CInteger k z
  copy_expr (ECharacter z) = CCharacter z
  copy_expr (EText x) = CText x
  copy_expr (EUnary op e) = CUnary op (copy_expr e)
  copy_expr (EBinary op d e) = CBinary op (copy_expr d) (copy_expr e)
  copy_expr (EAnd d e) = CAnd (copy_expr d) (copy_expr e)
  copy_expr (EOr d e) = COr (copy_expr d) (copy_expr e)
  copy_expr (EChoose c d e) = CChoose (copy_expr c) (copy_expr d) (copy_expr e)
  copy_expr (ECast t e) = CCast t (copy_expr e)
  copy_expr (ESizeOf t) = CSizeOf t
  copy_expr (EIndex d e) = CIndex (copy_expr d) (copy_expr e)
  copy_expr (EMember e x) = CMember (copy_expr e) x
  copy_expr (EArrow e x) = CArrow (copy_expr e) x
  copy_expr (ECall e es) = CECall (copy_expr e) (copy_exprs es)

  copy_exprs : Exprs → ExprCopy
  copy_exprs NoExpr = CNoExpr
  copy_exprs (AndExpr e es) = CAndExpr (copy_expr e) (copy_exprs es)

-- the expression and the expressions of which this is a copy
abbrev expr_back : ExprCopy → Expr × Exprs
expr_back (CNamed x) = (ENamed x, NoExpr)
expr_back (CInteger k z) = (EInteger k z, NoExpr)
expr_back (CCharacter z) = (ECharacter z, NoExpr)
expr_back (CText x) = (EText x, NoExpr)
expr_back (CUnary op e) = (EUnary op (expr_back e).0, NoExpr)
expr_back (CBinary op d e) = (EBinary op (expr_back d).0 (expr_back e).0, NoExpr)
expr_back (CAnd d e) = (EAnd (expr_back d).0 (expr_back e).0, NoExpr)
expr_back (COr d e) = (EOr (expr_back d).0 (expr_back e).0, NoExpr)
expr_back (CChoose c d e) = (EChoose (expr_back c).0 (expr_back d).0 (expr_back e).0, NoExpr)
expr_back (CCast t e) = (ECast t (expr_back e).0, NoExpr)
expr_back (CSizeOf t) = (ESizeOf t, NoExpr)
expr_back (CIndex d e) = (EIndex (expr_back d).0 (expr_back e).0, NoExpr)
expr_back (CMember e x) = (EMember (expr_back e).0 x, NoExpr)
expr_back (CArrow e x) = (EArrow (expr_back e).0 x, NoExpr)
expr_back (CECall e es) = (ECall (expr_back e).0 (expr_back es).1, NoExpr)
expr_back CNoExpr = (ECharacter (pos 0), NoExpr)
expr_back (CAndExpr e es) = ((expr_back e).0, AndExpr (expr_back e).0 (expr_back es).1)

mutual
  expr_again : (e : Expr) → (expr_back (copy_expr e)).0 ≡ e
  expr_again (ENamed x) = refl
  expr_again (EInteger k z) = refl
  expr_again (ECharacter z) = refl
  expr_again (EText x) = refl
  expr_again (EUnary op e) = ap (EUnary op) (expr_again e)
  expr_again (EBinary op d e) = let one = expr_again d in let other = expr_again e in λ i. EBinary op (one i) (other i)
  expr_again (EAnd d e) = let one = expr_again d in let other = expr_again e in λ i. EAnd (one i) (other i)
  expr_again (EOr d e) = let one = expr_again d in let other = expr_again e in λ i. EOr (one i) (other i)
  expr_again (EChoose c d e) = let test = expr_again c in let one = expr_again d in let other = expr_again e in λ i. EChoose (test i) (one i) (other i)
  expr_again (ECast t e) = ap (ECast t) (expr_again e)
  expr_again (ESizeOf t) = refl
  expr_again (EIndex d e) = let one = expr_again d in let other = expr_again e in λ i. EIndex (one i) (other i)
  expr_again (EMember e x) = ap (λ d. EMember d x) (expr_again e)
  expr_again (EArrow e x) = ap (λ d. EArrow d x) (expr_again e)
  expr_again (ECall e es) = let one = expr_again e in let more = exprs_again es in λ i. ECall (one i) (more i)

  exprs_again : (es : Exprs) → (expr_back (copy_exprs es)).1 ≡ es
  exprs_again NoExpr = refl
  exprs_again (AndExpr e es) = let one = expr_again e in let more = exprs_again es in λ i. AndExpr (one i) (more i)

expr_set : IsSet Expr
expr_set = retract_set copy_expr (λ c. (expr_back c).0) expr_again (expr_copy_set text_set kind_set ℤ_set unary_set op_set ty_set)

exprs_set : IsSet Exprs
exprs_set = retract_set copy_exprs (λ c. (expr_back c).1) exprs_again (expr_copy_set text_set kind_set ℤ_set unary_set op_set ty_set)

-- ---- statements

maybe_set : IsSet (Option Expr)
maybe_set = hlevel (props, expr_set)

maybe_op_set : IsSet (Option Op)
maybe_op_set = hlevel (props, op_set)

data StmtCopy : Type 0 where
  CBlock : StmtCopy → StmtCopy
  CEmpty : StmtCopy
  CDeclare : Text → Ty → Option Expr → StmtCopy
  CAssign : Expr → Option Op → Expr → StmtCopy
  CCall : Option Expr → Expr → Exprs → StmtCopy
  CDetach : Option Expr → Text → Exprs → StmtCopy
  CSpawn : Text → Exprs → StmtCopy
  CIf : Expr → StmtCopy → StmtCopy → StmtCopy
  CWhile : Expr → StmtCopy → StmtCopy
  CDoWhile : StmtCopy → Expr → StmtCopy
  CFor : StmtCopy → Option Expr → StmtCopy → StmtCopy → StmtCopy
  CGoto : Text → StmtCopy
  CLabel : Text → StmtCopy → StmtCopy
  CBreak : StmtCopy
  CContinue : StmtCopy
  CReturn : Option Expr → StmtCopy
  CNoStmt : StmtCopy
  CAndStmt : StmtCopy → StmtCopy → StmtCopy
  CAbsent : StmtCopy
  CPresent : StmtCopy → StmtCopy
  deriving IsSet as stmt_copy_set

abbrev mutual
  copy_stmt : Stmt → StmtCopy
  copy_stmt (Block ss) = CBlock (copy_stmts ss)
  copy_stmt Empty = CEmpty
  copy_stmt (Declare x t o) = CDeclare x t o
  copy_stmt (Assign e op v) = CAssign e op v
  copy_stmt (Call to f es) = CCall to f es
  copy_stmt (Detach to f es) = CDetach to f es
  copy_stmt (Spawn f es) = CSpawn f es
  copy_stmt (If e a b) = CIf e (copy_stmt a) (copy_maybe b)
  copy_stmt (While e a) = CWhile e (copy_stmt a)
  copy_stmt (DoWhile a e) = CDoWhile (copy_stmt a) e
  copy_stmt (For a o b c) = CFor (copy_stmts a) o (copy_maybe b) (copy_stmt c)
  copy_stmt (Goto x) = CGoto x
  copy_stmt (Label x a) = CLabel x (copy_stmt a)
  copy_stmt Break = CBreak
  copy_stmt Continue = CContinue
  copy_stmt (Return o) = CReturn o

  copy_stmts : Stmts → StmtCopy
  copy_stmts NoStmt = CNoStmt
  copy_stmts (AndStmt s ss) = CAndStmt (copy_stmt s) (copy_stmts ss)

  copy_maybe : MaybeStmt → StmtCopy
  copy_maybe Absent = CAbsent
  copy_maybe (Present s) = CPresent (copy_stmt s)

-- the statement, the statements and the statement that may be absent of which this is a copy
abbrev stmt_back : StmtCopy → Stmt × Stmts × MaybeStmt
stmt_back (CBlock c) = (Block (stmt_back c).1, NoStmt, Absent)
stmt_back CEmpty = (Empty, NoStmt, Absent)
stmt_back (CDeclare x t o) = (Declare x t o, NoStmt, Absent)
stmt_back (CAssign e op v) = (Assign e op v, NoStmt, Absent)
stmt_back (CCall to f es) = (Call to f es, NoStmt, Absent)
stmt_back (CDetach to f es) = (Detach to f es, NoStmt, Absent)
stmt_back (CSpawn f es) = (Spawn f es, NoStmt, Absent)
stmt_back (CIf e a b) = (If e (stmt_back a).0 (stmt_back b).2, NoStmt, Absent)
stmt_back (CWhile e a) = (While e (stmt_back a).0, NoStmt, Absent)
stmt_back (CDoWhile a e) = (DoWhile (stmt_back a).0 e, NoStmt, Absent)
stmt_back (CFor a o b c) = (For (stmt_back a).1 o (stmt_back b).2 (stmt_back c).0, NoStmt, Absent)
stmt_back (CGoto x) = (Goto x, NoStmt, Absent)
stmt_back (CLabel x a) = (Label x (stmt_back a).0, NoStmt, Absent)
stmt_back CBreak = (Break, NoStmt, Absent)
stmt_back CContinue = (Continue, NoStmt, Absent)
stmt_back (CReturn o) = (Return o, NoStmt, Absent)
stmt_back CNoStmt = (Empty, NoStmt, Absent)
stmt_back (CAndStmt a b) = (Empty, AndStmt (stmt_back a).0 (stmt_back b).1, Absent)
stmt_back CAbsent = (Empty, NoStmt, Absent)
stmt_back (CPresent a) = (Empty, NoStmt, Present (stmt_back a).0)

mutual
  stmt_again : (s : Stmt) → (stmt_back (copy_stmt s)).0 ≡ s
  stmt_again (Block ss) = ap Block (stmts_again ss)
  stmt_again Empty = refl
  stmt_again (Declare x t o) = refl
  stmt_again (Assign e op v) = refl
  stmt_again (Call to f es) = refl
  stmt_again (Detach to f es) = refl
  stmt_again (Spawn f es) = refl
  stmt_again (If e a b) = let yes = stmt_again a in let other = maybe_again b in λ i. If e (yes i) (other i)
  stmt_again (While e a) = ap (While e) (stmt_again a)
  stmt_again (DoWhile a e) = ap (λ s. DoWhile s e) (stmt_again a)
  stmt_again (For a o b c) = let first = stmts_again a in let step = maybe_again b in let body = stmt_again c in λ i. For (first i) o (step i) (body i)
  stmt_again (Goto x) = refl
  stmt_again (Label x a) = ap (Label x) (stmt_again a)
  stmt_again Break = refl
  stmt_again Continue = refl
  stmt_again (Return o) = refl

  stmts_again : (ss : Stmts) → (stmt_back (copy_stmts ss)).1 ≡ ss
  stmts_again NoStmt = refl
  stmts_again (AndStmt s ss) = let one = stmt_again s in let more = stmts_again ss in λ i. AndStmt (one i) (more i)

  maybe_again : (m : MaybeStmt) → (stmt_back (copy_maybe m)).2 ≡ m
  maybe_again Absent = refl
  maybe_again (Present s) = ap Present (stmt_again s)

stmt_set : IsSet Stmt
stmt_set = retract_set copy_stmt (λ c. (stmt_back c).0) stmt_again (stmt_copy_set text_set ty_set maybe_set expr_set maybe_op_set exprs_set)

-- ---- programs

item_set : IsSet Item
item_set = hlevel (props, ty_set, expr_set, stmt_set)

pub program_set : IsSet Program
program_set = hlevel (props, item_set)
