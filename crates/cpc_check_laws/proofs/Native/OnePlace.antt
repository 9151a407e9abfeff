-- A tree without places as one with the same place everywhere, which without its places is the tree again.
use Rattle.std.proofs.Common.{◌≡◌, List, [], ◌∷◌, map, Option, Some, None, option_map, refl, ap, ap₂}
use Rattle.cpc_base.specs.Bytes.{Text}
use Rattle.cpc_tree.specs.Syntax.{Expr, ENamed, EInteger, ECharacter, EText, EUnary, EBinary, EAnd, EOr, EChoose, ECast, ESizeOf, EIndex, EMember, EArrow, ECall, Exprs, NoExpr, AndExpr, Stmt, Stmts, NoStmt, AndStmt, MaybeStmt, Absent, Present, Variable, Parameter, Function, Item, StructItem, GlobalItem, PrototypeItem, FunctionItem, Program}
use Rattle.cpc_tree.specs.Syntax as S
use Rattle.cpc_tree.specs.Located.{LExpr, LNamed, LInteger, LCharacter, LText, LUnary, LBinary, LAnd, LOr, LChoose, LCast, LSizeOf, LIndex, LMember, LArrow, LCall, LExprs, NoLExpr, AndLExpr, LStmt, Block, Empty, Declare, Assign, Call, Detach, Spawn, If, While, DoWhile, For, Goto, Label, Break, Continue, Return, LStmts, NoLStmt, AndLStmt, MaybeLStmt, NoneLStmt, SomeLStmt, LVariable, LParameter, LFunction, LItem, LStruct, LGlobal, LPrototype, LFunctionItem, LProgram, bare_expr, bare_exprs, bare_stmt, bare_stmts, bare_maybe, bare_variable, bare_parameter, bare_item, bare}
pub use Rattle.cpc_check_laws.specs.Run.Refusals.{here, name as ident_here}

abbrev mutual
  pub expr_here : Expr → LExpr
  expr_here (ENamed x) = LNamed (ident_here x)
  expr_here (EInteger kind z) = LInteger here kind z
  expr_here (ECharacter z) = LCharacter here z
  expr_here (EText bytes) = LText here bytes
  expr_here (EUnary op v) = LUnary here op (expr_here v)
  expr_here (EBinary op v w) = LBinary here op (expr_here v) (expr_here w)
  expr_here (EAnd v w) = LAnd here (expr_here v) (expr_here w)
  expr_here (EOr v w) = LOr here (expr_here v) (expr_here w)
  expr_here (EChoose c v w) = LChoose here (expr_here c) (expr_here v) (expr_here w)
  expr_here (ECast t v) = LCast here t (expr_here v)
  expr_here (ESizeOf t) = LSizeOf here t
  expr_here (EIndex v w) = LIndex here (expr_here v) (expr_here w)
  expr_here (EMember v x) = LMember here (expr_here v) (ident_here x)
  expr_here (EArrow v x) = LArrow here (expr_here v) (ident_here x)
  expr_here (ECall v vs) = LCall here (expr_here v) (exprs_here vs)

  pub exprs_here : Exprs → LExprs
  exprs_here NoExpr = NoLExpr
  exprs_here (AndExpr v vs) = AndLExpr (expr_here v) (exprs_here vs)

abbrev mutual
  pub stmt_here : Stmt → LStmt
  stmt_here (S.Block ss) = Block here (stmts_here ss)
  stmt_here S.Empty = Empty here
  stmt_here (S.Declare x t start) = Declare here (ident_here x) t (option_map expr_here start)
  stmt_here (S.Assign v op w) = Assign here here (expr_here v) op (expr_here w)
  stmt_here (S.Call u v vs) = Call here here (option_map expr_here u) (expr_here v) (exprs_here vs)
  stmt_here (S.Detach u x vs) = Detach here here here (option_map expr_here u) (ident_here x) (exprs_here vs)
  stmt_here (S.Spawn x vs) = Spawn here (ident_here x) (exprs_here vs)
  stmt_here (S.If c s r) = If here (expr_here c) (stmt_here s) (maybe_here r)
  stmt_here (S.While c s) = While here (expr_here c) (stmt_here s)
  stmt_here (S.DoWhile s c) = DoWhile here (stmt_here s) (expr_here c)
  stmt_here (S.For ss c r s) = For here (stmts_here ss) (option_map expr_here c) (maybe_here r) (stmt_here s)
  stmt_here (S.Goto x) = Goto here (ident_here x)
  stmt_here (S.Label x s) = Label (ident_here x) (stmt_here s)
  stmt_here S.Break = Break here
  stmt_here S.Continue = Continue here
  stmt_here (S.Return v) = Return here (option_map expr_here v)

  pub stmts_here : Stmts → LStmts
  stmts_here NoStmt = NoLStmt
  stmts_here (AndStmt s ss) = AndLStmt (stmt_here s) (stmts_here ss)

  pub maybe_here : MaybeStmt → MaybeLStmt
  maybe_here Absent = NoneLStmt
  maybe_here (Present s) = SomeLStmt (stmt_here s)

abbrev pub variable_here : Variable → LVariable
variable_here x = record { called = ident_here x.called; type = x.type }

abbrev pub parameter_here : Parameter → LParameter
parameter_here p = record { called = option_map ident_here p.called; type = p.type }

abbrev pub function_here : Function → LFunction
function_here f = record { place = here; mode = f.mode; called = ident_here f.called; result = f.result; parameters = map parameter_here f.parameters; body = stmt_here f.body }

abbrev pub item_here : Item → LItem
item_here (StructItem tag xs) = LStruct (ident_here tag) (map variable_here xs)
item_here (GlobalItem x t start) = LGlobal (ident_here x) t (option_map expr_here start)
item_here (PrototypeItem mode x t ps) = LPrototype here mode (ident_here x) t (map parameter_here ps)
item_here (FunctionItem f) = LFunctionItem (function_here f)

abbrev pub program_here : Program → LProgram
program_here p = record { items = map item_here p; end = here }

-- ---- without its places it is the tree again

pub ap₃ : {A B C D : Type 0} (f : A → B → C → D) {x x' : A} {y y' : B} {z z' : C} → x ≡ x' → y ≡ y' → z ≡ z' → f x y z ≡ f x' y' z'
ap₃ f e g h = rw e (rw g (rw h refl))

mutual
  pub expr_again : (e : Expr) → bare_expr (expr_here e) ≡ e
  expr_again (ENamed x) = refl
  expr_again (EInteger kind z) = refl
  expr_again (ECharacter z) = refl
  expr_again (EText bytes) = refl
  expr_again (EUnary op v) = ap (EUnary op) (expr_again v)
  expr_again (EBinary op v w) = ap₂ (EBinary op) (expr_again v) (expr_again w)
  expr_again (EAnd v w) = ap₂ EAnd (expr_again v) (expr_again w)
  expr_again (EOr v w) = ap₂ EOr (expr_again v) (expr_again w)
  expr_again (EChoose c v w) = ap₃ EChoose (expr_again c) (expr_again v) (expr_again w)
  expr_again (ECast t v) = ap (ECast t) (expr_again v)
  expr_again (ESizeOf t) = refl
  expr_again (EIndex v w) = ap₂ EIndex (expr_again v) (expr_again w)
  expr_again (EMember v x) = ap (λ v. EMember v x) (expr_again v)
  expr_again (EArrow v x) = ap (λ v. EArrow v x) (expr_again v)
  expr_again (ECall v vs) = ap₂ ECall (expr_again v) (exprs_again vs)

  pub exprs_again : (es : Exprs) → bare_exprs (exprs_here es) ≡ es
  exprs_again NoExpr = refl
  exprs_again (AndExpr v vs) = ap₂ AndExpr (expr_again v) (exprs_again vs)

maybe_expr_again : (o : Option Expr) → option_map bare_expr (option_map expr_here o) ≡ o
maybe_expr_again None = refl
maybe_expr_again (Some e) = ap Some (expr_again e)

mutual
  pub stmt_again : (s : Stmt) → bare_stmt (stmt_here s) ≡ s
  stmt_again (S.Block ss) = ap S.Block (stmts_again ss)
  stmt_again S.Empty = refl
  stmt_again (S.Declare x t start) = ap (S.Declare x t) (maybe_expr_again start)
  stmt_again (S.Assign v op w) = ap₂ (λ v w. S.Assign v op w) (expr_again v) (expr_again w)
  stmt_again (S.Call u v vs) = ap₃ S.Call (maybe_expr_again u) (expr_again v) (exprs_again vs)
  stmt_again (S.Detach u x vs) = ap₂ (λ u vs. S.Detach u x vs) (maybe_expr_again u) (exprs_again vs)
  stmt_again (S.Spawn x vs) = ap (S.Spawn x) (exprs_again vs)
  stmt_again (S.If c s r) = ap₃ S.If (expr_again c) (stmt_again s) (maybe_again r)
  stmt_again (S.While c s) = ap₂ S.While (expr_again c) (stmt_again s)
  stmt_again (S.DoWhile s c) = ap₂ S.DoWhile (stmt_again s) (expr_again c)
  stmt_again (S.For ss c r s) = ap₃ (λ (a : Stmts × Option Expr) r s. S.For a.0 a.1 r s) (ap₂ (λ ss c. (ss, c)) (stmts_again ss) (maybe_expr_again c)) (maybe_again r) (stmt_again s)
  stmt_again (S.Goto x) = refl
  stmt_again (S.Label x s) = ap (S.Label x) (stmt_again s)
  stmt_again S.Break = refl
  stmt_again S.Continue = refl
  stmt_again (S.Return v) = ap S.Return (maybe_expr_again v)

  pub stmts_again : (ss : Stmts) → bare_stmts (stmts_here ss) ≡ ss
  stmts_again NoStmt = refl
  stmts_again (AndStmt s ss) = ap₂ AndStmt (stmt_again s) (stmts_again ss)

  pub maybe_again : (s : MaybeStmt) → bare_maybe (maybe_here s) ≡ s
  maybe_again Absent = refl
  maybe_again (Present s) = ap Present (stmt_again s)

variables_again : (xs : List Variable) → map bare_variable (map variable_here xs) ≡ xs
variables_again [] = refl
variables_again (x ∷ xs) = ap (λ xs. x ∷ xs) (variables_again xs)

parameter_again : (p : Parameter) → bare_parameter (parameter_here p) ≡ p
parameter_again p = go p.called
  where
    go : (o : Option Text) → bare_parameter (parameter_here (record { called = o; type = p.type })) ≡ record { called = o; type = p.type }
    go None = refl
    go (Some x) = refl

parameters_again : (ps : List Parameter) → map bare_parameter (map parameter_here ps) ≡ ps
parameters_again [] = refl
parameters_again (p ∷ ps) = ap₂ (λ p ps. p ∷ ps) (parameter_again p) (parameters_again ps)

pub item_again : (x : Item) → bare_item (item_here x) ≡ x
item_again (StructItem tag xs) = ap (StructItem tag) (variables_again xs)
item_again (GlobalItem x t start) = ap (GlobalItem x t) (maybe_expr_again start)
item_again (PrototypeItem mode x t ps) = ap (PrototypeItem mode x t) (parameters_again ps)
item_again (FunctionItem f) = ap₂ (λ ps s. FunctionItem (record { mode = f.mode; called = f.called; result = f.result; parameters = ps; body = s })) (parameters_again f.parameters) (stmt_again f.body)

items_again : (xs : List Item) → map bare_item (map item_here xs) ≡ xs
items_again [] = refl
items_again (x ∷ xs) = ap₂ (λ x xs. x ∷ xs) (item_again x) (items_again xs)

pub program_again : (p : Program) → bare (program_here p) ≡ p
program_again p = items_again p
