-- From the trees of src/ to programs without places.
use Rattle.std.specs.Prelude.{List, [], ◌∷◌, Option, Some, None, get_or, map, option_map}
use Rattle.cpc_base.specs.Bytes.{Text}
use Rattle.cpc_tree.specs.Syntax.{Ty, TyVoid, TyInt, TyCondvar, TyPointer, TyCode, TyStruct, TyArray, Tys, NoTy, AndTy, Expr, ENamed, EInteger, ECharacter, EText, EUnary, EBinary, EAnd, EOr, EChoose, ECast, ESizeOf, EIndex, EMember, EArrow, ECall, Exprs, NoExpr, AndExpr, Stmt, Stmts, NoStmt, AndStmt, MaybeStmt, Absent, Present, Variable, Parameter, Function, Item, StructItem, GlobalItem, PrototypeItem, FunctionItem, Program}
use Rattle.cpc_tree.specs.Syntax as S
use Rattle.cpc_base.specs.declared.names.Name.{Name}
use Rattle.cpc_tree.specs.declared.program.CType as GType
use Rattle.cpc_tree.specs.declared.program.CType.TheVariants as C
use Rattle.cpc_tree.specs.declared.program.Expr as GExpr
use Rattle.cpc_tree.specs.declared.program.Expr.TheVariants as E
use Rattle.cpc_tree.specs.declared.program.Statement as GStatement
use Rattle.cpc_tree.specs.declared.program.Statement.TheVariants as T
use Rattle.cpc_tree.specs.declared.program.Word.{Word}
use Rattle.cpc_tree.specs.declared.program.Parameter as GParameter
use Rattle.cpc_tree.specs.declared.program.Field as GField
use Rattle.cpc_tree.specs.declared.program.Function as GFunction
use Rattle.cpc_tree.specs.declared.program.Item as GItem
use Rattle.cpc_tree.specs.declared.program.Item.TheVariants as I
use Rattle.cpc_tree.specs.declared.program.Program as GProgram
use Rattle.std.specs.Prelude.{Box}
use Rattle.std.specs.Global.{Global}

-- the text of each name
abbrev pub Names : Type 0
Names = Name → Text

abbrev pub text_of : Names → Name → Text
text_of names n = names n

-- the texts of a table, in the order of their names
abbrev pub Table : Type 0
Table = List Text

abbrev pub in_table : Table → Names
in_table table n = get_or table n.0 []

abbrev mutual
  pub type_of : Names → GType.CType → Ty
  type_of names C.Void = TyVoid
  type_of names (C.Int kind) = TyInt kind
  type_of names C.Condvar = TyCondvar
  type_of names (C.Pointer' p t) = TyPointer (type_of names t)
  type_of names (C.Code' p result shape row) = TyCode (type_of names result) (types_of names row)
  type_of names (C.Struct tag) = TyStruct (text_of names tag)
  type_of names (C.Array' p t n) = TyArray (type_of names t) n

  pub types_of : {m : _} → Names → GType.Row_of-CType m → Tys
  types_of names GType.end_of-CType = NoTy
  types_of names (GType.more_of-CType t rest) = AndTy (type_of names t) (types_of names rest)

abbrev mutual
  pub expr_of : Names → GExpr.Expr → Expr
  expr_of names (E.Name w) = ENamed (text_of names w.name)
  expr_of names (E.Integer p kind v) = EInteger kind v
  expr_of names (E.Character p v) = ECharacter v
  expr_of names (E.Text p bytes) = EText bytes.items
  expr_of names (E.Unary' p op q e) = EUnary op (expr_of names e)
  expr_of names (E.Binary' p op q a r b) = EBinary op (expr_of names a) (expr_of names b)
  expr_of names (E.And' p q a r b) = EAnd (expr_of names a) (expr_of names b)
  expr_of names (E.Or' p q a r b) = EOr (expr_of names a) (expr_of names b)
  expr_of names (E.Choose' p q t r a s b) = EChoose (expr_of names t) (expr_of names a) (expr_of names b)
  expr_of names (E.Cast' p t q e) = ECast (type_of names t) (expr_of names e)
  expr_of names (E.SizeOf p t) = ESizeOf (type_of names t)
  expr_of names (E.Index' p q a r i) = EIndex (expr_of names a) (expr_of names i)
  expr_of names (E.Member' p q e field) = EMember (expr_of names e) (text_of names field.name)
  expr_of names (E.Arrow' p q e field) = EArrow (expr_of names e) (text_of names field.name)
  expr_of names (E.CallIn' p q f shape row) = ECall (expr_of names f) (row_of names row)

  pub row_of : {m : _} → Names → GExpr.Row_of-Expr m → Exprs
  row_of names GExpr.end_of-Expr = NoExpr
  row_of names (GExpr.more_of-Expr e rest) = AndExpr (expr_of names e) (row_of names rest)

-- a list of expressions that stands in a statement
abbrev pub exprs_of : Names → List GExpr.Expr → Exprs
exprs_of names [] = NoExpr
exprs_of names (e ∷ es) = AndExpr (expr_of names e) (exprs_of names es)

abbrev mutual
  pub stmt_of : Names → GStatement.Statement → Stmt
  stmt_of names (T.Block' p shape row) = S.Block (stmts_of names row)
  stmt_of names (T.Empty p) = S.Empty
  stmt_of names (T.Declare p w t start) = S.Declare (text_of names w.name) (type_of names t) (option_map (expr_of names) start)
  stmt_of names (T.Assign p o e op v) = S.Assign (expr_of names e) op (expr_of names v)
  stmt_of names (T.Call p o e f es) = S.Call (option_map (expr_of names) e) (expr_of names f) (exprs_of names es.items)
  stmt_of names (T.Detach p o k e f es) = S.Detach (option_map (expr_of names) e) (text_of names f.name) (exprs_of names es.items)
  stmt_of names (T.Spawn p f es) = S.Spawn (text_of names f.name) (exprs_of names es.items)
  stmt_of names (T.If' p t q a b) = S.If (expr_of names t) (stmt_of names a) (maybe_of names b)
  stmt_of names (T.While' p t q s) = S.While (expr_of names t) (stmt_of names s)
  stmt_of names (T.DoWhile' p q s t) = S.DoWhile (stmt_of names s) (expr_of names t)
  stmt_of names (T.For' p shape row t step q s) = S.For (stmts_of names row) (option_map (expr_of names) t) (maybe_of names step) (stmt_of names s)
  stmt_of names (T.Goto p l) = S.Goto (text_of names l.name)
  stmt_of names (T.Label' l q s) = S.Label (text_of names l.name) (stmt_of names s)
  stmt_of names (T.Break p) = S.Break
  stmt_of names (T.Continue p) = S.Continue
  stmt_of names (T.Return p v) = S.Return (option_map (expr_of names) v)

  pub stmts_of : {m : _} → Names → GStatement.Row_of-Statement m → Stmts
  stmts_of names GStatement.end_of-Statement = NoStmt
  stmts_of names (GStatement.more_of-Statement s rest) = AndStmt (stmt_of names s) (stmts_of names rest)

  pub maybe_of : Names → GStatement.Held-Statement-If-3 → MaybeStmt
  maybe_of names GStatement.None' = Absent
  maybe_of names (GStatement.Some' p s) = Present (stmt_of names s)

abbrev pub parameter_of : Names → GParameter.Parameter → Parameter
parameter_of names p = record { called = option_map (λ (w : Word). text_of names w.name) p.word; type = type_of names p.of }

abbrev pub field_of : Names → GField.Field → Variable
field_of names f = record { called = text_of names f.word.name; type = type_of names f.of }

abbrev pub function_of : Names → GFunction.Function → Function
function_of names f = record {
  mode = f.mode;
  called = text_of names f.word.name;
  result = type_of names f.result;
  parameters = map (parameter_of names) f.parameters.items;
  body = stmt_of names f.body;
}

abbrev pub item_of : Names → GItem.Item → Item
item_of names (I.Struct tag fields) = StructItem (text_of names tag.name) (map (field_of names) fields.items)
item_of names (I.Global w t start) = GlobalItem (text_of names w.name) (type_of names t) (option_map (expr_of names) start)
item_of names (I.Prototype p mode w result ps) = PrototypeItem mode (text_of names w.name) (type_of names result) (map (parameter_of names) ps.items)
item_of names (I.Function f) = FunctionItem (function_of names f)

-- the program that a tree means
abbrev pub program_of : GProgram.Program → Program
program_of p = map (item_of (in_table p.names)) p.items.items

-- the statements of a Vec
abbrev pub list_of : Names → List GStatement.Statement → Stmts
list_of names [] = NoStmt
list_of names (s ∷ ss) = AndStmt (stmt_of names s) (list_of names ss)

-- a statement that may be absent
abbrev pub maybe_at : Names → Option (Box GStatement.Statement Global) → MaybeStmt
maybe_at names None = Absent
maybe_at names (Some b) = Present (stmt_of names b.value)
