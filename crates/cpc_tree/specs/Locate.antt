-- From the trees of src/ to programs with places.
use Rattle.std.specs.Prelude.{List, [], ◌∷◌, Option, Some, None, map, option_map, Box}
use Rattle.std.specs.Global.{Global}
use Rattle.cpc_tree.specs.Erase.{Names, text_of, type_of, in_table}
use Rattle.cpc_tree.specs.Located.{Ident, LExpr, LNamed, LInteger, LCharacter, LText, LUnary, LBinary, LAnd, LOr, LChoose, LCast, LSizeOf, LIndex, LMember, LArrow, LCall, LExprs, NoLExpr, AndLExpr, LStmt, LStmts, NoLStmt, AndLStmt, MaybeLStmt, NoneLStmt, SomeLStmt, LVariable, LParameter, LFunction, LItem, LStruct, LGlobal, LPrototype, LFunctionItem, LProgram}
use Rattle.cpc_tree.specs.Located as L
use Rattle.cpc_tree.specs.declared.program.Expr as GExpr
use Rattle.cpc_tree.specs.declared.program.Expr.TheVariants as E
use Rattle.cpc_tree.specs.declared.program.Statement as GStatement
use Rattle.cpc_tree.specs.declared.program.Statement.TheVariants as T
use Rattle.cpc_tree.specs.declared.program.Word.{Word}
use Rattle.cpc_tree.specs.declared.program.Parameter as GParameter
use Rattle.cpc_tree.specs.declared.program.Field as GField
use Rattle.cpc_tree.specs.declared.program.Function as GFunction
use Rattle.cpc_tree.specs.declared.program.Item as GItem
use Rattle.cpc_tree.specs.declared.program.Item.TheVariants as I
use Rattle.cpc_tree.specs.declared.program.Program as GProgram

abbrev pub ident : Names → Word → Ident
ident names w = record { place = w.place; text = text_of names w.name }

abbrev mutual
  pub located_expr : Names → GExpr.Expr → LExpr
  located_expr names (E.Name w) = LNamed (ident names w)
  located_expr names (E.Integer p kind v) = LInteger p kind v
  located_expr names (E.Character p v) = LCharacter p v
  located_expr names (E.Text p bytes) = LText p bytes.items
  located_expr names (E.Unary' p op q e) = LUnary p op (located_expr names e)
  located_expr names (E.Binary' p op q a r b) = LBinary p op (located_expr names a) (located_expr names b)
  located_expr names (E.And' p q a r b) = LAnd p (located_expr names a) (located_expr names b)
  located_expr names (E.Or' p q a r b) = LOr p (located_expr names a) (located_expr names b)
  located_expr names (E.Choose' p q t r a s b) = LChoose p (located_expr names t) (located_expr names a) (located_expr names b)
  located_expr names (E.Cast' p t q e) = LCast p (type_of names t) (located_expr names e)
  located_expr names (E.SizeOf p t) = LSizeOf p (type_of names t)
  located_expr names (E.Index' p q a r i) = LIndex p (located_expr names a) (located_expr names i)
  located_expr names (E.Member' p q e field) = LMember p (located_expr names e) (ident names field)
  located_expr names (E.Arrow' p q e field) = LArrow p (located_expr names e) (ident names field)
  located_expr names (E.CallIn' p q f shape row) = LCall p (located_expr names f) (located_row names row)

  pub located_row : {m : _} → Names → GExpr.Row_of-Expr m → LExprs
  located_row names GExpr.end_of-Expr = NoLExpr
  located_row names (GExpr.more_of-Expr e rest) = AndLExpr (located_expr names e) (located_row names rest)

-- a list of expressions that stands in a statement
abbrev pub located_exprs : Names → List GExpr.Expr → LExprs
located_exprs names [] = NoLExpr
located_exprs names (e ∷ es) = AndLExpr (located_expr names e) (located_exprs names es)

abbrev mutual
  pub located_stmt : Names → GStatement.Statement → LStmt
  located_stmt names (T.Block' p shape row) = L.Block p (located_stmts names row)
  located_stmt names (T.Empty p) = L.Empty p
  located_stmt names (T.Declare p w t start) = L.Declare p (ident names w) (type_of names t) (option_map (located_expr names) start)
  located_stmt names (T.Assign p o e op v) = L.Assign p o (located_expr names e) op (located_expr names v)
  located_stmt names (T.Call p o e f es) = L.Call p o (option_map (located_expr names) e) (located_expr names f) (located_exprs names es.items)
  located_stmt names (T.Detach p o k e f es) = L.Detach p o k (option_map (located_expr names) e) (ident names f) (located_exprs names es.items)
  located_stmt names (T.Spawn p f es) = L.Spawn p (ident names f) (located_exprs names es.items)
  located_stmt names (T.If' p t q a b) = L.If p (located_expr names t) (located_stmt names a) (located_maybe names b)
  located_stmt names (T.While' p t q s) = L.While p (located_expr names t) (located_stmt names s)
  located_stmt names (T.DoWhile' p q s t) = L.DoWhile p (located_stmt names s) (located_expr names t)
  located_stmt names (T.For' p shape row t step q s) = L.For p (located_stmts names row) (option_map (located_expr names) t) (located_maybe names step) (located_stmt names s)
  located_stmt names (T.Goto p l) = L.Goto p (ident names l)
  located_stmt names (T.Label' l q s) = L.Label (ident names l) (located_stmt names s)
  located_stmt names (T.Break p) = L.Break p
  located_stmt names (T.Continue p) = L.Continue p
  located_stmt names (T.Return p v) = L.Return p (option_map (located_expr names) v)

  pub located_stmts : {m : _} → Names → GStatement.Row_of-Statement m → LStmts
  located_stmts names GStatement.end_of-Statement = NoLStmt
  located_stmts names (GStatement.more_of-Statement s rest) = AndLStmt (located_stmt names s) (located_stmts names rest)

  pub located_maybe : Names → GStatement.Held-Statement-If-3 → MaybeLStmt
  located_maybe names GStatement.None' = NoneLStmt
  located_maybe names (GStatement.Some' p s) = SomeLStmt (located_stmt names s)

-- the statements of a Vec
abbrev pub located_list : Names → List GStatement.Statement → LStmts
located_list names [] = NoLStmt
located_list names (s ∷ ss) = AndLStmt (located_stmt names s) (located_list names ss)

-- a statement that may be absent
abbrev pub located_at : Names → Option (Box GStatement.Statement Global) → MaybeLStmt
located_at names None = NoneLStmt
located_at names (Some b) = SomeLStmt (located_stmt names b.value)

abbrev pub located_parameter : Names → GParameter.Parameter → LParameter
located_parameter names p = record { called = option_map (ident names) p.word; type = type_of names p.of }

abbrev pub located_field : Names → GField.Field → LVariable
located_field names f = record { called = ident names f.word; type = type_of names f.of }

abbrev pub located_function : Names → GFunction.Function → LFunction
located_function names f = record {
  place = f.place;
  mode = f.mode;
  called = ident names f.word;
  result = type_of names f.result;
  parameters = map (located_parameter names) f.parameters.items;
  body = located_stmt names f.body;
}

abbrev pub located_item : Names → GItem.Item → LItem
located_item names (I.Struct tag fields) = LStruct (ident names tag) (map (located_field names) fields.items)
located_item names (I.Global w t start) = LGlobal (ident names w) (type_of names t) (option_map (located_expr names) start)
located_item names (I.Prototype p mode w result ps) = LPrototype p mode (ident names w) (type_of names result) (map (located_parameter names) ps.items)
located_item names (I.Function f) = LFunctionItem (located_function names f)

-- a tree as a program with its places
abbrev pub located : GProgram.Program → LProgram
located p = record { items = map (located_item (in_table p.names)) p.items.items; end = p.end }
