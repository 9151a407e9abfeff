-- Whether all names of a tree are below a number.
use Rattle.std.proofs.Common.{ℕ, Bool, true, ◌&&◌, nat_lt, List, [], ◌∷◌, Option, Some, None}
use Rattle.cpc_base.specs.declared.names.Name.{Name}
use Rattle.cpc_tree.specs.declared.program.CType as GType
use Rattle.cpc_tree.specs.declared.program.CType.TheVariants as C
use Rattle.cpc_tree.specs.declared.program.Expr as GExpr
use Rattle.cpc_tree.specs.declared.program.Expr.TheVariants as E
use Rattle.cpc_tree.specs.declared.program.Statement as GStatement
use Rattle.cpc_tree.specs.declared.program.Statement.TheVariants as T
use Rattle.cpc_tree.specs.declared.program.Word.{Word}
use Rattle.cpc_tree.specs.declared.program.Parameter.{Parameter}
use Rattle.cpc_tree.specs.declared.program.Field.{Field}
use Rattle.cpc_tree.specs.declared.program.Item.{Item}
use Rattle.cpc_tree.specs.declared.program.Item.TheVariants as I

module _ (m : ℕ) where
  abbrev pub name_in : Name → Bool
  name_in n = nat_lt n.0 m

  abbrev mutual
    pub type_in : GType.CType → Bool
    type_in C.Void = true
    type_in (C.Int kind) = true
    type_in C.Condvar = true
    type_in (C.Pointer' p t) = type_in t
    type_in (C.Code' p result shape row) = type_in result && types_in row
    type_in (C.Struct tag) = name_in tag
    type_in (C.Array' p t n) = type_in t

    pub types_in : {k : _} → GType.Row_of-CType k → Bool
    types_in GType.end_of-CType = true
    types_in (GType.more_of-CType t rest) = type_in t && types_in rest

  abbrev mutual
    pub expr_in : GExpr.Expr → Bool
    expr_in (E.Name w) = name_in w.name
    expr_in (E.Integer p kind v) = true
    expr_in (E.Character p v) = true
    expr_in (E.Text p bytes) = true
    expr_in (E.Unary' p op q e) = expr_in e
    expr_in (E.Binary' p op q a r b) = expr_in a && expr_in b
    expr_in (E.And' p q a r b) = expr_in a && expr_in b
    expr_in (E.Or' p q a r b) = expr_in a && expr_in b
    expr_in (E.Choose' p q t r a s b) = expr_in t && (expr_in a && expr_in b)
    expr_in (E.Cast' p t q e) = type_in t && expr_in e
    expr_in (E.SizeOf p t) = type_in t
    expr_in (E.Index' p q a r i) = expr_in a && expr_in i
    expr_in (E.Member' p q e field) = expr_in e && name_in field.name
    expr_in (E.Arrow' p q e field) = expr_in e && name_in field.name
    expr_in (E.CallIn' p q f shape row) = expr_in f && row_in row

    pub row_in : {k : _} → GExpr.Row_of-Expr k → Bool
    row_in GExpr.end_of-Expr = true
    row_in (GExpr.more_of-Expr e rest) = expr_in e && row_in rest

  abbrev pub exprs_in : List GExpr.Expr → Bool
  exprs_in [] = true
  exprs_in (e ∷ es) = expr_in e && exprs_in es

  abbrev pub expr_if : Option GExpr.Expr → Bool
  expr_if None = true
  expr_if (Some e) = expr_in e

  abbrev mutual
    pub stmt_in : GStatement.Statement → Bool
    stmt_in (T.Block' p shape row) = stmts_in row
    stmt_in (T.Empty p) = true
    stmt_in (T.Declare p w t start) = name_in w.name && (type_in t && expr_if start)
    stmt_in (T.Assign p o e op v) = expr_in e && expr_in v
    stmt_in (T.Call p o e f es) = expr_if e && (expr_in f && exprs_in es.items)
    stmt_in (T.Detach p o k e f es) = expr_if e && (name_in f.name && exprs_in es.items)
    stmt_in (T.Spawn p f es) = name_in f.name && exprs_in es.items
    stmt_in (T.If' p t q a b) = expr_in t && (stmt_in a && maybe_in b)
    stmt_in (T.While' p t q s) = expr_in t && stmt_in s
    stmt_in (T.DoWhile' p q s t) = stmt_in s && expr_in t
    stmt_in (T.For' p shape row t step q s) = stmts_in row && (expr_if t && (maybe_in step && stmt_in s))
    stmt_in (T.Goto p l) = name_in l.name
    stmt_in (T.Label' l q s) = name_in l.name && stmt_in s
    stmt_in (T.Break p) = true
    stmt_in (T.Continue p) = true
    stmt_in (T.Return p v) = expr_if v

    pub stmts_in : {k : _} → GStatement.Row_of-Statement k → Bool
    stmts_in GStatement.end_of-Statement = true
    stmts_in (GStatement.more_of-Statement s rest) = stmt_in s && stmts_in rest

    pub maybe_in : GStatement.Held-Statement-If-3 → Bool
    maybe_in GStatement.None' = true
    maybe_in (GStatement.Some' p s) = stmt_in s

  abbrev pub word_if : Option Word → Bool
  word_if None = true
  word_if (Some w) = name_in w.name

  abbrev pub parameters_in : List Parameter → Bool
  parameters_in [] = true
  parameters_in (p ∷ ps) = (word_if p.word && type_in p.of) && parameters_in ps

  abbrev pub fields_in : List Field → Bool
  fields_in [] = true
  fields_in (f ∷ fs) = (name_in f.word.name && type_in f.of) && fields_in fs

  abbrev pub item_in : Item → Bool
  item_in (I.Struct tag fields) = name_in tag.name && fields_in fields.items
  item_in (I.Global w t start) = name_in w.name && (type_in t && expr_if start)
  item_in (I.Prototype p mode w result ps) = name_in w.name && (type_in result && parameters_in ps.items)
  item_in (I.Function f) = name_in f.word.name && (type_in f.result && (parameters_in f.parameters.items && stmt_in f.body))

  abbrev pub items_in : List Item → Bool
  items_in [] = true
  items_in (x ∷ xs) = item_in x && items_in xs
