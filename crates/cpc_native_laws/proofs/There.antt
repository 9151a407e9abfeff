-- Where texts that differ on all names from a number on give the same tree, all names of the tree are below the number.
use Rattle.std.proofs.Common.{◌≡◌, ℕ, true, ◌&&◌, List, [], ◌∷◌, map, Option, Some, None, option_map, refl, ap}
use Rattle.cpc_base.specs.declared.names.Name.{Name}
use Rattle.cpc_base.proofs.Truth.{and_holds}
use Rattle.cpc_tree.specs.declared.program.CType as GType
use Rattle.cpc_tree.specs.declared.program.CType.TheVariants as C
use Rattle.cpc_tree.specs.declared.program.Expr as GExpr
use Rattle.cpc_tree.specs.declared.program.Expr.TheVariants as E
use Rattle.cpc_tree.specs.declared.program.Statement as GStatement
use Rattle.cpc_tree.specs.declared.program.Statement.TheVariants as T
use Rattle.cpc_tree.specs.declared.program.Word.{Word}
use Rattle.cpc_tree.specs.declared.program.Parameter.{Parameter}
use Rattle.cpc_tree.specs.declared.program.Field.{Field}
use Rattle.cpc_tree.specs.declared.program.Item.{Item}
use Rattle.cpc_tree.specs.declared.program.Item.TheVariants as I
use Rattle.cpc_tree.specs.Syntax as S
use Rattle.cpc_tree.specs.Erase.{Names, type_of, types_of, expr_of, row_of, exprs_of, stmt_of, stmts_of, maybe_of, parameter_of, field_of, function_of, item_of}
use Rattle.cpc_native_laws.proofs.Inside.{name_in, type_in, types_in, expr_in, row_in, exprs_in, expr_if, stmt_in, stmts_in, maybe_in, word_if, parameters_in, fields_in, item_in, items_in}

module _ (m : ℕ) (other table : Names) (differ : (n : Name) → other n ≡ table n → name_in m n ≡ true) where
  mutual
    type_there : (t : GType.CType) → type_of other t ≡ type_of table t → type_in m t ≡ true
    type_there C.Void h = refl
    type_there (C.Int kind) h = refl
    type_there C.Condvar h = refl
    type_there (C.Pointer' p t) h = type_there t cc
    type_there (C.Code' p result shape row) h = and_holds (type_in m result) (types_in m row) (type_there result cc) (types_there row cc)
    type_there (C.Struct tag) h = differ tag cc
    type_there (C.Array' p t n) h = type_there t cc

    types_there : {k : _} (row : GType.Row_of-CType k) → types_of other row ≡ types_of table row → types_in m row ≡ true
    types_there GType.end_of-CType h = refl
    types_there (GType.more_of-CType t rest) h = and_holds (type_in m t) (types_in m rest) (type_there t cc) (types_there rest cc)

  mutual
    expr_there : (e : GExpr.Expr) → expr_of other e ≡ expr_of table e → expr_in m e ≡ true
    expr_there (E.Name w) h = differ w.name cc
    expr_there (E.Integer p kind v) h = refl
    expr_there (E.Character p v) h = refl
    expr_there (E.Text p bytes) h = refl
    expr_there (E.Unary' p op q e) h = expr_there e cc
    expr_there (E.Binary' p op q a r b) h = and_holds (expr_in m a) (expr_in m b) (expr_there a cc) (expr_there b cc)
    expr_there (E.And' p q a r b) h = and_holds (expr_in m a) (expr_in m b) (expr_there a cc) (expr_there b cc)
    expr_there (E.Or' p q a r b) h = and_holds (expr_in m a) (expr_in m b) (expr_there a cc) (expr_there b cc)
    expr_there (E.Choose' p q t r a s b) h = and_holds (expr_in m t) (expr_in m a && expr_in m b) (expr_there t cc) (and_holds (expr_in m a) (expr_in m b) (expr_there a cc) (expr_there b cc))
    expr_there (E.Cast' p t q e) h = and_holds (type_in m t) (expr_in m e) (type_there t cc) (expr_there e cc)
    expr_there (E.SizeOf p t) h = type_there t cc
    expr_there (E.Index' p q a r i) h = and_holds (expr_in m a) (expr_in m i) (expr_there a cc) (expr_there i cc)
    expr_there (E.Member' p q e field) h = and_holds (expr_in m e) (name_in m field.name) (expr_there e cc) (differ field.name cc)
    expr_there (E.Arrow' p q e field) h = and_holds (expr_in m e) (name_in m field.name) (expr_there e cc) (differ field.name cc)
    expr_there (E.CallIn' p q f shape row) h = and_holds (expr_in m f) (row_in m row) (expr_there f cc) (row_there row cc)

    row_there : {k : _} (row : GExpr.Row_of-Expr k) → row_of other row ≡ row_of table row → row_in m row ≡ true
    row_there GExpr.end_of-Expr h = refl
    row_there (GExpr.more_of-Expr e rest) h = and_holds (expr_in m e) (row_in m rest) (expr_there e cc) (row_there rest cc)

  exprs_there : (es : List GExpr.Expr) → exprs_of other es ≡ exprs_of table es → exprs_in m es ≡ true
  exprs_there [] h = refl
  exprs_there (e ∷ es) h = and_holds (expr_in m e) (exprs_in m es) (expr_there e cc) (exprs_there es cc)

  if_there : (o : Option GExpr.Expr) → option_map (expr_of other) o ≡ option_map (expr_of table) o → expr_if m o ≡ true
  if_there None h = refl
  if_there (Some e) h = expr_there e cc

  mutual
    stmt_there : (s : GStatement.Statement) → stmt_of other s ≡ stmt_of table s → stmt_in m s ≡ true
    stmt_there (T.Block' p shape row) h = stmts_there row cc
    stmt_there (T.Empty p) h = refl
    stmt_there (T.Declare p w t start) h = and_holds (name_in m w.name) (type_in m t && expr_if m start) (differ w.name cc) (and_holds (type_in m t) (expr_if m start) (type_there t cc) (if_there start cc))
    stmt_there (T.Assign p o e op v) h = and_holds (expr_in m e) (expr_in m v) (expr_there e cc) (expr_there v cc)
    stmt_there (T.Call p o e f es) h = and_holds (expr_if m e) (expr_in m f && exprs_in m es.items) (if_there e cc) (and_holds (expr_in m f) (exprs_in m es.items) (expr_there f cc) (exprs_there es.items cc))
    stmt_there (T.Detach p o q e f es) h = and_holds (expr_if m e) (name_in m f.name && exprs_in m es.items) (if_there e cc) (and_holds (name_in m f.name) (exprs_in m es.items) (differ f.name cc) (exprs_there es.items cc))
    stmt_there (T.Spawn p f es) h = and_holds (name_in m f.name) (exprs_in m es.items) (differ f.name cc) (exprs_there es.items cc)
    stmt_there (T.If' p t q a b) h = and_holds (expr_in m t) (stmt_in m a && maybe_in m b) (expr_there t cc) (and_holds (stmt_in m a) (maybe_in m b) (stmt_there a cc) (maybe_there b cc))
    stmt_there (T.While' p t q s) h = and_holds (expr_in m t) (stmt_in m s) (expr_there t cc) (stmt_there s cc)
    stmt_there (T.DoWhile' p q s t) h = and_holds (stmt_in m s) (expr_in m t) (stmt_there s cc) (expr_there t cc)
    stmt_there (T.For' p shape row t step q s) h =
        and_holds (stmts_in m row) (expr_if m t && (maybe_in m step && stmt_in m s)) (stmts_there row cc)
        (and_holds (expr_if m t) (maybe_in m step && stmt_in m s) (if_there t cc) (and_holds (maybe_in m step) (stmt_in m s) (maybe_there step cc) (stmt_there s cc)))
    stmt_there (T.Goto p l) h = differ l.name cc
    stmt_there (T.Label' l q s) h = and_holds (name_in m l.name) (stmt_in m s) (differ l.name cc) (stmt_there s cc)
    stmt_there (T.Break p) h = refl
    stmt_there (T.Continue p) h = refl
    stmt_there (T.Return p v) h = if_there v cc

    stmts_there : {k : _} (row : GStatement.Row_of-Statement k) → stmts_of other row ≡ stmts_of table row → stmts_in m row ≡ true
    stmts_there GStatement.end_of-Statement h = refl
    stmts_there (GStatement.more_of-Statement s rest) h = and_holds (stmt_in m s) (stmts_in m rest) (stmt_there s cc) (stmts_there rest cc)

    maybe_there : (o : GStatement.Held-Statement-If-3) → maybe_of other o ≡ maybe_of table o → maybe_in m o ≡ true
    maybe_there GStatement.None' h = refl
    maybe_there (GStatement.Some' p s) h = stmt_there s cc

  word_there : (o : Option Word) → option_map (λ (w : Word). other w.name) o ≡ option_map (λ (w : Word). table w.name) o → word_if m o ≡ true
  word_there None h = refl
  word_there (Some w) h = differ w.name cc

  parameters_there : (ps : List Parameter) → map (parameter_of other) ps ≡ map (parameter_of table) ps → parameters_in m ps ≡ true
  parameters_there [] h = refl
  parameters_there (p ∷ ps) h =
      let e : parameter_of other p ≡ parameter_of table p = cc in
      and_holds (word_if m p.word && type_in m p.of) (parameters_in m ps) (and_holds (word_if m p.word) (type_in m p.of) (word_there p.word (ap (λ (p : S.Parameter). p.called) e)) (type_there p.of (ap (λ (p : S.Parameter). p.type) e))) (parameters_there ps cc)

  fields_there : (fs : List Field) → map (field_of other) fs ≡ map (field_of table) fs → fields_in m fs ≡ true
  fields_there [] h = refl
  fields_there (f ∷ fs) h =
      let e : field_of other f ≡ field_of table f = cc in
      and_holds (name_in m f.word.name && type_in m f.of) (fields_in m fs) (and_holds (name_in m f.word.name) (type_in m f.of) (differ f.word.name (ap (λ (x : S.Variable). x.called) e)) (type_there f.of (ap (λ (x : S.Variable). x.type) e))) (fields_there fs cc)

  item_there : (x : Item) → item_of other x ≡ item_of table x → item_in m x ≡ true
  item_there (I.Struct tag fields) h = and_holds (name_in m tag.name) (fields_in m fields.items) (differ tag.name cc) (fields_there fields.items cc)
  item_there (I.Global w t start) h = and_holds (name_in m w.name) (type_in m t && expr_if m start) (differ w.name cc) (and_holds (type_in m t) (expr_if m start) (type_there t cc) (if_there start cc))
  item_there (I.Prototype p mode w result ps) h =
      and_holds (name_in m w.name) (type_in m result && parameters_in m ps.items) (differ w.name cc) (and_holds (type_in m result) (parameters_in m ps.items) (type_there result cc) (parameters_there ps.items cc))
  item_there (I.Function f) h =
      let e : function_of other f ≡ function_of table f = cc in
      and_holds (name_in m f.word.name) (type_in m f.result && (parameters_in m f.parameters.items && stmt_in m f.body)) (differ f.word.name (ap (λ (f : S.Function). f.called) e))
      (and_holds (type_in m f.result) (parameters_in m f.parameters.items && stmt_in m f.body) (type_there f.result (ap (λ (f : S.Function). f.result) e))
      (and_holds (parameters_in m f.parameters.items) (stmt_in m f.body) (parameters_there f.parameters.items (ap (λ (f : S.Function). f.parameters) e)) (stmt_there f.body (ap (λ (f : S.Function). f.body) e))))

  -- all names of the items
  pub items_there : (xs : List Item) → map (item_of other) xs ≡ map (item_of table) xs → items_in m xs ≡ true
  items_there [] h = refl
  items_there (x ∷ xs) h = and_holds (item_in m x) (items_in m xs) (item_there x cc) (items_there xs cc)
