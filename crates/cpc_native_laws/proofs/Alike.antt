-- Texts that agree on all names of a tree give the same tree.
use Rattle.std.proofs.Common.{◌≡◌, ℕ, true, ◌&&◌, List, [], ◌∷◌, map, Option, Some, None, option_map, refl, ap}
use Rattle.cpc_base.specs.declared.names.Name.{Name}
use Rattle.cpc_base.proofs.Truth.{and_both}
use Rattle.cpc_tree.specs.declared.program.CType as GType
use Rattle.cpc_tree.specs.declared.program.CType.TheVariants as C
use Rattle.cpc_tree.specs.declared.program.Expr as GExpr
use Rattle.cpc_tree.specs.declared.program.Expr.TheVariants as E
use Rattle.cpc_tree.specs.declared.program.Statement as GStatement
use Rattle.cpc_tree.specs.declared.program.Statement.TheVariants as T
use Rattle.cpc_tree.specs.declared.program.Word.{Word}
use Rattle.cpc_tree.specs.declared.program.Parameter.{Parameter}
use Rattle.cpc_tree.specs.declared.program.Field.{Field}
use Rattle.cpc_tree.specs.declared.program.Function.{Function}
use Rattle.cpc_tree.specs.declared.program.Item.{Item}
use Rattle.cpc_tree.specs.declared.program.Item.TheVariants as I
use Rattle.cpc_tree.specs.Syntax as S
use Rattle.cpc_tree.specs.Erase.{Names, type_of, types_of, expr_of, row_of, exprs_of, stmt_of, stmts_of, maybe_of, parameter_of, field_of, function_of, item_of}
use Rattle.cpc_check_laws.proofs.Native.OnePlace.{ap₃}
use Rattle.cpc_native_laws.proofs.Inside.{name_in, type_in, types_in, expr_in, row_in, exprs_in, expr_if, stmt_in, stmts_in, maybe_in, word_if, parameters_in, fields_in, item_in, items_in}

pub two : {A B C : Type 0} (f : A → B → C) {a c : A} {b d : B} → a ≡ c → b ≡ d → f a b ≡ f c d
two f h k = cc

pub four : {A B C D E : Type 0} (f : A → B → C → D → E) {a x : A} {b y : B} {c z : C} {d w : D} → a ≡ x → b ≡ y → c ≡ z → d ≡ w → f a b c d ≡ f x y z w
four f h k l n = cc

module _ (m : ℕ) (names table : Names) (agree : (n : Name) → name_in m n ≡ true → names n ≡ table n) where
  mutual
    type_same : (t : GType.CType) → type_in m t ≡ true → type_of names t ≡ type_of table t
    type_same C.Void h = refl
    type_same (C.Int kind) h = refl
    type_same C.Condvar h = refl
    type_same (C.Pointer' p t) h = ap S.TyPointer (type_same t h)
    type_same (C.Code' p result shape row) h = let k = and_both (type_in m result) (types_in m row) h in two S.TyCode (type_same result k.0) (types_same row k.1)
    type_same (C.Struct tag) h = ap S.TyStruct (agree tag h)
    type_same (C.Array' p t n) h = ap (λ u. S.TyArray u n) (type_same t h)

    types_same : {k : _} (row : GType.Row_of-CType k) → types_in m row ≡ true → types_of names row ≡ types_of table row
    types_same GType.end_of-CType h = refl
    types_same (GType.more_of-CType t rest) h = let k = and_both (type_in m t) (types_in m rest) h in two S.AndTy (type_same t k.0) (types_same rest k.1)

  mutual
    expr_same : (e : GExpr.Expr) → expr_in m e ≡ true → expr_of names e ≡ expr_of table e
    expr_same (E.Name w) h = ap S.ENamed (agree w.name h)
    expr_same (E.Integer p kind v) h = refl
    expr_same (E.Character p v) h = refl
    expr_same (E.Text p bytes) h = refl
    expr_same (E.Unary' p op q e) h = ap (S.EUnary op) (expr_same e h)
    expr_same (E.Binary' p op q a r b) h = let k = and_both (expr_in m a) (expr_in m b) h in two (S.EBinary op) (expr_same a k.0) (expr_same b k.1)
    expr_same (E.And' p q a r b) h = let k = and_both (expr_in m a) (expr_in m b) h in two S.EAnd (expr_same a k.0) (expr_same b k.1)
    expr_same (E.Or' p q a r b) h = let k = and_both (expr_in m a) (expr_in m b) h in two S.EOr (expr_same a k.0) (expr_same b k.1)
    expr_same (E.Choose' p q t r a s b) h =
        let k = and_both (expr_in m t) (expr_in m a && expr_in m b) h in
        let l = and_both (expr_in m a) (expr_in m b) k.1 in
        ap₃ S.EChoose (expr_same t k.0) (expr_same a l.0) (expr_same b l.1)
    expr_same (E.Cast' p t q e) h = let k = and_both (type_in m t) (expr_in m e) h in two S.ECast (type_same t k.0) (expr_same e k.1)
    expr_same (E.SizeOf p t) h = ap S.ESizeOf (type_same t h)
    expr_same (E.Index' p q a r i) h = let k = and_both (expr_in m a) (expr_in m i) h in two S.EIndex (expr_same a k.0) (expr_same i k.1)
    expr_same (E.Member' p q e field) h = let k = and_both (expr_in m e) (name_in m field.name) h in two S.EMember (expr_same e k.0) (agree field.name k.1)
    expr_same (E.Arrow' p q e field) h = let k = and_both (expr_in m e) (name_in m field.name) h in two S.EArrow (expr_same e k.0) (agree field.name k.1)
    expr_same (E.CallIn' p q f shape row) h = let k = and_both (expr_in m f) (row_in m row) h in two S.ECall (expr_same f k.0) (row_same row k.1)

    row_same : {k : _} (row : GExpr.Row_of-Expr k) → row_in m row ≡ true → row_of names row ≡ row_of table row
    row_same GExpr.end_of-Expr h = refl
    row_same (GExpr.more_of-Expr e rest) h = let k = and_both (expr_in m e) (row_in m rest) h in two S.AndExpr (expr_same e k.0) (row_same rest k.1)

  exprs_same : (es : List GExpr.Expr) → exprs_in m es ≡ true → exprs_of names es ≡ exprs_of table es
  exprs_same [] h = refl
  exprs_same (e ∷ es) h = let k = and_both (expr_in m e) (exprs_in m es) h in two S.AndExpr (expr_same e k.0) (exprs_same es k.1)

  if_same : (o : Option GExpr.Expr) → expr_if m o ≡ true → option_map (expr_of names) o ≡ option_map (expr_of table) o
  if_same None h = refl
  if_same (Some e) h = ap Some (expr_same e h)

  mutual
    stmt_same : (s : GStatement.Statement) → stmt_in m s ≡ true → stmt_of names s ≡ stmt_of table s
    stmt_same (T.Block' p shape row) h = ap S.Block (stmts_same row h)
    stmt_same (T.Empty p) h = refl
    stmt_same (T.Declare p w t start) h =
        let k = and_both (name_in m w.name) (type_in m t && expr_if m start) h in
        let l = and_both (type_in m t) (expr_if m start) k.1 in
        ap₃ S.Declare (agree w.name k.0) (type_same t l.0) (if_same start l.1)
    stmt_same (T.Assign p o e op v) h = let k = and_both (expr_in m e) (expr_in m v) h in two (λ a b. S.Assign a op b) (expr_same e k.0) (expr_same v k.1)
    stmt_same (T.Call p o e f es) h =
        let k = and_both (expr_if m e) (expr_in m f && exprs_in m es.items) h in
        let l = and_both (expr_in m f) (exprs_in m es.items) k.1 in
        ap₃ S.Call (if_same e k.0) (expr_same f l.0) (exprs_same es.items l.1)
    stmt_same (T.Detach p o q e f es) h =
        let k = and_both (expr_if m e) (name_in m f.name && exprs_in m es.items) h in
        let l = and_both (name_in m f.name) (exprs_in m es.items) k.1 in
        ap₃ S.Detach (if_same e k.0) (agree f.name l.0) (exprs_same es.items l.1)
    stmt_same (T.Spawn p f es) h = let k = and_both (name_in m f.name) (exprs_in m es.items) h in two S.Spawn (agree f.name k.0) (exprs_same es.items k.1)
    stmt_same (T.If' p t q a b) h =
        let k = and_both (expr_in m t) (stmt_in m a && maybe_in m b) h in
        let l = and_both (stmt_in m a) (maybe_in m b) k.1 in
        ap₃ S.If (expr_same t k.0) (stmt_same a l.0) (maybe_same b l.1)
    stmt_same (T.While' p t q s) h = let k = and_both (expr_in m t) (stmt_in m s) h in two S.While (expr_same t k.0) (stmt_same s k.1)
    stmt_same (T.DoWhile' p q s t) h = let k = and_both (stmt_in m s) (expr_in m t) h in two S.DoWhile (stmt_same s k.0) (expr_same t k.1)
    stmt_same (T.For' p shape row t step q s) h =
        let k = and_both (stmts_in m row) (expr_if m t && (maybe_in m step && stmt_in m s)) h in
        let l = and_both (expr_if m t) (maybe_in m step && stmt_in m s) k.1 in
        let n = and_both (maybe_in m step) (stmt_in m s) l.1 in
        four S.For (stmts_same row k.0) (if_same t l.0) (maybe_same step n.0) (stmt_same s n.1)
    stmt_same (T.Goto p l) h = ap S.Goto (agree l.name h)
    stmt_same (T.Label' l q s) h = let k = and_both (name_in m l.name) (stmt_in m s) h in two S.Label (agree l.name k.0) (stmt_same s k.1)
    stmt_same (T.Break p) h = refl
    stmt_same (T.Continue p) h = refl
    stmt_same (T.Return p v) h = ap S.Return (if_same v h)

    stmts_same : {k : _} (row : GStatement.Row_of-Statement k) → stmts_in m row ≡ true → stmts_of names row ≡ stmts_of table row
    stmts_same GStatement.end_of-Statement h = refl
    stmts_same (GStatement.more_of-Statement s rest) h = let k = and_both (stmt_in m s) (stmts_in m rest) h in two S.AndStmt (stmt_same s k.0) (stmts_same rest k.1)

    maybe_same : (o : GStatement.Held-Statement-If-3) → maybe_in m o ≡ true → maybe_of names o ≡ maybe_of table o
    maybe_same GStatement.None' h = refl
    maybe_same (GStatement.Some' p s) h = ap S.Present (stmt_same s h)

  word_same : (o : Option Word) → word_if m o ≡ true → option_map (λ (w : Word). names w.name) o ≡ option_map (λ (w : Word). table w.name) o
  word_same None h = refl
  word_same (Some w) h = ap Some (agree w.name h)

  parameters_same : (ps : List Parameter) → parameters_in m ps ≡ true → map (parameter_of names) ps ≡ map (parameter_of table) ps
  parameters_same [] h = refl
  parameters_same (p ∷ ps) h =
      let k = and_both (word_if m p.word && type_in m p.of) (parameters_in m ps) h in
      let l = and_both (word_if m p.word) (type_in m p.of) k.0 in
      let e : parameter_of names p ≡ parameter_of table p = two (λ o t. record { called = o; type = t }) (word_same p.word l.0) (type_same p.of l.1) in
      two (λ x xs. x ∷ xs) e (parameters_same ps k.1)

  fields_same : (fs : List Field) → fields_in m fs ≡ true → map (field_of names) fs ≡ map (field_of table) fs
  fields_same [] h = refl
  fields_same (f ∷ fs) h =
      let k = and_both (name_in m f.word.name && type_in m f.of) (fields_in m fs) h in
      let l = and_both (name_in m f.word.name) (type_in m f.of) k.0 in
      let e : field_of names f ≡ field_of table f = two (λ x t. record { called = x; type = t }) (agree f.word.name l.0) (type_same f.of l.1) in
      two (λ x xs. x ∷ xs) e (fields_same fs k.1)

  function_same : (f : Function) → item_in m (I.Function f) ≡ true → function_of names f ≡ function_of table f
  function_same f h =
      let k = and_both (name_in m f.word.name) _ h in
      let l = and_both (type_in m f.result) (parameters_in m f.parameters.items && stmt_in m f.body) k.1 in
      let n = and_both (parameters_in m f.parameters.items) (stmt_in m f.body) l.1 in
      four (λ x r ps s. record { mode = f.mode; called = x; result = r; parameters = ps; body = s }) (agree f.word.name k.0) (type_same f.result l.0) (parameters_same f.parameters.items n.0) (stmt_same f.body n.1)

  item_same : (x : Item) → item_in m x ≡ true → item_of names x ≡ item_of table x
  item_same (I.Struct tag fields) h = let k = and_both (name_in m tag.name) (fields_in m fields.items) h in two S.StructItem (agree tag.name k.0) (fields_same fields.items k.1)
  item_same (I.Global w t start) h =
      let k = and_both (name_in m w.name) (type_in m t && expr_if m start) h in
      let l = and_both (type_in m t) (expr_if m start) k.1 in
      ap₃ S.GlobalItem (agree w.name k.0) (type_same t l.0) (if_same start l.1)
  item_same (I.Prototype p mode w result ps) h =
      let k = and_both (name_in m w.name) (type_in m result && parameters_in m ps.items) h in
      let l = and_both (type_in m result) (parameters_in m ps.items) k.1 in
      ap₃ (S.PrototypeItem mode) (agree w.name k.0) (type_same result l.0) (parameters_same ps.items l.1)
  item_same (I.Function f) h = ap S.FunctionItem (function_same f h)

  -- Where all names of the items are below the number.
  pub items_same : (xs : List Item) → items_in m xs ≡ true → map (item_of names) xs ≡ map (item_of table) xs
  items_same [] h = refl
  items_same (x ∷ xs) h = let k = and_both (item_in m x) (items_in m xs) h in two (λ y ys. y ∷ ys) (item_same x k.0) (items_same xs k.1)
