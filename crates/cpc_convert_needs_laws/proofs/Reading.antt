-- Trees that are read alike by two texts: they are by a third one, if it agrees where these two do.
use Rattle.std.proofs.Common.{◌≡◌, List, [], ◌∷◌, Option, Some, None, option_map, refl, ap}
use Rattle.std.specs.Borrow.{Bor}
use Rattle.cpc_base.specs.declared.names.Name.{Name}
use Rattle.cpc_tree.specs.Erase.{Names, text_of, type_of, types_of, expr_of, row_of, exprs_of, stmt_of, stmts_of, maybe_of}
use Rattle.cpc_tree.specs.Points as P
use Rattle.cpc_tree.specs.Registers.{or_empty}
use Rattle.cpc_tree.specs.Syntax as S
use Rattle.cpc_tree.specs.declared.program.CType as GType
use Rattle.cpc_tree.specs.declared.program.CType.TheVariants as C
use Rattle.cpc_tree.specs.declared.program.Expr as GExpr
use Rattle.cpc_tree.specs.declared.program.Expr.TheVariants as E
use Rattle.cpc_tree.specs.declared.program.Statement as GStatement
use Rattle.cpc_tree.specs.declared.program.Statement.TheVariants as T
use Rattle.cpc_meaning.specs.Act as A
use Rattle.cpc_forms_code.specs.declared.boxed.Stood.{Stood}
use Rattle.cpc_forms_code.specs.declared.boxed.Stood.TheVariants as F
use Rattle.cpc_forms_code.specs.declared.boxed.Variable.{Variable}
use Rattle.cpc_forms_code.specs.Seen.{stood_seen}
use Rattle.cpc_convert_needs.specs.Known.{plain_seen}

module _ (a b c : Names) (same : (n : Name) → a n ≡ b n → a n ≡ c n) where
  -- ---- types

  mutual
    pub type_alike : (t : GType.CType) → type_of a t ≡ type_of b t → type_of a t ≡ type_of c t
    type_alike C.Void e = refl
    type_alike (C.Int kind) e = refl
    type_alike C.Condvar e = refl
    type_alike (C.Pointer' p t) e = let i : type_of a t ≡ type_of b t = cc in ap S.TyPointer (type_alike t i)
    type_alike (C.Code' p result shape row) e =
        let i : type_of a result ≡ type_of b result = cc in
        let j : types_of a row ≡ types_of b row = cc in
        rw (type_alike result i, types_alike row j) refl
    type_alike (C.Struct tag) e = let i : a tag ≡ b tag = cc in ap S.TyStruct (same tag i)
    type_alike (C.Array' p t n) e = let i : type_of a t ≡ type_of b t = cc in ap (λ u. S.TyArray u n) (type_alike t i)

    types_alike : {m : _} (row : GType.Row_of-CType m) → types_of a row ≡ types_of b row → types_of a row ≡ types_of c row
    types_alike GType.end_of-CType e = refl
    types_alike (GType.more_of-CType t rest) e =
        let i : type_of a t ≡ type_of b t = cc in
        let j : types_of a rest ≡ types_of b rest = cc in
        rw (type_alike t i, types_alike rest j) refl

  -- ---- expressions

  mutual
    pub expr_alike : (x : GExpr.Expr) → expr_of a x ≡ expr_of b x → expr_of a x ≡ expr_of c x
    expr_alike (E.Name w) e = let i : a w.name ≡ b w.name = cc in ap S.ENamed (same w.name i)
    expr_alike (E.Integer p kind v) e = refl
    expr_alike (E.Character p v) e = refl
    expr_alike (E.Text p bytes) e = refl
    expr_alike (E.Unary' p op q x) e = let i : expr_of a x ≡ expr_of b x = cc in ap (S.EUnary op) (expr_alike x i)
    expr_alike (E.Binary' p op q x r y) e =
        let i : expr_of a x ≡ expr_of b x = cc in
        let j : expr_of a y ≡ expr_of b y = cc in
        rw (expr_alike x i, expr_alike y j) refl
    expr_alike (E.And' p q x r y) e =
        let i : expr_of a x ≡ expr_of b x = cc in
        let j : expr_of a y ≡ expr_of b y = cc in
        rw (expr_alike x i, expr_alike y j) refl
    expr_alike (E.Or' p q x r y) e =
        let i : expr_of a x ≡ expr_of b x = cc in
        let j : expr_of a y ≡ expr_of b y = cc in
        rw (expr_alike x i, expr_alike y j) refl
    expr_alike (E.Choose' p q t r x s y) e =
        let h : expr_of a t ≡ expr_of b t = cc in
        let i : expr_of a x ≡ expr_of b x = cc in
        let j : expr_of a y ≡ expr_of b y = cc in
        rw (expr_alike t h, expr_alike x i, expr_alike y j) refl
    expr_alike (E.Cast' p t q x) e =
        let i : type_of a t ≡ type_of b t = cc in
        let j : expr_of a x ≡ expr_of b x = cc in
        rw (type_alike t i, expr_alike x j) refl
    expr_alike (E.SizeOf p t) e = let i : type_of a t ≡ type_of b t = cc in ap S.ESizeOf (type_alike t i)
    expr_alike (E.Index' p q x r y) e =
        let i : expr_of a x ≡ expr_of b x = cc in
        let j : expr_of a y ≡ expr_of b y = cc in
        rw (expr_alike x i, expr_alike y j) refl
    expr_alike (E.Member' p q x field) e =
        let i : expr_of a x ≡ expr_of b x = cc in
        let j : a field.name ≡ b field.name = cc in
        rw (expr_alike x i, same field.name j) refl
    expr_alike (E.Arrow' p q x field) e =
        let i : expr_of a x ≡ expr_of b x = cc in
        let j : a field.name ≡ b field.name = cc in
        rw (expr_alike x i, same field.name j) refl
    expr_alike (E.CallIn' p q f shape row) e =
        let i : expr_of a f ≡ expr_of b f = cc in
        let j : row_of a row ≡ row_of b row = cc in
        rw (expr_alike f i, row_alike row j) refl

    row_alike : {m : _} (row : GExpr.Row_of-Expr m) → row_of a row ≡ row_of b row → row_of a row ≡ row_of c row
    row_alike GExpr.end_of-Expr e = refl
    row_alike (GExpr.more_of-Expr x rest) e =
        let i : expr_of a x ≡ expr_of b x = cc in
        let j : row_of a rest ≡ row_of b rest = cc in
        rw (expr_alike x i, row_alike rest j) refl

  pub exprs_alike : (xs : List GExpr.Expr) → exprs_of a xs ≡ exprs_of b xs → exprs_of a xs ≡ exprs_of c xs
  exprs_alike [] e = refl
  exprs_alike (x ∷ xs) e =
      let i : expr_of a x ≡ expr_of b x = cc in
      let j : exprs_of a xs ≡ exprs_of b xs = cc in
      rw (expr_alike x i, exprs_alike xs j) refl

  pub expr_if_alike : (o : Option GExpr.Expr) → option_map (expr_of a) o ≡ option_map (expr_of b) o → option_map (expr_of a) o ≡ option_map (expr_of c) o
  expr_if_alike None e = refl
  expr_if_alike (Some x) e = let i : expr_of a x ≡ expr_of b x = cc in ap Some (expr_alike x i)

  -- ---- statements

  mutual
    pub stmt_alike : (s : GStatement.Statement) → stmt_of a s ≡ stmt_of b s → stmt_of a s ≡ stmt_of c s
    stmt_alike (T.Block' p shape row) e = let i : stmts_of a row ≡ stmts_of b row = cc in ap S.Block (stmts_alike row i)
    stmt_alike (T.Empty p) e = refl
    stmt_alike (T.Declare p w t start) e =
        let h : a w.name ≡ b w.name = cc in
        let i : type_of a t ≡ type_of b t = cc in
        let j : option_map (expr_of a) start ≡ option_map (expr_of b) start = cc in
        rw (same w.name h, type_alike t i, expr_if_alike start j) refl
    stmt_alike (T.Assign p o x op v) e =
        let i : expr_of a x ≡ expr_of b x = cc in
        let j : expr_of a v ≡ expr_of b v = cc in
        rw (expr_alike x i, expr_alike v j) refl
    stmt_alike (T.Call p o x f es) e =
        let h : option_map (expr_of a) x ≡ option_map (expr_of b) x = cc in
        let i : expr_of a f ≡ expr_of b f = cc in
        let j : exprs_of a es.items ≡ exprs_of b es.items = cc in
        rw (expr_if_alike x h, expr_alike f i, exprs_alike es.items j) refl
    stmt_alike (T.Detach p o k x f es) e =
        let h : option_map (expr_of a) x ≡ option_map (expr_of b) x = cc in
        let i : a f.name ≡ b f.name = cc in
        let j : exprs_of a es.items ≡ exprs_of b es.items = cc in
        rw (expr_if_alike x h, same f.name i, exprs_alike es.items j) refl
    stmt_alike (T.Spawn p f es) e =
        let i : a f.name ≡ b f.name = cc in
        let j : exprs_of a es.items ≡ exprs_of b es.items = cc in
        rw (same f.name i, exprs_alike es.items j) refl
    stmt_alike (T.If' p t q s held) e =
        let h : expr_of a t ≡ expr_of b t = cc in
        let i : stmt_of a s ≡ stmt_of b s = cc in
        let j : maybe_of a held ≡ maybe_of b held = cc in
        rw (expr_alike t h, stmt_alike s i, maybe_alike held j) refl
    stmt_alike (T.While' p t q s) e =
        let i : expr_of a t ≡ expr_of b t = cc in
        let j : stmt_of a s ≡ stmt_of b s = cc in
        rw (expr_alike t i, stmt_alike s j) refl
    stmt_alike (T.DoWhile' p q s t) e =
        let i : stmt_of a s ≡ stmt_of b s = cc in
        let j : expr_of a t ≡ expr_of b t = cc in
        rw (stmt_alike s i, expr_alike t j) refl
    stmt_alike (T.For' p shape row t step q s) e =
        let h : stmts_of a row ≡ stmts_of b row = cc in
        let i : option_map (expr_of a) t ≡ option_map (expr_of b) t = cc in
        let j : maybe_of a step ≡ maybe_of b step = cc in
        let k : stmt_of a s ≡ stmt_of b s = cc in
        rw (stmts_alike row h, expr_if_alike t i, maybe_alike step j, stmt_alike s k) refl
    stmt_alike (T.Goto p l) e = let i : a l.name ≡ b l.name = cc in ap S.Goto (same l.name i)
    stmt_alike (T.Label' l q s) e =
        let i : a l.name ≡ b l.name = cc in
        let j : stmt_of a s ≡ stmt_of b s = cc in
        rw (same l.name i, stmt_alike s j) refl
    stmt_alike (T.Break p) e = refl
    stmt_alike (T.Continue p) e = refl
    stmt_alike (T.Return p v) e = let i : option_map (expr_of a) v ≡ option_map (expr_of b) v = cc in ap S.Return (expr_if_alike v i)

    stmts_alike : {m : _} (row : GStatement.Row_of-Statement m) → stmts_of a row ≡ stmts_of b row → stmts_of a row ≡ stmts_of c row
    stmts_alike GStatement.end_of-Statement e = refl
    stmts_alike (GStatement.more_of-Statement s rest) e =
        let i : stmt_of a s ≡ stmt_of b s = cc in
        let j : stmts_of a rest ≡ stmts_of b rest = cc in
        rw (stmt_alike s i, stmts_alike rest j) refl

    maybe_alike : (held : GStatement.Held-Statement-If-3) → maybe_of a held ≡ maybe_of b held → maybe_of a held ≡ maybe_of c held
    maybe_alike GStatement.None' e = refl
    maybe_alike (GStatement.Some' p s) e = let i : stmt_of a s ≡ stmt_of b s = cc in ap S.Present (stmt_alike s i)

  -- ---- what stands at a point, and variables

  test_alike : (o : Option (Bor GExpr.Expr)) → option_map (λ (t : Bor GExpr.Expr). expr_of a t.now) o ≡ option_map (λ (t : Bor GExpr.Expr). expr_of b t.now) o
      → option_map (λ (t : Bor GExpr.Expr). expr_of a t.now) o ≡ option_map (λ (t : Bor GExpr.Expr). expr_of c t.now) o
  test_alike None e = refl
  test_alike (Some x) e = let i : expr_of a x.now ≡ expr_of b x.now = cc in ap Some (expr_alike x.now i)

  pub stood_alike : (s : Stood) → stood_seen a s ≡ stood_seen b s → stood_seen a s ≡ stood_seen c s
  stood_alike (F.Simple s) e = let i : stmt_of a s.now ≡ stmt_of b s.now = cc in ap (λ x. A.AtStatement (P.Simple x)) (stmt_alike s.now i)
  stood_alike F.Empty e = refl
  stood_alike (F.Test t) e =
      let i : option_map (λ (t : Bor GExpr.Expr). expr_of a t.now) t ≡ option_map (λ (t : Bor GExpr.Expr). expr_of b t.now) t = cc in
      ap (λ x. A.AtStatement (P.Test x)) (test_alike t i)
  stood_alike (F.Arrival s) e = let i : stmt_of a s.now ≡ stmt_of b s.now = cc in ap (λ x. A.AtArrival (P.Simple x)) (stmt_alike s.now i)
  stood_alike F.End e = refl

  name_alike : (o : Option Name) → or_empty (option_map (text_of a) o) ≡ or_empty (option_map (text_of b) o) → or_empty (option_map (text_of a) o) ≡ or_empty (option_map (text_of c) o)
  name_alike None e = refl
  name_alike (Some n) e = same n e

  pub variable_alike : (v : Variable) → plain_seen a v ≡ plain_seen b v → plain_seen a v ≡ plain_seen c v
  variable_alike v e = rw (name_alike v.name (ap (λ (x : S.Variable). x.called) e), type_alike v.of.now (ap (λ (x : S.Variable). x.type) e)) refl
