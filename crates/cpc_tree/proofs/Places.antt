-- A tree without its places is the same whether the places are taken from the tree or from the program with places.
use Rattle.std.proofs.Common.{◌≡◌, refl, List, [], ◌∷◌, Option, Some, None, map, option_map}
use Rattle.cpc_tree.specs.declared.program.Expr as GExpr
use Rattle.cpc_tree.specs.declared.program.Expr.TheVariants as E
use Rattle.cpc_tree.specs.declared.program.Statement as GStatement
use Rattle.cpc_tree.specs.declared.program.Statement.TheVariants as T
use Rattle.cpc_tree.specs.declared.program.Word.{Word}
use Rattle.cpc_tree.specs.declared.program.Parameter as GParameter
use Rattle.cpc_tree.specs.declared.program.Field as GField
use Rattle.cpc_tree.specs.declared.program.Item as GItem
use Rattle.cpc_tree.specs.declared.program.Item.TheVariants as I
use Rattle.cpc_tree.specs.declared.program.Program as GProgram
use Rattle.cpc_tree.specs.Erase.{Names, text_of, expr_of, row_of, exprs_of, stmt_of, stmts_of, maybe_of, parameter_of, field_of, item_of, program_of, in_table}
use Rattle.cpc_tree.specs.Located.{bare_expr, bare_exprs, bare_stmt, bare_stmts, bare_maybe, bare_variable, bare_parameter, bare_item, bare}
use Rattle.cpc_tree.specs.Locate.{ident, located_expr, located_row, located_exprs, located_stmt, located_stmts, located_maybe, located_parameter, located_field, located_item, located}

mutual
  pub bare_located : (names : Names) (e : GExpr.Expr) → bare_expr (located_expr names e) ≡ expr_of names e
  bare_located names (E.Name w) = refl
  bare_located names (E.Integer p kind v) = refl
  bare_located names (E.Character p v) = refl
  bare_located names (E.Text p bytes) = refl
  bare_located names (E.Unary' p op q e) = rw (bare_located names e) refl
  bare_located names (E.Binary' p op q a r b) = rw (bare_located names a, bare_located names b) refl
  bare_located names (E.And' p q a r b) = rw (bare_located names a, bare_located names b) refl
  bare_located names (E.Or' p q a r b) = rw (bare_located names a, bare_located names b) refl
  bare_located names (E.Choose' p q t r a s b) = rw (bare_located names t, bare_located names a, bare_located names b) refl
  bare_located names (E.Cast' p t q e) = rw (bare_located names e) refl
  bare_located names (E.SizeOf p t) = refl
  bare_located names (E.Index' p q a r i) = rw (bare_located names a, bare_located names i) refl
  bare_located names (E.Member' p q e field) = rw (bare_located names e) refl
  bare_located names (E.Arrow' p q e field) = rw (bare_located names e) refl
  bare_located names (E.CallIn' p q f shape row) = rw (bare_located names f, bare_row names row) refl

  pub bare_row : {m : _} (names : Names) (row : GExpr.Row_of-Expr m) → bare_exprs (located_row names row) ≡ row_of names row
  bare_row names GExpr.end_of-Expr = refl
  bare_row names (GExpr.more_of-Expr e rest) = rw (bare_located names e, bare_row names rest) refl

pub bare_list : (names : Names) (es : List GExpr.Expr) → bare_exprs (located_exprs names es) ≡ exprs_of names es
bare_list names [] = refl
bare_list names (e ∷ es) = rw (bare_located names e, bare_list names es) refl

pub bare_option : (names : Names) (o : Option GExpr.Expr) → option_map bare_expr (option_map (located_expr names) o) ≡ option_map (expr_of names) o
bare_option names None = refl
bare_option names (Some e) = rw (bare_located names e) refl

mutual
  pub bare_statement : (names : Names) (s : GStatement.Statement) → bare_stmt (located_stmt names s) ≡ stmt_of names s
  bare_statement names (T.Block' p shape row) = rw (bare_statements names row) refl
  bare_statement names (T.Empty p) = refl
  bare_statement names (T.Declare p w t start) = rw (bare_option names start) refl
  bare_statement names (T.Assign p o e op v) = rw (bare_located names e, bare_located names v) refl
  bare_statement names (T.Call p o e f es) = rw (bare_option names e, bare_located names f, bare_list names es.items) refl
  bare_statement names (T.Detach p o k e f es) = rw (bare_option names e, bare_list names es.items) refl
  bare_statement names (T.Spawn p f es) = rw (bare_list names es.items) refl
  bare_statement names (T.If' p t q a b) = rw (bare_located names t, bare_statement names a, bare_held names b) refl
  bare_statement names (T.While' p t q s) = rw (bare_located names t, bare_statement names s) refl
  bare_statement names (T.DoWhile' p q s t) = rw (bare_statement names s, bare_located names t) refl
  bare_statement names (T.For' p shape row t step q s) = rw (bare_statements names row, bare_option names t, bare_held names step, bare_statement names s) refl
  bare_statement names (T.Goto p l) = refl
  bare_statement names (T.Label' l q s) = rw (bare_statement names s) refl
  bare_statement names (T.Break p) = refl
  bare_statement names (T.Continue p) = refl
  bare_statement names (T.Return p v) = rw (bare_option names v) refl

  bare_statements : {m : _} (names : Names) (row : GStatement.Row_of-Statement m) → bare_stmts (located_stmts names row) ≡ stmts_of names row
  bare_statements names GStatement.end_of-Statement = refl
  bare_statements names (GStatement.more_of-Statement s rest) = rw (bare_statement names s, bare_statements names rest) refl

  bare_held : (names : Names) (held : GStatement.Held-Statement-If-3) → bare_maybe (located_maybe names held) ≡ maybe_of names held
  bare_held names GStatement.None' = refl
  bare_held names (GStatement.Some' p s) = rw (bare_statement names s) refl

bare_word : (names : Names) (o : Option Word) → option_map (λ x. x.text) (option_map (ident names) o) ≡ option_map (λ (w : Word). text_of names w.name) o
bare_word names None = refl
bare_word names (Some w) = refl

pub bare_parameters : (names : Names) (ps : List GParameter.Parameter) → map bare_parameter (map (located_parameter names) ps) ≡ map (parameter_of names) ps
bare_parameters names [] = refl
bare_parameters names (p ∷ ps) = rw (bare_word names p.word, bare_parameters names ps) refl

pub bare_fields : (names : Names) (fs : List GField.Field) → map bare_variable (map (located_field names) fs) ≡ map (field_of names) fs
bare_fields names [] = refl
bare_fields names (f ∷ fs) = rw (bare_fields names fs) refl

pub bare_items : (names : Names) (xs : List GItem.Item) → map bare_item (map (located_item names) xs) ≡ map (item_of names) xs
bare_items names [] = refl
bare_items names (I.Struct tag fields ∷ xs) = rw (bare_fields names fields.items, bare_items names xs) refl
bare_items names (I.Global w t start ∷ xs) = rw (bare_option names start, bare_items names xs) refl
bare_items names (I.Prototype p mode w result ps ∷ xs) = rw (bare_parameters names ps.items, bare_items names xs) refl
bare_items names (I.Function f ∷ xs) = rw (bare_parameters names f.parameters.items, bare_statement names f.body, bare_items names xs) refl

-- the program without places is the same either way
pub bare_program : (p : GProgram.Program) → bare (located p) ≡ program_of p
bare_program p = bare_items (in_table p.names) p.items.items
