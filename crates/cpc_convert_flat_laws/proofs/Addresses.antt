-- Where `&` is applied to no local, no variable is addressed, so that the scalar ones are registers.
use Rattle.std.proofs.Common.{◌≡◌, ℕ, ◌+◌, Bool, true, false, not, ◌&&◌, cond, List, [], ◌∷◌, ◌++◌, length, bytes_eq, Option, Some, None, refl, sym, ◌∙◌, ap}
use Rattle.cpc_base.specs.Bytes.{Text}
use Rattle.cpc_base.proofs.Truth.{and_both}
use Rattle.cpc_tree.specs.declared.program.UnaryOp.TheVariants.{Minus, Plus, Not, Complement, Dereference, AddressOf}
use Rattle.cpc_tree.specs.Syntax.{Expr, ENamed, EInteger, ECharacter, EText, EUnary, EBinary, EAnd, EOr, EChoose, ECast, ESizeOf, EIndex, EMember, EArrow, ECall, Exprs, NoExpr, AndExpr, Stmt, Block, Empty, Declare, Assign, Call, Detach, Spawn, If, While, DoWhile, For, Goto, Label, Break, Continue, Return, Stmts, NoStmt, AndStmt, Absent, Present, Function}
use Rattle.cpc_tree.specs.Typing.{Scope}
use Rattle.cpc_tree.specs.Points.{extended, declared}
use Rattle.cpc_tree.specs.Registers.{slot_of, addresses, addresses_all, addresses_if, addresses_by, addresses_in, outer_scope, addressed}
use Rattle.cpc_meaning.proofs.Functions.{same_text}
use Rattle.cpc_convert_flat_laws.specs.Addresses.{avoids, avoids_all, avoids_if, avoids_by, avoids_in, Among, NoneAmong, AndAmong}

module _ (L : Text → Bool) where
  not_there : (scope : Scope) (x : Text) → Among L scope → not (L x) ≡ true → slot_of scope x ≡ []
  not_there _ x NoneAmong n = refl
  not_there _ x (AndAmong l scope e more) n = go (bytes_eq l.called x) refl (not_there scope x more n)
    where
      go : (b : Bool) → bytes_eq l.called x ≡ b → slot_of scope x ≡ [] → cond b (l.slot ∷ []) (slot_of scope x) ≡ []
      go false s rest = rest
      go true s rest = let f : L l.called ≡ L x = ap L (same_text l.called x s) in let g : not true ≡ true = ap not (sym (sym f ∙ e)) ∙ n in absurd (cc)

  none_both : (xs ys : List ℕ) → xs ≡ [] → ys ≡ [] → xs ++ ys ≡ []
  none_both xs ys e f = ap (λ zs. zs ++ ys) e ∙ f

  mutual
    none_in : (scope : Scope) → Among L scope → (e : Expr) → avoids L e ≡ true → addresses scope e ≡ []
    none_in scope m (EUnary AddressOf (ENamed x)) h = not_there scope x m h
    none_in scope m (EUnary Minus e) h = none_in scope m e h
    none_in scope m (EUnary Plus e) h = none_in scope m e h
    none_in scope m (EUnary Not e) h = none_in scope m e h
    none_in scope m (EUnary Complement e) h = none_in scope m e h
    none_in scope m (EUnary Dereference e) h = none_in scope m e h
    none_in scope m (EUnary AddressOf (EInteger kind z)) h = refl
    none_in scope m (EUnary AddressOf (ECharacter z)) h = refl
    none_in scope m (EUnary AddressOf (EText bs)) h = refl
    none_in scope m (EUnary AddressOf (ESizeOf t)) h = refl
    none_in scope m (EUnary AddressOf e) h = none_in scope m e h
    none_in scope m (EBinary op a b) h = let c = and_both (avoids L a) (avoids L b) h in none_both (addresses scope a) (addresses scope b) (none_in scope m a c.0) (none_in scope m b c.1)
    none_in scope m (EAnd a b) h = let c = and_both (avoids L a) (avoids L b) h in none_both (addresses scope a) (addresses scope b) (none_in scope m a c.0) (none_in scope m b c.1)
    none_in scope m (EOr a b) h = let c = and_both (avoids L a) (avoids L b) h in none_both (addresses scope a) (addresses scope b) (none_in scope m a c.0) (none_in scope m b c.1)
    none_in scope m (EChoose t a b) h =
        let c = and_both (avoids L t) (avoids L a && avoids L b) h in
        let d = and_both (avoids L a) (avoids L b) c.1 in
        none_both (addresses scope t ++ addresses scope a) (addresses scope b) (none_both (addresses scope t) (addresses scope a) (none_in scope m t c.0) (none_in scope m a d.0)) (none_in scope m b d.1)
    none_in scope m (ECast t e) h = none_in scope m e h
    none_in scope m (EIndex a i) h = let c = and_both (avoids L a) (avoids L i) h in none_both (addresses scope a) (addresses scope i) (none_in scope m a c.0) (none_in scope m i c.1)
    none_in scope m (EMember e x) h = none_in scope m e h
    none_in scope m (EArrow e x) h = none_in scope m e h
    none_in scope m (ECall f es) h = let c = and_both (avoids L f) (avoids_all L es) h in none_both (addresses scope f) (addresses_all scope es) (none_in scope m f c.0) (none_in_all scope m es c.1)
    none_in scope m (ENamed x) h = refl
    none_in scope m (EInteger kind z) h = refl
    none_in scope m (ECharacter z) h = refl
    none_in scope m (EText bs) h = refl
    none_in scope m (ESizeOf t) h = refl

    none_in_all : (scope : Scope) → Among L scope → (es : Exprs) → avoids_all L es ≡ true → addresses_all scope es ≡ []
    none_in_all scope m NoExpr h = refl
    none_in_all scope m (AndExpr e es) h = let c = and_both (avoids L e) (avoids_all L es) h in none_both (addresses scope e) (addresses_all scope es) (none_in scope m e c.0) (none_in_all scope m es c.1)

  none_if : (scope : Scope) → Among L scope → (o : Option Expr) → avoids_if L o ≡ true → addresses_if scope o ≡ []
  none_if scope m None h = refl
  none_if scope m (Some e) h = none_in scope m e h

  -- a statement of a flat body, and the scope behind it
  none_by : (scope : Scope) (n : ℕ) → Among L scope → (s : Stmt) → avoids_by L s ≡ true → addresses_by scope n s ≡ []
  none_by scope n m (Declare x t start) h = let c = and_both (L x) (avoids_if L start) h in none_if _ (AndAmong (record { called = x; type = t; slot = n }) scope c.0 m) start c.1
  none_by scope n m (Assign e op v) h = let c = and_both (avoids L e) (avoids L v) h in none_both (addresses scope e) (addresses scope v) (none_in scope m e c.0) (none_in scope m v c.1)
  none_by scope n m (Call e f es) h =
      let c = and_both (avoids_if L e) (avoids L f && avoids_all L es) h in
      let d = and_both (avoids L f) (avoids_all L es) c.1 in
      none_both (addresses_if scope e ++ addresses scope f) (addresses_all scope es) (none_both (addresses_if scope e) (addresses scope f) (none_if scope m e c.0) (none_in scope m f d.0)) (none_in_all scope m es d.1)
  none_by scope n m (Detach e f es) h = let c = and_both (avoids_if L e) (avoids_all L es) h in none_both (addresses_if scope e) (addresses_all scope es) (none_if scope m e c.0) (none_in_all scope m es c.1)
  none_by scope n m (Spawn f es) h = none_in_all scope m es h
  none_by scope n m (If t a Absent) h =
      let c = and_both (avoids L t) (avoids_by L a) h in
      none_both (addresses scope t ++ addresses_by scope n a) [] (none_both (addresses scope t) (addresses_by scope n a) (none_in scope m t c.0) (none_by scope n m a c.1)) refl
  none_by scope n m (If t a (Present b)) h = absurd (cc)
  none_by scope n m (Label l s) h = none_by scope n m s h
  none_by scope n m (Return v) h = none_if scope m v h
  none_by scope n m (Block ss) h = absurd (cc)
  none_by scope n m (While t s) h = absurd (cc)
  none_by scope n m (DoWhile s t) h = absurd (cc)
  none_by scope n m (For a t b s) h = absurd (cc)
  none_by scope n m Empty h = refl
  none_by scope n m (Goto l) h = refl
  none_by scope n m Break h = refl
  none_by scope n m Continue h = refl

  among_more : (scope : Scope) (n : ℕ) (s : Stmt) → Among L scope → avoids_by L s ≡ true → Among L (extended scope n s)
  among_more scope n (Declare x t start) m h = AndAmong (record { called = x; type = t; slot = n }) scope (and_both (L x) (avoids_if L start) h).0 m
  among_more scope n _ m h = m

  none_in_row : (scope : Scope) (n : ℕ) → Among L scope → (ss : Stmts) → avoids_in L ss ≡ true → addresses_in scope n ss ≡ []
  none_in_row scope n m NoStmt h = refl
  none_in_row scope n m (AndStmt s ss) h =
      let c = and_both (avoids_by L s) (avoids_in L ss) h in
      none_both (addresses_by scope n s) (addresses_in (extended scope n s) (n + declared s) ss) (none_by scope n m s c.0) (none_in_row (extended scope n s) (n + declared s) (among_more scope n s m c.0) ss c.1)

  -- a flat function that applies `&` to no local
  pub none_addressed : (f : Function) (ss : Stmts) → f.body ≡ Block ss → Among L (outer_scope f) → avoids_in L ss ≡ true → addressed f ≡ []
  none_addressed f ss e m h = ap (λ b. addresses_by (outer_scope f) (length f.parameters) b) e ∙ none_in_row (outer_scope f) (length f.parameters) m ss h
