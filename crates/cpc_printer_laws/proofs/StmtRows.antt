-- The rows of lexemes that are statements wherever they stand: the productions of statements that are printed, without
-- places.
use Rattle.std.proofs.Common.{◌≡◌, ℕ, ◌+◌, false, List, [], ◌∷◌, ◌++◌, map, Option, Some, None, option_map, max, refl}
use Rattle.std.proofs.lemmas.List.{map-append}
use Rattle.cpc_base.specs.Bytes.{Text}
use Rattle.cpc_base.specs.declared.stop.Place.{Place}
use Rattle.cpc_num.specs.declared.kinds.Op.{Op}
use Rattle.cpc_tree.specs.declared.token.Keyword.TheVariants as K
use Rattle.cpc_tree.specs.declared.token.Punctuator.{Punctuator}
use Rattle.cpc_tree.specs.declared.token.Punctuator.TheVariants as P
use Rattle.cpc_tree.specs.Tokens.{Lexeme, Word, Mark, Named}
use Rattle.cpc_tree.specs.Syntax.{Ty, Expr, ENamed, Exprs, Stmt, Block, Empty, Declare, Assign, Call, Detach, Spawn, If, While, DoWhile, For, Goto, Label, Break, Continue, Return, Stmts, NoStmt, AndStmt, MaybeStmt, Absent, Present, Variable}
use Rattle.cpc_tree.specs.Located as L
use Rattle.cpc_tree.specs.Located.{Ident, LExpr, LExprs, LStmt, LVariable, bare_expr, bare_exprs, bare_stmt, bare_stmts, bare_maybe, bare_variable}
use Rattle.cpc_tree.specs.ExprGrammar.{Postfix, Unary, Whole}
use Rattle.cpc_tree.specs.StmtGrammar as G
use Rattle.cpc_tree.specs.StmtGrammar.{assigning, is_call, dangles, begin}
use Rattle.cpc_printer_laws.proofs.Standing.{Everywhere, Read, on_none, on_token, on_last, on_both, on_between, on_closed}
use Rattle.cpc_printer_laws.proofs.TypeRows.{ReadsBase, ReadsDeclarator}
use Rattle.cpc_printer_laws.proofs.ExprRows.{Reads, ReadsArgs}

-- what stands behind = , without its place
pub data Right : Type 0 where
  Value : Expr → Right
  Calls : Expr → Exprs → Right
  Section : Text → Exprs → Right

abbrev pub bare_right : G.Right → Right
bare_right (G.Value v) = Value (bare_expr v)
bare_right (G.Calls v vs) = Calls (bare_expr v) (bare_exprs vs)
bare_right (G.Section q x vs) = Section x.text (bare_exprs vs)

-- a place is given what stands behind =
abbrev pub given : Expr → Right → Stmt
given v (Value w) = Assign v None w
given v (Calls f vs) = Call (Some v) f vs
given v (Section x vs) = Detach (Some v) x vs

pub given_bare : (q o : Place) (v : LExpr) (r : G.Right) → bare_stmt (G.given q o v r) ≡ given (bare_expr v) (bare_right r)
given_bare q o v (G.Value w) = refl
given_bare q o v (G.Calls f vs) = refl
given_bare q o v (G.Section p x vs) = refl

-- a local with its initialiser
abbrev pub begun : Variable → Right → List Stmt
begun x (Value w) = Declare x.called x.type (Some w) ∷ []
begun x r = Declare x.called x.type None ∷ given (ENamed x.called) r ∷ []

pub begun_bare : (q : Place) (x : LVariable) (r : G.Right) → map bare_stmt (G.begun q x r) ≡ begun (bare_variable x) (bare_right r)
begun_bare q x (G.Value w) = refl
begun_bare q x (G.Calls f vs) = refl
begun_bare q x (G.Section p y vs) = refl

-- statements in a row
abbrev pub stmts : List Stmt → Stmts
stmts [] = NoStmt
stmts (s ∷ ss) = AndStmt s (stmts ss)

pub stmts_bare : (ss : List LStmt) → bare_stmts (G.stmts ss) ≡ stmts (map bare_stmt ss)
stmts_bare [] = refl
stmts_bare (s ∷ ss) = rw (stmts_bare ss) refl

-- a statement that can be absent
abbrev pub maybe : Option Stmt → MaybeStmt
maybe None = Absent
maybe (Some s) = Present s

pub maybe_bare : (o : Option LStmt) → bare_maybe (G.maybe o) ≡ maybe (option_map bare_stmt o)
maybe_bare None = refl
maybe_bare (Some s) = refl

abbrev pub ReadsCall : List Lexeme → Expr → Exprs → ℕ → Type 0
ReadsCall f v vs h = Everywhere f (λ ts. (w : LExpr) × (ws : LExprs) × (bare_expr w ≡ v) × (bare_exprs ws ≡ vs) × G.ReadsCall ts w ws h)

abbrev pub ReadsSection : List Lexeme → Text → Exprs → ℕ → Type 0
ReadsSection f x vs h = Everywhere f (λ ts. (q : Place) × (y : Ident) × (ws : LExprs) × (y.text ≡ x) × (bare_exprs ws ≡ vs) × G.ReadsSection ts q y ws h)

abbrev pub ReadsRight : List Lexeme → Right → ℕ → Type 0
ReadsRight f r h = Everywhere f (λ ts. Read bare_right (λ (w : G.Right). G.ReadsRight ts w h) r)

abbrev pub ReadsSimple : List Lexeme → Stmt → ℕ → Type 0
ReadsSimple f s h = Everywhere f (λ ts. Read bare_stmt (λ (w : LStmt). G.ReadsSimple ts w h) s)

abbrev pub ReadsLocalPart : Ty → List Lexeme → List Stmt → ℕ → Type 0
ReadsLocalPart base f ss h = Everywhere f (λ ts. (q : Place) → Read (map bare_stmt) (λ (ws : List LStmt). G.ReadsLocalPart q base ts ws h) ss)

abbrev pub ReadsLocalRow : Ty → List Lexeme → List Stmt → ℕ → Type 0
ReadsLocalRow base f ss h = Everywhere f (λ ts. (q : Place) → Read (map bare_stmt) (λ (ws : List LStmt). G.ReadsLocalRow q base ts ws h) ss)

abbrev pub ReadsLocal : List Lexeme → List Stmt → ℕ → Type 0
ReadsLocal f ss h = Everywhere f (λ ts. Read (map bare_stmt) (λ (ws : List LStmt). G.ReadsLocal ts ws h) ss)

abbrev pub ReadsMaybe : List Lexeme → Option Expr → ℕ → Type 0
ReadsMaybe f o h = Everywhere f (λ ts. Read (option_map bare_expr) (λ (w : Option LExpr). G.ReadsMaybe ts w h) o)

abbrev pub ReadsFirst : List Lexeme → List Stmt → ℕ → Type 0
ReadsFirst f ss h = Everywhere f (λ ts. Read (map bare_stmt) (λ (ws : List LStmt). G.ReadsFirst ts ws h) ss)

abbrev pub ReadsStep : List Lexeme → Option Stmt → ℕ → Type 0
ReadsStep f o h = Everywhere f (λ ts. Read (option_map bare_stmt) (λ (w : Option LStmt). G.ReadsStep ts w h) o)

abbrev pub ReadsStmt : List Lexeme → Stmt → ℕ → Type 0
ReadsStmt f s h = Everywhere f (λ ts. Read bare_stmt (λ (w : LStmt). G.ReadsStmt ts w h) s)

abbrev pub ReadsBlock : List Lexeme → List Stmt → ℕ → Type 0
ReadsBlock f ss h = Everywhere f (λ ts. Read (map bare_stmt) (λ (ws : List LStmt). G.ReadsBlock ts ws h) ss)

pub call_alone : (f g : List Lexeme) (v : Expr) (vs : Exprs) (h j : ℕ) → Reads Postfix f v h → ReadsArgs g vs j → ReadsCall (f ++ Mark P.LeftParen ∷ (g ++ Mark P.RightParen ∷ [])) v vs (max h j)
call_alone f g v vs h j r s = on_between _ _ _ _ (λ a m q. on_closed _ _ _ (λ b l n. let (x, c, y) = r a m in let (z, d, t) = s b l in (x, z, c, d, G.call_alone a b q n x z h j y t)))

pub section : (g : List Lexeme) (x : Text) (vs : Exprs) (h : ℕ) → ReadsArgs g vs h → ReadsSection (Word K.CpcDetached ∷ Named x ∷ Mark P.LeftParen ∷ (g ++ Mark P.RightParen ∷ [])) x vs h
section g x vs h r = on_token _ _ _ (λ q. on_token _ _ _ (λ s. on_token _ _ _ (λ n. on_closed _ _ _ (λ a m l. let (z, d, t) = r a m in (q, record { place = s; text = x }, z, refl, d, G.section a q n l (record { place = s; text = x }) z h t)))))

pub a_value : (f : List Lexeme) (v : Expr) (h : ℕ) → Reads Whole f v h → is_call v ≡ false → ReadsRight f (Value v) h
a_value f v h r n ts m = let (w, e, y) = r ts m in (G.Value w, cc, G.a_value ts w h y (rw e n))

pub a_call : (f : List Lexeme) (v : Expr) (vs : Exprs) (h : ℕ) → ReadsCall f v vs h → ReadsRight f (Calls v vs) h
a_call f v vs h r ts m = let (w, ws, e, d, y) = r ts m in (G.Calls w ws, cc, G.a_call ts w ws h y)

pub a_section : (f : List Lexeme) (x : Text) (vs : Exprs) (h : ℕ) → ReadsSection f x vs h → ReadsRight f (Section x vs) h
a_section f x vs h r ts m = let (q, w, ws, e, d, y) = r ts m in (G.Section q w ws, cc, G.a_section ts q w ws h y)

pub assigned : (f g : List Lexeme) (v : Expr) (r : Right) (h j : ℕ) → Reads Unary f v h → ReadsRight g r j → ReadsSimple (f ++ Mark P.Equal ∷ g) (given v r) (max h j + 1)
assigned f g v u h j r s = on_between _ _ _ _ (λ a m q b l. let (x, c, y) = r a m in let (z, d, t) = s b l in (G.given (begin a) q x z, rw (given_bare (begin a) q x z, c, d) refl, G.assigned a b q x z h j y t))

pub updated : (f g : List Lexeme) (p : Punctuator) (op : Op) (v w : Expr) (h j : ℕ) → Reads Unary f v h → assigning p ≡ Some op → Reads Whole g w j → ReadsSimple (f ++ Mark p ∷ g) (Assign v (Some op) w) (max h j + 1)
updated f g p op v w h j r e s = on_between _ _ _ _ (λ a m q b l. let (x, c, y) = r a m in let (z, d, t) = s b l in (L.Assign (begin a) q x (Some op) z, cc, G.updated a b q p op x z h j y e t))

pub performed : (f g : List Lexeme) (v : Expr) (vs : Exprs) (h j : ℕ) → Reads Postfix f v h → ReadsArgs g vs j → ReadsSimple (f ++ Mark P.LeftParen ∷ (g ++ Mark P.RightParen ∷ [])) (Call None v vs) (max h j + 1)
performed f g v vs h j r s = on_between _ _ _ _ (λ a m q. on_closed _ _ _ (λ b l n. let (x, c, y) = r a m in let (z, d, t) = s b l in (L.Call (begin a) (begin a) None x z, cc, G.performed a b q n x z h j y t)))

pub detached : (f : List Lexeme) (x : Text) (vs : Exprs) (h : ℕ) → ReadsSection f x vs h → ReadsSimple f (Detach None x vs) (h + 1)
detached f x vs h r ts m = let (q, w, ws, e, d, y) = r ts m in (L.Detach q q q None w ws, cc, G.detached ts q w ws h y)

pub unset : {base : Ty} (f : List Lexeme) (x : Variable) (h : ℕ) → ReadsDeclarator base f x h → ReadsLocalPart base f (Declare x.called x.type None ∷ []) (h + 1)
unset f x h r ts m q = let (w, e, y) = r ts m in (L.Declare q w.called w.type None ∷ [], rw (← e) refl, G.unset ts w h y)

pub set : {base : Ty} (f g : List Lexeme) (x : Variable) (r : Right) (h j : ℕ) → ReadsDeclarator base f x h → ReadsRight g r j → ReadsLocalPart base (f ++ Mark P.Equal ∷ g) (begun x r) (max h (max 1 j) + 1)
set f g x u h j r s = on_between _ _ _ _ (λ a m o b l q. let (w, c, y) = r a m in let (z, d, t) = s b l in (G.begun q w z, rw (begun_bare q w z, c, d) refl, G.set a b o w z h j y t))

pub last_local : {base : Ty} (f : List Lexeme) (ss : List Stmt) (h : ℕ) → ReadsLocalPart base f ss h → ReadsLocalRow base f ss h
last_local f ss h r ts m q = let (ws, e, y) = r ts m q in (ws, e, G.last_local ts ws h y)

pub more_locals : {base : Ty} (f g : List Lexeme) (ss rs : List Stmt) (h j : ℕ) → ReadsLocalPart base f ss h → ReadsLocalRow base g rs j → ReadsLocalRow base (f ++ Mark P.Comma ∷ g) (ss ++ rs) (max h j)
more_locals f g ss rs h j r s = on_between _ _ _ _ (λ a m o b l q. let (w, c, y) = r a m q in let (z, d, t) = s b l q in (w ++ z, rw (map-append, c, d) refl, G.more_locals a b o w z h j y t))

pub local : (a f : List Lexeme) (base : Ty) (ss : List Stmt) (i h : ℕ) → ReadsBase a base i → ReadsLocalRow base f ss h → ReadsLocal (a ++ f) ss h
local a f base ss i h r s = on_both _ _ _ (λ b m c l. let (w, e, y) = s c l (begin b) in (w, e, G.local b c base w i h (r b m) y))

pub no_value : ReadsMaybe [] None 0
no_value = on_none _ (None, refl, G.no_value)

pub some_value : (f : List Lexeme) (v : Expr) (h : ℕ) → Reads Whole f v h → ReadsMaybe f (Some v) h
some_value f v h r ts m = let (w, e, y) = r ts m in (Some w, cc, G.some_value ts w h y)

pub no_first : ReadsFirst [] [] 0
no_first = on_none _ ([], refl, G.no_first)

pub simple_first : (f : List Lexeme) (s : Stmt) (h : ℕ) → ReadsSimple f s h → ReadsFirst f (s ∷ []) h
simple_first f s h r ts m = let (w, e, y) = r ts m in (w ∷ [], cc, G.simple_first ts w h y)

pub local_first : (f : List Lexeme) (ss : List Stmt) (h : ℕ) → ReadsLocal f ss h → ReadsFirst f ss h
local_first f ss h r ts m = let (ws, e, y) = r ts m in (ws, e, G.local_first ts ws h y)

pub no_step : ReadsStep [] None 0
no_step = on_none _ (None, refl, G.no_step)

pub some_step : (f : List Lexeme) (s : Stmt) (h : ℕ) → ReadsSimple f s h → ReadsStep f (Some s) h
some_step f s h r ts m = let (w, e, y) = r ts m in (Some w, cc, G.some_step ts w h y)

pub block : (f : List Lexeme) (ss : List Stmt) (h : ℕ) → ReadsBlock f ss h → ReadsStmt (Mark P.LeftBrace ∷ (f ++ Mark P.RightBrace ∷ [])) (Block (stmts ss)) (h + 1)
block f ss h r = on_token _ _ _ (λ q. on_closed _ _ _ (λ a m n. let (ws, e, y) = r a m in (L.Block q (G.stmts ws), rw (stmts_bare ws, e) refl, G.block a q n ws h y)))

pub empty : ReadsStmt (Mark P.Semicolon ∷ []) Empty 1
empty = on_last _ _ (λ q. (L.Empty q, refl, G.empty q))

pub simple : (f : List Lexeme) (s : Stmt) (h : ℕ) → ReadsSimple f s h → ReadsStmt (f ++ Mark P.Semicolon ∷ []) s h
simple f s h r = on_closed _ _ _ (λ a m q. let (w, e, y) = r a m in (w, e, G.simple a q w h y))

pub labelled : (f : List Lexeme) (x : Text) (s : Stmt) (h : ℕ) → ReadsStmt f s h → ReadsStmt (Named x ∷ Mark P.Colon ∷ f) (Label x s) (h + 1)
labelled f x s h r = on_token _ _ _ (λ q. on_token _ _ _ (λ n a m. let (w, e, y) = r a m in (L.Label (record { place = q; text = x }) w, cc, G.labelled a n (record { place = q; text = x }) w h y)))

pub if_alone : (f g : List Lexeme) (c : Expr) (s : Stmt) (h i : ℕ) → Reads Whole f c h → ReadsStmt g s i → ReadsStmt (Word K.If ∷ Mark P.LeftParen ∷ (f ++ Mark P.RightParen ∷ g)) (If c s Absent) (max h i + 1)
if_alone f g c s h i r t = on_token _ _ _ (λ q. on_token _ _ _ (λ n. on_between _ _ _ _ (λ a m o b l. let (v, e, y) = r a m in let (w, d, z) = t b l in (L.If q v w L.NoneLStmt, cc, G.if_alone a b q n o v w h i y z))))

pub if_else : (f g k : List Lexeme) (c : Expr) (s l : Stmt) (h i j : ℕ) → Reads Whole f c h → ReadsStmt g s i → dangles s ≡ false → ReadsStmt k l j
    → ReadsStmt (Word K.If ∷ Mark P.LeftParen ∷ (f ++ Mark P.RightParen ∷ (g ++ Word K.Else ∷ k))) (If c s (Present l)) (max h (max i j) + 1)
if_else f g k c s l h i j r t n p =
    on_token _ _ _ (λ q. on_token _ _ _ (λ o. on_between _ _ _ _ (λ a m u. on_between _ _ _ _ (λ b mb v d md.
    let (w, e, x) = r a m in let (y, ey, ry) = t b mb in let (z, ez, rz) = p d md in (L.If q w y (L.SomeLStmt z), cc, G.if_else a b d q o u v w y z h i j x ry (rw ey n) rz)))))

pub while : (f g : List Lexeme) (c : Expr) (s : Stmt) (h i : ℕ) → Reads Whole f c h → ReadsStmt g s i → ReadsStmt (Word K.While ∷ Mark P.LeftParen ∷ (f ++ Mark P.RightParen ∷ g)) (While c s) (max h i + 1)
while f g c s h i r t = on_token _ _ _ (λ q. on_token _ _ _ (λ n. on_between _ _ _ _ (λ a m o b l. let (v, e, y) = r a m in let (w, d, z) = t b l in (L.While q v w, cc, G.while a b q n o v w h i y z))))

pub do_while : (f g : List Lexeme) (s : Stmt) (c : Expr) (h i : ℕ) → ReadsStmt f s h → Reads Whole g c i
    → ReadsStmt (Word K.Do ∷ (f ++ Word K.While ∷ Mark P.LeftParen ∷ (g ++ Mark P.RightParen ∷ Mark P.Semicolon ∷ []))) (DoWhile s c) (max h i + 1)
do_while f g s c h i r t =
    on_token _ _ _ (λ q. on_between _ _ _ _ (λ a m n. on_token _ _ _ (λ o. on_between _ _ _ _ (λ b l u. on_last _ _ (λ p. let (v, e, y) = r a m in let (w, d, z) = t b l in (L.DoWhile q v w, cc, G.do_while a b q n o u p v w h i y z))))))

pub for : (f g k l : List Lexeme) (ss : List Stmt) (o : Option Expr) (p : Option Stmt) (s : Stmt) (h i j m : ℕ) → ReadsFirst f ss h → ReadsMaybe g o i → ReadsStep k p j → ReadsStmt l s m
    → ReadsStmt (Word K.For ∷ Mark P.LeftParen ∷ (f ++ Mark P.Semicolon ∷ (g ++ Mark P.Semicolon ∷ (k ++ Mark P.RightParen ∷ l)))) (For (stmts ss) o (maybe p) s) (max h (max i (max j m)) + 1)
for f g k l ss o p s h i j m r t u v =
    on_token _ _ _ (λ q. on_token _ _ _ (λ n. on_between _ _ _ _ (λ a ma x. on_between _ _ _ _ (λ b mb y. on_between _ _ _ _ (λ c mc z d md.
    let (ws, ea, ra) = r a ma in let (w, eb, rb) = t b mb in let (e, ec, rc) = u c mc in let (st, ed, rd) = v d md in
    (L.For q (G.stmts ws) w (G.maybe e) st, rw (stmts_bare ws, maybe_bare e, ea, eb, ec, ed) refl, G.for a b c d q n x y z ws w e st h i j m ra rb rc rd))))))

pub goto : (x : Text) → ReadsStmt (Word K.Goto ∷ Named x ∷ Mark P.Semicolon ∷ []) (Goto x) 1
goto x = on_token _ _ _ (λ q. on_token _ _ _ (λ n. on_last _ _ (λ r. (L.Goto q (record { place = n; text = x }), refl, G.goto q r (record { place = n; text = x })))))

pub break : ReadsStmt (Word K.Break ∷ Mark P.Semicolon ∷ []) Break 1
break = on_token _ _ _ (λ q. on_last _ _ (λ r. (L.Break q, refl, G.break q r)))

pub continue : ReadsStmt (Word K.Continue ∷ Mark P.Semicolon ∷ []) Continue 1
continue = on_token _ _ _ (λ q. on_last _ _ (λ r. (L.Continue q, refl, G.continue q r)))

pub return : (f : List Lexeme) (o : Option Expr) (h : ℕ) → ReadsMaybe f o h → ReadsStmt (Word K.Return ∷ (f ++ Mark P.Semicolon ∷ [])) (Return o) (h + 1)
return f o h r = on_token _ _ _ (λ q. on_closed _ _ _ (λ a m n. let (w, e, y) = r a m in (L.Return q w, cc, G.return a q n w h y)))

pub spawn : (g : List Lexeme) (x : Text) (vs : Exprs) (h : ℕ) → ReadsArgs g vs h → ReadsStmt (Word K.CpcSpawn ∷ Named x ∷ Mark P.LeftParen ∷ (g ++ Mark P.RightParen ∷ Mark P.Semicolon ∷ [])) (Spawn x vs) (h + 1)
spawn g x vs h r = on_token _ _ _ (λ q. on_token _ _ _ (λ s. on_token _ _ _ (λ n. on_between _ _ _ _ (λ a m o. on_last _ _ (λ p. let (z, d, t) = r a m in (L.Spawn q (record { place = s; text = x }) z, cc, G.spawn a q n o p (record { place = s; text = x }) z h t))))))

pub no_part : ReadsBlock [] [] 0
no_part = on_none _ ([], refl, G.no_part)

pub a_stmt : (f g : List Lexeme) (s : Stmt) (ss : List Stmt) (h j : ℕ) → ReadsStmt f s h → ReadsBlock g ss j → ReadsBlock (f ++ g) (s ∷ ss) (max h j)
a_stmt f g s ss h j r t = on_both _ _ _ (λ a m b l. let (w, e, y) = r a m in let (ws, d, z) = t b l in (w ∷ ws, cc, G.a_stmt a b w ws h j y z))

pub a_local : (f g : List Lexeme) (rs ss : List Stmt) (h j : ℕ) → ReadsLocal f rs h → ReadsBlock g ss j → ReadsBlock (f ++ Mark P.Semicolon ∷ g) (rs ++ ss) (max h j)
a_local f g rs ss h j r t = on_between _ _ _ _ (λ a m q b l. let (w, e, y) = r a m in let (ws, d, z) = t b l in (w ++ ws, rw (map-append, e, d) refl, G.a_local a b q w ws h j y z))
