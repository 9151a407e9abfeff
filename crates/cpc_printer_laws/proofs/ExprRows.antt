-- The rows of lexemes that are expressions wherever they stand: the productions of expressions, without places.
use Rattle.std.proofs.Common.{◌≡◌, ℕ, suc, ◌+◌, List, [], ◌∷◌, ◌++◌, Some, max, ℤ, refl}
use Rattle.cpc_base.specs.Bytes.{Text}
use Rattle.cpc_base.specs.declared.stop.Place.{Place}
use Rattle.cpc_num.specs.declared.kinds.Kind.{Kind}
use Rattle.cpc_tree.specs.declared.program.UnaryOp.{UnaryOp}
use Rattle.cpc_tree.specs.declared.token.Keyword.TheVariants as K
use Rattle.cpc_tree.specs.declared.token.Punctuator.{Punctuator}
use Rattle.cpc_tree.specs.declared.token.Punctuator.TheVariants as P
use Rattle.cpc_tree.specs.Tokens.{Lexeme, Word, Mark, Named, Number, Character, Quoted, Placed}
use Rattle.cpc_tree.specs.Syntax.{Ty, Expr, ENamed, EInteger, ECharacter, EText, EUnary, EBinary, EAnd, EOr, EChoose, ECast, ESizeOf, EIndex, EMember, EArrow, ECall, Exprs, NoExpr, AndExpr}
use Rattle.cpc_tree.specs.Located.{LExpr, LNamed, LInteger, LCharacter, LText, LUnary, LChoose, LCast, LSizeOf, LIndex, LMember, LArrow, LCall, LExprs, NoLExpr, AndLExpr, bare_expr, bare_exprs}
use Rattle.cpc_tree.specs.ExprGrammar as G
use Rattle.cpc_tree.specs.ExprGrammar.{Rank, Primary, Postfix, Unary, Tier, Whole, Operator, Binary, And, Or, operator, unary_operator, top_tier}
use Rattle.cpc_printer_laws.proofs.Standing.{Everywhere, Read, on_none, on_token, on_last, on_between, on_closed}
use Rattle.cpc_printer_laws.proofs.TypeRows.{ReadsTypeName}

abbrev pub Reads : Rank → List Lexeme → Expr → ℕ → Type 0
Reads k f v h = Everywhere f (λ ts. Read bare_expr (λ (w : LExpr). G.Reads k ts w h) v)

abbrev pub ReadsArgs : List Lexeme → Exprs → ℕ → Type 0
ReadsArgs f vs h = Everywhere f (λ ts. Read bare_exprs (λ (ws : LExprs). G.ReadsArgs ts ws h) vs)

-- the expression of two operands
abbrev pub operated : Operator → Expr → Expr → Expr
operated (Binary op) v w = EBinary op v w
operated And v w = EAnd v w
operated Or v w = EOr v w

-- one reading is another at once
same : (j k : Rank) (f : List Lexeme) (v : Expr) (h i : ℕ) → ((ts : List Placed) (w : LExpr) → G.Reads j ts w h → G.Reads k ts w i) → Reads j f v h → Reads k f v i
same j k f v h i c r ts m = let (w, e, y) = r ts m in (w, e, c ts w y)

pub a_name : (x : Text) → Reads Primary (Named x ∷ []) (ENamed x) 1
a_name x = on_last _ _ (λ q. (LNamed (record { place = q; text = x }), refl, G.a_name (record { place = q; text = x })))

pub an_integer : (kind : Kind) (z : ℤ) → Reads Primary (Number kind z ∷ []) (EInteger kind z) 1
an_integer kind z = on_last _ _ (λ q. (LInteger q kind z, refl, G.an_integer q kind z))

pub a_character : (z : ℤ) → Reads Primary (Character z ∷ []) (ECharacter z) 1
a_character z = on_last _ _ (λ q. (LCharacter q z, refl, G.a_character q z))

pub a_text : (bytes : Text) → Reads Primary (Quoted bytes ∷ []) (EText bytes) 1
a_text bytes = on_last _ _ (λ q. (LText q bytes, refl, G.a_text q bytes))

pub parens : (f : List Lexeme) (v : Expr) (h : ℕ) → Reads Whole f v h → Reads Primary (Mark P.LeftParen ∷ (f ++ Mark P.RightParen ∷ [])) v (h + 1)
parens f v h r = on_token _ _ _ (λ q. on_closed _ _ _ (λ a m s. let (w, e, y) = r a m in (w, e, G.parens a q s w h y)))

pub a_primary : (f : List Lexeme) (v : Expr) (h : ℕ) → Reads Primary f v h → Reads Postfix f v h
a_primary f v h = same Primary Postfix f v h h (λ ts w. G.a_primary ts w h)

pub indexed : (f g : List Lexeme) (v w : Expr) (h j : ℕ) → Reads Postfix f v h → Reads Whole g w j → Reads Postfix (f ++ Mark P.LeftBracket ∷ (g ++ Mark P.RightBracket ∷ [])) (EIndex v w) (max h j + 1)
indexed f g v w h j r s = on_between _ _ _ _ (λ a m q. on_closed _ _ _ (λ b l n. let (x, c, y) = r a m in let (z, d, t) = s b l in (LIndex q x z, cc, G.indexed a b q n x z h j y t)))

pub called : (f g : List Lexeme) (v : Expr) (vs : Exprs) (h j : ℕ) → Reads Postfix f v h → ReadsArgs g vs j → Reads Postfix (f ++ Mark P.LeftParen ∷ (g ++ Mark P.RightParen ∷ [])) (ECall v vs) (max h j + 1)
called f g v vs h j r s = on_between _ _ _ _ (λ a m q. on_closed _ _ _ (λ b l n. let (x, c, y) = r a m in let (z, d, t) = s b l in (LCall q x z, cc, G.called a b q n x z h j y t)))

pub member : (f : List Lexeme) (v : Expr) (x : Text) (h : ℕ) → Reads Postfix f v h → Reads Postfix (f ++ Mark P.Dot ∷ Named x ∷ []) (EMember v x) (h + 1)
member f v x h r = on_between _ _ _ _ (λ a m q. on_last _ _ (λ n. let (w, e, y) = r a m in (LMember q w (record { place = n; text = x }), cc, G.member a q w (record { place = n; text = x }) h y)))

pub arrow : (f : List Lexeme) (v : Expr) (x : Text) (h : ℕ) → Reads Postfix f v h → Reads Postfix (f ++ Mark P.Arrow ∷ Named x ∷ []) (EArrow v x) (h + 1)
arrow f v x h r = on_between _ _ _ _ (λ a m q. on_last _ _ (λ n. let (w, e, y) = r a m in (LArrow q w (record { place = n; text = x }), cc, G.arrow a q w (record { place = n; text = x }) h y)))

pub a_postfix : (f : List Lexeme) (v : Expr) (h : ℕ) → Reads Postfix f v h → Reads Unary f v h
a_postfix f v h = same Postfix Unary f v h h (λ ts w. G.a_postfix ts w h)

pub signed : (f : List Lexeme) (p : Punctuator) (op : UnaryOp) (v : Expr) (h : ℕ) → unary_operator p ≡ Some op → Reads (Tier 0) f v h → Reads Unary (Mark p ∷ f) (EUnary op v) (h + 1)
signed f p op v h o r = on_token _ _ _ (λ q a m. let (w, e, y) = r a m in (LUnary q op w, cc, G.signed a q p op w h o y))

pub size : (f : List Lexeme) (t : Ty) (h : ℕ) → ReadsTypeName f t h → Reads Unary (Word K.Sizeof ∷ Mark P.LeftParen ∷ (f ++ Mark P.RightParen ∷ [])) (ESizeOf t) (h + 1)
size f t h r = on_token _ _ _ (λ q. on_token _ _ _ (λ s. on_closed _ _ _ (λ a m n. (LSizeOf q t, refl, G.size a q s n t h (r a m)))))

pub a_unary : (f : List Lexeme) (v : Expr) (h : ℕ) → Reads Unary f v h → Reads (Tier 0) f v h
a_unary f v h = same Unary (Tier 0) f v h h (λ ts w. G.a_unary ts w h)

pub cast : (f g : List Lexeme) (t : Ty) (v : Expr) (h j : ℕ) → ReadsTypeName f t h → Reads (Tier 0) g v j → Reads (Tier 0) (Mark P.LeftParen ∷ (f ++ Mark P.RightParen ∷ g)) (ECast t v) (max h j + 1)
cast f g t v h j r s = on_token _ _ _ (λ q. on_between _ _ _ _ (λ a m n b l. let (w, e, y) = s b l in (LCast q t w, cc, G.cast a b q n t w h j (r a m) y)))

pub an_operand : (n : ℕ) (f : List Lexeme) (v : Expr) (h : ℕ) → Reads (Tier n) f v h → Reads (Tier (suc n)) f v h
an_operand n f v h = same (Tier n) (Tier (suc n)) f v h h (λ ts w. G.an_operand n ts w h)

pub operated_bare : (q : Place) (op : Operator) (v w : LExpr) → bare_expr (G.operated q op v w) ≡ operated op (bare_expr v) (bare_expr w)
operated_bare q (Binary op) v w = refl
operated_bare q And v w = refl
operated_bare q Or v w = refl

pub applied : (n : ℕ) (f g : List Lexeme) (p : Punctuator) (op : Operator) (v w : Expr) (h j : ℕ) → Reads (Tier (suc n)) f v h → operator p ≡ Some (suc n, op) → Reads (Tier n) g w j
    → Reads (Tier (suc n)) (f ++ Mark p ∷ g) (operated op v w) (max h j + 1)
applied n f g p op v w h j r e s = on_between _ _ _ _ (λ a m q b l. let (x, c, y) = r a m in let (z, d, t) = s b l in (G.operated q op x z, rw (operated_bare q op x z, c, d) refl, G.applied n a b q p op x z h j y e t))

pub unchosen : (f : List Lexeme) (v : Expr) (h : ℕ) → Reads (Tier top_tier) f v h → Reads Whole f v h
unchosen f v h = same (Tier top_tier) Whole f v h h (λ ts w. G.unchosen ts w h)

pub chosen : (f g k : List Lexeme) (c v w : Expr) (h i j : ℕ) → Reads (Tier top_tier) f c h → Reads Whole g v i → Reads Whole k w j
    → Reads Whole (f ++ Mark P.Question ∷ (g ++ Mark P.Colon ∷ k)) (EChoose c v w) (max h (max i j) + 1)
chosen f g k c v w h i j r s t =
    on_between _ _ _ _ (λ a m q. on_between _ _ _ _ (λ b l n d o. let (x, ex, rx) = r a m in let (y, ey, ry) = s b l in let (z, ez, rz) = t d o in (LChoose q x y z, cc, G.chosen a b d q n x y z h i j rx ry rz)))

pub no_args : ReadsArgs [] NoExpr 0
no_args = on_none _ (NoLExpr, refl, G.no_args)

pub last_arg : (f : List Lexeme) (v : Expr) (h : ℕ) → Reads Whole f v h → ReadsArgs f (AndExpr v NoExpr) h
last_arg f v h r ts m = let (w, e, y) = r ts m in (AndLExpr w NoLExpr, cc, G.last_arg ts w h y)

more_of : (q : Place) (a b : List Placed) (x : LExpr) (zs : LExprs) (v w : Expr) (vs : Exprs) (h j : ℕ) → bare_expr x ≡ v → bare_exprs zs ≡ AndExpr w vs → G.Reads Whole a x h → G.ReadsArgs b zs j
    → Read bare_exprs (λ (ws : LExprs). G.ReadsArgs (a ++ record { place = q; lexeme = Mark P.Comma } ∷ b) ws (max h j)) (AndExpr v (AndExpr w vs))
more_of q a b x NoLExpr v w vs h j c d y t = absurd cc
more_of q a b x (AndLExpr z zs) v w vs h j c d y t = (AndLExpr x (AndLExpr z zs), cc, G.more_args a b q x z zs h j y t)

pub more_args : (f g : List Lexeme) (v w : Expr) (vs : Exprs) (h j : ℕ) → Reads Whole f v h → ReadsArgs g (AndExpr w vs) j → ReadsArgs (f ++ Mark P.Comma ∷ g) (AndExpr v (AndExpr w vs)) (max h j)
more_args f g v w vs h j r s = on_between _ _ _ _ (λ a m q b l. let (x, c, y) = r a m in let (zs, d, t) = s b l in more_of q a b x zs v w vs h j c d y t)
