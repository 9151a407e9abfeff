-- No simple statement has a colon behind a first name, as a label has.
use Rattle.std.proofs.Common.{◌≡◌, ℕ, true, false, List, [], ◌∷◌, ◌++◌, Some, refl}
use Rattle.cpc_num.specs.declared.kinds.Op.{Op}
use Rattle.cpc_tree.specs.declared.token.Punctuator.{Punctuator}
use Rattle.cpc_tree.specs.declared.token.Punctuator.TheVariants as P
use Rattle.cpc_tree.specs.Tokens.{Mark, Placed}
use Rattle.cpc_tree.specs.Located.{LExpr, LStmt}
use Rattle.cpc_tree.specs.TypeGrammar.{mark}
use Rattle.cpc_tree.specs.ExprGrammar.{Primary, Postfix, Unary, Reads}
use Rattle.cpc_tree.specs.ExprGrammar as X
use Rattle.cpc_tree.specs.StmtGrammar.{assigning, stepping, ReadsSection, section, ReadsSimple, assigned, updated, stepped_behind, stepped_before, performed, detached}
use Rattle.cpc_parser_reading.proofs.Readers.{Apart}
use Rattle.cpc_parser_types.specs.Views.{lexeme}
use Rattle.cpc_parser_types.specs.TypeReaders.{is_name}
use Rattle.cpc_parser_types.specs.Begins.{is_mark}

-- behind a first name stands no colon
abbrev pub Plain : List Placed → Type 0
Plain [] = ⊥
Plain (t ∷ []) = Unit {0}
Plain (t ∷ (u ∷ g)) = is_name t.lexeme ≡ true → is_mark P.Colon u.lexeme ≡ false

plain_more : (g k : List Placed) (t : Placed) → Plain g → is_mark P.Colon t.lexeme ≡ false → Plain (g ++ t ∷ k)
plain_more [] k t p e = absurd p
plain_more (u ∷ []) k t p e = λ n. e
plain_more (u ∷ (w ∷ g)) k t p e = p

pub plain_apart : (g rest : List Placed) (t : Placed) → Plain g → is_mark P.Colon t.lexeme ≡ false → Apart lexeme is_name (λ k l. is_mark P.Colon l) ((g ++ t ∷ []) ++ rest)
plain_apart [] rest t p e = absurd p
plain_apart (u ∷ []) rest t p e = λ n. e
plain_apart (u ∷ (w ∷ g)) rest t p e = p

-- what begins with no name
plain_other : (t : Placed) (g : List Placed) → is_name t.lexeme ≡ false → Plain (t ∷ g)
plain_other t [] e = tt
plain_other t (u ∷ g) e = λ n. absurd cc

plain_primary : (f : List Placed) (v : LExpr) (h : ℕ) → Reads Primary f v h → Plain f
plain_primary f v h (X.a_name x) = tt
plain_primary f v h (X.an_integer q kind z) = tt
plain_primary f v h (X.a_character q z) = tt
plain_primary f v h (X.a_text q bytes) = tt
plain_primary f v h (X.parens g q r w i x) = plain_other (mark q P.LeftParen) (g ++ mark r P.RightParen ∷ []) refl

plain_postfix : (f : List Placed) (v : LExpr) (h : ℕ) → Reads Postfix f v h → Plain f
plain_postfix f v h (X.a_primary g w i r) = plain_primary g w i r
plain_postfix f v h (X.indexed g k q r w u i j x y) = plain_more g _ (mark q P.LeftBracket) (plain_postfix g w i x) refl
plain_postfix f v h (X.called g k q r w vs i j x y) = plain_more g _ (mark q P.LeftParen) (plain_postfix g w i x) refl
plain_postfix f v h (X.member g q w y i x) = plain_more g _ (mark q P.Dot) (plain_postfix g w i x) refl
plain_postfix f v h (X.arrow g q w y i x) = plain_more g _ (mark q P.Arrow) (plain_postfix g w i x) refl

plain_unary : (f : List Placed) (v : LExpr) (h : ℕ) → Reads Unary f v h → Plain f
plain_unary f v h (X.a_postfix g w i r) = plain_postfix g w i r
plain_unary f v h (X.signed g q p op w i e x) = plain_other (mark q p) g refl
plain_unary f v h (X.size g q r s t i x) = λ n. absurd cc

assign_colon : (p : Punctuator) (op : Op) → assigning p ≡ Some op → is_mark P.Colon (Mark p) ≡ false
assign_colon P.Colon op e = absurd cc
assign_colon p op e = refl

step_colon : (p : Punctuator) (op : Op) → stepping p ≡ Some op → is_mark P.Colon (Mark p) ≡ false
step_colon P.Colon op e = absurd cc
step_colon p op e = refl

plain_section : (f : List Placed) (q : _) (x : _) (vs : _) (h : ℕ) → ReadsSection f q x vs h → Plain f
plain_section f q x vs h (section g o r s y ws i a) = λ n. absurd cc

pub plain_simple : (f : List Placed) (s : LStmt) (h : ℕ) → ReadsSimple f s h → Plain f
plain_simple f s h (assigned g k q v r i j x y) = plain_more g k (mark q P.Equal) (plain_unary g v i x) refl
plain_simple f s h (updated g k q p op v w i j x e y) = plain_more g k (mark q p) (plain_unary g v i x) (assign_colon p op e)
plain_simple f s h (stepped_behind g q p op v i x e) = plain_more g [] (mark q p) (plain_postfix g v i x) (step_colon p op e)
plain_simple f s h (stepped_before g q p op v i e x) = plain_other (mark q p) g refl
plain_simple f s h (performed g k q r v vs i j x y) = plain_more g _ (mark q P.LeftParen) (plain_postfix g v i x) refl
plain_simple f s h (detached g q x vs i r) = plain_section g q x vs i r
