-- Images of expressions that can be printed in the dialect Cpc can be in the dialect Event, and nest at most two levels deeper.
use Rattle.std.proofs.Common.{◌≡◌, ℕ, suc, ◌+◌, ◌≤◌, Bool, true, false, List, [], ◌∷◌, ◌++◌, Option, Some, None, refl, arith}
use Rattle.cpc_base.specs.Bytes.{Text}
use Rattle.cpc_base.specs.declared.stop.Dialect.{Dialect}
use Rattle.cpc_base.specs.declared.stop.Dialect.TheVariants as D
use Rattle.cpc_tree.specs.declared.token.Punctuator.TheVariants as P
use Rattle.cpc_tree.specs.Tokens.{Lexeme, Word, Mark, Named, Number, Character, Quoted}
use Rattle.cpc_tree.specs.Spelling.{IsName, IsSpellable}
use Rattle.cpc_tree.specs.Syntax.{Expr, ENamed, EInteger, ECharacter, EText, EUnary, EBinary, EAnd, EOr, EChoose, ECast, ESizeOf, EIndex, EMember, EArrow, ECall, Exprs, NoExpr, AndExpr}
use Rattle.cpc_tree.specs.ExprGrammar.{Rank, Postfix, Unary, Tier, Whole, top_tier}
use Rattle.cpc_tree.specs.StmtGrammar.{is_call}
use Rattle.cpc_tree.specs.TypePrint.{type_row}
use Rattle.cpc_tree.specs.ExprPrint.{round, deeper_if, is_loose, tier_below, mark_of, unary_mark, expr_row, expr_depth, args_row, args_depth, PrintableExpr, PrintableExprs}
use Rattle.cpc_printer_laws.proofs.Fitting.{Spelled, spelled_both, spelled_parts}
use Rattle.cpc_convert_image_laws.specs.Images.{Reading, AsLocal, AsField, Readings, image_named, image, images}
use Rattle.cpc_chains_print_laws.proofs.Names.{name_widened}

-- ---- rows

-- a token
token_widened : (x : Lexeme) → IsSpellable D.Cpc x → IsSpellable D.Event x
token_widened (Word k) s = s
token_widened (Mark p) s = s
token_widened (Named x) s = name_widened x s
token_widened (Number kind z) s = s
token_widened (Character z) s = s
token_widened (Quoted bytes) s = s

-- a row that can be spelled in the dialect Cpc can be in the dialect Event, where names may be longer
pub row_widened : (f : List Lexeme) → Spelled D.Cpc f → Spelled D.Event f
row_widened [] s = tt
row_widened (x ∷ f) (a, s) = (token_widened x a, row_widened f s)

module _ (d : Dialect) where
  -- in parentheses or not
  pub spelled_round : (b : Bool) (f : List Lexeme) → Spelled d f → Spelled d (round b f)
  spelled_round true f s = (tt, spelled_both d f (Mark P.RightParen ∷ []) s (tt, tt))
  spelled_round false f s = s

  pub spelled_inside : (b : Bool) (f : List Lexeme) → Spelled d (round b f) → Spelled d f
  spelled_inside true f (a, s) = (spelled_parts d f (Mark P.RightParen ∷ []) s).0
  spelled_inside false f s = s

  -- rows with a mark between them
  pub spelled_with : (f g : List Lexeme) (x : Lexeme) → Spelled d (f ++ x ∷ g) → Spelled d f × IsSpellable d x × Spelled d g
  spelled_with f g x s = let (a, b) = spelled_parts d f (x ∷ g) s in (a, b.0, b.1)

-- what was spelled so in one dialect, and now is in another
round_to : (b : Bool) (f g : List Lexeme) → (Spelled D.Cpc f → Spelled D.Event g) → Spelled D.Cpc (round b f) → Spelled D.Event (round b g)
round_to b f g h s = spelled_round D.Event b g (h (spelled_inside D.Cpc b f s))

-- two rows with a mark between them
two_to : (f g f' g' : List Lexeme) (x : Lexeme) → (Spelled D.Cpc f → Spelled D.Event f') → (Spelled D.Cpc g → Spelled D.Event g') → Spelled D.Cpc (f ++ x ∷ g) → Spelled D.Event (f' ++ x ∷ g')
two_to f g f' g' x a b s = let (u, v, w) = spelled_with D.Cpc f g x s in spelled_both D.Event f' (x ∷ g') (a u) (token_widened x v, b w)

-- ---- readings

-- what a name is read as can be spelled
abbrev pub ReadingSpelled : Option Reading → Type 0
ReadingSpelled None = Unit {0}
ReadingSpelled (Some (AsLocal y)) = IsName D.Event y
ReadingSpelled (Some (AsField y f)) = IsName D.Event y × IsName D.Event f

abbrev pub ReadingsSpelled : Readings → Type 0
ReadingsSpelled r = (x : Text) → IsName D.Cpc x → ReadingSpelled (r x)

-- ---- expressions

module _ (r : Readings) (names : ReadingsSpelled r) (tight : Bool) where
  named_spelled : (k : Rank) (x : Text) → IsName D.Cpc x → (o : Option Reading) → ReadingSpelled o → Spelled D.Event (expr_row tight k (image_named o x))
  unfolding expr_row
  named_spelled k x n None h = (name_widened x n, tt)
  named_spelled k x n (Some (AsLocal y)) h = (h, tt)
  named_spelled k x n (Some (AsField y f)) h = spelled_round D.Event (is_loose k Postfix) (Named y ∷ Mark P.Arrow ∷ Named f ∷ []) (h.0, (tt, (h.1, tt)))

  mutual
    unfolding expr_row args_row

    pub image_spelled : (k : Rank) (e : Expr) → Spelled D.Cpc (expr_row tight k e) → Spelled D.Event (expr_row tight k (image r e))
    image_spelled k (ENamed x) s = named_spelled k x s.0 (r x) (names x s.0)
    image_spelled k (EInteger kind z) s = s
    image_spelled k (ECharacter z) s = s
    image_spelled k (EText bytes) s = s
    image_spelled k (EUnary op v) s = round_to (is_loose k Unary) _ (Mark (unary_mark op) ∷ expr_row tight (Tier 0) (image r v)) (λ t. (tt, image_spelled (Tier 0) v t.1)) s
    image_spelled k (EBinary op v w) s =
        round_to (is_loose k (Tier (suc (tier_below op)))) _ (expr_row tight (Tier (suc (tier_below op))) (image r v) ++ Mark (mark_of op) ∷ expr_row tight (Tier (tier_below op)) (image r w))
        (two_to _ _ _ _ (Mark (mark_of op)) (image_spelled (Tier (suc (tier_below op))) v) (image_spelled (Tier (tier_below op)) w)) s
    image_spelled k (EAnd v w) s =
        round_to (is_loose k (Tier 9)) _ (expr_row tight (Tier 9) (image r v) ++ Mark P.AndAnd ∷ expr_row tight (Tier 8) (image r w)) (two_to _ _ _ _ (Mark P.AndAnd) (image_spelled (Tier 9) v) (image_spelled (Tier 8) w)) s
    image_spelled k (EOr v w) s =
        round_to (is_loose k (Tier 10)) _ (expr_row tight (Tier 10) (image r v) ++ Mark P.OrOr ∷ expr_row tight (Tier 9) (image r w)) (two_to _ _ _ _ (Mark P.OrOr) (image_spelled (Tier 10) v) (image_spelled (Tier 9) w)) s
    image_spelled k (EChoose c v w) s =
        round_to (is_loose k Whole) _ (expr_row tight (Tier top_tier) (image r c) ++ Mark P.Question ∷ (expr_row tight Whole (image r v) ++ Mark P.Colon ∷ expr_row tight Whole (image r w)))
        (two_to _ _ _ _ (Mark P.Question) (image_spelled (Tier top_tier) c) (two_to _ _ _ _ (Mark P.Colon) (image_spelled Whole v) (image_spelled Whole w))) s
    image_spelled k (ECast t v) s =
        round_to (is_loose k (Tier 0)) _ (Mark P.LeftParen ∷ (type_row tight t ++ Mark P.RightParen ∷ expr_row tight (Tier 0) (image r v)))
        (λ u. (tt, two_to (type_row tight t) (expr_row tight (Tier 0) v) (type_row tight t) _ (Mark P.RightParen) (row_widened (type_row tight t)) (image_spelled (Tier 0) v) u.1)) s
    image_spelled k (ESizeOf t) s = row_widened (expr_row tight k (ESizeOf t)) s
    image_spelled k (EIndex v w) s =
        round_to (is_loose k Postfix) _ (expr_row tight Postfix (image r v) ++ Mark P.LeftBracket ∷ (expr_row tight Whole (image r w) ++ Mark P.RightBracket ∷ []))
        (two_to _ _ _ _ (Mark P.LeftBracket) (image_spelled Postfix v) (two_to _ [] _ [] (Mark P.RightBracket) (image_spelled Whole w) (λ u. tt))) s
    image_spelled k (EMember v x) s =
        round_to (is_loose k Postfix) _ (expr_row tight Postfix (image r v) ++ Mark P.Dot ∷ Named x ∷ []) (two_to _ (Named x ∷ []) _ (Named x ∷ []) (Mark P.Dot) (image_spelled Postfix v) (λ u. (name_widened x u.0, tt))) s
    image_spelled k (EArrow v x) s =
        round_to (is_loose k Postfix) _ (expr_row tight Postfix (image r v) ++ Mark P.Arrow ∷ Named x ∷ []) (two_to _ (Named x ∷ []) _ (Named x ∷ []) (Mark P.Arrow) (image_spelled Postfix v) (λ u. (name_widened x u.0, tt))) s
    image_spelled k (ECall v vs) s =
        round_to (is_loose k Postfix) _ (expr_row tight Postfix (image r v) ++ Mark P.LeftParen ∷ (args_row tight (images r vs) ++ Mark P.RightParen ∷ []))
        (two_to _ _ _ _ (Mark P.LeftParen) (image_spelled Postfix v) (two_to _ [] _ [] (Mark P.RightParen) (images_spelled vs) (λ u. tt))) s

    pub images_spelled : (es : Exprs) → Spelled D.Cpc (args_row tight es) → Spelled D.Event (args_row tight (images r es))
    images_spelled NoExpr s = s
    images_spelled (AndExpr v NoExpr) s = image_spelled Whole v s
    images_spelled (AndExpr v (AndExpr w vs)) s = two_to _ _ _ (args_row tight (AndExpr (image r w) (images r vs))) (Mark P.Comma) (image_spelled Whole v) (images_spelled (AndExpr w vs)) s

named_printable : (x : Text) (o : Option Reading) → PrintableExpr (image_named o x)
unfolding PrintableExpr
named_printable x None = tt
named_printable x (Some (AsLocal y)) = tt
named_printable x (Some (AsField y f)) = tt

mutual
  unfolding PrintableExpr PrintableExprs

  pub image_printable : (r : Readings) (e : Expr) → PrintableExpr e → PrintableExpr (image r e)
  image_printable r (ENamed x) p = named_printable x (r x)
  image_printable r (EInteger kind z) p = p
  image_printable r (ECharacter z) p = p
  image_printable r (EText bytes) p = p
  image_printable r (EUnary op v) p = image_printable r v p
  image_printable r (EBinary op v w) p = (image_printable r v p.0, image_printable r w p.1)
  image_printable r (EAnd v w) p = (image_printable r v p.0, image_printable r w p.1)
  image_printable r (EOr v w) p = (image_printable r v p.0, image_printable r w p.1)
  image_printable r (EChoose c v w) p = (image_printable r c p.0, image_printable r v p.1, image_printable r w p.2)
  image_printable r (ECast t v) p = (p.0, image_printable r v p.1)
  image_printable r (ESizeOf t) p = p
  image_printable r (EIndex v w) p = (image_printable r v p.0, image_printable r w p.1)
  image_printable r (EMember v x) p = image_printable r v p
  image_printable r (EArrow v x) p = image_printable r v p
  image_printable r (ECall v vs) p = (image_printable r v p.0, images_printable r vs p.1)

  pub images_printable : (r : Readings) (es : Exprs) → PrintableExprs es → PrintableExprs (images r es)
  images_printable r NoExpr p = tt
  images_printable r (AndExpr v vs) p = (image_printable r v p.0, images_printable r vs p.1)

-- ---- nesting

deeper : (b : Bool) (x y : ℕ) → x ≤ y + 2 → deeper_if b x ≤ deeper_if b y + 2
deeper true x y h = omega (arith, h)
deeper false x y h = h

-- a pair of parentheses
pub round_one : (b : Bool) (x : ℕ) → deeper_if b x ≤ x + 1
round_one true x = omega arith
round_one false x = omega arith

named_deep : (k : Rank) (x : Text) (o : Option Reading) → expr_depth true k (image_named o x) ≤ 1 + 2
unfolding expr_depth
named_deep k x None = omega arith
named_deep k x (Some (AsLocal y)) = omega arith
named_deep k x (Some (AsField y f)) = let a = round_one (is_loose k Postfix) 2 in omega (arith, a)

mutual
  unfolding expr_depth args_depth

  pub image_deep : (r : Readings) (k : Rank) (e : Expr) → expr_depth true k (image r e) ≤ expr_depth true k e + 2
  image_deep r k (ENamed x) = named_deep k x (r x)
  image_deep r k (EInteger kind z) = omega arith
  image_deep r k (ECharacter z) = omega arith
  image_deep r k (EText bytes) = omega arith
  image_deep r k (EUnary op v) = let a = image_deep r (Tier 0) v in deeper (is_loose k Unary) _ _ (omega (arith, a))
  image_deep r k (EBinary op v w) = let a = image_deep r (Tier (suc (tier_below op))) v in let b = image_deep r (Tier (tier_below op)) w in deeper (is_loose k (Tier (suc (tier_below op)))) _ _ (omega (arith, a, b))
  image_deep r k (EAnd v w) = let a = image_deep r (Tier 9) v in let b = image_deep r (Tier 8) w in deeper (is_loose k (Tier 9)) _ _ (omega (arith, a, b))
  image_deep r k (EOr v w) = let a = image_deep r (Tier 10) v in let b = image_deep r (Tier 9) w in deeper (is_loose k (Tier 10)) _ _ (omega (arith, a, b))
  image_deep r k (EChoose c v w) = let a = image_deep r (Tier top_tier) c in let b = image_deep r Whole v in let d = image_deep r Whole w in deeper (is_loose k Whole) _ _ (omega (arith, a, b, d))
  image_deep r k (ECast t v) = let a = image_deep r (Tier 0) v in deeper (is_loose k (Tier 0)) _ _ (omega (arith, a))
  image_deep r k (ESizeOf t) = omega arith
  image_deep r k (EIndex v w) = let a = image_deep r Postfix v in let b = image_deep r Whole w in deeper (is_loose k Postfix) _ _ (omega (arith, a, b))
  image_deep r k (EMember v x) = let a = image_deep r Postfix v in deeper (is_loose k Postfix) _ _ (omega (arith, a))
  image_deep r k (EArrow v x) = let a = image_deep r Postfix v in deeper (is_loose k Postfix) _ _ (omega (arith, a))
  image_deep r k (ECall v vs) = let a = image_deep r Postfix v in let b = images_deep r vs in deeper (is_loose k Postfix) _ _ (omega (arith, a, b))

  pub images_deep : (r : Readings) (es : Exprs) → args_depth true (images r es) ≤ args_depth true es + 2
  images_deep r NoExpr = omega arith
  images_deep r (AndExpr v NoExpr) = image_deep r Whole v
  images_deep r (AndExpr v (AndExpr w vs)) = let a = image_deep r Whole v in let b = images_deep r (AndExpr w vs) in omega (arith, a, b)

-- ---- calls

pub image_no_call : (r : Readings) (e : Expr) → is_call e ≡ false → is_call (image r e) ≡ false
image_no_call r (ENamed x) h = named_no_call x (r x)
  where
    named_no_call : (x : Text) (o : Option Reading) → is_call (image_named o x) ≡ false
    named_no_call x None = refl
    named_no_call x (Some (AsLocal y)) = refl
    named_no_call x (Some (AsField y f)) = refl
image_no_call r (ECall v vs) h = h
image_no_call r (EInteger kind z) h = refl
image_no_call r (ECharacter z) h = refl
image_no_call r (EText bytes) h = refl
image_no_call r (EUnary op v) h = refl
image_no_call r (EBinary op v w) h = refl
image_no_call r (EAnd v w) h = refl
image_no_call r (EOr v w) h = refl
image_no_call r (EChoose c v w) h = refl
image_no_call r (ECast t v) h = refl
image_no_call r (ESizeOf t) h = refl
image_no_call r (EIndex v w) h = refl
image_no_call r (EMember v x) h = refl
image_no_call r (EArrow v x) h = refl
