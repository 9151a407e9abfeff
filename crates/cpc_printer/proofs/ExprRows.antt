-- What the definitions of rows give at each expression.
use Rattle.std.proofs.Common.{◌≡◌, ℕ, suc, ◌+◌, ◌<◌, ◌≤◌, ℤ, Bool, false, List, [], ◌∷◌, ◌++◌, length, get_or, drop, tests, refl, ap, sym, ◌∙◌, Vec, Box, Global, rules, append-nil}
use Rattle.std.proofs.lemmas.List.{drop_all}
use Rattle.cpc_base.specs.Bytes.{Text}
use Rattle.cpc_base.specs.declared.stop.Place.{Place}
use Rattle.cpc_base.proofs.Lists.{drop_to_item}
use Rattle.cpc_num.specs.declared.kinds.Kind.{Kind}
use Rattle.cpc_num.specs.declared.kinds.Op.{Op}
use Rattle.cpc_num.specs.declared.kinds.Op.TheVariants as O
use Rattle.cpc_tree.specs.declared.program.UnaryOp.{UnaryOp}
use Rattle.cpc_tree.specs.declared.program.Expr as GExpr
use Rattle.cpc_tree.specs.declared.program.Expr.TheVariants as E
use Rattle.cpc_tree.specs.declared.token.Keyword.TheVariants as K
use Rattle.cpc_tree.specs.declared.token.Punctuator.TheVariants as P
use Rattle.cpc_tree.specs.Tokens.{Word, Mark, Named, Number, Character, Quoted}
use Rattle.cpc_tree.specs.Syntax.{Ty, Expr, ENamed, EInteger, ECharacter, EText, EUnary, EBinary, EAnd, EOr, EChoose, ECast, ESizeOf, EIndex, EMember, EArrow, ECall, Exprs, NoExpr, AndExpr}
use Rattle.cpc_tree.specs.ExprGrammar.{Rank, Primary, Postfix, Unary, Tier, Whole, top_tier}
use Rattle.cpc_tree.specs.Erase.{Names, expr_of, exprs_of}
use Rattle.cpc_tree.specs.TypePrint.{type_row}
use Rattle.cpc_tree.specs.ExprPrint.{tier_below, mark_of, unary_mark, round, is_loose, expr_row, args_row}
use Rattle.cpc_tree.proofs.Nodes.{call_is}
use Rattle.cpc_printer.specs.Expressions.{rank_at, postfix_row, further_args}

-- nothing binds less closely than a whole expression
loose_binary : (op : Op) → is_loose Whole (Tier (suc (tier_below op))) ≡ false
loose_binary O.Mul = refl
loose_binary O.Div = refl
loose_binary O.Rem = refl
loose_binary O.Add = refl
loose_binary O.Sub = refl
loose_binary O.Shl = refl
loose_binary O.Shr = refl
loose_binary O.Lt = refl
loose_binary O.Le = refl
loose_binary O.Gt = refl
loose_binary O.Ge = refl
loose_binary O.Eq = refl
loose_binary O.Ne = refl
loose_binary O.BitAnd = refl
loose_binary O.BitXor = refl
loose_binary O.BitOr = refl

pub primary_tight : (k : Rank) → is_loose k Primary ≡ false
primary_tight Primary = refl
primary_tight Postfix = refl
primary_tight Unary = refl
primary_tight (Tier n) = search (tests, rules)
primary_tight Whole = refl

pub bare_named : (tight : Bool) (x : Text) → expr_row tight Whole (ENamed x) ≡ Named x ∷ []
unfolding expr_row
bare_named tight x = refl

pub bare_integer : (tight : Bool) (kind : Kind) (z : ℤ) → expr_row tight Whole (EInteger kind z) ≡ Number kind z ∷ []
unfolding expr_row
bare_integer tight kind z = refl

pub bare_character : (tight : Bool) (z : ℤ) → expr_row tight Whole (ECharacter z) ≡ Character z ∷ []
unfolding expr_row
bare_character tight z = refl

pub bare_text : (tight : Bool) (bytes : Text) → expr_row tight Whole (EText bytes) ≡ Quoted bytes ∷ []
unfolding expr_row
bare_text tight bytes = refl

pub bare_unary : (tight : Bool) (op : UnaryOp) (v : Expr) → expr_row tight Whole (EUnary op v) ≡ Mark (unary_mark op) ∷ expr_row tight (Tier 0) v
unfolding expr_row
bare_unary tight op v = refl

pub bare_binary : (tight : Bool) (op : Op) (v w : Expr) → expr_row tight Whole (EBinary op v w) ≡ expr_row tight (Tier (suc (tier_below op))) v ++ Mark (mark_of op) ∷ expr_row tight (Tier (tier_below op)) w
unfolding expr_row
bare_binary tight op v w = ap (λ b. round b (expr_row tight (Tier (suc (tier_below op))) v ++ Mark (mark_of op) ∷ expr_row tight (Tier (tier_below op)) w)) (loose_binary op)

pub bare_and : (tight : Bool) (v w : Expr) → expr_row tight Whole (EAnd v w) ≡ expr_row tight (Tier 9) v ++ Mark P.AndAnd ∷ expr_row tight (Tier 8) w
unfolding expr_row
bare_and tight v w = refl

pub bare_or : (tight : Bool) (v w : Expr) → expr_row tight Whole (EOr v w) ≡ expr_row tight (Tier 10) v ++ Mark P.OrOr ∷ expr_row tight (Tier 9) w
unfolding expr_row
bare_or tight v w = refl

pub bare_choose : (tight : Bool) (c v w : Expr) → expr_row tight Whole (EChoose c v w) ≡ expr_row tight (Tier top_tier) c ++ Mark P.Question ∷ (expr_row tight Whole v ++ Mark P.Colon ∷ expr_row tight Whole w)
unfolding expr_row
bare_choose tight c v w = refl

pub bare_cast : (tight : Bool) (t : Ty) (v : Expr) → expr_row tight Whole (ECast t v) ≡ Mark P.LeftParen ∷ (type_row tight t ++ Mark P.RightParen ∷ expr_row tight (Tier 0) v)
unfolding expr_row
bare_cast tight t v = refl

pub bare_sizeof : (tight : Bool) (t : Ty) → expr_row tight Whole (ESizeOf t) ≡ Word K.Sizeof ∷ Mark P.LeftParen ∷ (type_row tight t ++ Mark P.RightParen ∷ [])
unfolding expr_row
bare_sizeof tight t = refl

pub bare_index : (tight : Bool) (v w : Expr) → expr_row tight Whole (EIndex v w) ≡ expr_row tight Postfix v ++ Mark P.LeftBracket ∷ (expr_row tight Whole w ++ Mark P.RightBracket ∷ [])
unfolding expr_row
bare_index tight v w = refl

pub bare_member : (tight : Bool) (v : Expr) (x : Text) → expr_row tight Whole (EMember v x) ≡ expr_row tight Postfix v ++ Mark P.Dot ∷ Named x ∷ []
unfolding expr_row
bare_member tight v x = refl

pub bare_arrow : (tight : Bool) (v : Expr) (x : Text) → expr_row tight Whole (EArrow v x) ≡ expr_row tight Postfix v ++ Mark P.Arrow ∷ Named x ∷ []
unfolding expr_row
bare_arrow tight v x = refl

pub bare_call : (names : Names) (tight : Bool) (e : GExpr.Expr) (place : Place) (f : Box GExpr.Expr Global) (es : Vec GExpr.Expr Global) → e ≡ E.CallIn place f es
    → postfix_row tight (expr_of names e) ≡ expr_row tight Postfix (expr_of names f.value) ++ Mark P.LeftParen ∷ (args_row tight (exprs_of names es.items) ++ Mark P.RightParen ∷ [])
unfolding expr_row
bare_call names tight e place f es h = ap (postfix_row tight) (ap (expr_of names) h ∙ call_is names place f es)

pub expr_round : (tight : Bool) (k : Rank) (e : Expr) → expr_row tight k e ≡ round (is_loose k (rank_at e)) (expr_row tight Whole e)
unfolding expr_row
expr_round tight k (ENamed x) = sym (ap (λ b. round b (Named x ∷ [])) (primary_tight k))
expr_round tight k (EInteger kind z) = sym (ap (λ b. round b (Number kind z ∷ [])) (primary_tight k))
expr_round tight k (ECharacter z) = sym (ap (λ b. round b (Character z ∷ [])) (primary_tight k))
expr_round tight k (EText bytes) = sym (ap (λ b. round b (Quoted bytes ∷ [])) (primary_tight k))
expr_round tight k (EUnary op v) = refl
expr_round tight k (EBinary op v w) = sym (ap (round (is_loose k (Tier (suc (tier_below op))))) (bare_binary tight op v w))
expr_round tight k (EAnd v w) = refl
expr_round tight k (EOr v w) = refl
expr_round tight k (EChoose c v w) = refl
expr_round tight k (ECast t v) = refl
expr_round tight k (ESizeOf t) = refl
expr_round tight k (EIndex v w) = refl
expr_round tight k (EMember v x) = refl
expr_round tight k (EArrow v x) = refl
expr_round tight k (ECall v vs) = refl

pub args_none : (tight : Bool) → args_row tight NoExpr ≡ []
unfolding args_row
args_none tight = refl

pub args_some : (tight : Bool) (v : Expr) (vs : Exprs) → args_row tight (AndExpr v vs) ≡ expr_row tight Whole v ++ further_args tight vs
unfolding args_row
args_some tight v NoExpr = sym (append-nil (expr_row tight Whole v))
args_some tight v (AndExpr w vs) = ap (λ x. expr_row tight Whole v ++ Mark P.Comma ∷ x) (args_some tight w vs)

pub args_end : (tight : Bool) (names : Names) (xs : List GExpr.Expr) (i : ℕ) → length xs ≤ i → further_args tight (exprs_of names (drop i xs)) ≡ []
args_end tight names xs i h = ap (λ ys. further_args tight (exprs_of names ys)) (drop_all i xs h)

pub args_more : (tight : Bool) (names : Names) (xs : List GExpr.Expr) (i : ℕ) (x : GExpr.Expr) → i < length xs → x ≡ get_or xs i x
    → further_args tight (exprs_of names (drop i xs)) ≡ Mark P.Comma ∷ (expr_row tight Whole (expr_of names x) ++ further_args tight (exprs_of names (drop (i + 1) xs)))
args_more tight names xs i x h e = ap (λ ys. further_args tight (exprs_of names ys)) (drop_to_item xs i x h e)
