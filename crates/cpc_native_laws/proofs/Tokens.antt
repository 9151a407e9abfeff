-- The numbers of the tokens of a text are numbers of their kinds.
use Rattle.std.proofs.Common.{◌≡◌, ℕ, ◌^◌, Bool, true, false, cond, nat_eq, nat_lt, nat_le, List, [], ◌∷◌, ◌++◌, length, take, drop, pos, ℤ, Option, Some, None, refl, subst, arith}
use Rattle.std.proofs.lemmas.Int.{ints}
use Rattle.std.specs.Prelude.{find}
use Rattle.std.specs.Option.{option_map}
use Rattle.std.specs.List.{prefix_len}
use Rattle.std.specs.Char.{is_ascii_digit}
use Rattle.cpc_base.specs.Bytes.{Text}
use Rattle.cpc_base.specs.declared.stop.Place.{Place}
use Rattle.cpc_base.specs.declared.stop.Dialect.{Dialect}
use Rattle.cpc_num.specs.declared.kinds.Kind.{Kind}
use Rattle.cpc_num.specs.declared.kinds.Kind.TheVariants as N
use Rattle.cpc_num.specs.Number.{is_of, convert, IsOf}
use Rattle.cpc_num.proofs.KindLemmas.{IsOf-is_of, IsOf-convert}
use Rattle.cpc_tree.specs.declared.token.Keyword.{Keyword}
use Rattle.cpc_tree.specs.declared.token.Punctuator.{Punctuator}
use Rattle.cpc_tree.specs.declared.token.Punctuator.TheVariants as P
use Rattle.cpc_tree.specs.Tokens.{Lexeme, Word, Mark, Named, Number, Character, Quoted, Placed, keyword_of, punctuator_of, punctuator_spelling}
use Rattle.cpc_tree.specs.Pieces.{Token, Fault, Quote, Single, Double, Escape, NoEscape, Backslash, OneOctal, TwoOctal, HexNone, Hex, State, Gap, Run, Sign, LineComment, BlockComment, BlockCommentStar, Open, Whole, Wrong, in_word, is_plain, is_blank, quote_byte, closed, is_full, digit_value, is_digit_of, value_of, simple_escape, suffix_of, kinds_tried, of_kind, with_suffix, integer_of, base_of, by_digits, integer, name_limit, name_or_keyword, run, next_byte, next_simple, octal_state, hex_state, next_quoted, comment_begun, or_mark, first_state, next_state, state_behind, state_of, in_state, piece_of}
use Rattle.cpc_tree.specs.Cut.{Row, nothing, a_space, a_token}
use Rattle.cpc_tree.proofs.States.{piece_state}

-- what a token holds is a number of its kind
abbrev pub IsFit : Lexeme → Type 0
IsFit (Number kind z) = IsOf kind z
IsFit (Character z) = IsOf N.Int z
IsFit _ = Unit {0}

-- the same of all tokens
abbrev pub AllFit : List Placed → Type 0
AllFit [] = Unit {0}
AllFit (t ∷ ts) = IsFit t.lexeme × AllFit ts

pub fit_parts : (f g : List Placed) → AllFit (f ++ g) → AllFit f × AllFit g
fit_parts [] g h = (tt, h)
fit_parts (t ∷ f) g h = let k = fit_parts f g h.1 in ((h.0, k.0), k.1)

-- ---- states

-- a literal that is whole
abbrev Holds : State → Type 0
Holds (Whole (Number kind z)) = ⊥
Holds (Whole x) = IsFit x
Holds _ = Unit {0}

abbrev HoldsIf : Option State → Type 0
HoldsIf None = Unit {0}
HoldsIf (Some s) = Holds s

wider : (z : ℤ) → IsOf N.Char z → IsOf N.Int z
wider z h = let l = h.low in let k = h.high in record { low = grind (arith, ints); high = grind (arith, ints) }

closed_holds : (quote : Quote) (held : Text) → Holds (closed quote held)
closed_holds Double held = tt
closed_holds Single [] = tt
closed_holds Single (c ∷ []) = wider (convert N.Char (pos c)) (IsOf-convert N.Char (pos c))
closed_holds Single (c ∷ d ∷ held) = tt

byte_holds : (quote : Quote) (held : Text) (b : ℕ) → Holds (next_byte quote held b)
unfolding next_byte
byte_holds quote held b = at (nat_eq b (quote_byte quote)) (is_full quote held) (nat_eq b 92) (is_plain quote b) where
  at : (p q r s : Bool) → Holds (cond p (closed quote held) (cond q Wrong (cond r (Open quote held Backslash) (cond s (Open quote (held ++ b ∷ []) NoEscape) Wrong))))
  at true q r s = closed_holds quote held
  at false true r s = tt
  at false false true s = tt
  at false false false true = tt
  at false false false false = tt

octal_holds : (quote : Quote) (held : Text) (n : ℕ) → Holds (octal_state quote held n)
octal_holds quote held n = at (nat_lt n 256) where
  at : (p : Bool) → Holds (cond p (Open quote (held ++ n ∷ []) NoEscape) Wrong)
  at true = tt
  at false = tt

hex_holds : (quote : Quote) (held : Text) (n : ℕ) → Holds (hex_state quote held n)
hex_holds quote held n = at (nat_lt n 256) where
  at : (p : Bool) → Holds (cond p (Open quote held (Hex n)) Wrong)
  at true = tt
  at false = tt

escaped_holds : (quote : Quote) (held : Text) (o : Option ℕ) → Holds (next_simple quote held o)
escaped_holds quote held (Some c) = tt
escaped_holds quote held None = tt

either : (p : Bool) (s t : State) → Holds s → Holds t → Holds (cond p s t)
either true s t h k = h
either false s t h k = k

quoted_holds : (quote : Quote) (held : Text) (part : Escape) (b : ℕ) → Holds (next_quoted quote held part b)
unfolding next_quoted
quoted_holds quote held NoEscape b = byte_holds quote held b
quoted_holds quote held Backslash b =
    either (is_digit_of 8 b) (Open quote held (OneOctal (digit_value b))) _ tt
    (either (nat_eq b 120) (Open quote held HexNone) (next_simple quote held (simple_escape b)) tt (escaped_holds quote held (simple_escape b)))
quoted_holds quote held (OneOctal n) b = either (is_digit_of 8 b) (Open quote held (TwoOctal _)) (next_byte quote (held ++ n ∷ []) b) tt (byte_holds quote (held ++ n ∷ []) b)
quoted_holds quote held (TwoOctal n) b = either (is_digit_of 8 b) (octal_state quote held _) (next_byte quote (held ++ n ∷ []) b) (octal_holds quote held _) (byte_holds quote (held ++ n ∷ []) b)
quoted_holds quote held HexNone b = either (is_digit_of 16 b) (Open quote held (Hex (digit_value b))) Wrong tt tt
quoted_holds quote held (Hex n) b = either (is_digit_of 16 b) (hex_state quote held _) (next_byte quote (held ++ n ∷ []) b) (hex_holds quote held _) (byte_holds quote (held ++ n ∷ []) b)

sign_holds : (o : Option Punctuator) → HoldsIf (option_map Sign o)
sign_holds None = tt
sign_holds (Some p) = tt

comment_holds : (p : Punctuator) (b : ℕ) → HoldsIf (comment_begun p b)
comment_holds P.Slash b = at (nat_eq b 42) (nat_eq b 47) where
  at : (p q : Bool) → HoldsIf (cond p (Some BlockComment) (cond q (Some LineComment) None))
  at true q = tt
  at false true = tt
  at false false = tt
comment_holds _ b = tt

mark_holds : (o : Option State) (m : Option Punctuator) → HoldsIf o → HoldsIf (or_mark o m)
mark_holds None m h = sign_holds m
mark_holds (Some s) m h = h

next_holds : (s : State) (b : ℕ) → HoldsIf (next_state s b)
unfolding next_state
next_holds Gap b = tt
next_holds Run b = at (in_word b) where
  at : (p : Bool) → HoldsIf (cond p (Some Run) None)
  at true = tt
  at false = tt
next_holds (Sign p) b = mark_holds (comment_begun p b) (punctuator_of (punctuator_spelling p ++ b ∷ [])) (comment_holds p b)
next_holds LineComment b = either (nat_eq b 10) Gap LineComment tt tt
next_holds BlockComment b = either (nat_eq b 42) BlockCommentStar BlockComment tt tt
next_holds BlockCommentStar b = either (nat_eq b 42) BlockCommentStar _ tt (either (nat_eq b 47) Gap BlockComment tt tt)
next_holds (Open quote held part) b = at (nat_eq b 10) where
  at : (p : Bool) → HoldsIf (cond p None (Some (next_quoted quote held part b)))
  at true = tt
  at false = quoted_holds quote held part b
next_holds (Whole x) b = tt
next_holds Wrong b = tt

first_holds : (b : ℕ) → HoldsIf (first_state b)
unfolding first_state
first_holds b = at (is_blank b) (in_word b) (nat_eq b 39) (nat_eq b 34) where
  at : (p q r s : Bool) → HoldsIf (cond p (Some Gap) (cond q (Some Run) (cond r (Some (Open Single [] NoEscape)) (cond s (Some (Open Double [] NoEscape)) (option_map Sign (punctuator_of (b ∷ [])))))))
  at true q r s = tt
  at false true r s = tt
  at false false true s = tt
  at false false false true = tt
  at false false false false = sign_holds (punctuator_of (b ∷ []))

behind_holds : (o : Option State) (w : Text) → HoldsIf o → HoldsIf (state_behind o w)
unfolding state_behind
behind_holds None w h = tt
behind_holds (Some s) [] h = h
behind_holds (Some s) (b ∷ w) h = behind_holds (next_state s b) w (next_holds s b)

state_holds : (w : Text) (s : State) → state_of w ≡ Some s → Holds s
unfolding state_of
state_holds [] s e = absurd cc
state_holds (b ∷ w) s e = subst HoldsIf e (behind_holds (first_state b) w (first_holds b))

-- ---- integers

kind_fit : (n : ℕ) (ks : List Kind) (x : Lexeme) → of_kind n (find (λ kind. is_of kind (pos n)) ks) ≡ Token x → IsFit x
kind_fit n [] x e = absurd cc
kind_fit n (k ∷ ks) x e = at (λ f. kind_fit n ks x f) (is_of k (pos n)) refl e where
  at : (of_kind n (find (λ kind. is_of kind (pos n)) ks) ≡ Token x → IsFit x) → (p : Bool) → is_of k (pos n) ≡ p → of_kind n (cond p (Some k) (find (λ kind. is_of kind (pos n)) ks)) ≡ Token x → IsFit x
  at ih true f g = let i : Number k (pos n) ≡ x = cc in subst IsFit i (IsOf-is_of k (pos n) f)
  at ih false f g = ih g

suffix_fit : (base n : ℕ) (o : Option (Bool × Bool)) (x : Lexeme) → with_suffix base n o ≡ Token x → IsFit x
suffix_fit base n None x e = absurd cc
suffix_fit base n (Some s) x e = kind_fit n (kinds_tried (nat_eq base 10) s.0 s.1) x e

digits_fit : (base : ℕ) (digits suffix : Text) (x : Lexeme) → integer_of base digits suffix ≡ Token x → IsFit x
digits_fit base digits suffix x e = at (nat_le (2 ^ 64) (value_of base digits)) (nat_eq (length digits) 0) e where
  at : (p q : Bool) → cond p (Fault 3) (cond q (Fault 5) (with_suffix base (value_of base digits) (suffix_of suffix))) ≡ Token x → IsFit x
  at true q f = absurd cc
  at false true f = absurd cc
  at false false f = suffix_fit base (value_of base digits) (suffix_of suffix) x f

numeral_fit : (base : ℕ) (w : Text) (x : Lexeme) → by_digits base w ≡ Token x → IsFit x
numeral_fit base w x e = digits_fit base (take (prefix_len (is_digit_of base) w) w) (drop (prefix_len (is_digit_of base) w) w) x e

integer_fit : (w : Text) (x : Lexeme) → integer w ≡ Token x → IsFit x
unfolding integer
integer_fit w x e = numeral_fit (base_of w) (cond (nat_eq (base_of w) 16) (drop 2 w) w) x e

name_fit : (dialect : Dialect) (w : Text) (o : Option Keyword) (x : Lexeme) → name_or_keyword dialect w o ≡ Token x → IsFit x
name_fit dialect w (Some k) x e = let i : Word k ≡ x = cc in subst IsFit i tt
name_fit dialect w None x e = at (nat_le (length w) (name_limit dialect)) e where
  at : (p : Bool) → cond p (Token (Named w)) (Fault 4) ≡ Token x → IsFit x
  at true f = let i : Named w ≡ x = cc in subst IsFit i tt
  at false f = absurd cc

run_fit : (dialect : Dialect) (w : Text) (x : Lexeme) → run dialect w ≡ Token x → IsFit x
unfolding run
run_fit dialect [] x e = absurd cc
run_fit dialect (b ∷ w) x e = at (is_ascii_digit b) e where
  at : (p : Bool) → cond p (integer (b ∷ w)) (name_or_keyword dialect (b ∷ w) (keyword_of (b ∷ w))) ≡ Token x → IsFit x
  at true f = integer_fit (b ∷ w) x f
  at false f = name_fit dialect (b ∷ w) (keyword_of (b ∷ w)) x f

-- ---- tokens

whole_fit : (x : Lexeme) → Holds (Whole x) → IsFit x
whole_fit (Number kind z) h = absurd h
whole_fit (Character z) h = h
whole_fit (Word k) h = tt
whole_fit (Mark p) h = tt
whole_fit (Named text) h = tt
whole_fit (Quoted bytes) h = tt

piece_fit : (dialect : Dialect) (w : Text) (x : Lexeme) → piece_of dialect w ≡ Some (Token x) → IsFit x
piece_fit dialect w x e = let s = piece_state dialect w (Token x) e in at s.0 (state_holds w s.0 s.1) s.2 where
  at : (s : State) → Holds s → in_state dialect w s ≡ Token x → IsFit x
  at Gap h f = absurd cc
  at Run h f = run_fit dialect w x f
  at (Sign p) h f = let i : Mark p ≡ x = cc in subst IsFit i tt
  at LineComment h f = absurd cc
  at BlockComment h f = absurd cc
  at BlockCommentStar h f = absurd cc
  at (Open quote held part) h f = absurd cc
  at (Whole y) h f = let i : y ≡ x = cc in subst IsFit i (whole_fit y h)
  at Wrong h f = absurd cc

-- The tokens of a row hold numbers of their kinds.
pub row_fit : {dialect : Dialect} {p q : Place} {t rest : Text} {list : List Placed} → Row dialect p t list q rest → AllFit list
row_fit (nothing p t) = tt
row_fit (a_space w p q text rest list l row) = row_fit row
row_fit {dialect} (a_token w x p q text rest list l row) = (piece_fit dialect w x l.piece, row_fit row)
