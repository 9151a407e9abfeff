-- The punctuators by their bytes.
use Rattle.std.proofs.Common.{◌≡◌, ℕ, zero, suc, ◌+◌, ◌<◌, ◌≤◌, Bool, true, false, cond, nat_eq, List, [], ◌∷◌, ◌++◌, length, take, get_or, Option, Some, None, refl, sym, ap, subst, ◌∙◌, arith, inl, inr}
use Rattle.std.proofs.lemmas.Bool.{ne_eqb}
use Rattle.std.proofs.lemmas.List.{length-take-le}
use Rattle.std.specs.Prelude.{find, bytes_eq, if◌then◌else◌, ◌==◌}
use Rattle.std.specs.Option.{option_map}
use Rattle.std.proofs.lemmas.Slice.Eq.{bytes_eq-Decides}
use Rattle.cpc_base.specs.Bytes.{Text}
use Rattle.cpc_base.specs.declared.stop.Dialect.{Dialect}
use Rattle.cpc_tree.specs.declared.token.Punctuator.{Punctuator}
use Rattle.cpc_tree.specs.declared.token.Punctuator.TheVariants as P
use Rattle.cpc_tree.specs.Tokens.{Mark, punctuators, punctuator_spelling, punctuator_of}
use Rattle.cpc_tree.specs.Pieces.{Sign, Token, first_state, next_state, state_of, comment_begun}
use Rattle.cpc_lexer.specs.Fronts.{IsDoubled, IsLongestFront}
use Rattle.cpc_lexer.proofs.Steps.{take_more, state_next, state_begun, longest_front}

-- one byte
pub is_left_paren : punctuator_of (40 ∷ []) ≡ Some P.LeftParen
unfolding punctuator_of
is_left_paren = refl

pub is_right_paren : punctuator_of (41 ∷ []) ≡ Some P.RightParen
unfolding punctuator_of
is_right_paren = refl

pub is_left_brace : punctuator_of (123 ∷ []) ≡ Some P.LeftBrace
unfolding punctuator_of
is_left_brace = refl

pub is_right_brace : punctuator_of (125 ∷ []) ≡ Some P.RightBrace
unfolding punctuator_of
is_right_brace = refl

pub is_left_bracket : punctuator_of (91 ∷ []) ≡ Some P.LeftBracket
unfolding punctuator_of
is_left_bracket = refl

pub is_right_bracket : punctuator_of (93 ∷ []) ≡ Some P.RightBracket
unfolding punctuator_of
is_right_bracket = refl

pub is_semicolon : punctuator_of (59 ∷ []) ≡ Some P.Semicolon
unfolding punctuator_of
is_semicolon = refl

pub is_comma : punctuator_of (44 ∷ []) ≡ Some P.Comma
unfolding punctuator_of
is_comma = refl

pub is_colon : punctuator_of (58 ∷ []) ≡ Some P.Colon
unfolding punctuator_of
is_colon = refl

pub is_question : punctuator_of (63 ∷ []) ≡ Some P.Question
unfolding punctuator_of
is_question = refl

pub is_dot : punctuator_of (46 ∷ []) ≡ Some P.Dot
unfolding punctuator_of
is_dot = refl

pub is_plus : punctuator_of (43 ∷ []) ≡ Some P.Plus
unfolding punctuator_of
is_plus = refl

pub is_minus : punctuator_of (45 ∷ []) ≡ Some P.Minus
unfolding punctuator_of
is_minus = refl

pub is_star : punctuator_of (42 ∷ []) ≡ Some P.Star
unfolding punctuator_of
is_star = refl

pub is_slash : punctuator_of (47 ∷ []) ≡ Some P.Slash
unfolding punctuator_of
is_slash = refl

pub is_percent : punctuator_of (37 ∷ []) ≡ Some P.Percent
unfolding punctuator_of
is_percent = refl

pub is_ampersand : punctuator_of (38 ∷ []) ≡ Some P.Ampersand
unfolding punctuator_of
is_ampersand = refl

pub is_bar : punctuator_of (124 ∷ []) ≡ Some P.Bar
unfolding punctuator_of
is_bar = refl

pub is_caret : punctuator_of (94 ∷ []) ≡ Some P.Caret
unfolding punctuator_of
is_caret = refl

pub is_tilde : punctuator_of (126 ∷ []) ≡ Some P.Tilde
unfolding punctuator_of
is_tilde = refl

pub is_exclamation : punctuator_of (33 ∷ []) ≡ Some P.Exclamation
unfolding punctuator_of
is_exclamation = refl

pub is_less : punctuator_of (60 ∷ []) ≡ Some P.Less
unfolding punctuator_of
is_less = refl

pub is_greater : punctuator_of (62 ∷ []) ≡ Some P.Greater
unfolding punctuator_of
is_greater = refl

pub is_equal : punctuator_of (61 ∷ []) ≡ Some P.Equal
unfolding punctuator_of
is_equal = refl

pub ruleset one_byte_marks = (is_left_paren, is_right_paren, is_left_brace, is_right_brace, is_left_bracket, is_right_bracket, is_semicolon, is_comma, is_colon, is_question, is_dot, is_plus, is_minus, is_star, is_slash, is_percent, is_ampersand, is_bar, is_caret, is_tilde, is_exclamation, is_less, is_greater, is_equal)

none_of_one : (b : ℕ) → nat_eq b 40 ≡ false → nat_eq b 41 ≡ false → nat_eq b 123 ≡ false → nat_eq b 125 ≡ false → nat_eq b 91 ≡ false → nat_eq b 93 ≡ false → nat_eq b 59 ≡ false → nat_eq b 44 ≡ false → nat_eq b 58 ≡ false → nat_eq b 63 ≡ false → nat_eq b 46 ≡ false → nat_eq b 43 ≡ false → nat_eq b 45 ≡ false → nat_eq b 42 ≡ false → nat_eq b 47 ≡ false → nat_eq b 37 ≡ false → nat_eq b 38 ≡ false → nat_eq b 124 ≡ false → nat_eq b 94 ≡ false → nat_eq b 126 ≡ false → nat_eq b 33 ≡ false → nat_eq b 60 ≡ false → nat_eq b 62 ≡ false → nat_eq b 61 ≡ false → punctuator_of (b ∷ []) ≡ None
unfolding punctuator_of
none_of_one b h40 h41 h123 h125 h91 h93 h59 h44 h58 h63 h46 h43 h45 h42 h47 h37 h38 h124 h94 h126 h33 h60 h62 h61 = rw (h40, h41, h123, h125, h91, h93, h59, h44, h58, h63, h46, h43, h45, h42, h47, h37, h38, h124, h94, h126, h33, h60, h62, h61) refl

-- no punctuator is another byte
pub no_mark : (b : ℕ) → (b ≡ 40 → ⊥) → (b ≡ 41 → ⊥) → (b ≡ 123 → ⊥) → (b ≡ 125 → ⊥) → (b ≡ 91 → ⊥) → (b ≡ 93 → ⊥) → (b ≡ 59 → ⊥) → (b ≡ 44 → ⊥) → (b ≡ 58 → ⊥) → (b ≡ 63 → ⊥) → (b ≡ 46 → ⊥) → (b ≡ 43 → ⊥) → (b ≡ 45 → ⊥) → (b ≡ 42 → ⊥) → (b ≡ 47 → ⊥) → (b ≡ 37 → ⊥) → (b ≡ 38 → ⊥) → (b ≡ 124 → ⊥) → (b ≡ 94 → ⊥) → (b ≡ 126 → ⊥) → (b ≡ 33 → ⊥) → (b ≡ 60 → ⊥) → (b ≡ 62 → ⊥) → (b ≡ 61 → ⊥) → None ≡ punctuator_of (b ∷ [])
no_mark b h40 h41 h123 h125 h91 h93 h59 h44 h58 h63 h46 h43 h45 h42 h47 h37 h38 h124 h94 h126 h33 h60 h62 h61 = sym (none_of_one b (ne_eqb b 40 h40) (ne_eqb b 41 h41) (ne_eqb b 123 h123) (ne_eqb b 125 h125) (ne_eqb b 91 h91) (ne_eqb b 93 h93) (ne_eqb b 59 h59) (ne_eqb b 44 h44) (ne_eqb b 58 h58) (ne_eqb b 63 h63) (ne_eqb b 46 h46) (ne_eqb b 43 h43) (ne_eqb b 45 h45) (ne_eqb b 42 h42) (ne_eqb b 47 h47) (ne_eqb b 37 h37) (ne_eqb b 38 h38) (ne_eqb b 124 h124) (ne_eqb b 94 h94) (ne_eqb b 126 h126) (ne_eqb b 33 h33) (ne_eqb b 60 h60) (ne_eqb b 62 h62) (ne_eqb b 61 h61))

-- two bytes
abbrev pub equal_of : Punctuator → Option Punctuator
equal_of P.Plus = Some P.PlusEqual
equal_of P.Minus = Some P.MinusEqual
equal_of P.Star = Some P.StarEqual
equal_of P.Slash = Some P.SlashEqual
equal_of P.Percent = Some P.PercentEqual
equal_of P.Ampersand = Some P.AmpersandEqual
equal_of P.Bar = Some P.BarEqual
equal_of P.Caret = Some P.CaretEqual
equal_of P.Exclamation = Some P.NotEqual
equal_of P.Less = Some P.LessEqual
equal_of P.Greater = Some P.GreaterEqual
equal_of P.ShiftLeft = Some P.ShiftLeftEqual
equal_of P.ShiftRight = Some P.ShiftRightEqual
equal_of P.Equal = Some P.EqualEqual
equal_of _ = None

abbrev pub greater_of : Punctuator → Option Punctuator
greater_of P.Minus = Some P.Arrow
greater_of P.Greater = Some P.ShiftRight
greater_of _ = None

pub equal_is : (mark : Punctuator) → punctuator_of (punctuator_spelling mark ++ 61 ∷ []) ≡ equal_of mark
unfolding punctuator_of
equal_is P.LeftParen = refl
equal_is _ = refl

pub greater_is : (mark : Punctuator) → punctuator_of (punctuator_spelling mark ++ 62 ∷ []) ≡ greater_of mark
unfolding punctuator_of
greater_is P.LeftParen = refl
greater_is _ = refl

abbrev pub twice_of : Punctuator → ℕ → Option Punctuator
twice_of P.Plus b = if b == 43 then Some P.Increment else None
twice_of P.Minus b = if b == 45 then Some P.Decrement else None
twice_of P.Ampersand b = if b == 38 then Some P.AndAnd else None
twice_of P.Bar b = if b == 124 then Some P.OrOr else None
twice_of P.Less b = if b == 60 then Some P.ShiftLeft else None
twice_of _ b = None

twice_43 : (mark : Punctuator) → punctuator_of (punctuator_spelling mark ++ 43 ∷ []) ≡ twice_of mark 43
unfolding punctuator_of
twice_43 P.LeftParen = refl
twice_43 _ = refl

twice_45 : (mark : Punctuator) → punctuator_of (punctuator_spelling mark ++ 45 ∷ []) ≡ twice_of mark 45
unfolding punctuator_of
twice_45 P.LeftParen = refl
twice_45 _ = refl

twice_38 : (mark : Punctuator) → punctuator_of (punctuator_spelling mark ++ 38 ∷ []) ≡ twice_of mark 38
unfolding punctuator_of
twice_38 P.LeftParen = refl
twice_38 _ = refl

twice_124 : (mark : Punctuator) → punctuator_of (punctuator_spelling mark ++ 124 ∷ []) ≡ twice_of mark 124
unfolding punctuator_of
twice_124 P.LeftParen = refl
twice_124 _ = refl

twice_60 : (mark : Punctuator) → punctuator_of (punctuator_spelling mark ++ 60 ∷ []) ≡ twice_of mark 60
unfolding punctuator_of
twice_60 P.LeftParen = refl
twice_60 _ = refl

pub twice_is : (mark : Punctuator) (b : ℕ) → IsDoubled b → punctuator_of (punctuator_spelling mark ++ b ∷ []) ≡ twice_of mark b
twice_is mark b (inl e) = rw e (twice_43 mark)
twice_is mark b (inr (inl e)) = rw e (twice_45 mark)
twice_is mark b (inr (inr (inl e))) = rw e (twice_38 mark)
twice_is mark b (inr (inr (inr (inl e)))) = rw e (twice_124 mark)
twice_is mark b (inr (inr (inr (inr e)))) = rw e (twice_60 mark)

none_behind : (mark : Punctuator) (b : ℕ) → nat_eq b 61 ≡ false → nat_eq b 62 ≡ false → nat_eq b 43 ≡ false → nat_eq b 45 ≡ false → nat_eq b 38 ≡ false → nat_eq b 124 ≡ false → nat_eq b 60 ≡ false → punctuator_of (punctuator_spelling mark ++ b ∷ []) ≡ None
unfolding punctuator_of
none_behind P.Plus b h61 h62 h43 h45 h38 h124 h60 = rw (h61, h43) refl
none_behind P.Minus b h61 h62 h43 h45 h38 h124 h60 = rw (h61, h62, h45) refl
none_behind P.Star b h61 h62 h43 h45 h38 h124 h60 = rw (h61) refl
none_behind P.Slash b h61 h62 h43 h45 h38 h124 h60 = rw (h61) refl
none_behind P.Percent b h61 h62 h43 h45 h38 h124 h60 = rw (h61) refl
none_behind P.Ampersand b h61 h62 h43 h45 h38 h124 h60 = rw (h61, h38) refl
none_behind P.Bar b h61 h62 h43 h45 h38 h124 h60 = rw (h61, h124) refl
none_behind P.Caret b h61 h62 h43 h45 h38 h124 h60 = rw (h61) refl
none_behind P.Exclamation b h61 h62 h43 h45 h38 h124 h60 = rw (h61) refl
none_behind P.Less b h61 h62 h43 h45 h38 h124 h60 = rw (h61, h60) refl
none_behind P.Greater b h61 h62 h43 h45 h38 h124 h60 = rw (h61, h62) refl
none_behind P.ShiftLeft b h61 h62 h43 h45 h38 h124 h60 = rw (h61) refl
none_behind P.ShiftRight b h61 h62 h43 h45 h38 h124 h60 = rw (h61) refl
none_behind P.Equal b h61 h62 h43 h45 h38 h124 h60 = rw (h61) refl
none_behind _ b h61 h62 h43 h45 h38 h124 h60 = refl

pub no_longer : (mark : Punctuator) (b : ℕ) → (b ≡ 61 → ⊥) → (b ≡ 62 → ⊥) → (b ≡ 43 → ⊥) → (b ≡ 45 → ⊥) → (b ≡ 38 → ⊥) → (b ≡ 124 → ⊥) → (b ≡ 60 → ⊥) → None ≡ punctuator_of (punctuator_spelling mark ++ b ∷ [])
no_longer mark b h61 h62 h43 h45 h38 h124 h60 = sym (none_behind mark b (ne_eqb b 61 h61) (ne_eqb b 62 h62) (ne_eqb b 43 h43) (ne_eqb b 45 h45) (ne_eqb b 38 h38) (ne_eqb b 124 h124) (ne_eqb b 60 h60))

-- the bytes of a punctuator are its spelling
found_spelling : (w : Text) (marks : List Punctuator) (p : Punctuator) → find (λ q. bytes_eq w (punctuator_spelling q)) marks ≡ Some p → punctuator_spelling p ≡ w
found_spelling w [] p e = absurd cc
found_spelling w (q ∷ marks) p e = at (λ f. found_spelling w marks p f) (bytes_eq w (punctuator_spelling q)) refl e where
  at : (find (λ q. bytes_eq w (punctuator_spelling q)) marks ≡ Some p → punctuator_spelling p ≡ w) → (t : Bool) → bytes_eq w (punctuator_spelling q) ≡ t → cond t (Some q) (find (λ q. bytes_eq w (punctuator_spelling q)) marks) ≡ Some p → punctuator_spelling p ≡ w
  at ih true h f = let i : q ≡ p = cc in rw (← i) (sym ((bytes_eq-Decides w (punctuator_spelling q)).0 h))
  at ih false h f = ih f

pub spelling_of : (w : Text) (p : Punctuator) → punctuator_of w ≡ Some p → punctuator_spelling p ≡ w
unfolding punctuator_of
spelling_of w p e = found_spelling w punctuators p e

-- only / begins a comment
no_comment : (mark : Punctuator) (w : Text) (b : ℕ) → punctuator_spelling mark ≡ w → (w ≡ 47 ∷ [] → comment_begun P.Slash b ≡ None) → comment_begun mark b ≡ None
no_comment P.Slash w b e f = f (sym e)
no_comment _ w b e f = refl

next_mark : (mark : Punctuator) (b : ℕ) (o : Option Punctuator) → comment_begun mark b ≡ None → punctuator_of (punctuator_spelling mark ++ b ∷ []) ≡ o → next_state (Sign mark) b ≡ option_map Sign o
unfolding next_state
next_mark mark b o e f = rw (e, f) refl

take_one : (t : Text) (n : ℕ) → n ≤ length t → take n t ≡ 47 ∷ [] → (n ≡ 1) × (get_or t 0 0 ≡ 47)
take_one t n le e = (sym (length_take t n le) ∙ ap length e, first t n le e) where
  length_take : (t : Text) (n : ℕ) → n ≤ length t → length (take n t) ≡ n
  length_take t n le = length-take-le n t le

  first : (t : Text) (n : ℕ) → n ≤ length t → take n t ≡ 47 ∷ [] → get_or t 0 0 ≡ 47
  first [] zero le e = absurd cc
  first [] (suc n) le e = absurd (omega arith)
  first (b ∷ t) zero le e = absurd cc
  first (b ∷ t) (suc n) le e = cc

-- the front of a text that begins no comment
abbrev pub BeginsNoComment : Text → Type 0
BeginsNoComment t = get_or t 0 0 ≡ 47 → 1 < length t → comment_begun P.Slash (get_or t 1 0) ≡ None

no_comment_at : (t : Text) (n : ℕ) (mark : Punctuator) → BeginsNoComment t → n < length t → punctuator_spelling mark ≡ take n t → comment_begun mark (get_or t n 0) ≡ None
no_comment_at t n mark none lt e = no_comment mark (take n t) (get_or t n 0) e (λ f. let g = take_one t n (omega arith) f in subst (λ (i : ℕ). comment_begun P.Slash (get_or t i 0) ≡ None) (sym g.0) (none g.1 (omega (arith, g.0))))

abbrev pub MarkSoFar : Text → ℕ → Punctuator → Type 0
MarkSoFar t n mark = (state_of (take n t) ≡ Some (Sign mark)) × (punctuator_spelling mark ≡ take n t)

pub mark_begun : (t : Text) (mark : Punctuator) → 0 < length t → first_state (get_or t 0 0) ≡ option_map Sign (punctuator_of (get_or t 0 0 ∷ [])) → Some mark ≡ punctuator_of (get_or t 0 0 ∷ []) → MarkSoFar t 1 mark
mark_begun [] mark lt e f = absurd (omega arith)
mark_begun (b ∷ t) mark lt e f = (state_begun (b ∷ t) 0 lt ∙ (e ∙ ap (λ o. option_map Sign o) (sym f)), spelling_of (b ∷ []) mark (sym f))

pub mark_goes : (t : Text) (n : ℕ) (mark more : Punctuator) → BeginsNoComment t → n < length t → MarkSoFar t n mark → Some more ≡ punctuator_of (punctuator_spelling mark ++ get_or t n 0 ∷ []) → MarkSoFar t (n + 1) more
mark_goes t n mark more none lt (e, f) g = (
  state_next t n 0 (Sign mark) lt e ∙ next_mark mark (get_or t n 0) (Some more) (no_comment_at t n mark none lt f) (sym g),
  spelling_of _ more (sym g) ∙ (ap (λ u. u ++ get_or t n 0 ∷ []) f ∙ sym (take_more t n 0 lt)),
)

pub mark_ends : (dialect : Dialect) (t : Text) (n : ℕ) (mark : Punctuator) → BeginsNoComment t → 0 < n → n ≤ length t → MarkSoFar t n mark → (n < length t → None ≡ punctuator_of (punctuator_spelling mark ++ get_or t n 0 ∷ [])) → IsLongestFront dialect t n (Token (Mark mark))
mark_ends dialect t n mark none pos le (e, f) g = longest_front dialect t n 0 (Sign mark) (Token (Mark mark)) pos le e (λ lt. next_mark mark (get_or t n 0) None (no_comment_at t n mark none lt f) (sym (g lt))) refl
