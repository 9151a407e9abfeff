-- Each token of a text is spelled by something.
use Rattle.std.proofs.Common.{◌≡◌, ℕ, suc, ◌+◌, ◌*◌, ◌^◌, ◌≤◌, ◌<◌, Bool, true, false, cond, nat_eq, nat_lt, nat_le, List, [], ◌∷◌, ◌++◌, length, take, drop, pos, Option, Some, None, refl, subst, arith, append_assoc, length-append}
use Rattle.std.proofs.lemmas.Bool.Decides.{nat_tests}
use Rattle.std.proofs.lemmas.Int.{ints}
use Rattle.std.proofs.lemmas.List.{append-nil}
use Rattle.std.proofs.Math.ListN.{get_or-append}
use Rattle.std.proofs.lemmas.List.Elements.{All-append, All-cons, All-nil}
use Rattle.std.specs.Prelude.{find, All, IsTrue}
use Rattle.std.specs.Option.{option_map}
use Rattle.std.specs.List.{AllPass, prefix_len}
use Rattle.std.specs.Char.{is_ascii_digit}
use Rattle.cpc_base.specs.Bytes.{Text}
use Rattle.cpc_base.specs.declared.stop.Place.{Place}
use Rattle.cpc_base.specs.declared.stop.Dialect.{Dialect}
use Rattle.cpc_base.proofs.Truth.{lt_means}
use Rattle.cpc_num.specs.declared.kinds.Kind.{Kind}
use Rattle.cpc_num.specs.declared.kinds.Kind.TheVariants as N
use Rattle.cpc_num.specs.Number.{is_of, convert}
use Rattle.cpc_tree.specs.declared.token.Keyword.{Keyword}
use Rattle.cpc_tree.specs.declared.token.Punctuator.{Punctuator}
use Rattle.cpc_tree.specs.declared.token.Punctuator.TheVariants as P
use Rattle.cpc_tree.specs.Tokens.{Lexeme, Word, Mark, Named, Number, Character, Quoted, Placed, keyword_of, punctuator_of, punctuator_spelling}
use Rattle.cpc_tree.specs.Pieces.{Token, Fault, Quote, Single, Double, Escape, NoEscape, Backslash, OneOctal, TwoOctal, HexNone, Hex, State, Gap, Run, Sign, LineComment, BlockComment, BlockCommentStar, Open, Whole, Wrong, in_word, is_plain, is_blank, quote_byte, closed, is_full, digit_value, is_digit_of, value_of, simple_escape, suffix_of, kinds_tried, of_kind, with_suffix, integer_of, base_of, by_digits, integer, name_limit, name_or_keyword, run, next_byte, next_simple, octal_state, hex_state, next_quoted, comment_begun, or_mark, first_state, next_state, state_behind, state_of, in_state, piece_of}
use Rattle.cpc_tree.specs.Cut.{Row, nothing, a_space, a_token}
use Rattle.cpc_tree.specs.Spelling.{IsLiteralKind, IsSpellable}
use Rattle.cpc_tree.proofs.States.{piece_state}

-- bytes
abbrev pub AreBytes : Text → Type 0
AreBytes w = All (λ b. b < 256) w

-- the value of an escape so far
abbrev IsSmall : Escape → Type 0
IsSmall (OneOctal n) = n < 8
IsSmall (TwoOctal n) = n < 64
IsSmall (Hex n) = n < 256
IsSmall _ = Unit {0}

-- what a literal is made of
abbrev IsLiteralToken : Lexeme → Type 0
IsLiteralToken (Character z) = IsTrue (is_of N.Char z)
IsLiteralToken (Quoted bytes) = AreBytes bytes
IsLiteralToken _ = ⊥

-- what the state of bytes tells of them
abbrev Holds : State → Text → Type 0
Holds Run w = AllPass in_word w
Holds (Open quote held part) w = AreBytes held × IsSmall part
Holds (Whole x) w = IsLiteralToken x
Holds _ w = Unit {0}

more_bytes : (held : Text) (b : ℕ) → AreBytes held → b < 256 → AreBytes (held ++ b ∷ [])
more_bytes held b all lt = All-append (λ c. c < 256) held (b ∷ []) all (All-cons (λ c. c < 256) b [] lt (All-nil (λ c. c < 256)))

char_fits : (n : ℕ) → is_of N.Char (convert N.Char (pos n)) ≡ true
char_fits n = grind (arith, ints)

closed_holds : (quote : Quote) (held w : Text) → AreBytes held → Holds (closed quote held) w
closed_holds Double held w all = all
closed_holds Single [] w all = tt
closed_holds Single (c ∷ []) w all = char_fits c
closed_holds Single (c ∷ d ∷ held) w all = tt

byte_holds : (quote : Quote) (held : Text) (b : ℕ) (w : Text) → AreBytes held → b < 256 → Holds (next_byte quote held b) w
unfolding next_byte
byte_holds quote held b w all lt = at (nat_eq b (quote_byte quote)) (is_full quote held) (nat_eq b 92) (is_plain quote b) where
  at : (p q r s : Bool) → Holds (cond p (closed quote held) (cond q Wrong (cond r (Open quote held Backslash) (cond s (Open quote (held ++ b ∷ []) NoEscape) Wrong)))) w
  at true q r s = closed_holds quote held w all
  at false true r s = tt
  at false false true s = (all, tt)
  at false false false true = (more_bytes held b all lt, tt)
  at false false false false = tt

digit_less : (base b : ℕ) → is_digit_of base b ≡ true → digit_value b < base
unfolding is_digit_of
digit_less base b e = grind (arith, nat_tests)

octal_holds : (quote : Quote) (held : Text) (n : ℕ) (w : Text) → AreBytes held → Holds (octal_state quote held n) w
octal_holds quote held n w all = at (nat_lt n 256) refl where
  at : (p : Bool) → nat_lt n 256 ≡ p → Holds (cond p (Open quote (held ++ n ∷ []) NoEscape) Wrong) w
  at true e = (more_bytes held n all (lt_means n 256 e), tt)
  at false e = tt

hex_holds : (quote : Quote) (held : Text) (n : ℕ) (w : Text) → AreBytes held → Holds (hex_state quote held n) w
hex_holds quote held n w all = at (nat_lt n 256) refl where
  at : (p : Bool) → nat_lt n 256 ≡ p → Holds (cond p (Open quote held (Hex n)) Wrong) w
  at true e = (all, lt_means n 256 e)
  at false e = tt

simple_small : (b : ℕ) → b < 256 → (c : ℕ) → simple_escape b ≡ Some c → c < 256
unfolding simple_escape
simple_small b lt c e = at (nat_eq b 97) (nat_eq b 98) (nat_eq b 116) (nat_eq b 110) (nat_eq b 118) (nat_eq b 102) (nat_eq b 114) _ e where
  at : (p q r s t u v w : Bool) → cond p (Some 7) (cond q (Some 8) (cond r (Some 9) (cond s (Some 10) (cond t (Some 11) (cond u (Some 12) (cond v (Some 13) (cond w (Some b) None))))))) ≡ Some c → c < 256
  at true q r s t u v w f = let g : 7 ≡ c = cc in omega arith
  at false true r s t u v w f = let g : 8 ≡ c = cc in omega arith
  at false false true s t u v w f = let g : 9 ≡ c = cc in omega arith
  at false false false true t u v w f = let g : 10 ≡ c = cc in omega arith
  at false false false false true u v w f = let g : 11 ≡ c = cc in omega arith
  at false false false false false true v w f = let g : 12 ≡ c = cc in omega arith
  at false false false false false false true w f = let g : 13 ≡ c = cc in omega arith
  at false false false false false false false true f = let g : b ≡ c = cc in omega arith
  at false false false false false false false false f = absurd cc

escaped_holds : (quote : Quote) (held : Text) (b : ℕ) (w : Text) → AreBytes held → b < 256 → Holds (next_simple quote held (simple_escape b)) w
escaped_holds quote held b w all lt = at (simple_escape b) refl where
  at : (o : Option ℕ) → simple_escape b ≡ o → Holds (next_simple quote held o) w
  at (Some c) e = (more_bytes held c all (simple_small b lt c e), tt)
  at None e = tt

quoted_holds : (quote : Quote) (held : Text) (part : Escape) (b : ℕ) (w : Text) → AreBytes held → IsSmall part → b < 256 → Holds (next_quoted quote held part b) w
unfolding next_quoted
quoted_holds quote held NoEscape b w all small lt = byte_holds quote held b w all lt
quoted_holds quote held Backslash b w all small lt = at (is_digit_of 8 b) refl (nat_eq b 120) where
  at : (p : Bool) → is_digit_of 8 b ≡ p → (q : Bool) → Holds (cond p (Open quote held (OneOctal (digit_value b))) (cond q (Open quote held HexNone) (next_simple quote held (simple_escape b)))) w
  at true e q = (all, digit_less 8 b e)
  at false e true = (all, tt)
  at false e false = escaped_holds quote held b w all lt
quoted_holds quote held (OneOctal n) b w all small lt = at (is_digit_of 8 b) refl where
  at : (p : Bool) → is_digit_of 8 b ≡ p → Holds (cond p (Open quote held (TwoOctal (8 * n + digit_value b))) (next_byte quote (held ++ n ∷ []) b)) w
  at true e = (all, omega (arith, digit_less 8 b e))
  at false e = byte_holds quote (held ++ n ∷ []) b w (more_bytes held n all (omega arith)) lt
quoted_holds quote held (TwoOctal n) b w all small lt = at (is_digit_of 8 b) where
  at : (p : Bool) → Holds (cond p (octal_state quote held (8 * n + digit_value b)) (next_byte quote (held ++ n ∷ []) b)) w
  at true = octal_holds quote held (8 * n + digit_value b) w all
  at false = byte_holds quote (held ++ n ∷ []) b w (more_bytes held n all (omega arith)) lt
quoted_holds quote held HexNone b w all small lt = at (is_digit_of 16 b) refl where
  at : (p : Bool) → is_digit_of 16 b ≡ p → Holds (cond p (Open quote held (Hex (digit_value b))) Wrong) w
  at true e = (all, omega (arith, digit_less 16 b e))
  at false e = tt
quoted_holds quote held (Hex n) b w all small lt = at (is_digit_of 16 b) where
  at : (p : Bool) → Holds (cond p (hex_state quote held (16 * n + digit_value b)) (next_byte quote (held ++ n ∷ []) b)) w
  at true = hex_holds quote held (16 * n + digit_value b) w all
  at false = byte_holds quote (held ++ n ∷ []) b w (more_bytes held n all small) lt

comment_holds : (p : Punctuator) (b : ℕ) (c : State) (w : Text) → comment_begun p b ≡ Some c → Holds c w
comment_holds P.Slash b c w e = at (nat_eq b 42) (nat_eq b 47) e where
  at : (p q : Bool) → cond p (Some BlockComment) (cond q (Some LineComment) None) ≡ Some c → Holds c w
  at true q f = let g : BlockComment ≡ c = cc in subst (λ u. Holds u w) g tt
  at false true f = let g : LineComment ≡ c = cc in subst (λ u. Holds u w) g tt
  at false false f = absurd cc
comment_holds _ b c w e = absurd cc

mark_holds : (o : Option Punctuator) (t : State) (w : Text) → option_map Sign o ≡ Some t → Holds t w
mark_holds None t w e = absurd cc
mark_holds (Some p) t w e = let g : Sign p ≡ t = cc in subst (λ u. Holds u w) g tt

next_holds : (s : State) (w : Text) (b : ℕ) (t : State) → Holds s w → b < 256 → next_state s b ≡ Some t → Holds t (w ++ b ∷ [])
unfolding next_state
next_holds Gap w b t h lt e = absurd cc
next_holds Run w b t h lt e = at (in_word b) refl e where
  at : (p : Bool) → in_word b ≡ p → cond p (Some Run) None ≡ Some t → Holds t (w ++ b ∷ [])
  at true f g = let i : Run ≡ t = cc in subst (λ u. Holds u (w ++ b ∷ [])) i (All-append (λ c. in_word c ≡ true) w (b ∷ []) h (All-cons (λ c. in_word c ≡ true) b [] f (All-nil (λ c. in_word c ≡ true))))
  at false f g = absurd cc
next_holds (Sign p) w b t h lt e = at (comment_begun p b) refl e where
  at : (o : Option State) → comment_begun p b ≡ o → or_mark o (punctuator_of (punctuator_spelling p ++ b ∷ [])) ≡ Some t → Holds t (w ++ b ∷ [])
  at (Some c) f g = let i : c ≡ t = cc in subst (λ u. Holds u (w ++ b ∷ [])) i (comment_holds p b c (w ++ b ∷ []) f)
  at None f g = mark_holds (punctuator_of (punctuator_spelling p ++ b ∷ [])) t (w ++ b ∷ []) g
next_holds LineComment w b t h lt e = at (nat_eq b 10) e where
  at : (p : Bool) → Some (cond p Gap LineComment) ≡ Some t → Holds t (w ++ b ∷ [])
  at true f = let i : Gap ≡ t = cc in subst (λ u. Holds u (w ++ b ∷ [])) i tt
  at false f = let i : LineComment ≡ t = cc in subst (λ u. Holds u (w ++ b ∷ [])) i tt
next_holds BlockComment w b t h lt e = at (nat_eq b 42) e where
  at : (p : Bool) → Some (cond p BlockCommentStar BlockComment) ≡ Some t → Holds t (w ++ b ∷ [])
  at true f = let i : BlockCommentStar ≡ t = cc in subst (λ u. Holds u (w ++ b ∷ [])) i tt
  at false f = let i : BlockComment ≡ t = cc in subst (λ u. Holds u (w ++ b ∷ [])) i tt
next_holds BlockCommentStar w b t h lt e = at (nat_eq b 42) (nat_eq b 47) e where
  at : (p q : Bool) → Some (cond p BlockCommentStar (cond q Gap BlockComment)) ≡ Some t → Holds t (w ++ b ∷ [])
  at true q f = let i : BlockCommentStar ≡ t = cc in subst (λ u. Holds u (w ++ b ∷ [])) i tt
  at false true f = let i : Gap ≡ t = cc in subst (λ u. Holds u (w ++ b ∷ [])) i tt
  at false false f = let i : BlockComment ≡ t = cc in subst (λ u. Holds u (w ++ b ∷ [])) i tt
next_holds (Open quote held part) w b t h lt e = at (nat_eq b 10) e where
  at : (p : Bool) → cond p None (Some (next_quoted quote held part b)) ≡ Some t → Holds t (w ++ b ∷ [])
  at true f = absurd cc
  at false f = let i : next_quoted quote held part b ≡ t = cc in subst (λ u. Holds u (w ++ b ∷ [])) i (quoted_holds quote held part b (w ++ b ∷ []) h.0 h.1 lt)
next_holds (Whole x) w b t h lt e = absurd cc
next_holds Wrong w b t h lt e = absurd cc

first_holds : (b : ℕ) (t : State) → first_state b ≡ Some t → Holds t (b ∷ [])
unfolding first_state
first_holds b t e = at (is_blank b) (in_word b) refl (nat_eq b 39) (nat_eq b 34) e where
  at : (p q : Bool) → in_word b ≡ q → (r s : Bool) → cond p (Some Gap) (cond q (Some Run) (cond r (Some (Open Single [] NoEscape)) (cond s (Some (Open Double [] NoEscape)) (option_map Sign (punctuator_of (b ∷ [])))))) ≡ Some t → Holds t (b ∷ [])
  at true q f r s g = let i : Gap ≡ t = cc in subst (λ u. Holds u (b ∷ [])) i tt
  at false true f r s g = let i : Run ≡ t = cc in subst (λ u. Holds u (b ∷ [])) i (All-cons (λ c. in_word c ≡ true) b [] f (All-nil (λ c. in_word c ≡ true)))
  at false false f true s g = let i : Open Single [] NoEscape ≡ t = cc in subst (λ u. Holds u (b ∷ [])) i (All-nil (λ c. c < 256), tt)
  at false false f false true g = let i : Open Double [] NoEscape ≡ t = cc in subst (λ u. Holds u (b ∷ [])) i (All-nil (λ c. c < 256), tt)
  at false false f false false g = mark_holds (punctuator_of (b ∷ [])) t (b ∷ []) g

behind_holds : (s : State) (v w : Text) (t : State) → Holds s v → AreBytes w → state_behind (Some s) w ≡ Some t → Holds t (v ++ w)
unfolding state_behind
behind_holds s v [] t h all e = let i : s ≡ t = cc in rw append-nil (subst (λ u. Holds u v) i h)
behind_holds s v (b ∷ w) t h all e = at (λ (u : State) (k : Holds u (v ++ b ∷ [])) (g : state_behind (Some u) w ≡ Some t). behind_holds u (v ++ b ∷ []) w t k (λ i d lt. all (suc i) d (omega arith)) g) (next_state s b) refl e where
  at : ((u : State) → Holds u (v ++ b ∷ []) → state_behind (Some u) w ≡ Some t → Holds t ((v ++ b ∷ []) ++ w)) → (o : Option State) → next_state s b ≡ o → state_behind o w ≡ Some t → Holds t (v ++ b ∷ w)
  at ih None f g = absurd cc
  at ih (Some u) f g = subst (λ x. Holds t x) (append_assoc v (b ∷ []) w) (ih u (next_holds s v b u h (all 0 b (omega arith)) f) g)

state_holds : (w : Text) (t : State) → AreBytes w → state_of w ≡ Some t → Holds t w
unfolding state_of state_behind
state_holds [] t all e = absurd cc
state_holds (b ∷ w) t all e = at (first_state b) refl e where
  at : (o : Option State) → first_state b ≡ o → state_behind o w ≡ Some t → Holds t (b ∷ w)
  at None f g = absurd cc
  at (Some s) f g = behind_holds s (b ∷ []) w t (first_holds b s f) (λ k d lt. all (suc k) d (omega arith)) g

-- integers
abbrev AreLiteralKinds : List Kind → Type 0
AreLiteralKinds [] = Unit {0}
AreLiteralKinds (k ∷ ks) = IsLiteralKind k × AreLiteralKinds ks

tried_literal : (decimal u l : Bool) → AreLiteralKinds (kinds_tried decimal u l)
tried_literal true false false = (tt, (tt, tt))
tried_literal true false true = (tt, tt)
tried_literal false false false = (tt, (tt, (tt, (tt, tt))))
tried_literal false false true = (tt, (tt, tt))
tried_literal true true false = (tt, (tt, tt))
tried_literal false true false = (tt, (tt, tt))
tried_literal true true true = (tt, tt)
tried_literal false true true = (tt, tt)

kind_spellable : (dialect : Dialect) (n : ℕ) (ks : List Kind) (x : Lexeme) → AreLiteralKinds ks → of_kind n (find (λ kind. is_of kind (pos n)) ks) ≡ Token x → IsSpellable dialect x
kind_spellable dialect n [] x all e = absurd cc
kind_spellable dialect n (k ∷ ks) x all e = at (λ f. kind_spellable dialect n ks x all.1 f) (is_of k (pos n)) refl e where
  at : (of_kind n (find (λ kind. is_of kind (pos n)) ks) ≡ Token x → IsSpellable dialect x) → (p : Bool) → is_of k (pos n) ≡ p → of_kind n (cond p (Some k) (find (λ kind. is_of kind (pos n)) ks)) ≡ Token x → IsSpellable dialect x
  at ih true f g = let i : Number k (pos n) ≡ x = cc in subst (λ u. IsSpellable dialect u) i (all.0, f)
  at ih false f g = ih g

suffix_spellable : (dialect : Dialect) (base n : ℕ) (o : Option (Bool × Bool)) (x : Lexeme) → with_suffix base n o ≡ Token x → IsSpellable dialect x
suffix_spellable dialect base n None x e = absurd cc
suffix_spellable dialect base n (Some s) x e = kind_spellable dialect n (kinds_tried (nat_eq base 10) s.0 s.1) x (tried_literal (nat_eq base 10) s.0 s.1) e

digits_spellable : (dialect : Dialect) (base : ℕ) (digits suffix : Text) (x : Lexeme) → integer_of base digits suffix ≡ Token x → IsSpellable dialect x
digits_spellable dialect base digits suffix x e = at (nat_le (2 ^ 64) (value_of base digits)) (nat_eq (length digits) 0) e where
  at : (p q : Bool) → cond p (Fault 3) (cond q (Fault 5) (with_suffix base (value_of base digits) (suffix_of suffix))) ≡ Token x → IsSpellable dialect x
  at true q f = absurd cc
  at false true f = absurd cc
  at false false f = suffix_spellable dialect base (value_of base digits) (suffix_of suffix) x f

numeral_spellable : (dialect : Dialect) (base : ℕ) (w : Text) (x : Lexeme) → by_digits base w ≡ Token x → IsSpellable dialect x
numeral_spellable dialect base w x e = digits_spellable dialect base (take (prefix_len (is_digit_of base) w) w) (drop (prefix_len (is_digit_of base) w) w) x e

integer_spellable : (dialect : Dialect) (w : Text) (x : Lexeme) → integer w ≡ Token x → IsSpellable dialect x
unfolding integer
integer_spellable dialect w x e = numeral_spellable dialect (base_of w) (cond (nat_eq (base_of w) 16) (drop 2 w) w) x e

-- names
name_spellable : (dialect : Dialect) (b : ℕ) (w : Text) (o : Option Keyword) (x : Lexeme) → AllPass in_word (b ∷ w) → is_ascii_digit b ≡ false → keyword_of (b ∷ w) ≡ o → name_or_keyword dialect (b ∷ w) o ≡ Token x → IsSpellable dialect x
name_spellable dialect b w (Some k) x all d e f = let i : Word k ≡ x = cc in subst (λ u. IsSpellable dialect u) i tt
name_spellable dialect b w None x all d e f = at (nat_le (length (b ∷ w)) (name_limit dialect)) refl f where
  short : nat_le (length (b ∷ w)) (name_limit dialect) ≡ true → length (b ∷ w) ≤ name_limit dialect
  short h = le (length (b ∷ w)) (name_limit dialect) h where
    le : (m n : ℕ) → nat_le m n ≡ true → m ≤ n
    le m n h = grind (arith, nat_tests)

  at : (p : Bool) → nat_le (length (b ∷ w)) (name_limit dialect) ≡ p → cond p (Token (Named (b ∷ w))) (Fault 4) ≡ Token x → IsSpellable dialect x
  at true g h = let i : Named (b ∷ w) ≡ x = cc in subst (λ u. IsSpellable dialect u) i (record { some = omega arith; begins = d; word = all; no_keyword = e; short = short g })
  at false g h = absurd cc

run_spellable : (dialect : Dialect) (w : Text) (x : Lexeme) → AllPass in_word w → run dialect w ≡ Token x → IsSpellable dialect x
unfolding run
run_spellable dialect [] x all e = absurd cc
run_spellable dialect (b ∷ w) x all e = at (is_ascii_digit b) refl e where
  at : (p : Bool) → is_ascii_digit b ≡ p → cond p (integer (b ∷ w)) (name_or_keyword dialect (b ∷ w) (keyword_of (b ∷ w))) ≡ Token x → IsSpellable dialect x
  at true f g = integer_spellable dialect (b ∷ w) x g
  at false f g = name_spellable dialect b w (keyword_of (b ∷ w)) x all f refl g

literal_spellable : (dialect : Dialect) (x : Lexeme) → IsLiteralToken x → IsSpellable dialect x
literal_spellable dialect (Character z) h = h
literal_spellable dialect (Quoted bytes) h = h
literal_spellable dialect (Word k) h = absurd h
literal_spellable dialect (Mark p) h = absurd h
literal_spellable dialect (Named text) h = absurd h
literal_spellable dialect (Number kind z) h = absurd h

pub piece_spellable : (dialect : Dialect) (w : Text) (x : Lexeme) → AreBytes w → piece_of dialect w ≡ Some (Token x) → IsSpellable dialect x
piece_spellable dialect w x all e = let s = piece_state dialect w (Token x) e in at s.0 (state_holds w s.0 all s.1) s.2 where
  at : (s : State) → Holds s w → in_state dialect w s ≡ Token x → IsSpellable dialect x
  at Gap h f = absurd cc
  at Run h f = run_spellable dialect w x h f
  at (Sign p) h f = let i : Mark p ≡ x = cc in subst (λ u. IsSpellable dialect u) i tt
  at LineComment h f = absurd cc
  at BlockComment h f = absurd cc
  at BlockCommentStar h f = absurd cc
  at (Open quote held part) h f = absurd cc
  at (Whole y) h f = let i : y ≡ x = cc in subst (λ u. IsSpellable dialect u) i (literal_spellable dialect y h)
  at Wrong h f = absurd cc

front : (w text : Text) → AreBytes (w ++ text) → AreBytes w
front w text all = λ k d lt. subst (λ b. b < 256) (get_or-append w text d k lt) (all k d (omega (arith, lt, length-append w text)))

back : (w text : Text) → AreBytes (w ++ text) → AreBytes text
back [] text all = all
back (b ∷ w) text all = back w text (λ k d lt. all (suc k) d (omega arith))

-- Each token of a row can be spelled.
pub row_spellable : {dialect : Dialect} {p q : Place} {t rest : Text} {list : List Placed} → Row dialect p t list q rest → AreBytes t → All (λ token. IsSpellable dialect token.lexeme) list
row_spellable (nothing p t) all = λ k d lt. absurd (omega arith)
row_spellable (a_space w p q text rest list l row) all = row_spellable row (back w text all)
row_spellable {dialect} (a_token w x p q text rest list l row) all = All-cons (λ token. IsSpellable dialect token.lexeme) _ list (piece_spellable dialect w x (front w text all) l.piece) (row_spellable row (back w text all))
