-- Which bytes go on a token that is spelled.
use Rattle.std.proofs.Common.{◌≡◌, ℕ, ◌<◌, ◌≤◌, ◌^◌, Bool, true, false, cond, ◌==◌, nat_le, [], ◌∷◌, ◌++◌, length, take, drop, get_or, ℤ, pos, negsuc, Option, Some, None, refl, sym, ap, ◌∙◌, arith}
use Rattle.std.proofs.lemmas.Bool.Decides.{nat_tests}
use Rattle.std.specs.Prelude.{is_some, decimal, find}
use Rattle.std.specs.List.{AllPass, prefix_len}
use Rattle.std.specs.Char.{is_ascii_digit}
use Rattle.std.specs.Str.Parse.{AllDigits}
use Rattle.std.proofs.lemmas.Str.Parse.{digit_from_value}
use Rattle.std.proofs.lemmas.Fmt.{decimal_is_IsNumeral}
use Rattle.cpc_base.specs.Bytes.{Text}
use Rattle.cpc_base.specs.declared.stop.Dialect.{Dialect}
use Rattle.cpc_num.specs.declared.kinds.Kind.{Kind}
use Rattle.cpc_num.specs.Number.{is_of}
use Rattle.cpc_tree.specs.declared.token.Keyword.{Keyword}
use Rattle.cpc_tree.specs.declared.token.Keyword.TheVariants as K
use Rattle.cpc_tree.specs.Tokens.{Lexeme, Word, Named, Number, Character, Quoted, keyword_spelling, punctuator_spelling, keyword_of}
use Rattle.cpc_tree.specs.Pieces.{Piece, Token, Fault, State, Gap, Run, Sign, LineComment, BlockComment, BlockCommentStar, Open, Whole, Wrong, in_word, name_or_keyword, of_kind, with_suffix, value_of, base_of, suffix_of, is_digit_of, integer_of, name_limit, kinds_tried, too_wide, too_long, malformed, integer, run, next_state, state_behind, state_of, in_state, piece_of}
use Rattle.cpc_tree.specs.Spelling.{kind_suffix, spelling, IsSpellable, joins}
use Rattle.cpc_tree.specs.Erase.{Names, text_of}
use Rattle.cpc_tree.specs.TypePrint.{void_name}
use Rattle.cpc_printer_layout.specs.declared.sheet.Lexeme as M
use Rattle.cpc_printer_layout.specs.declared.sheet.Lexeme.TheVariants as L
use Rattle.cpc_printer_layout.specs.Sheets.{lexeme_of}
use Rattle.cpc_tree.proofs.Runs.{first_run, next_run}
use Rattle.cpc_tree.proofs.States.{state_of_more, piece_state, piece_none}
use Rattle.cpc_tree.proofs.Spelled.{spelling_piece, value_fits}

joins_state : (c : ℕ) (w : Text) (s : State) (b : ℕ) → state_of (c ∷ w) ≡ Some s → joins (c ∷ w) b ≡ is_some (next_state s b)
unfolding joins
joins_state c w s b e = ap (λ o. is_some o) (state_of_more (c ∷ w) s b e)

-- a run stays one
behind_run : (w : Text) (s : State) → state_behind (Some Run) w ≡ Some s → s ≡ Run
unfolding state_behind
behind_run [] s e = cc
behind_run (b ∷ w) s e = at (in_word b) refl (behind_run w s) where
  at : (p : Bool) → in_word b ≡ p → (state_behind (Some Run) w ≡ Some s → s ≡ Run) → s ≡ Run
  at true h again = again (sym (ap (λ o. state_behind o w) (next_run b true h)) ∙ e)
  at false h again = let d : None ≡ Some s = sym (ap (λ o. state_behind o w) (next_run b false h)) ∙ e in absurd cc

state_run : (c : ℕ) (w : Text) (s : State) → in_word c ≡ true → state_of (c ∷ w) ≡ Some s → s ≡ Run
unfolding state_of
state_run c w s h e = behind_run w s (sym (ap (λ o. state_behind o w) (first_run c h)) ∙ e)

run_goes_on : (b : ℕ) → is_some (next_state Run b) ≡ in_word b
run_goes_on b = at (in_word b) refl where
  at : (p : Bool) → in_word b ≡ p → is_some (next_state Run b) ≡ p
  at true h = ap (λ o. is_some o) (next_run b true h)
  at false h = ap (λ o. is_some o) (next_run b false h)

-- what begins as a word or a number goes on by letters, digits and _
joins_run : (dialect : Dialect) (w : Text) (x : Lexeme) (b : ℕ) → piece_of dialect w ≡ Some (Token x) → in_word (get_or w 0 0) ≡ true → joins w b ≡ in_word b
joins_run dialect [] x b e h = let d : None ≡ Some (Token x) = sym (piece_none dialect) ∙ e in absurd cc
joins_run dialect (c ∷ w) x b e h =
    let s = piece_state dialect (c ∷ w) (Token x) e in
    joins_state c w s.0 b s.1 ∙ (ap (λ (t : State). is_some (next_state t b)) (state_run c w s.0 h s.1) ∙ run_goes_on b)

keyword_first : (k : Keyword) → in_word (get_or (keyword_spelling k) 0 0) ≡ true
unfolding in_word
keyword_first K.Auto = refl
keyword_first _ = refl

name_first : (w : Text) → 0 < length w → AllPass in_word w → in_word (get_or w 0 0) ≡ true
name_first [] lt all = absurd (omega arith)
name_first (c ∷ w) lt all = all 0 c (omega arith)

digit_word : (b : ℕ) → (48 ≤ b) × (b ≤ 57) → in_word b ≡ true
unfolding in_word
digit_word b h = let l = h.0 in let m = h.1 in grind (arith, nat_tests)

digits_first : (ds s : Text) → 0 < length ds → AllDigits 10 ds → in_word (get_or (ds ++ s) 0 0) ≡ true
digits_first [] s lt all = absurd (omega arith)
digits_first (c ∷ ds) s lt all = digit_word c (digit_from_value c all.0)

number_first : (kind : Kind) (n : ℕ) → is_of kind (pos n) ≡ true → in_word (get_or (decimal n ++ kind_suffix kind) 0 0) ≡ true
number_first kind n e = let d = decimal_is_IsNumeral n (value_fits kind n e) in digits_first (decimal n) (kind_suffix kind) d.0.0 d.0.1

-- no run is a character or a string
abbrev is_literal : Piece → Bool
is_literal (Token (Character z)) = true
is_literal (Token (Quoted bytes)) = true
is_literal x = false

record NoLiteral (x : Piece) : Type 0 where
  none : is_literal x ≡ false

literal_cond : (p : Bool) (x y : Piece) → NoLiteral x → NoLiteral y → NoLiteral (cond p x y)
literal_cond true x y e f = e
literal_cond false x y e f = f

kind_no_literal : (n : ℕ) (o : Option Kind) → NoLiteral (of_kind n o)
kind_no_literal n None = record { none = refl }
kind_no_literal n (Some kind) = record { none = refl }

suffix_no_literal : (base n : ℕ) (o : Option (Bool × Bool)) → NoLiteral (with_suffix base n o)
suffix_no_literal base n None = record { none = refl }
suffix_no_literal base n (Some s) = kind_no_literal n (find (λ kind. is_of kind (pos n)) (kinds_tried (base == 10) s.0 s.1))

digits_no_literal : (base : ℕ) (digits suffix : Text) → NoLiteral (integer_of base digits suffix)
digits_no_literal base digits suffix =
    let fault : (n : ℕ) → NoLiteral (Fault n) = λ n. record { none = refl } in
    let known = suffix_no_literal base (value_of base digits) (suffix_of suffix) in
    literal_cond (nat_le (2 ^ 64) (value_of base digits)) _ _ (fault too_wide) (literal_cond (length digits == 0) _ _ (fault malformed) known)

integer_no_literal : (w : Text) → NoLiteral (integer w)
unfolding integer
integer_no_literal w =
    let base = base_of w in
    let v = cond (base == 16) (drop 2 w) w in
    let n = prefix_len (is_digit_of base) v in
    digits_no_literal base (take n v) (drop n v)

name_no_literal : (dialect : Dialect) (w : Text) (o : Option Keyword) → NoLiteral (name_or_keyword dialect w o)
name_no_literal dialect w (Some k) = record { none = refl }
name_no_literal dialect w None =
    let named : NoLiteral (Token (Named w)) = record { none = refl } in
    let fault : NoLiteral (Fault too_long) = record { none = refl } in
    literal_cond (nat_le (length w) (name_limit dialect)) _ _ named fault

run_no_literal : (dialect : Dialect) (w : Text) → NoLiteral (run dialect w)
unfolding run
run_no_literal dialect [] = record { none = refl }
run_no_literal dialect (b ∷ w) = literal_cond (is_ascii_digit b) _ _ (integer_no_literal (b ∷ w)) (name_no_literal dialect (b ∷ w) (keyword_of (b ∷ w)))

whole_ends : (x : Lexeme) (b : ℕ) → is_some (next_state (Whole x) b) ≡ false
unfolding next_state
whole_ends x b = refl

literal_ends : (dialect : Dialect) (w : Text) (s : State) (b : ℕ) → is_literal (in_state dialect w s) ≡ true → is_some (next_state s b) ≡ false
literal_ends dialect w Gap b e = absurd cc
literal_ends dialect w Run b e = let d : false ≡ true = sym (run_no_literal dialect w).none ∙ e in absurd cc
literal_ends dialect w (Sign p) b e = absurd cc
literal_ends dialect w LineComment b e = absurd cc
literal_ends dialect w BlockComment b e = absurd cc
literal_ends dialect w BlockCommentStar b e = absurd cc
literal_ends dialect w (Open quote held part) b e = absurd cc
literal_ends dialect w (Whole x) b e = whole_ends x b
literal_ends dialect w Wrong b e = absurd cc

joins_literal : (dialect : Dialect) (w : Text) (x : Lexeme) (b : ℕ) → piece_of dialect w ≡ Some (Token x) → is_literal (Token x) ≡ true → joins w b ≡ false
joins_literal dialect [] x b e h = let d : None ≡ Some (Token x) = sym (piece_none dialect) ∙ e in absurd cc
joins_literal dialect (c ∷ w) x b e h =
    let s = piece_state dialect (c ∷ w) (Token x) e in
    joins_state c w s.0 b s.1 ∙ literal_ends dialect (c ∷ w) s.0 b (ap (λ y. is_literal y) s.2 ∙ h)

-- by what a token is
joins_word : (dialect : Dialect) (k : Keyword) (b : ℕ) → joins (spelling (Word k)) b ≡ in_word b
unfolding spelling
joins_word dialect k b = joins_run dialect (keyword_spelling k) (Word k) b (spelling_piece dialect (Word k) tt) (keyword_first k)

joins_name : (dialect : Dialect) (text : Text) (b : ℕ) → IsSpellable dialect (Named text) → joins (spelling (Named text)) b ≡ in_word b
unfolding spelling
joins_name dialect text b e = joins_run dialect text (Named text) b (spelling_piece dialect (Named text) e) (name_first text e.some e.word)

joins_number : (dialect : Dialect) (kind : Kind) (z : ℤ) (b : ℕ) → IsSpellable dialect (Number kind z) → joins (spelling (Number kind z)) b ≡ in_word b
unfolding spelling
joins_number dialect kind (pos n) b e = joins_run dialect (decimal n ++ kind_suffix kind) (Number kind (pos n)) b (spelling_piece dialect (Number kind (pos n)) e) (number_first kind n e.1)
joins_number dialect kind (negsuc n) b e = absurd e

joins_character : (dialect : Dialect) (z : ℤ) (b : ℕ) → IsSpellable dialect (Character z) → joins (spelling (Character z)) b ≡ false
joins_character dialect z b e = joins_literal dialect (spelling (Character z)) (Character z) b (spelling_piece dialect (Character z) e) refl

joins_string : (dialect : Dialect) (bytes : Text) (b : ℕ) → IsSpellable dialect (Quoted bytes) → joins (spelling (Quoted bytes)) b ≡ false
joins_string dialect bytes b e = joins_literal dialect (spelling (Quoted bytes)) (Quoted bytes) b (spelling_piece dialect (Quoted bytes) e) refl

-- what the code tests
abbrev pub tested : M.Lexeme → ℕ → Bool
tested (L.Keyword k) b = in_word b
tested (L.Punctuator p) b = joins (punctuator_spelling p) b
tested (L.Name n) b = in_word b
tested L.Filler b = in_word b
tested (L.Integer kind z) b = in_word b
tested (L.Character z) b = false
tested (L.Text bytes) b = false

pub joins_lexeme : (x : M.Lexeme) (b : ℕ) (names : Names) (dialect : Dialect) → IsSpellable dialect (lexeme_of names x) → joins (spelling (lexeme_of names x)) b ≡ tested x b
unfolding spelling
joins_lexeme (L.Keyword k) b names dialect e = joins_word dialect k b
joins_lexeme (L.Punctuator p) b names dialect e = refl
joins_lexeme (L.Name n) b names dialect e = joins_name dialect (text_of names n) b e
joins_lexeme L.Filler b names dialect e = joins_name dialect void_name b e
joins_lexeme (L.Integer kind z) b names dialect e = joins_number dialect kind z b e
joins_lexeme (L.Character z) b names dialect e = joins_character dialect z b e
joins_lexeme (L.Text bytes) b names dialect e = joins_string dialect bytes.items b e
