-- What is spelled is the token again.
use Rattle.std.proofs.Common.{◌≡◌, ℕ, zero, suc, ◌+◌, ◌-◌, ◌*◌, ◌/◌, ◌%◌, ◌^◌, ◌≤◌, ◌<◌, Bool, true, false, cond, not, nat_eq, nat_le, ◌&&◌, [], ◌∷◌, ◌++◌, length, take, drop, get_or, ℤ, pos, negsuc, Some, None, refl, ap, ◌∙◌, arith, append_assoc, length-append}
use Rattle.std.proofs.lemmas.Bool.{ne_eqb}
use Rattle.std.proofs.lemmas.Bool.Decides.{nat_tests}
use Rattle.std.proofs.lemmas.Int.{ints}
use Rattle.std.proofs.lemmas.List.{append-nil, take_at, drop_at}
use Rattle.std.specs.Prelude.{fold, flat_map, decimal, All}
use Rattle.std.specs.List.{AllPass, prefix_len}
use Rattle.std.specs.Char.{is_ascii_digit}
use Rattle.std.specs.Char as C
use Rattle.std.specs.Str.Parse.{AllDigits, digits_value_after}
use Rattle.std.proofs.lemmas.List.Elements.{All-append, All-cons}
use Rattle.std.proofs.lemmas.Str.Parse.{digit_from_value}
use Rattle.std.proofs.lemmas.Fmt.{decimal_is_IsNumeral, decimal_digit, first_decimal}
use Rattle.cpc_base.specs.Bytes.{Text}
use Rattle.cpc_base.specs.declared.stop.Dialect.{Dialect}
use Rattle.cpc_base.proofs.Truth.{lt_holds, le_fails}
use Rattle.cpc_num.specs.declared.kinds.Kind.{Kind}
use Rattle.cpc_num.specs.declared.kinds.Kind.TheVariants as N
use Rattle.cpc_num.specs.Number.{is_of, bits_of, convert}
use Rattle.cpc_tree.specs.declared.token.Keyword.{Keyword}
use Rattle.cpc_tree.specs.declared.token.Keyword.TheVariants as K
use Rattle.cpc_tree.specs.declared.token.Punctuator.{Punctuator}
use Rattle.cpc_tree.specs.declared.token.Punctuator.TheVariants as P
use Rattle.cpc_tree.specs.Tokens.{Lexeme, Word, Mark, Named, Number, Character, Quoted, keyword_spelling, punctuator_spelling, keyword_of, punctuator_of}
use Rattle.cpc_tree.specs.Pieces.{Piece, Token, Fault, Quote, Single, Double, NoEscape, State, Run, Sign, Open, Whole, Wrong, is_blank, in_word, is_plain, quote_byte, is_full, digit_value, is_digit_of, value_of, suffix_of, kinds_tried, with_suffix, integer_of, by_digits, base_of, integer, name_limit, name_or_keyword, run, next_byte, next_quoted, octal_state, first_state, next_state, state_behind, state_of, piece_of}
use Rattle.cpc_tree.specs.Pieces as S
use Rattle.cpc_tree.specs.Spelling.{byte_spelling, is_bare, kind_suffix, spelling, IsName, IsLiteral, IsSpellable}
use Rattle.cpc_tree.proofs.Runs.{first_run, next_run}
use Rattle.cpc_tree.proofs.States.{state_piece}

-- keywords and punctuators
keyword_state : (k : Keyword) → state_of (keyword_spelling k) ≡ Some Run
unfolding state_of state_behind first_state next_state is_blank in_word
keyword_state K.Auto = refl
keyword_state _ = refl

keyword_run : (dialect : Dialect) (k : Keyword) → run dialect (keyword_spelling k) ≡ Token (Word k)
unfolding run keyword_of
keyword_run dialect K.Auto = refl
keyword_run dialect _ = refl

keyword_piece : (dialect : Dialect) (k : Keyword) → piece_of dialect (keyword_spelling k) ≡ Some (Token (Word k))
keyword_piece dialect k = state_piece dialect (keyword_spelling k) Run (keyword_state k) ∙ ap (λ x. Some x) (keyword_run dialect k)

mark_state : (p : Punctuator) → state_of (punctuator_spelling p) ≡ Some (Sign p)
unfolding state_of state_behind first_state next_state is_blank in_word punctuator_of
mark_state P.LeftParen = refl
mark_state _ = refl

mark_piece : (dialect : Dialect) (p : Punctuator) → piece_of dialect (punctuator_spelling p) ≡ Some (Token (Mark p))
mark_piece dialect p = state_piece dialect (punctuator_spelling p) (Sign p) (mark_state p)

-- runs
run_behind : (w : Text) → AllPass in_word w → state_behind (Some Run) w ≡ Some Run
unfolding state_behind
run_behind [] all = refl
run_behind (b ∷ w) all = ap (λ o. state_behind o w) (next_run b true (all 0 b (omega arith))) ∙ run_behind w (λ k d lt. all (suc k) d (omega arith))

run_state : (w : Text) → 0 < length w → AllPass in_word w → state_of w ≡ Some Run
unfolding state_of
run_state [] lt all = absurd (omega arith)
run_state (b ∷ w) lt all = ap (λ o. state_behind o w) (first_run b (all 0 b (omega arith))) ∙ run_behind w (λ k d lt. all (suc k) d (omega arith))

short_name : (dialect : Dialect) (w : Text) → length w ≤ name_limit dialect → name_or_keyword dialect w None ≡ Token (Named w)
short_name dialect w le = rw (at (length w) (name_limit dialect) le) refl where
  at : (m n : ℕ) → m ≤ n → nat_le m n ≡ true
  at m n h = grind (arith, nat_tests)

name_run : (dialect : Dialect) (w : Text) → IsName dialect w → run dialect w ≡ Token (Named w)
unfolding run
name_run dialect [] n = absurd (let lt = n.some in omega arith)
name_run dialect (b ∷ w) n = rw (n.begins, n.no_keyword) (short_name dialect (b ∷ w) n.short)

name_piece : (dialect : Dialect) (w : Text) → IsName dialect w → piece_of dialect w ≡ Some (Token (Named w))
name_piece dialect w n = state_piece dialect w Run (run_state w n.some n.word) ∙ ap (λ x. Some x) (name_run dialect w n)

-- the bytes of a literal
octal_digit : (x : ℕ) → x < 8 → is_digit_of 8 (48 + x) ≡ true
unfolding is_digit_of digit_value
octal_digit x lt = grind (arith, nat_tests)

octal_value : (x : ℕ) → x < 8 → digit_value (48 + x) ≡ x
unfolding digit_value
octal_value x lt = grind (arith, nat_tests)

next_open : (quote : Quote) (held : Text) (part : _) (b : ℕ) → nat_eq b 10 ≡ false → next_state (Open quote held part) b ≡ Some (next_quoted quote held part b)
unfolding next_state
next_open quote held part b e = rw e refl

-- a byte by itself
bare_parts : (quote : Quote) (b : ℕ) → is_bare quote b ≡ true → (is_plain quote b ≡ true) × (nat_eq b (quote_byte quote) ≡ false) × (nat_eq b 92 ≡ false)
bare_parts quote b e = at (is_plain quote b) (nat_eq b (quote_byte quote)) (nat_eq b 92) e where
  at : (p q r : Bool) → (p && (not q && not r)) ≡ true → (p ≡ true) × (q ≡ false) × (r ≡ false)
  at true false false f = (refl, refl, refl)
  at true false true f = absurd cc
  at true true r f = absurd cc
  at false q r f = absurd cc

plain_no_line : (quote : Quote) (b : ℕ) → is_plain quote b ≡ true → nat_eq b 10 ≡ false
unfolding is_plain
plain_no_line Single b e = grind (arith, nat_tests)
plain_no_line Double b e = grind (arith, nat_tests)

next_bare : (quote : Quote) (held : Text) (b : ℕ) → is_full quote held ≡ false → is_bare quote b ≡ true → next_state (Open quote held NoEscape) b ≡ Some (Open quote (held ++ b ∷ []) NoEscape)
unfolding next_quoted next_byte
next_bare quote held b full e =
    let p = bare_parts quote b e in
    next_open quote held NoEscape b (plain_no_line quote b p.0) ∙ rw (p.1, full, p.2, p.0) refl

next_backslash : (quote : Quote) (held : Text) → is_full quote held ≡ false → next_state (Open quote held NoEscape) 92 ≡ Some (Open quote held S.Backslash)
unfolding next_state next_quoted next_byte
next_backslash Single held full = rw full refl
next_backslash Double held full = refl

no_line : (x : ℕ) → nat_eq (48 + x) 10 ≡ false
no_line x = grind (arith, nat_tests)

next_one : (quote : Quote) (held : Text) (x : ℕ) → x < 8 → next_state (Open quote held S.Backslash) (48 + x) ≡ Some (Open quote held (S.OneOctal x))
unfolding next_quoted
next_one quote held x lt = next_open quote held S.Backslash (48 + x) (no_line x) ∙ rw (octal_digit x lt, octal_value x lt) refl

next_two : (quote : Quote) (held : Text) (n x : ℕ) → x < 8 → next_state (Open quote held (S.OneOctal n)) (48 + x) ≡ Some (Open quote held (S.TwoOctal (8 * n + x)))
unfolding next_quoted
next_two quote held n x lt = next_open quote held (S.OneOctal n) (48 + x) (no_line x) ∙ rw (octal_digit x lt, octal_value x lt) refl

next_three : (quote : Quote) (held : Text) (n x : ℕ) → x < 8 → 8 * n + x < 256 → next_state (Open quote held (S.TwoOctal n)) (48 + x) ≡ Some (Open quote (held ++ (8 * n + x) ∷ []) NoEscape)
unfolding next_quoted
next_three quote held n x lt small = next_open quote held (S.TwoOctal n) (48 + x) (no_line x) ∙ rw (octal_digit x lt, octal_value x lt, lt_holds (8 * n + x) 256 small) refl

behind_one : (s t : State) (b : ℕ) (w : Text) → next_state s b ≡ Some t → state_behind (Some s) (b ∷ w) ≡ state_behind (Some t) w
unfolding state_behind
behind_one s t b w e = ap (λ o. state_behind o w) e

by_octal : (quote : Quote) (held : Text) (x y z : ℕ) (rest : Text) → is_full quote held ≡ false → x < 8 → y < 8 → z < 8 → 8 * (8 * x + y) + z < 256
    → state_behind (Some (Open quote held NoEscape)) (92 ∷ (48 + x) ∷ (48 + y) ∷ (48 + z) ∷ rest) ≡ state_behind (Some (Open quote (held ++ (8 * (8 * x + y) + z) ∷ []) NoEscape)) rest
by_octal quote held x y z rest full a b c small =
    behind_one _ _ 92 _ (next_backslash quote held full) ∙ (behind_one _ _ (48 + x) _ (next_one quote held x a) ∙ (behind_one _ _ (48 + y) _ (next_two quote held x y b) ∙ behind_one _ _ (48 + z) _ (next_three quote held (8 * x + y) z c small)))

byte_behind : (quote : Quote) (held : Text) (b : ℕ) (rest : Text) → is_full quote held ≡ false → b < 256 → state_behind (Some (Open quote held NoEscape)) (byte_spelling quote b ++ rest) ≡ state_behind (Some (Open quote (held ++ b ∷ []) NoEscape)) rest
unfolding byte_spelling
byte_behind quote held b rest full lt = at (is_bare quote b) refl where
  at : (p : Bool) → is_bare quote b ≡ p → state_behind (Some (Open quote held NoEscape)) (cond p (b ∷ []) (92 ∷ (48 + b / 64) ∷ (48 + b / 8 % 8) ∷ (48 + b % 8) ∷ []) ++ rest) ≡ state_behind (Some (Open quote (held ++ b ∷ []) NoEscape)) rest
  at true e = behind_one _ _ b rest (next_bare quote held b full e)
  at false e =
      let same : 8 * (8 * (b / 64) + b / 8 % 8) + b % 8 ≡ b = omega arith in
      by_octal quote held (b / 64) (b / 8 % 8) (b % 8) rest full (omega arith) (omega arith) (omega arith) (omega (arith, same, lt)) ∙ ap (λ (n : ℕ). state_behind (Some (Open quote (held ++ n ∷ []) NoEscape)) rest) same

first_single : first_state 39 ≡ Some (Open Single [] NoEscape)
unfolding first_state is_blank in_word
first_single = refl

first_double : first_state 34 ≡ Some (Open Double [] NoEscape)
unfolding first_state is_blank in_word
first_double = refl

close_single : (b : ℕ) → state_behind (Some (Open Single (b ∷ []) NoEscape)) (39 ∷ []) ≡ Some (Whole (Character (convert N.Char (pos b))))
unfolding state_behind next_state next_quoted next_byte
close_single b = refl

close_double : (held : Text) → state_behind (Some (Open Double held NoEscape)) (34 ∷ []) ≡ Some (Whole (Quoted held))
unfolding state_behind next_state next_quoted next_byte
close_double held = refl

state_first : (b : ℕ) (s : State) (w : Text) → first_state b ≡ Some s → state_of (b ∷ w) ≡ state_behind (Some s) w
unfolding state_of
state_first b s w e = ap (λ o. state_behind o w) e

character_state : (b : ℕ) → b < 256 → state_of (39 ∷ byte_spelling Single b ++ 39 ∷ []) ≡ Some (Whole (Character (convert N.Char (pos b))))
character_state b lt = state_first 39 _ _ first_single ∙ (byte_behind Single [] b (39 ∷ []) refl lt ∙ close_single b)

bytes_behind : (held bytes : Text) → All (λ b. b < 256) bytes → state_behind (Some (Open Double held NoEscape)) (flat_map (byte_spelling Double) bytes ++ 34 ∷ []) ≡ Some (Whole (Quoted (held ++ bytes)))
bytes_behind held [] all = rw append-nil (close_double held)
bytes_behind held (b ∷ bytes) all =
    ap (λ u. state_behind (Some (Open Double held NoEscape)) u) (append_assoc (byte_spelling Double b) (flat_map (byte_spelling Double) bytes) (34 ∷ []))
    ∙ (byte_behind Double held b (flat_map (byte_spelling Double) bytes ++ 34 ∷ []) refl (all 0 b (omega arith))
    ∙ (bytes_behind (held ++ b ∷ []) bytes (λ k d lt. all (suc k) d (omega arith)) ∙ ap (λ u. Some (Whole (Quoted u))) (append_assoc held (b ∷ []) bytes)))

string_state : (bytes : Text) → All (λ b. b < 256) bytes → state_of (34 ∷ flat_map (byte_spelling Double) bytes ++ 34 ∷ []) ≡ Some (Whole (Quoted bytes))
string_state bytes all = state_first 34 _ _ first_double ∙ bytes_behind [] bytes all

-- the value of a char, by its byte
char_byte : (z : ℤ) → bits_of N.Char z < 256
char_byte (pos n) = omega arith
char_byte (negsuc n) = omega arith

char_again : (z : ℤ) → is_of N.Char z ≡ true → convert N.Char (pos (bits_of N.Char z)) ≡ z
char_again (pos n) e = grind (arith, ints)
char_again (negsuc n) e = grind (arith, ints)

-- integers
pub digit_word : (b : ℕ) → 48 ≤ b → b ≤ 57 → in_word b ≡ true
unfolding in_word
digit_word b l h = grind (arith, nat_tests)

digit_ten : (b : ℕ) → 48 ≤ b → b ≤ 57 → is_digit_of 10 b ≡ true
unfolding is_digit_of digit_value
digit_ten b l h = grind (arith, nat_tests)

digit_is : (b : ℕ) → 48 ≤ b → b ≤ 57 → digit_value b ≡ b - 48
unfolding digit_value
digit_is b l h = grind (arith, nat_tests)

std_digit_is : (b : ℕ) → 48 ≤ b → b ≤ 57 → C.digit_value b ≡ b - 48
std_digit_is b l h = grind (arith, nat_tests)

ascii_digit : (b : ℕ) → 48 ≤ b → b ≤ 57 → is_ascii_digit b ≡ true
ascii_digit b l h = grind (arith, nat_tests)

abbrev AreDigits : Text → Type 0
AreDigits ds = All (λ b. (48 ≤ b) × (b ≤ 57)) ds

std_digits : (ds : Text) → AllDigits 10 ds → AreDigits ds
std_digits [] all = λ k d lt. absurd (omega arith)
std_digits (c ∷ ds) all = All-cons (λ b. (48 ≤ b) × (b ≤ 57)) c ds (digit_from_value c all.0) (std_digits ds all.1)

value_same : (acc : ℕ) (ds : Text) → AreDigits ds → fold (λ n d. 10 * n + digit_value d) acc ds ≡ digits_value_after 10 acc ds
value_same acc [] all = refl
value_same acc (c ∷ ds) all =
    let h = all 0 c (omega arith) in
    let e : 10 * acc + digit_value c ≡ acc * 10 + C.digit_value c = omega (arith, digit_is c h.0 h.1, std_digit_is c h.0 h.1) in
    ap (λ n. fold (λ n d. 10 * n + digit_value d) n ds) e ∙ value_same (acc * 10 + C.digit_value c) ds (λ k d lt. all (suc k) d (omega arith))

-- digits, and what follows is no digit
prefix_digits : (ds s : Text) → AreDigits ds → prefix_len (is_digit_of 10) s ≡ 0 → prefix_len (is_digit_of 10) (ds ++ s) ≡ length ds
prefix_digits [] s all e = e
prefix_digits (c ∷ ds) s all e =
    let h = all 0 c (omega arith) in
    let r = prefix_digits ds s (λ k d lt. all (suc k) d (omega arith)) e in
    rw (digit_ten c h.0 h.1, r) (omega arith)

suffix_none : (kind : Kind) → prefix_len (is_digit_of 10) (kind_suffix kind) ≡ 0
unfolding is_digit_of digit_value
suffix_none N.Char = refl
suffix_none _ = refl

suffix_word : (kind : Kind) → AllPass in_word (kind_suffix kind)
unfolding in_word
suffix_word N.Char = λ k d lt. absurd (omega arith)
suffix_word N.UChar = λ k d lt. absurd (omega arith)
suffix_word N.Int = λ k d lt. absurd (omega arith)
suffix_word N.UInt = All-cons (λ b. in_word b ≡ true) 117 [] refl (λ k d lt. absurd (omega arith))
suffix_word N.Long = All-cons (λ b. in_word b ≡ true) 108 [] refl (λ k d lt. absurd (omega arith))
suffix_word N.ULong = All-cons (λ b. in_word b ≡ true) 117 (108 ∷ []) refl (All-cons (λ b. in_word b ≡ true) 108 [] refl (λ k d lt. absurd (omega arith)))

not_empty : (n : ℕ) → 0 < n → nat_eq n 0 ≡ false
not_empty n h = grind (arith, nat_tests)

pub value_fits : (kind : Kind) (n : ℕ) → is_of kind (pos n) ≡ true → n < 2 ^ 64
value_fits N.Char n e = grind (arith, ints)
value_fits N.UChar n e = grind (arith, ints)
value_fits N.Int n e = grind (arith, ints)
value_fits N.UInt n e = grind (arith, ints)
value_fits N.Long n e = grind (arith, ints)
value_fits N.ULong n e = grind (arith, ints)

suffix_kind : (kind : Kind) (n : ℕ) → IsLiteral kind (pos n) → with_suffix 10 n (suffix_of (kind_suffix kind)) ≡ Token (Number kind (pos n))
suffix_kind N.Char n l = absurd l.0
suffix_kind N.UChar n l = absurd l.0
suffix_kind N.Int n l = rw l.1 refl
suffix_kind N.UInt n l = rw l.1 refl
suffix_kind N.Long n l = rw l.1 refl
suffix_kind N.ULong n l = rw l.1 refl

decimal_digits : (ds : Text) (kind : Kind) (n : ℕ) → AreDigits ds → 0 < length ds → value_of 10 ds ≡ n → IsLiteral kind (pos n) → by_digits 10 (ds ++ kind_suffix kind) ≡ Token (Number kind (pos n))
decimal_digits ds kind n all some value l =
    let e : prefix_len (is_digit_of 10) (ds ++ kind_suffix kind) ≡ length ds = prefix_digits ds (kind_suffix kind) all (suffix_none kind) in
    let f : take (length ds) (ds ++ kind_suffix kind) ≡ ds = take_at ds (kind_suffix kind) _ refl in
    let g : drop (length ds) (ds ++ kind_suffix kind) ≡ kind_suffix kind = drop_at ds (kind_suffix kind) _ refl in
    rw (e, f, g) (whole (value_of 10 ds) value) where
      whole : (v : ℕ) → v ≡ n → cond (nat_le (2 ^ 64) v) (Fault 3) (cond (nat_eq (length ds) 0) (Fault 5) (with_suffix 10 v (suffix_of (kind_suffix kind)))) ≡ Token (Number kind (pos n))
      whole v e = rw (e, le_fails (2 ^ 64) n (value_fits kind n l.1), not_empty (length ds) some) (suffix_kind kind n l)

base_ten : (c : ℕ) (w : Text) → 48 < c → base_of (c ∷ w) ≡ 10
base_ten c [] lt = rw (ne_eqb c 48 (λ e. omega arith)) refl
base_ten c (b ∷ w) lt = rw (ne_eqb c 48 (λ e. omega arith)) refl

ten_integer : (w : Text) → base_of w ≡ 10 → integer w ≡ by_digits 10 w
unfolding integer
ten_integer w e = rw e refl

positive_integer : (ds : Text) (kind : Kind) (n : ℕ) → AreDigits ds → 0 < length ds → 48 < get_or ds 0 0 → value_of 10 ds ≡ n → IsLiteral kind (pos n) → integer (ds ++ kind_suffix kind) ≡ Token (Number kind (pos n))
positive_integer [] kind n all some first value l = absurd (omega arith)
positive_integer (c ∷ ds) kind n all some first value l = ten_integer (c ∷ (ds ++ kind_suffix kind)) (base_ten c (ds ++ kind_suffix kind) first) ∙ decimal_digits (c ∷ ds) kind n all some value l

zero_integer : (kind : Kind) → IsLiteral kind (pos 0) → integer (48 ∷ kind_suffix kind) ≡ Token (Number kind (pos 0))
unfolding integer is_digit_of digit_value
zero_integer N.Char l = absurd l.0
zero_integer N.UChar l = absurd l.0
zero_integer N.Int l = refl
zero_integer N.UInt l = refl
zero_integer N.Long l = refl
zero_integer N.ULong l = refl

decimal_integer : (kind : Kind) (n : ℕ) → IsLiteral kind (pos n) → integer (decimal n ++ kind_suffix kind) ≡ Token (Number kind (pos n))
decimal_integer kind zero l = ap (λ u. integer (u ++ kind_suffix kind)) (decimal_digit 0 (omega arith)) ∙ zero_integer kind l
decimal_integer kind (suc n) l =
    let fits = value_fits kind (suc n) l.1 in
    let d = decimal_is_IsNumeral (suc n) fits in
    let digits = std_digits (decimal (suc n)) d.0.1 in
    positive_integer (decimal (suc n)) kind (suc n) digits d.0.0 (first_decimal (suc n) (omega arith) fits) (value_same 0 (decimal (suc n)) digits ∙ d.1) l

decimal_word : (kind : Kind) (n : ℕ) → n < 2 ^ 64 → AllPass in_word (decimal n ++ kind_suffix kind)
decimal_word kind n fits =
    let digits = std_digits (decimal n) (decimal_is_IsNumeral n fits).0.1 in
    All-append (λ b. in_word b ≡ true) (decimal n) (kind_suffix kind) (λ k d lt. digit_word _ (digits k d lt).0 (digits k d lt).1) (suffix_word kind)

digit_run : (dialect : Dialect) (ds s : Text) → AreDigits ds → 0 < length ds → run dialect (ds ++ s) ≡ integer (ds ++ s)
unfolding run
digit_run dialect [] s all some = absurd (omega arith)
digit_run dialect (c ∷ ds) s all some = let h = all 0 c (omega arith) in rw (ascii_digit c h.0 h.1) refl

number_piece : (dialect : Dialect) (kind : Kind) (n : ℕ) → IsLiteral kind (pos n) → piece_of dialect (decimal n ++ kind_suffix kind) ≡ Some (Token (Number kind (pos n)))
number_piece dialect kind n l =
    let fits = value_fits kind n l.1 in
    let d = decimal_is_IsNumeral n fits in
    state_piece dialect (decimal n ++ kind_suffix kind) Run (run_state _ (omega (arith, length-append (decimal n) (kind_suffix kind), d.0.0)) (decimal_word kind n fits))
    ∙ ap (λ x. Some x) (digit_run dialect (decimal n) (kind_suffix kind) (std_digits (decimal n) d.0.1) d.0.0 ∙ decimal_integer kind n l)

-- what is spelled is the token again
pub spelling_piece : (dialect : Dialect) (x : Lexeme) → IsSpellable dialect x → piece_of dialect (spelling x) ≡ Some (Token x)
unfolding spelling
spelling_piece dialect (Word k) e = keyword_piece dialect k
spelling_piece dialect (Mark p) e = mark_piece dialect p
spelling_piece dialect (Named text) e = name_piece dialect text e
spelling_piece dialect (Number kind (pos n)) e = number_piece dialect kind n e
spelling_piece dialect (Number kind (negsuc n)) e = absurd e
spelling_piece dialect (Character z) e = state_piece dialect _ _ (character_state (bits_of N.Char z) (char_byte z)) ∙ ap (λ v. Some (Token (Character v))) (char_again z e)
spelling_piece dialect (Quoted bytes) e = state_piece dialect _ _ (string_state bytes e)
