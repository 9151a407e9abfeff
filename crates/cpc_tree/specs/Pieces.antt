-- What bytes are by themselves: a blank or a comment, a token, or the front of one that shows a fault.
use Rattle.std.specs.Prelude.{ℕ, ◌+◌, ◌-◌, ◌*◌, ◌^◌, Bool, true, false, ◌&&◌, ◌||◌, ◌==◌, nat_le, nat_lt, if◌then◌else◌, List, [], ◌∷◌, ◌++◌, length, take, drop, fold, find, Option, Some, None, pos}
use Rattle.std.specs.Option.{option_map}
use Rattle.std.specs.List.{prefix_len}
use Rattle.std.specs.Char.{is_ascii_digit, is_ascii_alphanumeric, is_ascii_hexdigit}
use Rattle.cpc_base.specs.Bytes.{Text}
use Rattle.cpc_base.specs.declared.stop.Dialect.{Dialect}
use Rattle.cpc_base.specs.declared.stop.Dialect.TheVariants as D
use Rattle.cpc_num.specs.declared.kinds.Kind.{Kind}
use Rattle.cpc_num.specs.declared.kinds.Kind.TheVariants.{Char, Int, UInt, Long, ULong}
use Rattle.cpc_num.specs.Number.{is_of, convert}
use Rattle.cpc_tree.specs.declared.token.Keyword.{Keyword}
use Rattle.cpc_tree.specs.declared.token.Punctuator.{Punctuator}
use Rattle.cpc_tree.specs.declared.token.Punctuator.TheVariants as P
use Rattle.cpc_tree.specs.Tokens.{Lexeme, Word, Mark, Named, Number, Character, Quoted, punctuator_spelling, keyword_of, punctuator_of}

-- the numbers of the faults: a byte that begins no token
abbrev pub stray_byte : ℕ
stray_byte = 1

-- a comment, character or string that does not end
abbrev pub unclosed : ℕ
unclosed = 2

-- an integer that no kind holds
abbrev pub too_wide : ℕ
too_wide = 3

-- a name of too many bytes
abbrev pub too_long : ℕ
too_long = 4

-- another form of integer, character or string
abbrev pub malformed : ℕ
malformed = 5

-- A blank or a comment, a token, or the front of one that shows the fault of the number.
pub data Piece : Type 0 where
  Space : Piece
  Token : Lexeme → Piece
  Fault : ℕ → Piece

-- space, tab, line feed, carriage return
unfoldable pub is_blank : ℕ → Bool
is_blank b = b == 32 || (b == 9 || (b == 10 || b == 13))

-- a letter, a digit or _
unfoldable pub in_word : ℕ → Bool
in_word b = is_ascii_alphanumeric b || b == 95

-- Words (C11 6.4.1, 6.4.2).

-- the bytes that a name may have
abbrev pub name_limit : Dialect → ℕ
name_limit D.Cpc = 63
name_limit D.Event = 95

-- letters, digits and _ that no digit begins
abbrev pub name_or_keyword : Dialect → Text → Option Keyword → Piece
name_or_keyword dialect w (Some k) = Token (Word k)
name_or_keyword dialect w None = if nat_le (length w) (name_limit dialect) then Token (Named w) else Fault too_long

-- Integers (C11 6.4.4.1).

-- what a digit of a base up to 16 stands for
unfoldable pub digit_value : ℕ → ℕ
digit_value b = if nat_le b 57 then b - 48 else (if nat_le b 70 then b - 55 else b - 87)

-- whether a byte is a digit of a base up to 16
unfoldable pub is_digit_of : ℕ → ℕ → Bool
is_digit_of base b = is_ascii_hexdigit b && nat_lt (digit_value b) base

-- the number that digits of a base make
abbrev pub value_of : ℕ → Text → ℕ
value_of base digits = fold (λ n d. base * n + digit_value d) 0 digits

-- x or X
abbrev pub is_x : ℕ → Bool
is_x b = b == 120 || b == 88

-- u or U
abbrev pub is_u : ℕ → Bool
is_u b = b == 117 || b == 85

-- l or L
abbrev pub is_l : ℕ → Bool
is_l b = b == 108 || b == 76

-- 0x begins a hexadecimal integer, and another 0 an octal one
abbrev pub base_of : Text → ℕ
base_of [] = 10
base_of (a ∷ []) = if a == 48 then 8 else 10
base_of (a ∷ b ∷ w) = if a == 48 then (if is_x b then 16 else 8) else 10

-- whether a suffix has a u, and whether it has an l
abbrev pub suffix_of : Text → Option (Bool × Bool)
suffix_of [] = Some (false, false)
suffix_of (a ∷ []) = if is_u a then Some (true, false) else (if is_l a then Some (false, true) else None)
suffix_of (a ∷ b ∷ []) = if (is_u a && is_l b) || (is_l a && is_u b) then Some (true, true) else None
suffix_of (a ∷ b ∷ c ∷ w) = None

-- the kinds that are tried, in order
abbrev pub kinds_tried : (decimal u l : Bool) → List Kind
kinds_tried true false false = Int ∷ Long ∷ []
kinds_tried true false true = Long ∷ []
kinds_tried false false false = Int ∷ UInt ∷ Long ∷ ULong ∷ []
kinds_tried false false true = Long ∷ ULong ∷ []
kinds_tried decimal true false = UInt ∷ ULong ∷ []
kinds_tried decimal true true = ULong ∷ []

-- a value of the first kind that holds it
abbrev pub of_kind : ℕ → Option Kind → Piece
of_kind value (Some kind) = Token (Number kind (pos value))
of_kind value None = Fault too_wide

-- a value with its suffix
abbrev pub with_suffix : ℕ → ℕ → Option (Bool × Bool) → Piece
with_suffix base value (Some s) = of_kind value (find (λ kind. is_of kind (pos value)) (kinds_tried (base == 10) s.0 s.1))
with_suffix base value None = Fault malformed

-- The leftmost byte that shows a fault decides: a value of 2 ^ 64 shows at one of the digits, a malformed suffix behind
-- them, and only at the end that no digit came or that no kind holds the value.
abbrev pub integer_of : ℕ → Text → Text → Piece
integer_of base digits suffix =
    if nat_le (2 ^ 64) (value_of base digits) then Fault too_wide
    else (if length digits == 0 then Fault malformed
    else with_suffix base (value_of base digits) (suffix_of suffix))

-- the longest front of digits, and the suffix behind them
abbrev pub by_digits : ℕ → Text → Piece
by_digits base w = let n = prefix_len (is_digit_of base) w in integer_of base (take n w) (drop n w)

-- an integer, with 0x where it has it
unfoldable pub integer : Text → Piece
integer w = by_digits (base_of w) (if base_of w == 16 then drop 2 w else w)

-- what a longest run of letters, digits and _ is
unfoldable pub run : Dialect → Text → Piece
run dialect [] = Fault malformed
run dialect (b ∷ w) = if is_ascii_digit b then integer (b ∷ w) else name_or_keyword dialect (b ∷ w) (keyword_of (b ∷ w))

-- Characters and strings (C11 6.4.4.4, 6.4.5).

-- what encloses a character, and what a string
pub data Quote : Type 0 where
  Single : Quote
  Double : Quote

-- how far an escape is written; an octal or hexadecimal one with its value so far
pub data Escape : Type 0 where
  NoEscape : Escape
  Backslash : Escape
  OneOctal : ℕ → Escape
  TwoOctal : ℕ → Escape
  HexNone : Escape
  Hex : ℕ → Escape

-- What the bytes so far are; of a literal, with the bytes that it holds. No byte goes on Gap, Whole and Wrong, so the
-- leftmost byte that shows a fault ends the piece.
pub data State : Type 0 where
  Gap : State
  Run : State
  Sign : Punctuator → State
  LineComment : State
  BlockComment : State
  BlockCommentStar : State
  Open : Quote → (held : Text) → Escape → State
  Whole : Lexeme → State
  Wrong : State

-- ' and "
abbrev pub quote_byte : Quote → ℕ
quote_byte Single = 39
quote_byte Double = 34

-- the bytes that stand for themselves
unfoldable pub is_plain : Quote → ℕ → Bool
is_plain Single b = nat_le 32 b && nat_lt b 127
is_plain Double b = nat_le 32 b && (nat_lt b 127 || nat_lt 127 b)

-- the escapes of one letter or mark
unfoldable pub simple_escape : ℕ → Option ℕ
simple_escape b =
    if b == 97 then Some 7 else (if b == 98 then Some 8 else (if b == 116 then Some 9
    else (if b == 110 then Some 10 else (if b == 118 then Some 11 else (if b == 102 then Some 12
    else (if b == 114 then Some 13 else (if b == 92 || (b == 39 || (b == 34 || b == 63)) then Some b else None)))))))

-- at the second quote: a character holds one byte, and its value is that of the byte as a char
abbrev pub closed : Quote → Text → State
closed Double held = Whole (Quoted held)
closed Single [] = Wrong
closed Single (c ∷ []) = Whole (Character (convert Char (pos c)))
closed Single (c ∷ d ∷ held) = Wrong

-- whether no further byte can be held
abbrev pub is_full : Quote → Text → Bool
is_full Double held = false
is_full Single [] = false
is_full Single (c ∷ held) = true

-- behind one more byte where no escape is open
unfoldable pub next_byte : Quote → Text → ℕ → State
next_byte quote held b =
    if b == quote_byte quote then closed quote held
    else (if is_full quote held then Wrong
    else (if b == 92 then Open quote held Backslash
    else (if is_plain quote b then Open quote (held ++ b ∷ []) NoEscape else Wrong)))

-- behind the third octal digit: a value above 255 is no byte
abbrev pub octal_state : Quote → Text → ℕ → State
octal_state quote held n = if nat_lt n 256 then Open quote (held ++ n ∷ []) NoEscape else Wrong

-- behind a further hexadecimal digit
abbrev pub hex_state : Quote → Text → ℕ → State
hex_state quote held n = if nat_lt n 256 then Open quote held (Hex n) else Wrong

-- behind an escape of one letter or mark
abbrev pub next_simple : Quote → Text → Option ℕ → State
next_simple quote held (Some c) = Open quote (held ++ c ∷ []) NoEscape
next_simple quote held None = Wrong

-- Behind one more byte of a literal. An octal escape has up to three digits, and a hexadecimal one as many as there are.
unfoldable pub next_quoted : Quote → Text → Escape → ℕ → State
next_quoted quote held NoEscape b = next_byte quote held b
next_quoted quote held Backslash b =
    if is_digit_of 8 b then Open quote held (OneOctal (digit_value b))
    else (if b == 120 then Open quote held HexNone else next_simple quote held (simple_escape b))
next_quoted quote held (OneOctal n) b =
    if is_digit_of 8 b then Open quote held (TwoOctal (8 * n + digit_value b)) else next_byte quote (held ++ n ∷ []) b
next_quoted quote held (TwoOctal n) b =
    if is_digit_of 8 b then octal_state quote held (8 * n + digit_value b) else next_byte quote (held ++ n ∷ []) b
next_quoted quote held HexNone b = if is_digit_of 16 b then Open quote held (Hex (digit_value b)) else Wrong
next_quoted quote held (Hex n) b =
    if is_digit_of 16 b then hex_state quote held (16 * n + digit_value b) else next_byte quote (held ++ n ∷ []) b

-- /* and // begin comments
abbrev pub comment_begun : Punctuator → ℕ → Option State
comment_begun P.Slash b = if b == 42 then Some BlockComment else (if b == 47 then Some LineComment else None)
comment_begun _ b = None

-- a comment, else the longer punctuator
abbrev pub or_mark : Option State → Option Punctuator → Option State
or_mark (Some s) mark = Some s
or_mark None mark = option_map Sign mark

-- behind the first byte
unfoldable pub first_state : ℕ → Option State
first_state b =
    if is_blank b then Some Gap
    else (if in_word b then Some Run
    else (if b == 39 then Some (Open Single [] NoEscape)
    else (if b == 34 then Some (Open Double [] NoEscape)
    else option_map Sign (punctuator_of (b ∷ [])))))

-- Behind one more byte. A // comment is taken with its line feed.
unfoldable pub next_state : State → ℕ → Option State
next_state Gap b = None
next_state Run b = if in_word b then Some Run else None
next_state (Sign p) b = or_mark (comment_begun p b) (punctuator_of (punctuator_spelling p ++ b ∷ []))
next_state LineComment b = Some (if b == 10 then Gap else LineComment)
next_state BlockComment b = Some (if b == 42 then BlockCommentStar else BlockComment)
next_state BlockCommentStar b = Some (if b == 42 then BlockCommentStar else (if b == 47 then Gap else BlockComment))
next_state (Open quote held escape) b = if b == 10 then None else Some (next_quoted quote held escape b)
next_state (Whole x) b = None
next_state Wrong b = None

-- behind more bytes
unfoldable pub state_behind : Option State → Text → Option State
state_behind None w = None
state_behind (Some s) [] = Some s
state_behind (Some s) (b ∷ w) = state_behind (next_state s b) w

-- the state of bytes; None where none of these begins so
unfoldable pub state_of : Text → Option State
state_of [] = None
state_of (b ∷ w) = state_behind (first_state b) w

-- what the bytes w are in their state
abbrev pub in_state : Dialect → Text → State → Piece
in_state dialect w Gap = Space
in_state dialect w Run = run dialect w
in_state dialect w (Sign p) = Token (Mark p)
in_state dialect w LineComment = Fault unclosed
in_state dialect w BlockComment = Fault unclosed
in_state dialect w BlockCommentStar = Fault unclosed
in_state dialect w (Open quote held _) = Fault unclosed
in_state dialect w (Whole x) = Token x
in_state dialect w Wrong = Fault malformed

-- what the bytes are by themselves; None where no token, blank or comment begins so
unfoldable pub piece_of : Dialect → Text → Option Piece
piece_of dialect w = option_map (in_state dialect w) (state_of w)
