-- How types are read: the words of a base type, and the stars behind it.
use Rattle.std.specs.Prelude.{ℕ, zero, suc, ◌+◌, Bool, true, false, ◌||◌, is_some, List, [], map, Option, Some, None, max, nat_lt}
use Rattle.cpc_base.specs.Bytes.{Text}
use Rattle.cpc_num.specs.declared.kinds.Kind.{Kind}
use Rattle.cpc_num.specs.declared.kinds.Kind.TheVariants as N
use Rattle.cpc_tree.specs.declared.token.Keyword.TheVariants as K
use Rattle.cpc_tree.specs.declared.token.Punctuator.TheVariants as P
use Rattle.cpc_base.specs.declared.stop.Place.{Place}
use Rattle.cpc_tree.specs.Tokens.{Lexeme, Word, Mark, Named, Number, Placed}
use Rattle.cpc_tree.specs.Syntax.{Ty, TyVoid, TyInt, TyCondvar, TyPointer, TyCode, TyStruct}
use Rattle.cpc_tree.specs.Located.{Ident, LParameter}
use Rattle.cpc_tree.specs.TypeGrammar.{types, without_void}
use Rattle.cpc_parser_reading.specs.Reading.{Reader, Deep, nothing, one, expect, before, after, pair, mapped, made, headed, either, optional}
use Rattle.cpc_parser_reading.specs.Chain.{Linking, chain}
use Rattle.cpc_parser_reading.specs.Lists.{separated}

-- which words may still go on a base type
pub data Ending : Type 0 where
  Done : Ending
  LongWord : Kind → Ending
  SignedWord : Ending
  UnsignedWord : Ending

-- the type that a first word begins, and what may go on
abbrev pub first_word : Lexeme → Option (Ty × Ending)
first_word (Word K.Void) = Some (TyVoid, Done)
first_word (Word K.CpcCondvar) = Some (TyCondvar, Done)
first_word (Word K.Char) = Some (TyInt N.Char, Done)
first_word (Word K.Int) = Some (TyInt N.Int, Done)
first_word (Word K.Long) = Some (TyInt N.Long, LongWord N.Long)
first_word (Word K.Signed) = Some (TyInt N.Int, SignedWord)
first_word (Word K.Unsigned) = Some (TyInt N.UInt, UnsignedWord)
first_word t = None

-- the type with a further word, and what may go on behind it
abbrev pub next_word : Ending → Lexeme → Option (Kind × Ending)
next_word (LongWord kind) (Word K.Int) = Some (kind, Done)
next_word SignedWord (Word K.Char) = Some (N.Char, Done)
next_word SignedWord (Word K.Int) = Some (N.Int, Done)
next_word SignedWord (Word K.Long) = Some (N.Long, LongWord N.Long)
next_word UnsignedWord (Word K.Char) = Some (N.UChar, Done)
next_word UnsignedWord (Word K.Int) = Some (N.UInt, Done)
next_word UnsignedWord (Word K.Long) = Some (N.ULong, LongWord N.ULong)
next_word e t = None

-- the word struct
abbrev pub is_struct : Lexeme → Bool
is_struct (Word K.Struct) = true
is_struct t = false

-- the name that a token is
abbrev pub ident_in : Place → Lexeme → Option Ident
ident_in q (Named x) = Some (record { place = q; text = x })
ident_in q t = None

abbrev pub ident_of : Placed → Option Ident
ident_of t = ident_in t.place t.lexeme

-- a star
abbrev pub is_star : Lexeme → Bool
is_star (Mark P.Star) = true
is_star t = false

-- a struct's type
abbrev pub tagged : Ident → Ty × Ending
tagged x = (TyStruct x.text, Done)

-- the type with a further word
abbrev pub worded : Kind × Ending → Ty × Ending → Unit {0} → Ty × Ending
worded c v u = (TyInt c.0, c.1)

-- the type with a star
abbrev pub starred : Unit {0} → Ty × Ending → Unit {0} → Ty × Ending
starred c v u = (TyPointer v.0, Done)

-- how a base type goes on
abbrev pub word_links : Linking Placed (Kind × Ending) (Ty × Ending) (Unit {0})
word_links = record { class = λ v t. next_word v.1 t.lexeme; full = λ c h. false; part = λ c. headed (λ t. nothing); make = worded; nest = λ c h j. max h j }

-- a base type
abbrev pub base_at : ℕ → Reader Placed (Ty × Ending)
base_at d = chain (either (λ t. is_struct t.lexeme) 0 d (after (λ t. is_struct t.lexeme) (mapped tagged (one ident_of))) (one (λ t. first_word t.lexeme))) word_links

-- the class of a star
abbrev pub star_class : Lexeme → Option (Unit {0})
star_class (Mark P.Star) = Some tt
star_class t = None

-- how a type goes on with stars
abbrev pub star_links : ℕ → Linking Placed (Unit {0}) (Ty × Ending) (Unit {0})
star_links d = record { class = λ v t. star_class t.lexeme; full = λ c h. nat_lt d (h + 1); part = λ c. headed (λ t. nothing); make = starred; nest = λ c h j. max (h + 1) j }

-- a base type and its stars
abbrev pub typed_at : ℕ → Reader Placed (Ty × Ending)
typed_at d = chain (base_at d) (star_links d)

-- What has been read of a parameter: its type, and its name once that stands there. One that is closed goes on with nothing.
pub data Piece : Type 0 where
  Open : Ty × Ending → Piece
  Known : Ty → Ident → Piece
  Closed : Ty → Option Ident → Piece

-- how a parameter goes on
pub data Going : Type 0 where
  Name : Going
  Brackets : Going
  Code : Going

-- the class of the next token
abbrev pub piece_class : Piece → Lexeme → Option Going
piece_class (Open v) (Named x) = Some Name
piece_class (Open v) (Mark P.LeftBracket) = Some Brackets
piece_class (Open v) (Mark P.LeftParen) = Some Code
piece_class (Known t x) (Mark P.LeftBracket) = Some Brackets
piece_class p k = None

-- what goes on: a name, brackets, or the name and the parameters of a pointer to a function
pub data Part : Type 0 where
  name_part : Ident → Part
  bracket_part : Part
  code_part : Option Ident → List LParameter → Part

-- the type of what has been read, and its name
abbrev pub piece_type : Piece → Ty
piece_type (Open v) = v.0
piece_type (Known t x) = t
piece_type (Closed t o) = t

abbrev pub piece_name : Piece → Option Ident
piece_name (Open v) = None
piece_name (Known t x) = Some x
piece_name (Closed t o) = o

-- with what goes on
abbrev pub pieced : Going → Piece → Part → Piece
pieced c p (name_part x) = Known (piece_type p) x
pieced c p bracket_part = Closed (TyPointer (piece_type p)) (piece_name p)
pieced c p (code_part o ps) = Closed (TyCode (piece_type p) (types ps)) o

-- single marks
abbrev pub is_left : Lexeme → Bool
is_left (Mark P.LeftParen) = true
is_left t = false

abbrev pub is_right : Lexeme → Bool
is_right (Mark P.RightParen) = true
is_right t = false

abbrev pub is_unbracket : Lexeme → Bool
is_unbracket (Mark P.RightBracket) = true
is_unbracket t = false

abbrev pub is_comma : Lexeme → Bool
is_comma (Mark P.Comma) = true
is_comma t = false

-- an integer
abbrev pub is_number : Lexeme → Bool
is_number (Number kind z) = true
is_number t = false

-- a name
abbrev pub is_name : Lexeme → Bool
is_name (Named x) = true
is_name t = false

-- what begins a type
abbrev pub starts_base : Lexeme → Bool
starts_base t = is_struct t || is_some (first_word t)

-- the name that a token is which is one
abbrev pub text_in : Lexeme → Text
text_in (Named x) = x
text_in t = []

abbrev pub ident_at : Placed → Ident
ident_at t = record { place = t.place; text = text_in t.lexeme }

-- The least nesting of each: a parameter list of a type counts one.
abbrev pub going_least : Going → ℕ
going_least Name = 0
going_least Brackets = 0
going_least Code = 1

-- a name that can be absent, and a parameter list
abbrev pub code_of : Option Ident × List LParameter → Part
code_of v = code_part v.0 v.1

-- brackets leave a pointer
abbrev pub bracket_of : Option (Unit {0}) → Part
bracket_of o = bracket_part

-- a name alone
abbrev pub name_of : Ident → Unit {0} → Part
name_of x u = name_part x

-- the part of each class, with the reader of the parameter lists inside, each of which counts one
abbrev pub piece_part : Reader Placed (List LParameter) → ℕ → Going → Reader Placed Part
piece_part inner d Name = headed (λ t. mapped (name_of (ident_at t)) nothing)
piece_part inner d Brackets = headed (λ t. mapped bracket_of (before (optional (λ t. is_number t.lexeme) 0 d (expect (λ t. is_number t.lexeme))) (λ t. is_unbracket t.lexeme)))
piece_part inner d Code = headed (λ t. mapped code_of (after (λ t. is_star t.lexeme) (pair (optional (λ t. is_name t.lexeme) 0 d (one ident_of)) (after (λ t. is_right t.lexeme) (after (λ t. is_left t.lexeme) inner)))))

-- how a parameter goes on
abbrev pub piece_links : Reader Placed (List LParameter) → ℕ → Linking Placed Going Piece Part
piece_links inner d = record { class = λ p t. piece_class p t.lexeme; full = λ c h. nat_lt d (max (h + 0) (going_least c + 0)); part = piece_part inner d; make = pieced; nest = λ c h j. max (h + 0) (j + 0) }

-- a parameter
abbrev pub param_at : Reader Placed (List LParameter) → ℕ → Reader Placed Piece
param_at inner d = chain (mapped Open (typed_at d)) (piece_links inner d)

-- the parameter that has been read
abbrev pub param_of : Piece → LParameter
param_of p = record { called = piece_name p; type = piece_type p }

-- the parameters from a list that can be absent
abbrev pub params_of : Option (List Piece) → List LParameter
params_of None = []
params_of (Some ps) = without_void (map param_of ps)

-- what stands between the brackets of a parameter list, and the closing mark
abbrev pub params_at : Reader Placed (List LParameter) → ℕ → Reader Placed (List LParameter)
params_at inner d = mapped params_of (before (optional (λ t. starts_base t.lexeme) 0 d (separated (λ t. is_comma t.lexeme) (param_at inner d))) (λ t. is_right t.lexeme))

-- a list as it is
abbrev pub itself : List LParameter → List LParameter
itself ps = ps

-- a parameter list of a type behind its opening mark
unfoldable pub lists : ℕ → Reader Placed (List LParameter)
lists zero ts = Deep ts
lists (suc room) ts = made itself (params_at (λ us. lists room us) room) ts

-- the parameter list of a function itself behind its opening mark, which counts nothing
abbrev pub list_at : ℕ → Reader Placed (List LParameter)
list_at d = params_at (λ us. lists d us) d

-- how a type without a name goes on
abbrev pub type_class : Piece → Lexeme → Option (Unit {0})
type_class (Open v) (Mark P.LeftParen) = Some tt
type_class p k = None

-- with the parameters of a pointer to a function
abbrev pub type_coded : Unit {0} → Piece → List LParameter → Piece
type_coded c p ps = Closed (TyCode (piece_type p) (types ps)) None

-- the marks of a pointer to a function without a name, and its parameters
abbrev pub type_part : Reader Placed (List LParameter) → Unit {0} → Reader Placed (List LParameter)
type_part inner c = headed (λ t. after (λ u. is_star u.lexeme) (after (λ u. is_right u.lexeme) (after (λ u. is_left u.lexeme) inner)))

-- how it goes on
abbrev pub type_links : Reader Placed (List LParameter) → ℕ → Linking Placed (Unit {0}) Piece (List LParameter)
type_links inner d = record { class = λ p t. type_class p t.lexeme; full = λ c h. nat_lt d (max (h + 0) (1 + 0)); part = type_part inner; make = type_coded; nest = λ c h j. max (h + 0) (j + 0) }

-- a type without a name
abbrev pub type_name_at : ℕ → Reader Placed Piece
type_name_at d = chain (mapped Open (typed_at d)) (type_links (λ us. lists d us) d)

-- a type without a name, and the mark behind it
abbrev pub enclosed_type_at : ℕ → Reader Placed Ty
enclosed_type_at d = mapped piece_type (before (type_name_at d) (λ t. is_right t.lexeme))
