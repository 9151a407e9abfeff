-- Statements of the small language: their trees, grammar and readers.
use Rattle.std.specs.Prelude.{◌≡◌, ℕ, zero, suc, ◌+◌, Bool, true, false, List, [], ◌∷◌, ◌++◌, Option, Some, None, max, nat_lt}
use Rattle.cpc_parser_reading.specs.Reading.{Deep, Reader, one, before, after, pair, mapped, made, only, headed, one_of, either_two}
use Rattle.cpc_parser_reading.specs.Chain.{Linking, chain}
use Rattle.cpc_parser_reading.specs.Lists.{many}
use Rattle.cpc_parser_reading.specs.Operators.{tail}
use Rattle.cpc_parser_reading.specs.SmallExpressions.{Kind, name, opening, dot, equals, semicolon, brace, unbrace, when, otherwise, Token, Expr, Exprs, no_expr, call, member, is_closing, is_colon, text, Rank, primary, postfix, whole, Reads, ReadsArgs, args_at, read}

mutual
  -- statements
  pub data Stm : Type 0 where
    assign : Expr → Expr → Stm
    perform : Expr → Exprs → Stm
    block : Stms → Stm
    choice : Expr → Stm → Stm
    both : Expr → Stm → Stm → Stm
    label : ℕ → Stm → Stm

  -- several statements
  pub data Stms : Type 0 where
    no_stm : Stms
    a_stm : Stm → Stms → Stms

-- the mark of an assignment
abbrev pub is_equals : Kind → Bool
is_equals equals = true
is_equals k = false

-- the end of a simple statement
abbrev pub is_semicolon : Kind → Bool
is_semicolon semicolon = true
is_semicolon k = false

-- an opening mark
abbrev pub is_opening : Kind → Bool
is_opening opening = true
is_opening k = false

-- the end of a block
abbrev pub is_unbrace : Kind → Bool
is_unbrace unbrace = true
is_unbrace k = false

-- the word else
abbrev pub is_otherwise : Kind → Bool
is_otherwise otherwise = true
is_otherwise k = false

-- a name
abbrev pub is_name : Kind → Bool
is_name (name n) = true
is_name k = false

-- a statement at whose end an else would belong to an if inside it
abbrev pub dangles : Stm → Bool
dangles (assign v w) = false
dangles (perform v vs) = false
dangles (block vs) = false
dangles (choice c s) = true
dangles (both c s s') = dangles s'
dangles (label n s) = dangles s

mutual
  -- the tokens are a statement
  pub data IsStm : List Token → Stm → ℕ → Type 0 where
    assigned : (f g : List Token) (t u : Token) (v w : Expr) (h j : ℕ) → Reads postfix f v h → is_equals t.kind ≡ true → Reads whole g w j → is_semicolon u.kind ≡ true
        → IsStm (f ++ t ∷ (g ++ u ∷ [])) (assign v w) (max h j + 1)
    performed : (f g : List Token) (t u s : Token) (v : Expr) (vs : Exprs) (h j : ℕ) → Reads postfix f v h → t.kind ≡ opening → ReadsArgs g vs j → is_closing u.kind ≡ true → is_semicolon s.kind ≡ true
        → IsStm (f ++ t ∷ (g ++ u ∷ s ∷ [])) (perform v vs) (max h j + 1)
    blocked : (f : List Token) (t u : Token) (vs : Stms) (h : ℕ) → t.kind ≡ brace → IsStms f vs h → is_unbrace u.kind ≡ true → IsStm (t ∷ f ++ u ∷ []) (block vs) (h + 1)
    if_alone : (f g : List Token) (t o u : Token) (c : Expr) (s : Stm) (h i : ℕ) → t.kind ≡ when → is_opening o.kind ≡ true → Reads whole f c h → is_closing u.kind ≡ true → IsStm g s i
        → IsStm (t ∷ o ∷ f ++ u ∷ g) (choice c s) (max h i + 1)
    if_else : (f g k : List Token) (t o u e : Token) (c : Expr) (s s' : Stm) (h i j : ℕ) → t.kind ≡ when → is_opening o.kind ≡ true → Reads whole f c h → is_closing u.kind ≡ true → IsStm g s i
        → dangles s ≡ false → is_otherwise e.kind ≡ true → IsStm k s' j → IsStm (t ∷ o ∷ f ++ u ∷ (g ++ e ∷ k)) (both c s s') (max h (max i j) + 1)
    labelled : (f : List Token) (t u : Token) (n : ℕ) (s : Stm) (h : ℕ) → text t.kind ≡ Some n → is_colon u.kind ≡ true → IsStm f s h → IsStm (t ∷ u ∷ f) (label n s) (h + 1)

  -- the tokens are statements
  pub data IsStms : List Token → Stms → ℕ → Type 0 where
    is_none : IsStms [] no_stm 0
    is_more : (f g : List Token) (s : Stm) (vs : Stms) (i j : ℕ) → IsStm f s i → IsStms g vs j → IsStms (f ++ g) (a_stm s vs) (max i j)

-- What has been read of a simple statement. Its nesting is that of the statement that it begins: a place has one more
-- than its expression, and a call as a whole statement is no expression inside it.
pub data Simple : Type 0 where
  place : Expr → Simple
  calls : Expr → Exprs → Simple
  sets : Expr → Expr → Simple

-- the expression that goes on
abbrev pub expr_of : Simple → Expr
expr_of (place v) = v
expr_of (calls v vs) = call v vs
expr_of (sets v w) = v

-- how it goes on, and whether it was a call before
pub data Next : Type 0 where
  Args : Bool → Next
  Field : Bool → Next
  Set : Bool → Next

-- the class of the next token
abbrev pub next_class : Simple → Kind → Option Next
next_class (place v) opening = Some (Args false)
next_class (place v) dot = Some (Field false)
next_class (place v) equals = Some (Set false)
next_class (calls v vs) opening = Some (Args true)
next_class (calls v vs) dot = Some (Field true)
next_class (calls v vs) equals = Some (Set true)
next_class s k = None

-- what goes on
pub data Piece : Type 0 where
  args : Exprs → Piece
  field : ℕ → Piece
  value : Expr → Piece

-- the piece of each class, with the room inside
abbrev pub piece_part : (Rank → Reader Token Expr) → ℕ → Next → Reader Token Piece
piece_part inner room (Args b) = headed (λ t. mapped args (args_at inner room))
piece_part inner room (Field b) = headed (λ t. mapped field (one (λ u. text u.kind)))
piece_part inner room (Set b) = headed (λ t. mapped value (inner whole))

-- what has been read with it
abbrev pub next_make : Next → Simple → Piece → Simple
next_make c s (args vs) = calls (expr_of s) vs
next_make c s (field n) = place (member (expr_of s) n)
next_make c s (value w) = sets (expr_of s) w

-- how much a part adds to the nesting before it, to its own, and its least nesting
abbrev pub next_left : Next → ℕ
next_left (Args false) = 0
next_left (Args true) = 1
next_left (Field false) = 1
next_left (Field true) = 2
next_left (Set false) = 0
next_left (Set true) = 1

-- what a piece adds to its own nesting
abbrev pub next_right : Next → ℕ
next_right (Args b) = 1
next_right (Field b) = 0
next_right (Set b) = 1

-- the least nesting of a piece
abbrev pub next_least : Next → ℕ
next_least (Args b) = 0
next_least (Field b) = 0
next_least (Set b) = 1

-- how a simple statement goes on
abbrev pub next_links : (Rank → Reader Token Expr) → ℕ → ℕ → Linking Token Next Simple Piece
next_links inner d room = record {
  class = λ s t. next_class s t.kind;
  full = λ c h. nat_lt d (max (h + next_left c) (next_least c + next_right c));
  part = piece_part inner room;
  make = next_make;
  nest = λ c h j. max (h + next_left c) (j + next_right c);
}

-- what is a statement
abbrev pub complete : Simple → Bool
complete (place v) = false
complete (calls v vs) = true
complete (sets v w) = true

-- a simple statement
abbrev pub simple_at : (Rank → Reader Token Expr) → ℕ → ℕ → Reader Token Simple
simple_at inner d room = only complete (chain (made place (inner primary)) (next_links inner d room))

-- the statement that has been read
abbrev pub stm_of : Simple → Stm
stm_of (place v) = perform v no_expr
stm_of (calls v vs) = perform v vs
stm_of (sets v w) = assign v w

-- a simple statement and its end
abbrev pub sentence_at : (Rank → Reader Token Expr) → ℕ → ℕ → Reader Token Stm
sentence_at inner d room = mapped stm_of (before (simple_at inner d room) (λ t. is_semicolon t.kind))

-- a label and its statement
abbrev pub label_at : Reader Token Stm → Reader Token Stm
label_at stm = made (λ v. label v.0 v.1) (pair (before (one (λ t. text t.kind)) (λ t. is_colon t.kind)) stm)

-- the classes of statements
pub data Class : Type 0 where
  Block : Class
  If : Class
  Other : Class

-- the class of a first token
abbrev pub class_of : Kind → Option Class
class_of brace = Some Block
class_of when = Some If
class_of (name n) = Some Other
class_of opening = Some Other
class_of k = None

-- the least nesting of each
abbrev pub class_low : Class → ℕ
class_low Block = 1
class_low If = 2
class_low Other = 2

-- several statements from a list
abbrev pub stms_of : List Stm → Stms
stms_of [] = no_stm
stms_of (s ∷ ss) = a_stm s (stms_of ss)

-- what begins a statement
abbrev pub starts_stm : Kind → Bool
starts_stm brace = true
starts_stm when = true
starts_stm (name n) = true
starts_stm opening = true
starts_stm k = false

-- an if, with or without an else
abbrev pub if_of : Expr × (Stm × Option Stm) → Stm
if_of (c, (s, None)) = choice c s
if_of (c, (s, Some s')) = both c s s'

-- the statement of each class
abbrev pub stm_part : (Rank → Reader Token Expr) → Reader Token Stm → ℕ → ℕ → Class → Reader Token Stm
stm_part inner stm d room Block = headed (λ t. made block (mapped stms_of (before (many (λ t. starts_stm t.kind) 1 room stm) (λ t. is_unbrace t.kind))))
stm_part inner stm d room If = headed (λ t. made if_of (pair (after (λ t. is_opening t.kind) (before (inner whole) (λ t. is_closing t.kind)))
    (tail stm (λ t. is_otherwise t.kind) (λ h. false) (λ h j. max h j) (after (λ t. is_otherwise t.kind) stm))))
stm_part inner stm d room Other = either_two (λ t. is_name t.kind) (λ t u. is_colon u.kind) 2 d (label_at stm) (sentence_at inner d room)

-- a statement
abbrev pub stm_at : (Rank → Reader Token Expr) → Reader Token Stm → ℕ → ℕ → Reader Token Stm
stm_at inner stm d room = one_of (λ t. class_of t.kind) class_low d (stm_part inner stm d room)

-- what is read with nesting up to the number
unfoldable pub statement : ℕ → Reader Token Stm
statement zero ts = Deep ts
statement (suc room) ts = stm_at (λ r us. read room r us) (λ us. statement room us) (suc room) room ts

-- as many statements as there are
unfoldable pub program : ℕ → Reader Token (List Stm)
program d = many (λ t. starts_stm t.kind) 1 d (statement d)

-- tokens of the kinds, where places don't matter
abbrev pub tokens : List Kind → List Token
tokens [] = []
tokens (k ∷ ks) = record { place = 0; kind = k } ∷ tokens ks
