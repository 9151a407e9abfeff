-- A small language with the shapes of C: its tokens, trees, grammar and readers.
use Rattle.std.specs.Prelude.{◌≡◌, ℕ, zero, suc, ◌+◌, Bool, true, false, List, [], ◌∷◌, ◌++◌, Option, Some, None, max, nat_lt}
use Rattle.cpc_parser_reading.specs.Reading.{Deep, Reader, nothing, one, before, after, pair, mapped, made, headed, optional, one_of}
use Rattle.cpc_parser_reading.specs.Chain.{Linking, chain}
use Rattle.cpc_parser_reading.specs.Lists.{separated}
use Rattle.cpc_parser_reading.specs.Operators.{level, tail}

-- what matters of a token
pub data Kind : Type 0 where
  name : ℕ → Kind
  opening : Kind
  closing : Kind
  comma : Kind
  colon : Kind
  ask : Kind
  plus : Kind
  dot : Kind
  equals : Kind
  semicolon : Kind
  brace : Kind
  unbrace : Kind
  when : Kind
  otherwise : Kind

-- a token with its place
pub record Token : Type 0 where
  pub place : ℕ
  pub kind : Kind

-- a token without its place
abbrev pub kind_of : Token → Kind
kind_of t = t.kind

mutual
  -- expressions
  pub data Expr : Type 0 where
    named : ℕ → Expr
    sum : Expr → Expr → Expr
    choose : Expr → Expr → Expr → Expr
    call : Expr → Exprs → Expr
    member : Expr → ℕ → Expr

  -- arguments
  pub data Exprs : Type 0 where
    no_expr : Exprs
    an_expr : Expr → Exprs → Exprs

-- a closing mark
abbrev pub is_closing : Kind → Bool
is_closing closing = true
is_closing k = false

-- a comma
abbrev pub is_comma : Kind → Bool
is_comma comma = true
is_comma k = false

-- a colon
abbrev pub is_colon : Kind → Bool
is_colon colon = true
is_colon k = false

-- a question mark
abbrev pub is_ask : Kind → Bool
is_ask ask = true
is_ask k = false

-- what begins an expression
abbrev pub starts_expr : Kind → Bool
starts_expr (name n) = true
starts_expr opening = true
starts_expr k = false

-- the number of a name
abbrev pub text : Kind → Option ℕ
text (name n) = Some n
text k = None

-- how closely a part binds
pub data Rank : Type 0 where
  primary : Rank
  postfix : Rank
  sums : Rank
  whole : Rank

mutual
  -- the tokens are an expression of the rank
  pub data Reads : Rank → List Token → Expr → ℕ → Type 0 where
    a_name : (t : Token) (n : ℕ) → t.kind ≡ name n → Reads primary (t ∷ []) (named n) 1
    parens : (t u : Token) (f : List Token) (v : Expr) (h : ℕ) → t.kind ≡ opening → is_closing u.kind ≡ true → Reads whole f v h → Reads primary (t ∷ f ++ u ∷ []) v (h + 1)
    a_primary : (f : List Token) (v : Expr) (h : ℕ) → Reads primary f v h → Reads postfix f v h
    called : (f g : List Token) (t u : Token) (v : Expr) (vs : Exprs) (h j : ℕ) → Reads postfix f v h → t.kind ≡ opening → ReadsArgs g vs j → is_closing u.kind ≡ true
        → Reads postfix (f ++ t ∷ (g ++ u ∷ [])) (call v vs) (max h j + 1)
    membered : (f : List Token) (t u : Token) (v : Expr) (n h : ℕ) → Reads postfix f v h → t.kind ≡ dot → text u.kind ≡ Some n → Reads postfix (f ++ t ∷ u ∷ []) (member v n) (h + 1)
    a_postfix : (f : List Token) (v : Expr) (h : ℕ) → Reads postfix f v h → Reads sums f v h
    added : (f g : List Token) (t : Token) (v w : Expr) (h j : ℕ) → Reads sums f v h → t.kind ≡ plus → Reads postfix g w j → Reads sums (f ++ t ∷ g) (sum v w) (max h j + 1)
    a_sum : (f : List Token) (v : Expr) (h : ℕ) → Reads sums f v h → Reads whole f v h
    chosen : (f g k : List Token) (t u : Token) (c v w : Expr) (h i j : ℕ) → Reads sums f c h → is_ask t.kind ≡ true → Reads whole g v i → is_colon u.kind ≡ true → Reads whole k w j
        → Reads whole (f ++ t ∷ (g ++ u ∷ k)) (choose c v w) (max h (max i j) + 1)

  -- the tokens are arguments
  pub data ReadsArgs : List Token → Exprs → ℕ → Type 0 where
    no_args : ReadsArgs [] no_expr 0
    last_arg : (f : List Token) (v : Expr) (h : ℕ) → Reads whole f v h → ReadsArgs f (an_expr v no_expr) h
    more_args : (f g : List Token) (t : Token) (v w : Expr) (vs : Exprs) (h j : ℕ) → Reads whole f v h → is_comma t.kind ≡ true → ReadsArgs g (an_expr w vs) j → ReadsArgs (f ++ t ∷ g) (an_expr v (an_expr w vs)) (max h j)

-- The readers: what is inside is read with one room less.
pub data Primary : Type 0 where
  Word : Primary
  Round : Primary

-- the class of a first token
abbrev pub primary_class : Kind → Option Primary
primary_class (name n) = Some Word
primary_class opening = Some Round
primary_class k = None

-- the least nesting of each
abbrev pub primary_low : Primary → ℕ
primary_low Word = 1
primary_low Round = 2

-- the number of a name, and 0 of what is none
abbrev pub word_of : Kind → ℕ
word_of (name n) = n
word_of k = 0

-- the part of each class
abbrev pub primary_part : (Rank → Reader Token Expr) → Primary → Reader Token Expr
primary_part inner Word = headed (λ t. made (λ u. named (word_of t.kind)) nothing)
primary_part inner Round = headed (λ t. made (λ v. v) (before (inner whole) (λ u. is_closing u.kind)))

-- a name, or parentheses
abbrev pub primary_at : (Rank → Reader Token Expr) → ℕ → Reader Token Expr
primary_at inner d = one_of (λ t. primary_class t.kind) primary_low d (primary_part inner)

-- arguments from a list
abbrev pub listed : List Expr → Exprs
listed [] = no_expr
listed (v ∷ vs) = an_expr v (listed vs)

-- arguments from a list that can be absent
abbrev pub listed_if : Option (List Expr) → Exprs
listed_if None = no_expr
listed_if (Some vs) = listed vs

-- arguments and the mark behind them
abbrev pub args_at : (Rank → Reader Token Expr) → ℕ → Reader Token Exprs
args_at inner room = mapped listed_if (before (optional (λ t. starts_expr t.kind) 1 room (separated (λ t. is_comma t.kind) (inner whole))) (λ t. is_closing t.kind))

-- what may follow
pub data Postfix : Type 0 where
  Call : Postfix
  Member : Postfix

-- what followed
pub data Part : Type 0 where
  args : Exprs → Part
  field : ℕ → Part

-- the class of the next token
abbrev pub postfix_class : Kind → Option Postfix
postfix_class opening = Some Call
postfix_class dot = Some Member
postfix_class k = None

-- the part of each class, with the room inside
abbrev pub postfix_part : (Rank → Reader Token Expr) → ℕ → Postfix → Reader Token Part
postfix_part inner room Call = headed (λ t. mapped args (args_at inner room))
postfix_part inner room Member = headed (λ t. mapped field (one (λ u. text u.kind)))

-- the expression with it
abbrev pub postfix_make : Postfix → Expr → Part → Expr
postfix_make c v (args vs) = call v vs
postfix_make c v (field n) = member v n

-- how an expression goes on
abbrev pub postfix_links : (Rank → Reader Token Expr) → ℕ → Linking Token Postfix Expr Part
postfix_links inner room = record { class = λ v t. postfix_class t.kind; full = λ c h. nat_lt room h; part = postfix_part inner room; make = postfix_make; nest = λ c h j. max h j + 1 }

-- a primary and what follows
abbrev pub postfix_at : (Rank → Reader Token Expr) → ℕ → ℕ → Reader Token Expr
postfix_at inner d room = chain (primary_at inner d) (postfix_links inner room)

-- the operator of sums
abbrev pub is_plus : Kind → Option (Unit {0})
is_plus plus = Some tt
is_plus k = None

-- operands and operators
abbrev pub sum_at : (Rank → Reader Token Expr) → ℕ → ℕ → Reader Token Expr
sum_at inner d room = level (λ t. is_plus t.kind) (λ o t v w. sum v w) room (postfix_at inner d room) (inner postfix)

-- a choice, or its test alone
abbrev pub choice : Expr × Option (Expr × Expr) → Expr
choice (c, None) = c
choice (c, Some (v, w)) = choose c v w

-- a sum, and the arms that may follow
abbrev pub whole_at : (Rank → Reader Token Expr) → ℕ → ℕ → Reader Token Expr
whole_at inner d room = mapped choice (tail (sum_at inner d room) (λ t. is_ask t.kind) (λ h. nat_lt room h) (λ h j. max h j + 1)
    (after (λ t. is_ask t.kind) (pair (before (inner whole) (λ t. is_colon t.kind)) (inner whole))))

-- an expression of each rank
abbrev pub rank_at : (Rank → Reader Token Expr) → ℕ → ℕ → Rank → Reader Token Expr
rank_at inner d room primary = primary_at inner d
rank_at inner d room postfix = postfix_at inner d room
rank_at inner d room sums = sum_at inner d room
rank_at inner d room whole = whole_at inner d room

-- what is read with nesting up to the number
unfoldable pub read : ℕ → Rank → Reader Token Expr
read zero r ts = Deep ts
read (suc room) r ts = rank_at (λ s us. read room s us) (suc room) room r ts
