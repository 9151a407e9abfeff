-- How types and declarators are written (C11 6.7): which rows of tokens are which types, and how deep they nest.
-- Each star and each parameter list of a type counts one; the star and the brackets of `(*f)` count nothing.
use Rattle.std.specs.Prelude.{ℕ, ◌+◌, ◌<◌, ◌^◌, Bool, true, false, List, [], ◌∷◌, ◌++◌, Option, Some, None, max, ℤ, pos, if◌then◌else◌}
use Rattle.cpc_base.specs.declared.stop.Place.{Place}
use Rattle.cpc_num.specs.declared.kinds.Kind.{Kind}
use Rattle.cpc_num.specs.declared.kinds.Kind.TheVariants as N
use Rattle.cpc_tree.specs.declared.token.Keyword.{Keyword}
use Rattle.cpc_tree.specs.declared.token.Keyword.TheVariants as K
use Rattle.cpc_tree.specs.declared.token.Punctuator.{Punctuator}
use Rattle.cpc_tree.specs.declared.token.Punctuator.TheVariants as P
use Rattle.cpc_tree.specs.Tokens.{Word, Mark, Named, Number, Placed}
use Rattle.cpc_tree.specs.Syntax.{Ty, TyVoid, TyInt, TyCondvar, TyPointer, TyCode, TyStruct, TyArray, Tys, NoTy, AndTy}
use Rattle.cpc_tree.specs.Located.{Ident, LVariable, LParameter}

-- tokens where they stand
abbrev pub word : Place → Keyword → Placed
word q k = record { place = q; lexeme = Word k }

abbrev pub mark : Place → Punctuator → Placed
mark q p = record { place = q; lexeme = Mark p }

abbrev pub named : Ident → Placed
named x = record { place = x.place; lexeme = Named x.text }

abbrev pub number : Place → Kind → ℤ → Placed
number q kind z = record { place = q; lexeme = Number kind z }

-- the spellings of the integer types (C11 6.7.2)
pub data ReadsKind : List Placed → Kind → Type 0 where
  char : (q : Place) → ReadsKind (word q K.Char ∷ []) N.Char
  signed_char : (q r : Place) → ReadsKind (word q K.Signed ∷ word r K.Char ∷ []) N.Char
  unsigned_char : (q r : Place) → ReadsKind (word q K.Unsigned ∷ word r K.Char ∷ []) N.UChar
  int : (q : Place) → ReadsKind (word q K.Int ∷ []) N.Int
  signed : (q : Place) → ReadsKind (word q K.Signed ∷ []) N.Int
  signed_int : (q r : Place) → ReadsKind (word q K.Signed ∷ word r K.Int ∷ []) N.Int
  unsigned : (q : Place) → ReadsKind (word q K.Unsigned ∷ []) N.UInt
  unsigned_int : (q r : Place) → ReadsKind (word q K.Unsigned ∷ word r K.Int ∷ []) N.UInt
  long : (q : Place) → ReadsKind (word q K.Long ∷ []) N.Long
  long_int : (q r : Place) → ReadsKind (word q K.Long ∷ word r K.Int ∷ []) N.Long
  signed_long : (q r : Place) → ReadsKind (word q K.Signed ∷ word r K.Long ∷ []) N.Long
  signed_long_int : (q r s : Place) → ReadsKind (word q K.Signed ∷ word r K.Long ∷ word s K.Int ∷ []) N.Long
  unsigned_long : (q r : Place) → ReadsKind (word q K.Unsigned ∷ word r K.Long ∷ []) N.ULong
  unsigned_long_int : (q r s : Place) → ReadsKind (word q K.Unsigned ∷ word r K.Long ∷ word s K.Int ∷ []) N.ULong

-- the type that a declaration begins with; it nests nothing
pub data ReadsBase : List Placed → Ty → ℕ → Type 0 where
  void_base : (q : Place) → ReadsBase (word q K.Void ∷ []) TyVoid 0
  kind_base : (f : List Placed) (kind : Kind) → ReadsKind f kind → ReadsBase f (TyInt kind) 0
  condvar_base : (q : Place) → ReadsBase (word q K.CpcCondvar ∷ []) TyCondvar 0
  struct_base : (q : Place) (tag : Ident) → ReadsBase (word q K.Struct ∷ named tag ∷ []) (TyStruct tag.text) 0

-- stars behind a base type: each makes a pointer of the type before it
pub data ReadsStars (base : Ty) : List Placed → Ty → ℕ → Type 0 where
  no_star : ReadsStars base [] base 0
  a_star : (f : List Placed) (q : Place) (t : Ty) (h : ℕ) → ReadsStars base f t h → ReadsStars base (f ++ mark q P.Star ∷ []) (TyPointer t) (h + 1)

-- a name that can be absent
abbrev pub ident_row : Option Ident → List Placed
ident_row None = []
ident_row (Some x) = named x ∷ []

-- the types of parameters
abbrev pub types : List LParameter → Tys
types [] = NoTy
types (p ∷ ps) = AndTy p.type (types ps)

-- a parameter that is the word void alone
abbrev pub is_void : {A : Type 0} → Option A → Ty → Bool
is_void None TyVoid = true
is_void o t = false

-- a list that is such a parameter has none
abbrev pub without : {A : Type 0} → (A → Bool) → List A → List A
without void [] = []
without void (p ∷ []) = if void p then [] else p ∷ []
without void (p ∷ (q ∷ ps)) = p ∷ (q ∷ ps)

abbrev pub without_void : List LParameter → List LParameter
without_void = without (λ p. is_void p.called p.type)

mutual
  -- a parameter, whose name can be absent; one written as an array is a pointer (C11 6.7.6.3)
  pub data ReadsParam : List Placed → LParameter → ℕ → Type 0 where
    plain_param : (a f : List Placed) (base t : Ty) (o : Option Ident) (i h : ℕ) → ReadsBase a base i → ReadsStars base f t h
        → ReadsParam (a ++ (f ++ ident_row o)) (record { called = o; type = t }) h
    array_param : (a f : List Placed) (base t : Ty) (o : Option Ident) (q r : Place) (i h : ℕ) → ReadsBase a base i → ReadsStars base f t h
        → ReadsParam (a ++ (f ++ (ident_row o ++ mark q P.LeftBracket ∷ mark r P.RightBracket ∷ []))) (record { called = o; type = TyPointer t }) h
    sized_param : (a f : List Placed) (base t : Ty) (o : Option Ident) (q r s : Place) (kind : Kind) (z : ℤ) (i h : ℕ) → ReadsBase a base i → ReadsStars base f t h
        → ReadsParam (a ++ (f ++ (ident_row o ++ mark q P.LeftBracket ∷ number s kind z ∷ mark r P.RightBracket ∷ []))) (record { called = o; type = TyPointer t }) h
    code_param : (a f g : List Placed) (base t : Ty) (o : Option Ident) (q r s u v : Place) (ps : List LParameter) (i h j : ℕ) → ReadsBase a base i → ReadsStars base f t h → ReadsParams g ps j
        → ReadsParam (a ++ (f ++ mark q P.LeftParen ∷ mark r P.Star ∷ (ident_row o ++ mark s P.RightParen ∷ mark u P.LeftParen ∷ (g ++ mark v P.RightParen ∷ []))))
        (record { called = o; type = TyCode t (types ps) }) (max h (j + 1))

  -- parameters with commas between them
  pub data ReadsParamRow : List Placed → List LParameter → ℕ → Type 0 where
    last_param : (f : List Placed) (p : LParameter) (h : ℕ) → ReadsParam f p h → ReadsParamRow f (p ∷ []) h
    more_params : (f g : List Placed) (q : Place) (p : LParameter) (ps : List LParameter) (h j : ℕ) → ReadsParam f p h → ReadsParamRow g ps j
        → ReadsParamRow (f ++ mark q P.Comma ∷ g) (p ∷ ps) (max h j)

  -- what stands between the brackets of a parameter list
  pub data ReadsParams : List Placed → List LParameter → ℕ → Type 0 where
    no_params : ReadsParams [] [] 0
    some_params : (f : List Placed) (ps : List LParameter) (h : ℕ) → ReadsParamRow f ps h → ReadsParams f (without_void ps) h

-- a variable behind a base type (C11 6.7.6)
pub data ReadsDeclarator (base : Ty) : List Placed → LVariable → ℕ → Type 0 where
  plain : (f : List Placed) (t : Ty) (x : Ident) (h : ℕ) → ReadsStars base f t h → ReadsDeclarator base (f ++ named x ∷ []) (record { called = x; type = t }) h
  array : (f : List Placed) (t : Ty) (x : Ident) (q r s : Place) (kind : Kind) (n h : ℕ) → ReadsStars base f t h → n < 2 ^ 64
      → ReadsDeclarator base (f ++ named x ∷ mark q P.LeftBracket ∷ number s kind (pos n) ∷ mark r P.RightBracket ∷ []) (record { called = x; type = TyArray t n }) h
  code : (f g : List Placed) (t : Ty) (x : Ident) (q r s u v : Place) (ps : List LParameter) (h j : ℕ) → ReadsStars base f t h → ReadsParams g ps j
      → ReadsDeclarator base (f ++ mark q P.LeftParen ∷ mark r P.Star ∷ named x ∷ mark s P.RightParen ∷ mark u P.LeftParen ∷ (g ++ mark v P.RightParen ∷ []))
      (record { called = x; type = TyCode t (types ps) }) (max h (j + 1))

-- a type without a name (C11 6.7.7)
pub data ReadsTypeName : List Placed → Ty → ℕ → Type 0 where
  plain_type : (a f : List Placed) (base t : Ty) (i h : ℕ) → ReadsBase a base i → ReadsStars base f t h → ReadsTypeName (a ++ f) t h
  code_type : (a f g : List Placed) (base t : Ty) (q r s u v : Place) (ps : List LParameter) (i h j : ℕ) → ReadsBase a base i → ReadsStars base f t h → ReadsParams g ps j
      → ReadsTypeName (a ++ (f ++ mark q P.LeftParen ∷ mark r P.Star ∷ mark s P.RightParen ∷ mark u P.LeftParen ∷ (g ++ mark v P.RightParen ∷ []))) (TyCode t (types ps)) (max h (j + 1))
