-- How types and declarators are printed, and how deep the print nests. A parameter's pointer is a star, or in the tight
-- style the brackets of an array, which nest nothing.
use Rattle.std.specs.Prelude.{ℕ, ◌+◌, ◌<◌, ◌^◌, Bool, true, false, List, [], ◌∷◌, ◌++◌, Option, Some, None, max, nat_lt, cond, pos}
use Rattle.cpc_base.specs.Bytes.{Text}
use Rattle.cpc_num.specs.declared.kinds.Kind.{Kind}
use Rattle.cpc_num.specs.declared.kinds.Kind.TheVariants as N
use Rattle.cpc_tree.specs.declared.token.Keyword.TheVariants as K
use Rattle.cpc_tree.specs.declared.token.Punctuator.TheVariants as P
use Rattle.cpc_tree.specs.Tokens.{Lexeme, Word, Mark, Named, Number}
use Rattle.cpc_tree.specs.Syntax.{Ty, TyVoid, TyInt, TyCondvar, TyPointer, TyCode, TyStruct, TyArray, Tys, NoTy, AndTy, Parameter}

-- a name that can be absent
abbrev pub name_row : Option Text → List Lexeme
name_row None = []
name_row (Some x) = Named x ∷ []

-- the shortest spelling of an integer type
abbrev pub kind_row : Kind → List Lexeme
kind_row N.Char = Word K.Char ∷ []
kind_row N.UChar = Word K.Unsigned ∷ Word K.Char ∷ []
kind_row N.Int = Word K.Int ∷ []
kind_row N.UInt = Word K.Unsigned ∷ []
kind_row N.Long = Word K.Long ∷ []
kind_row N.ULong = Word K.Unsigned ∷ Word K.Long ∷ []

-- the type that a declaration of the type begins with
abbrev pub base_of : Ty → Ty
base_of TyVoid = TyVoid
base_of (TyInt kind) = TyInt kind
base_of TyCondvar = TyCondvar
base_of (TyPointer t) = base_of t
base_of (TyCode result parameters) = base_of result
base_of (TyStruct tag) = TyStruct tag
base_of (TyArray t n) = base_of t

-- how a base type is printed
abbrev pub base_row : Ty → List Lexeme
base_row TyVoid = Word K.Void ∷ []
base_row (TyInt kind) = kind_row kind
base_row TyCondvar = Word K.CpcCondvar ∷ []
base_row (TyPointer t) = base_row t
base_row (TyCode result parameters) = base_row result
base_row (TyStruct tag) = Word K.Struct ∷ Named tag ∷ []
base_row (TyArray t n) = base_row t

-- the stars of pointers over a base type
abbrev pub stars : Ty → List Lexeme
stars (TyPointer t) = stars t ++ Mark P.Star ∷ []
stars t = []

abbrev pub star_count : Ty → ℕ
star_count (TyPointer t) = star_count t + 1
star_count t = 0

-- the kind of the literal of an array's length
abbrev pub length_kind : ℕ → Kind
length_kind n = cond (nat_lt n (2 ^ 31)) N.Int (cond (nat_lt n (2 ^ 63)) N.Long N.ULong)

-- the name of a parameter that is the word void alone and yet counts: such a parameter must have a name
abbrev pub void_name : Text
void_name = 95 ∷ []

-- the name of the first parameter of a type
abbrev pub lone_name : Ty → Tys → Option Text
lone_name TyVoid NoTy = Some void_name
lone_name t ts = None

unfoldable mutual
  -- a parameter, with or without its name
  pub param_row : Bool → Option Text → Ty → List Lexeme
  param_row tight o TyVoid = Word K.Void ∷ name_row o
  param_row tight o (TyInt kind) = kind_row kind ++ name_row o
  param_row tight o TyCondvar = Word K.CpcCondvar ∷ name_row o
  param_row false o (TyPointer t) = base_row t ++ (stars (TyPointer t) ++ name_row o)
  param_row true o (TyPointer t) = base_row t ++ (stars t ++ (name_row o ++ Mark P.LeftBracket ∷ Mark P.RightBracket ∷ []))
  param_row tight o (TyCode t ts) = base_row t ++ (stars t ++ Mark P.LeftParen ∷ Mark P.Star ∷ (name_row o ++ Mark P.RightParen ∷ Mark P.LeftParen ∷ (list_row tight ts ++ Mark P.RightParen ∷ [])))
  param_row tight o (TyStruct tag) = Word K.Struct ∷ Named tag ∷ name_row o
  param_row tight o (TyArray t n) = []

  -- further parameters without names, each behind a comma
  pub rest_row : Bool → Tys → List Lexeme
  rest_row tight NoTy = []
  rest_row tight (AndTy t ts) = Mark P.Comma ∷ (param_row tight None t ++ rest_row tight ts)

  -- what stands between the brackets of a list of them
  pub list_row : Bool → Tys → List Lexeme
  list_row tight NoTy = Word K.Void ∷ []
  list_row tight (AndTy t ts) = param_row tight (lone_name t ts) t ++ rest_row tight ts

-- a parameter's pointer over so many stars: its own star counts, brackets don't
abbrev pub pointer_depth : Bool → ℕ → ℕ
pointer_depth false n = n + 1
pointer_depth true n = n

unfoldable mutual
  pub param_depth : Bool → Ty → ℕ
  param_depth tight (TyPointer t) = pointer_depth tight (star_count t)
  param_depth tight (TyCode t ts) = max (star_count t) (types_depth tight ts + 1)
  param_depth tight t = 0

  pub types_depth : Bool → Tys → ℕ
  types_depth tight NoTy = 0
  types_depth tight (AndTy t NoTy) = param_depth tight t
  types_depth tight (AndTy t (AndTy u us)) = max (param_depth tight t) (types_depth tight (AndTy u us))

-- parameters with their names
unfoldable pub params_row : Bool → List Parameter → List Lexeme
params_row tight [] = Word K.Void ∷ []
params_row tight (p ∷ []) = param_row tight p.called p.type
params_row tight (p ∷ (q ∷ ps)) = param_row tight p.called p.type ++ Mark P.Comma ∷ params_row tight (q ∷ ps)

unfoldable pub params_depth : Bool → List Parameter → ℕ
params_depth tight [] = 0
params_depth tight (p ∷ []) = param_depth tight p.type
params_depth tight (p ∷ (q ∷ ps)) = max (param_depth tight p.type) (params_depth tight (q ∷ ps))

-- what stands behind the base type: of a variable with its name, of a type name without
unfoldable pub declarator_row : Bool → Option Text → Ty → List Lexeme
declarator_row tight o (TyArray t n) = stars t ++ (name_row o ++ Mark P.LeftBracket ∷ Number (length_kind n) (pos n) ∷ Mark P.RightBracket ∷ [])
declarator_row tight o (TyCode t ts) = stars t ++ Mark P.LeftParen ∷ Mark P.Star ∷ (name_row o ++ Mark P.RightParen ∷ Mark P.LeftParen ∷ (list_row tight ts ++ Mark P.RightParen ∷ []))
declarator_row tight o t = stars t ++ name_row o

unfoldable pub declarator_depth : Bool → Ty → ℕ
declarator_depth tight (TyArray t n) = star_count t
declarator_depth tight (TyCode t ts) = max (star_count t) (types_depth tight ts + 1)
declarator_depth tight t = star_count t

-- the tokens of a type name
abbrev pub type_row : Bool → Ty → List Lexeme
type_row tight t = base_row t ++ declarator_row tight None t

-- pointers over a base type
abbrev pub IsStarred : Ty → Type 0
IsStarred (TyPointer t) = IsStarred t
IsStarred (TyCode t ts) = ⊥
IsStarred (TyArray t n) = ⊥
IsStarred t = Unit {0}

unfoldable mutual
  -- what a type name and a parameter can be
  pub PrintableType : Ty → Type 0
  PrintableType (TyPointer t) = IsStarred t
  PrintableType (TyCode t ts) = IsStarred t × PrintableTypes ts
  PrintableType (TyArray t n) = ⊥
  PrintableType t = Unit {0}

  pub PrintableTypes : Tys → Type 0
  PrintableTypes NoTy = Unit {0}
  PrintableTypes (AndTy t ts) = PrintableType t × PrintableTypes ts

-- what a variable can be
unfoldable pub PrintableVariable : Ty → Type 0
PrintableVariable (TyArray t n) = IsStarred t × (n < 2 ^ 64)
PrintableVariable (TyPointer t) = IsStarred t
PrintableVariable (TyCode t ts) = IsStarred t × PrintableTypes ts
PrintableVariable t = Unit {0}

abbrev pub AllPrintable : List Parameter → Type 0
AllPrintable [] = Unit {0}
AllPrintable (p ∷ ps) = PrintableType p.type × AllPrintable ps
