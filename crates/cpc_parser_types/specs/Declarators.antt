-- How declarators are read: stars, and a name or a pointer to a function.
use Rattle.std.specs.Prelude.{◌≡◌, ℕ, ◌+◌, ◌^◌, Bool, true, false, List, Option, Some, None, max, nat_lt, if◌then◌else◌, pos}
use Rattle.cpc_tree.specs.declared.token.Punctuator.TheVariants as P
use Rattle.cpc_tree.specs.Tokens.{Lexeme, Mark, Named, Number, Placed}
use Rattle.cpc_tree.specs.Syntax.{Ty, TyPointer, TyCode, TyArray}
use Rattle.cpc_tree.specs.Located.{Ident, LVariable, LParameter}
use Rattle.cpc_tree.specs.TypeGrammar.{types, ReadsStars}
use Rattle.cpc_parser_reading.specs.Reading.{Reader, Read, ◌>>=◌, nothing, one, before, after, pair, bind, mapped, headed, optional, one_of}
use Rattle.cpc_parser_reading.specs.Chain.{Linking, chain}
use Rattle.cpc_parser_types.specs.TypeReaders.{ident_of, ident_at, is_star, is_left, is_right, is_unbracket, star_class, lists}

-- a pointer to the type before it
abbrev pub pointed : Unit {0} → Ty → Unit {0} → Ty
pointed c t u = TyPointer t

-- how a type goes on with stars
abbrev pub pointer_links : ℕ → Linking Placed (Unit {0}) Ty (Unit {0})
pointer_links d = record { class = λ t k. star_class k.lexeme; full = λ c h. nat_lt d (h + 1); part = λ c. headed (λ t. nothing); make = pointed; nest = λ c h j. max (h + 1) j }

-- the type itself
abbrev pub just : Ty → Unit {0} → Ty
just t u = t

-- stars behind a type
abbrev pub stars_at : Ty → ℕ → Reader Placed Ty
stars_at base d = chain (mapped (just base) nothing) (pointer_links d)

-- a bracket
abbrev pub is_bracket : Lexeme → Bool
is_bracket (Mark P.LeftBracket) = true
is_bracket k = false

-- a length that an array can have
abbrev pub length_in : Lexeme → Option ℕ
length_in (Number kind (pos n)) = if nat_lt n (2 ^ 64) then Some n else None
length_in k = None

-- the length of an array in its brackets, which can be absent
abbrev pub brackets_at : ℕ → Reader Placed (Option ℕ)
brackets_at d = optional (λ t. is_bracket t.lexeme) 0 d (after (λ t. is_bracket t.lexeme) (before (one (λ t. length_in t.lexeme)) (λ t. is_unbracket t.lexeme)))

-- behind the opening mark of a pointer to a function: its star and name, and the parameters, which count one
abbrev pub code_at : ℕ → Reader Placed (Ident × List LParameter)
code_at d = after (λ t. is_star t.lexeme) (pair (one ident_of) (after (λ t. is_right t.lexeme) (after (λ t. is_left t.lexeme) (λ ts. lists d ts))))

-- what stands behind the stars: a name and brackets, or a pointer to a function
pub data Declared : Type 0 where
  Plain : Ident → Option ℕ → Declared
  Pointer : Ident → List LParameter → Declared

abbrev pub plain_of : Ident → Option ℕ → Declared
plain_of x o = Plain x o

abbrev pub pointer_of : Ident × List LParameter → Declared
pointer_of v = Pointer v.0 v.1

-- which of both
pub data Shape : Type 0 where
  PlainShape : Shape
  PointerShape : Shape

abbrev pub shape_class : Lexeme → Option Shape
shape_class (Named x) = Some PlainShape
shape_class (Mark P.LeftParen) = Some PointerShape
shape_class k = None

-- the least nesting of each
abbrev pub shape_least : Shape → ℕ
shape_least PlainShape = 0
shape_least PointerShape = 1

abbrev pub shape_at : ℕ → Shape → Reader Placed Declared
shape_at d PlainShape = headed (λ t. mapped (plain_of (ident_at t)) (brackets_at d))
shape_at d PointerShape = headed (λ t. mapped pointer_of (code_at d))

abbrev pub declared_at : ℕ → Reader Placed Declared
declared_at d = one_of (λ t. shape_class t.lexeme) shape_least d (λ c. shape_at d c)

-- the variable, if its type is this one with the stars
abbrev pub variable_of : Ty × Declared → LVariable
variable_of (t, Plain x None) = record { called = x; type = t }
variable_of (t, Plain x (Some n)) = record { called = x; type = TyArray t n }
variable_of (t, Pointer x ps) = record { called = x; type = TyCode t (types ps) }

-- a variable behind stars, if the type with them is this one with this nesting
abbrev pub variable_at : Ty → ℕ → ℕ → Reader Placed LVariable
variable_at t h d ts = (declared_at d ts >>= λ y. Read ((t, y.0), max h y.1, y.2)) >>= λ z. Read (variable_of z.0, z.1, z.2)

-- a variable behind a base type
abbrev pub declarator_at : Ty → ℕ → Reader Placed LVariable
declarator_at base d = mapped variable_of (bind (stars_at base d) (λ t. declared_at d))

-- What may stand behind a variable: where its type is the base with stars alone no bracket, and else anything.
abbrev pub DeclaratorEnd : Ty → LVariable → Lexeme → Type 0
DeclaratorEnd base x k = (f : List Placed) (h : ℕ) → ReadsStars base f x.type h → is_bracket k ≡ false

-- what may stand behind stars
abbrev pub StarsEnd : Ty → Lexeme → Type 0
StarsEnd t k = star_class k ≡ None

-- what may stand behind what was declared
abbrev pub DeclaredEnd : Declared → Lexeme → Type 0
DeclaredEnd (Plain x None) k = is_bracket k ≡ false
DeclaredEnd (Plain x (Some n)) k = Unit {0}
DeclaredEnd (Pointer x ps) k = Unit {0}
