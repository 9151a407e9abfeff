-- What contracts see of what is read of types.
use Rattle.std.specs.Prelude.{ℕ, Bool, false, List, [], ◌∷◌, Option, Some, None, map, max}
use Rattle.cpc_num.specs.declared.kinds.Kind.{Kind}
use Rattle.cpc_tree.specs.Erase.{Names, text_of}
use Rattle.cpc_tree.specs.Located.{Ident, LParameter}
use Rattle.cpc_tree.specs.TypeGrammar.{types, is_void}
use Rattle.cpc_tree.specs.Syntax.{Ty, TyVoid, TyInt, TyCondvar, TyPointer, TyCode, TyStruct, TyArray}
use Rattle.cpc_tree.specs.Tokens.{Placed}
use Rattle.cpc_parser_reading.specs.Reading.{Reader, Read, ◌>>=◌, one, expect, before, after, mapped, optional}
use Rattle.cpc_parser_reading.specs.Chain.{links}
use Rattle.cpc_parser_reading.specs.Lists.{separated}
use Rattle.cpc_parser_types.specs.TypeReaders.{Ending, Done, LongWord, SignedWord, UnsignedWord, word_links, base_at, typed_at, starts_base, ident_of, is_name, is_number, is_unbracket, is_comma, is_left, is_right, lists, param_at, param_of, params_of, piece_type, type_name_at}
use Rattle.cpc_parser_types.specs.Declarators.{is_bracket, brackets_at}
use Rattle.cpc_parser_types.specs.declared.base.Base as GBase
use Rattle.cpc_parser_types.specs.declared.base.Base.TheVariants as B
use Rattle.cpc_parser_types.specs.declared.base.Ending as GEnding
use Rattle.cpc_parser_types.specs.declared.base.Ending.TheVariants as E

-- a base type by a table of names
abbrev pub base_type : Names → GBase.Base → Ty
base_type names B.Void = TyVoid
base_type names (B.Int kind) = TyInt kind
base_type names B.Condvar = TyCondvar
base_type names (B.Struct tag) = TyStruct (text_of names tag)

-- tokens that begin with a type
abbrev pub begins_base : List Placed → Bool
begins_base [] = false
begins_base (t ∷ rest) = starts_base t.lexeme

-- a type, what may go on aside
abbrev pub only_type : Ty × Ending → Ty
only_type v = v.0

-- a base type
abbrev pub base_reader : ℕ → Reader Placed Ty
base_reader d = mapped only_type (base_at d)

-- a base type and its stars
abbrev pub typed_reader : ℕ → Reader Placed Ty
typed_reader d = mapped only_type (typed_at d)

-- what is left of a base type
abbrev pub words_at : Ty × Ending → Reader Placed Ty
words_at v = mapped only_type (links word_links v 0)

-- what may still go on a base type
abbrev pub ending_of : GEnding.Ending → Ending
ending_of E.Done = Done
ending_of (E.Long kind) = LongWord kind
ending_of E.Signed = SignedWord
ending_of E.Unsigned = UnsignedWord

abbrev pub first_pair : Names → GBase.Base × GEnding.Ending → Ty × Ending
first_pair names x = (base_type names x.0, ending_of x.1)

abbrev pub next_pair : Kind × GEnding.Ending → Kind × Ending
next_pair x = (x.0, ending_of x.1)

-- a name that can be absent
abbrev pub maybe_name_at : ℕ → Reader Placed (Option Ident)
maybe_name_at d = optional (λ t. is_name t.lexeme) 0 d (one ident_of)

-- an integer that can be absent
abbrev pub maybe_number_at : ℕ → Reader Placed (Option (Unit {0}))
maybe_number_at d = optional (λ t. is_number t.lexeme) 0 d (expect (λ t. is_number t.lexeme))

-- the same, no matter whether it stands there
abbrev pub any : Option (Unit {0}) → Unit {0}
any o = tt

abbrev pub skipped_number_at : ℕ → Reader Placed (Unit {0})
skipped_number_at d = mapped any (maybe_number_at d)

-- the type, or the array of it with the length
abbrev pub array_of : Ty → Option ℕ → Ty
array_of t None = t
array_of t (Some n) = TyArray t n

-- what brackets make of the type of a variable
abbrev pub array_at : Ty → ℕ → Reader Placed Ty
array_at t d = mapped (array_of t) (brackets_at d)

-- the type, or a pointer to it
abbrev pub pointer_to : Ty → Option (Option (Unit {0})) → Ty
pointer_to t None = t
pointer_to t (Some u) = TyPointer t

-- what brackets make of the type of a parameter
abbrev pub pointed_at : Ty → ℕ → Reader Placed Ty
pointed_at t d = mapped (pointer_to t) (optional (λ u. is_bracket u.lexeme) 0 d (after (λ u. is_bracket u.lexeme) (before (maybe_number_at d) (λ u. is_unbracket u.lexeme))))

-- a pointer to a function from the mark behind its star or name on, if its result is this type with this nesting
abbrev pub coded_at : Ty → ℕ → ℕ → Reader Placed Ty
coded_at t h d ts = after (λ u. is_right u.lexeme) (after (λ u. is_left u.lexeme) (λ us. lists d us)) ts >>= λ x. Read (TyCode t (types x.0), max h x.1, x.2)

-- a parameter, a row of them, and what stands between the brackets of a parameter list
abbrev pub parameter_at : ℕ → Reader Placed LParameter
parameter_at d = mapped param_of (param_at (λ us. lists d us) d)

abbrev pub row_at : ℕ → Reader Placed (List LParameter)
row_at d = mapped (map param_of) (separated (λ t. is_comma t.lexeme) (param_at (λ us. lists d us) d))

abbrev pub parameters_at : ℕ → Reader Placed (List LParameter)
parameters_at d = mapped params_of (optional (λ t. starts_base t.lexeme) 0 d (separated (λ t. is_comma t.lexeme) (param_at (λ us. lists d us) d)))

-- a list of the word void alone
abbrev pub void_alone : List LParameter → Bool
void_alone [] = false
void_alone (p ∷ []) = is_void p.called p.type
void_alone (p ∷ (q ∷ ps)) = false

-- a type without a name
abbrev pub type_at : ℕ → Reader Placed Ty
type_at d = mapped piece_type (type_name_at d)
