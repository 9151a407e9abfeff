-- What contracts see of what is read of items.
use Rattle.std.specs.Prelude.{map, ◌≡◌, ℕ, ◌≤◌, Bool, false, List, [], ◌∷◌, ◌++◌, Option, Some, None, Result, Ok, Err, nat_lt}
use Rattle.cpc_base.specs.declared.stop.Stop as GStop
use Rattle.cpc_base.specs.declared.stop.Stop.TheVariants as S
pub use Rattle.cpc_base.specs.Stops.{IfFault}
use Rattle.cpc_tree.specs.declared.program.Mode.{Mode}
use Rattle.cpc_tree.specs.declared.program.Mode.TheVariants as M
use Rattle.cpc_tree.specs.declared.token.Keyword.TheVariants as K
use Rattle.cpc_tree.specs.Tokens.{Lexeme, Word, Placed}
use Rattle.cpc_tree.specs.Located.{LExpr, LItem, LProgram, LVariable, LParameter}
use Rattle.cpc_tree.specs.Locate.{located, ident, located_parameter}
use Rattle.cpc_tree.specs.declared.program.Program as GProgram
use Rattle.cpc_tree.specs.Erase.{Names, type_of}
use Rattle.cpc_tree.specs.declared.program.Word as GWord
use Rattle.cpc_tree.specs.declared.program.CType as GType
use Rattle.cpc_tree.specs.declared.program.Parameter as GParameter
use Rattle.cpc_tree.specs.ItemGrammar.{Head}
use Rattle.cpc_parser_types.specs.TypeReaders.{is_left, is_comma, list_at, starts_base}
use Rattle.cpc_parser_types.specs.Declarators.{declarator_at}
use Rattle.cpc_tree.specs.Syntax.{Ty}
use Rattle.cpc_parser.specs.declared.declaration.Seen as GSeen
use Rattle.cpc_parser.specs.declared.declaration.Seen.TheVariants as V
use Rattle.cpc_parser_reading.specs.Reading.{Reader, Read, ◌>>=◌, after, before, mapped, optional}
use Rattle.cpc_parser_reading.specs.Chain.{Linking, links}
use Rattle.cpc_parser_reading.specs.Lists.{several, many, separated}
use Rattle.cpc_parser_reading.specs.Answers.{whole}
use Rattle.cpc_parser.specs.ItemReaders.{named_at, is_equal, is_semicolon, line_at, start_at, Seen, Variable, Function, seen, first_at, global_of, global_at, rows, item_at, starts_item, program_at}

-- what is read, its nesting aside
abbrev pub flat : {T A : Type 0} → Reader T A → Reader T A
flat F ts = F ts >>= λ x. Read (x.0, 0, x.2)

-- what is read, put behind what was there, its nesting aside
abbrev pub onto : {T A : Type 0} → List A → Reader T (List A) → Reader T (List A)
onto old F ts = F ts >>= λ x. Read (old ++ x.0, 0, x.2)

-- how the items of a program follow one another
abbrev pub item_links : ℕ → Linking Placed (Unit {0}) (List (List LItem)) (List LItem)
item_links d = several (λ t. starts_item t.lexeme) (nat_lt d 0) (item_at d)

-- tokens that begin an item
abbrev pub begins_item : List Placed → Bool
begins_item [] = false
begins_item (t ∷ rest) = starts_item t.lexeme

-- The items have been read of the tokens, and the rest is left.
abbrev pub InItems : ℕ → List Placed → List LItem → List Placed → Type 0
InItems d ts done rest = (vs : List (List LItem)) × (h : ℕ) × (h ≤ d) × (done ≡ rows vs) × (links (item_links d) [] 0 ts ≡ links (item_links d) vs h rest)

-- all of the tokens as items
abbrev pub program_whole : ℕ → Reader Placed (List LItem)
program_whole d ts = whole (program_at d ts)

-- the mode of a word
abbrev pub mode_in : Lexeme → Option Mode
mode_in (Word K.Extern) = Some M.Extern
mode_in (Word K.Cps) = Some M.Cps
mode_in (Word K.Detached) = Some M.Detached
mode_in k = None

-- the mode that tokens begin with
abbrev pub mode_begun : List Placed → Option Mode
mode_begun [] = None
mode_begun (t ∷ rest) = mode_in t.lexeme

-- the program is read, and no fault is told; want of memory says nothing
abbrev pub IsRead : {F : Type 0} → LProgram → Result GProgram.Program (GStop.Stop F) → Type 0
IsRead q (Ok p) = located p ≡ q
IsRead q (Err S.Memory) = Unit {0}
IsRead q (Err (S.Fault f)) = ⊥

-- a variable by a table of names
abbrev pub variable_of : Names → GWord.Word → GType.CType → LVariable
variable_of names w t = record { called = ident names w; type = type_of names t }

-- the parameters of a function in their brackets
abbrev pub signature_at : ℕ → Reader Placed (List LParameter)
signature_at d = after (λ t. is_left t.lexeme) (list_at d)

-- a head by a table of names
abbrev pub head_view : Names → GWord.Word → GType.CType → List GParameter.Parameter → Head
head_view names w t ps = record { called = ident names w; result = type_of names t; parameters = map (located_parameter names) ps }

-- what a global starts with, if it is written
abbrev pub starting_at : ℕ → Reader Placed (Option LExpr)
starting_at d = optional (λ t. is_equal t.lexeme) 1 d (start_at d)

-- what has been read first behind a base type, by a table of names
abbrev pub seen_view : Names → GSeen.Seen → Seen
seen_view names (V.Variable w t) = Variable (variable_of names w t)
seen_view names (V.Function x) = Function (head_view names x.word x.result x.parameters.items)

-- what stands first behind a base type
abbrev pub seen_at : Ty → ℕ → Reader Placed Seen
seen_at b d = mapped seen (first_at b d)

-- further globals and the end of their declaration
abbrev pub row_at : Ty → ℕ → Reader Placed (List LItem)
row_at b d = mapped (map global_of) (before (many (λ t. is_comma t.lexeme) 0 d (after (λ t. is_comma t.lexeme) (global_at b d))) (λ t. is_semicolon t.lexeme))

-- one further global behind its comma
abbrev pub more_at : Ty → ℕ → Reader Placed LItem
more_at b d = mapped global_of (after (λ t. is_comma t.lexeme) (global_at b d))

-- how further globals follow one another
abbrev pub row_links : Ty → ℕ → Linking Placed (Unit {0}) (List (LVariable × Option LExpr)) (LVariable × Option LExpr)
row_links b d = several (λ t. is_comma t.lexeme) (nat_lt d 0) (after (λ t. is_comma t.lexeme) (global_at b d))

-- Further globals have been read of the tokens and put behind the old items, and the rest is left.
abbrev pub InRow : Ty → ℕ → List Placed → List LItem → List LItem → List Placed → Type 0
InRow b d ts old done rest = (vs : List (LVariable × Option LExpr)) × (h : ℕ) × (h ≤ d) × (done ≡ old ++ map global_of vs) × (links (row_links b d) [] 0 ts ≡ links (row_links b d) vs h rest)

-- a name behind a type with its stars, and what goes on
abbrev pub named_seen_at : Ty → ℕ → Reader Placed Seen
named_seen_at t d = mapped seen (named_at t d)

-- the fields of one declaration behind its base type
abbrev pub field_row_at : Ty → ℕ → Reader Placed (List LVariable)
field_row_at b d = before (separated (λ t. is_comma t.lexeme) (declarator_at b d)) (λ t. is_semicolon t.lexeme)

-- what is left of them
abbrev pub field_left_at : Ty → ℕ → List LVariable → ℕ → Reader Placed (List LVariable)
field_left_at b d vs h = links (several (λ t. is_comma t.lexeme) false (after (λ t. is_comma t.lexeme) (declarator_at b d))) vs h

-- Fields of one declaration have been read of the tokens and put behind the old ones, and the rest is left.
abbrev pub InFields : Ty → ℕ → List Placed → List LVariable → List LVariable → List Placed → Type 0
InFields b d ts old done rest = (vs : List LVariable) × (h : ℕ) × (h ≤ d) × (done ≡ old ++ vs) × (separated (λ t. is_comma t.lexeme) (declarator_at b d) ts ≡ field_left_at b d vs h rest)

-- how the declarations of fields follow one another
abbrev pub line_links : ℕ → Linking Placed (Unit {0}) (List (List LVariable)) (List LVariable)
line_links d = several (λ t. starts_base t.lexeme) (nat_lt d 0) (line_at d)

-- Declarations of fields have been read of the tokens, the first of them and further ones, and the rest is left.
abbrev pub InLines : ℕ → List Placed → List LVariable → List Placed → Type 0
InLines d ts done rest = (v : List LVariable) × (k : ℕ) × (us : List Placed) × (vs : List (List LVariable)) × (h : ℕ) × (h ≤ d) × (line_at d ts ≡ Read (v, k, us)) × (done ≡ v ++ rows vs) × (links (line_links d) [] 0 us ≡ links (line_links d) vs h rest)
