-- How items are read. A list of tokens is read from the left; the first token of an item chooses its class.
use Rattle.std.specs.Prelude.{ℕ, Bool, false, is_some, List, [], ◌∷◌, ◌++◌, map, Option, Some, None, max, nat_lt, if◌then◌else◌}
use Rattle.cpc_base.specs.declared.stop.Place.{Place}
use Rattle.cpc_tree.specs.declared.program.Mode.{Mode}
use Rattle.cpc_tree.specs.declared.program.Mode.TheVariants as M
use Rattle.cpc_tree.specs.declared.program.UnaryOp.TheVariants as U
use Rattle.cpc_tree.specs.declared.token.Keyword.TheVariants as K
use Rattle.cpc_tree.specs.declared.token.Punctuator.TheVariants as P
use Rattle.cpc_tree.specs.Tokens.{Lexeme, Word, Mark, Number, Character, Quoted, Placed}
use Rattle.cpc_tree.specs.Syntax.{Ty, TyArray, TyCode, TyStruct}
use Rattle.cpc_tree.specs.Located.{Ident, LExpr, LInteger, LCharacter, LText, LUnary, LStmt, LVariable, LParameter, LItem, LStruct, LGlobal, LPrototype}
use Rattle.cpc_tree.specs.TypeGrammar.{types}
use Rattle.cpc_tree.specs.StmtGrammar.{begin}
use Rattle.cpc_tree.specs.ItemGrammar.{Head, all_named, defined}
use Rattle.cpc_parser_reading.specs.Reading.{Reader, Read, ◌>>=◌, below, nothing, one, before, after, bind, pair, mapped, made, headed, either, optional, one_of}
use Rattle.cpc_parser_reading.specs.Chain.{Linking, chain}
use Rattle.cpc_parser_reading.specs.Lists.{many, separated}
use Rattle.cpc_parser_reading.specs.Operators.{tail}
use Rattle.cpc_parser_types.specs.Begins.{is_mark}
use Rattle.cpc_parser_types.specs.TypeReaders.{Ending, first_word, ident_of, base_at, is_left, is_unbracket, is_comma, starts_base, list_at}
use Rattle.cpc_parser_types.specs.Declarators.{stars_at, declarator_at, code_at, length_in}
use Rattle.cpc_parser_statements.specs.StmtReaders.{block_at}

-- Single marks.
abbrev pub is_semicolon : Lexeme → Bool
is_semicolon k = is_mark P.Semicolon k

abbrev pub is_equal : Lexeme → Bool
is_equal k = is_mark P.Equal k

abbrev pub is_brace : Lexeme → Bool
is_brace k = is_mark P.LeftBrace k

abbrev pub is_unbrace : Lexeme → Bool
is_unbrace k = is_mark P.RightBrace k

-- what is read, and the place where it begins
abbrev pub noted : {A : Type 0} → Reader Placed A → Reader Placed (Place × A)
noted F ts = F ts >>= λ x. Read ((begin ts, x.0), x.1, x.2)

-- the second of two parts
abbrev pub second : {A B : Type 0} → A × B → B
second v = v.1

-- what may stand behind the parameters of a function: the end of a prototype, or a body
pub data Behind : Type 0 where
  Ends : Behind
  Begins : Behind

-- a body may stand behind parameters with names, where the function is not declared as one of another file
abbrev pub has_body : Mode → Head → Bool
has_body M.Extern x = false
has_body mode x = all_named (λ (p : LParameter). p.called) x.parameters

-- the class of the token behind the parameters
abbrev pub behind_class : Bool → Lexeme → Option Behind
behind_class b (Mark P.Semicolon) = Some Ends
behind_class b (Mark P.LeftBrace) = if b then Some Begins else None
behind_class b t = None

-- the least nesting of each: a body counts one
abbrev pub behind_low : Behind → ℕ
behind_low Ends = 0
behind_low Begins = 1

-- a prototype
abbrev pub declared : Place → Mode → Head → Unit {0} → List LItem
declared q mode x u = LPrototype q mode x.called x.result x.parameters ∷ []

-- a function, as one item
abbrev pub function_of : Place → Mode → Head → Place → List LStmt → List LItem
function_of q mode x r ss = defined q r mode x ss ∷ []

-- the part of each class
abbrev pub behind_part : Place → Mode → Head → ℕ → Behind → Reader Placed (List LItem)
behind_part q mode x d Ends = headed (λ t. mapped (declared q mode x) nothing)
behind_part q mode x d Begins = headed (λ t. made (function_of q mode x t.place) (block_at (below d)))

-- what stands behind the parameters of a function that begins at the place
abbrev pub behind_at : Place → Mode → Head → ℕ → Reader Placed (List LItem)
behind_at q mode x d = one_of (λ t. behind_class (has_body mode x) t.lexeme) behind_low d (behind_part q mode x d)

-- the head that has been read
abbrev pub head_of : {A : Type 0} → A × (Ty × (Ident × List LParameter)) → Head
head_of u = record { called = u.1.1.0; result = u.1.0; parameters = u.1.1.1 }

-- the head of a function: its result, its name and its parameters
abbrev pub head_at : ℕ → Reader Placed Head
head_at d = mapped head_of (bind (base_at d) (λ v. pair (stars_at v.0 d) (pair (one ident_of) (after (λ t. is_left t.lexeme) (list_at d)))))

-- a function or a prototype behind the word before it
abbrev pub moded_at : Place → Mode → ℕ → Reader Placed (List LItem)
moded_at q mode d = mapped second (bind (head_at d) (λ x. behind_at q mode x d))

-- the fields of one declaration
abbrev pub line_at : ℕ → Reader Placed (List LVariable)
line_at d = mapped second (bind (base_at d) (λ v. before (separated (λ t. is_comma t.lexeme) (declarator_at v.0 d)) (λ t. is_semicolon t.lexeme)))

-- what stands in several rows
abbrev pub rows : {A : Type 0} → List (List A) → List A
rows [] = []
rows (xs ∷ rest) = xs ++ rows rest

-- one row, and further ones
abbrev pub joined : {A : Type 0} → List A × List (List A) → List A
joined v = v.0 ++ rows v.1

-- the fields of a struct
abbrev pub fields_at : ℕ → Reader Placed (List LVariable)
fields_at d = mapped joined (pair (line_at d) (many (λ t. starts_base t.lexeme) 0 d (line_at d)))

-- a struct
abbrev pub structure : Ident → List LVariable → List LItem
structure tag xs = LStruct tag xs ∷ []

-- a struct behind its tag
abbrev pub structure_at : Ident → ℕ → Reader Placed (List LItem)
structure_at tag d = mapped (structure tag) (after (λ t. is_brace t.lexeme) (before (before (fields_at d) (λ t. is_unbrace t.lexeme)) (λ t. is_semicolon t.lexeme)))

-- the classes of what a global starts with
pub data Initial : Type 0 where
  Literal : Initial
  Negative : Initial

abbrev pub initial_class : Lexeme → Option Initial
initial_class (Number kind z) = Some Literal
initial_class (Character z) = Some Literal
initial_class (Quoted bytes) = Some Literal
initial_class (Mark P.Minus) = Some Negative
initial_class t = None

-- the least nesting of each
abbrev pub initial_low : Initial → ℕ
initial_low Literal = 1
initial_low Negative = 2

-- an integer
abbrev pub integer_in : Place → Lexeme → Option LExpr
integer_in q (Number kind z) = Some (LInteger q kind z)
integer_in q t = None

-- a literal
abbrev pub literal_in : Place → Lexeme → Option LExpr
literal_in q (Character z) = Some (LCharacter q z)
literal_in q (Quoted bytes) = Some (LText q bytes)
literal_in q t = integer_in q t

-- an expression as it is
abbrev pub same : LExpr → LExpr
same v = v

-- an integer with its minus
abbrev pub negative : Place → LExpr → LExpr
negative q v = LUnary q U.Minus v

-- the part of each class
abbrev pub initial_part : ℕ → Initial → Reader Placed LExpr
initial_part d Literal = made same (one (λ t. literal_in t.place t.lexeme))
initial_part d Negative = headed (λ t. made (negative t.place) (made same (one (λ u. integer_in u.place u.lexeme))))

-- what a global starts with
abbrev pub initial_at : ℕ → Reader Placed LExpr
initial_at d = one_of (λ t. initial_class t.lexeme) initial_low d (initial_part d)

-- a mark and what a global starts with
abbrev pub start_at : ℕ → Reader Placed LExpr
start_at d = after (λ t. is_equal t.lexeme) (initial_at d)

-- a further global
abbrev pub global_at : Ty → ℕ → Reader Placed (LVariable × Option LExpr)
global_at b d = tail (declarator_at b d) (λ t. is_equal t.lexeme) (λ h. nat_lt d 1) (λ h j. max h j) (start_at d)

-- a global, as an item
abbrev pub global_of : LVariable × Option LExpr → LItem
global_of v = LGlobal v.0.called v.0.type v.1

-- the globals of a declaration from its first variable
abbrev pub globals_of : LVariable → Option LExpr × List (LVariable × Option LExpr) → List LItem
globals_of x v = map global_of ((x, v.0) ∷ v.1)

-- what stands behind the first variable of a declaration
abbrev pub globals_at : Ty → LVariable → ℕ → Reader Placed (List LItem)
globals_at b x d = mapped (globals_of x) (pair (optional (λ t. is_equal t.lexeme) 1 d (start_at d)) (before (many (λ t. is_comma t.lexeme) 0 d (after (λ t. is_comma t.lexeme) (global_at b d))) (λ t. is_semicolon t.lexeme)))

-- What has been read behind a base type: a variable that can become an array or a function, another variable, or the head of a function.
pub data First : Type 0 where
  Alone : Ident → Ty → First
  Closed : LVariable → First
  Called : Head → First

-- how a name goes on
pub data Going : Type 0 where
  Brackets : Going
  Parens : Going

abbrev pub first_class : First → Lexeme → Option Going
first_class (Alone x t) (Mark P.LeftBracket) = Some Brackets
first_class (Alone x t) (Mark P.LeftParen) = Some Parens
first_class v k = None

-- what goes on: the number of elements, or parameters
pub data Part : Type 0 where
  size_part : ℕ → Part
  list_part : List LParameter → Part

-- with what goes on
abbrev pub first_make : Going → First → Part → First
first_make c (Alone x t) (size_part n) = Closed (record { called = x; type = TyArray t n })
first_make c (Alone x t) (list_part ps) = Called (record { called = x; result = t; parameters = ps })
first_make c v p = v

-- the part of each class
abbrev pub first_part : ℕ → Going → Reader Placed Part
first_part d Brackets = headed (λ t. mapped size_part (before (one (λ u. length_in u.lexeme)) (λ u. is_unbracket u.lexeme)))
first_part d Parens = headed (λ t. mapped list_part (list_at d))

-- how a name goes on
abbrev pub first_links : ℕ → Linking Placed Going First Part
first_links d = record { class = λ v t. first_class v t.lexeme; full = λ c h. false; part = first_part d; make = first_make; nest = λ c h j. max h j }

-- a name alone
abbrev pub alone : Ty → Ident → First
alone t x = Alone x t

-- a name, and what goes on
abbrev pub named_at : Ty → ℕ → Reader Placed First
named_at t d = chain (mapped (alone t) (one ident_of)) (first_links d)

-- a pointer to a function
abbrev pub coded : Ty → Ident × List LParameter → First
coded t v = Closed (record { called = v.0; type = TyCode t (types v.1) })

abbrev pub pointer_at : Ty → ℕ → Reader Placed First
pointer_at t d = mapped (coded t) (after (λ u. is_left u.lexeme) (code_at d))

-- what stands first behind a base type
abbrev pub first_at : Ty → ℕ → Reader Placed First
first_at b d = mapped second (bind (stars_at b d) (λ t. either (λ u. is_left u.lexeme) 1 d (pointer_at t d) (named_at t d)))

-- whether a variable or a function has been read
pub data Seen : Type 0 where
  Variable : LVariable → Seen
  Function : Head → Seen

abbrev pub seen : First → Seen
seen (Alone x t) = Variable (record { called = x; type = t })
seen (Closed x) = Variable x
seen (Called x) = Function x

-- what stands behind it
abbrev pub further_at : Place → Ty → Seen → ℕ → Reader Placed (List LItem)
further_at q b (Variable x) d = globals_at b x d
further_at q b (Function x) d = behind_at q M.Native x d

-- what stands behind the base type of a declaration that begins at the place
abbrev pub plain_at : Place → Ty → ℕ → Reader Placed (List LItem)
plain_at q b d = mapped second (bind (first_at b d) (λ v. further_at q b (seen v) d))

-- what stands behind the word struct: a struct, or a declaration with a struct's type
abbrev pub tagged_at : Place → ℕ → Reader Placed (List LItem)
tagged_at q d = mapped second (bind (one ident_of) (λ tag. either (λ t. is_brace t.lexeme) 0 d (structure_at tag d) (plain_at q (TyStruct tag.text) d)))

-- a declaration with another base type
abbrev pub based_at : ℕ → Reader Placed (List LItem)
based_at d = mapped second (bind (noted (base_at d)) (λ v. plain_at v.0 v.1.0 d))

-- the classes of items
pub data Class : Type 0 where
  Moded : Mode → Class
  Tagged : Class
  Based : Class

-- the class of a base type's word
abbrev pub based_class : Option (Ty × Ending) → Option Class
based_class None = None
based_class (Some v) = Some Based

-- the class of a first token
abbrev pub item_class : Lexeme → Option Class
item_class (Word K.Extern) = Some (Moded M.Extern)
item_class (Word K.Cps) = Some (Moded M.Cps)
item_class (Word K.Detached) = Some (Moded M.Detached)
item_class (Word K.Struct) = Some Tagged
item_class t = based_class (first_word t)

-- the part of each class
abbrev pub item_part : ℕ → Class → Reader Placed (List LItem)
item_part d (Moded mode) = headed (λ t. moded_at t.place mode d)
item_part d Tagged = headed (λ t. tagged_at t.place d)
item_part d Based = based_at d

-- the items of one declaration
abbrev pub item_at : ℕ → Reader Placed (List LItem)
item_at d = one_of (λ t. item_class t.lexeme) (λ c. 0) d (item_part d)

-- what begins an item
abbrev pub starts_item : Lexeme → Bool
starts_item t = is_some (item_class t)

-- as many items as begin
unfoldable pub program_at : ℕ → Reader Placed (List LItem)
program_at d = mapped rows (many (λ t. starts_item t.lexeme) 0 d (item_at d))
