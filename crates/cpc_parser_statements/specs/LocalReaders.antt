-- How declarations of locals are read.
use Rattle.std.specs.Prelude.{◌≡◌, ℕ, ◌+◌, false, List, [], ◌∷◌, ◌++◌, Option, Some, None, max, nat_lt}
use Rattle.cpc_base.specs.declared.stop.Place.{Place}
use Rattle.cpc_tree.specs.declared.token.Punctuator.TheVariants as P
use Rattle.cpc_tree.specs.Tokens.{Lexeme, Placed}
use Rattle.cpc_tree.specs.Syntax.{Ty}
use Rattle.cpc_tree.specs.Located.{LStmt, Declare, LVariable}
use Rattle.cpc_tree.specs.StmtGrammar.{Right, begun}
use Rattle.cpc_parser_reading.specs.Reading.{Reader, nothing, after, bind, pair, mapped, made, below}
use Rattle.cpc_parser_reading.specs.Lists.{separated, Last}
use Rattle.cpc_parser_reading.specs.Operators.{tail}
use Rattle.cpc_parser_types.specs.TypeReaders.{Ending, base_at}
use Rattle.cpc_parser_types.specs.Declarators.{declarator_at, DeclaratorEnd}
use Rattle.cpc_parser_types.specs.Begins.{is_mark}
use Rattle.cpc_parser_statements.specs.SimpleReaders.{standing, right_at, RightEnd}

-- a declared local, and its initialiser if it has one
abbrev pub Local : Type 0
Local = LVariable × Option Right

-- what the declaration of a local at a place is
abbrev pub local_of : Place → Local → List LStmt
local_of q (x, None) = Declare q x.called x.type None ∷ []
local_of q (x, Some r) = begun q x r

abbrev pub locals_of : Place → List Local → List LStmt
locals_of q [] = []
locals_of q (x ∷ xs) = local_of q x ++ locals_of q xs

-- a value as it is
abbrev pub itself : {A : Type 0} → A → A
itself v = v

abbrev pub behind_of : Unit {0} × Right → Right
behind_of v = v.1

-- an initialiser, and the name that is written to, which is an expression
abbrev pub start_at : ℕ → Reader Placed Right
start_at d = mapped behind_of (pair (made itself nothing) (right_at d))

-- what follows a declarator, if there is room for it
abbrev pub part_at : Ty → ℕ → Reader Placed Local
part_at base d = tail (made itself (declarator_at base (below d))) (λ t. is_mark P.Equal t.lexeme) (λ h. nat_lt d 2) (λ h j. max h (j + 1)) (after (λ t. is_mark P.Equal t.lexeme) (start_at (below d)))

-- a declaration: the place of its first token and its type, and the locals
abbrev pub Locals : Type 0
Locals = (Place × (Ty × Ending)) × List Local

abbrev pub local_at : ℕ → Reader Placed Locals
local_at d = bind (standing (base_at d)) (λ v. separated (λ t. is_mark P.Comma t.lexeme) (part_at v.1.0 d))

-- the statements of a declaration
abbrev pub declared : Locals → List LStmt
declared v = locals_of v.0.0 v.1

-- what may stand behind a local, and behind a declaration
abbrev pub PartEnd : Ty → Local → Lexeme → Type 0
PartEnd base (x, None) k = DeclaratorEnd base x k × (is_mark P.Equal k ≡ false)
PartEnd base (x, Some r) k = RightEnd r k

abbrev pub LocalEnd : Locals → Lexeme → Type 0
LocalEnd v k = Last (PartEnd v.0.1.0) v.1 k × (is_mark P.Comma k ≡ false)
