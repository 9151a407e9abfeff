-- What the rules say of what stands at a point of a body.
use Rattle.std.specs.Prelude.{◌≡◌, true, if◌then◌else◌, List, [], ◌∷◌, Option, Some, None, option_map, bytes_eq}
use Rattle.cpc_base.specs.Bytes.{Text}
use Rattle.cpc_tree.specs.Syntax.{Stmt, Declare, Variable}
use Rattle.cpc_tree.specs.Typing.{Meant, ALocal}
use Rattle.cpc_tree.specs.Typing as T
use Rattle.cpc_tree.specs.Points.{Found, Simple, Test, Nothing}
use Rattle.cpc_check_rules.specs.Rule.{Broken}
use Rattle.cpc_check_rules.specs.Scopes.{Scope, Block, in_blocks, is_sized}
use Rattle.cpc_check_rules.specs.Operators.{Where}
use Rattle.cpc_check_rules.specs.StmtRules.{test_breaks, start_breaks, stmt_breaks}
use Rattle.cpc_check_laws.proofs.Native.OnePlace.{ident_here, expr_here, stmt_here}

-- a simple statement; what a variable starts with stands where the variable is in scope
abbrev pub simple_breaks : Where → Stmt → Broken
simple_breaks w (Declare x t start) = start_breaks w (ident_here x) t (option_map expr_here start)
simple_breaks w s = stmt_breaks w (stmt_here s)

abbrev pub found_breaks : Where → Found → Broken
found_breaks w (Simple s) = simple_breaks w s
found_breaks w (Test None) = []
found_breaks w (Test (Some t)) = test_breaks w (expr_here t)
found_breaks w Nothing = []

-- the variable of a name in a scope
abbrev pub local_named : T.Scope → Text → Option T.Local
local_named [] x = None
local_named (l ∷ scope) x = if bytes_eq l.called x then Some l else local_named scope x

abbrev pub local_or : Option T.Local → Meant → Meant
local_or None m = m
local_or (Some l) m = ALocal 0 l.type

-- blocks in which names stand for the variables of a scope
abbrev pub Tells : T.Scope → List Block → Type 0
Tells scope blocks = (x : Text) (m : Meant) → in_blocks blocks m x ≡ local_or (local_named scope x) m

-- what stands at a point, in the scope there, breaks no rule in such blocks
pub data Standing (at : List Block → Where) (scope : T.Scope) : Found → Type 0 where
  NothingStands : Standing at scope Nothing
  Stands : (x : Found) (blocks : List Block) → Tells scope blocks → found_breaks (at blocks) x ≡ [] → Standing at scope x

-- these variables have sizes
pub data AllSized (s : Scope) : List Variable → Type 0 where
  NoneSized : AllSized s []
  AndSized : (x : Variable) (xs : List Variable) → is_sized s x.type ≡ true → AllSized s xs → AllSized s (x ∷ xs)
