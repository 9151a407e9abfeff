-- Which variables of a function are registers, and which have blocks: those that are no scalars, and those to which `&` is applied.
use Rattle.std.specs.Prelude.{ℕ, suc, ◌+◌, Bool, not, ◌&&◌, List, [], ◌∷◌, ◌++◌, length, map, Option, Some, None, bytes_eq, if◌then◌else◌}
use Rattle.cpc_base.specs.Bytes.{Text}
use Rattle.cpc_tree.specs.Syntax.{Expr, ENamed, EUnary, EBinary, EAnd, EOr, EChoose, ECast, EIndex, EMember, EArrow, ECall, Exprs, NoExpr, AndExpr, Stmt, Block, Declare, Assign, Call, Detach, Spawn, If, While, DoWhile, For, Label, Return, Stmts, NoStmt, AndStmt, MaybeStmt, Absent, Present, Variable, Parameter, Function}
use Rattle.cpc_tree.specs.declared.program.UnaryOp.TheVariants.{AddressOf}
use Rattle.cpc_tree.specs.Lists.{holds_number}
use Rattle.cpc_tree.specs.Typing.{Scope, is_scalar}
use Rattle.cpc_tree.specs.Points.{Path, locals, locals_in, scope_at, extended, extended_all, declared}

-- the place of a name among the variables, if it is one
abbrev pub slot_of : Scope → Text → List ℕ
slot_of [] x = []
slot_of (l ∷ scope) x = if bytes_eq l.called x then l.slot ∷ [] else slot_of scope x

abbrev mutual
  -- the variables to whose names `&` is applied
  pub addresses : Scope → Expr → List ℕ
  addresses scope (EUnary AddressOf (ENamed x)) = slot_of scope x
  addresses scope (EUnary sign e) = addresses scope e
  addresses scope (EBinary op a b) = addresses scope a ++ addresses scope b
  addresses scope (EAnd a b) = addresses scope a ++ addresses scope b
  addresses scope (EOr a b) = addresses scope a ++ addresses scope b
  addresses scope (EChoose t a b) = addresses scope t ++ addresses scope a ++ addresses scope b
  addresses scope (ECast t e) = addresses scope e
  addresses scope (EIndex a i) = addresses scope a ++ addresses scope i
  addresses scope (EMember e x) = addresses scope e
  addresses scope (EArrow e x) = addresses scope e
  addresses scope (ECall f es) = addresses scope f ++ addresses_all scope es
  addresses scope _ = []

  -- those of a row of expressions
  pub addresses_all : Scope → Exprs → List ℕ
  addresses_all scope NoExpr = []
  addresses_all scope (AndExpr e es) = addresses scope e ++ addresses_all scope es

-- those taken in an expression that may be absent
abbrev pub addresses_if : Scope → Option Expr → List ℕ
addresses_if scope None = []
addresses_if scope (Some e) = addresses scope e

abbrev mutual
  -- those taken in a statement, where n variables come before it
  pub addresses_by : Scope → ℕ → Stmt → List ℕ
  addresses_by scope n (Block ss) = addresses_in scope n ss
  addresses_by scope n (Declare x t start) = addresses_if (extended scope n (Declare x t start)) start
  addresses_by scope n (Assign e op v) = addresses scope e ++ addresses scope v
  addresses_by scope n (Call e f es) = addresses_if scope e ++ addresses scope f ++ addresses_all scope es
  addresses_by scope n (Detach e f es) = addresses_if scope e ++ addresses_all scope es
  addresses_by scope n (Spawn f es) = addresses_all scope es
  addresses_by scope n (If t a b) = addresses scope t ++ addresses_by scope n a ++ addresses_arm scope (n + declared a) b
  addresses_by scope n (While t s) = addresses scope t ++ addresses_by scope n s
  addresses_by scope n (DoWhile s t) = addresses_by scope n s ++ addresses scope t
  addresses_by scope n (For first t step s) =
      addresses_in scope n first ++ addresses_if (extended_all scope n first) t ++ addresses_arm (extended_all scope n first) n step
      ++ addresses_by (extended_all scope n first) (n + length (locals_in first)) s
  addresses_by scope n (Label l s) = addresses_by scope n s
  addresses_by scope n (Return v) = addresses_if scope v
  addresses_by scope n _ = []

  -- those of a row of statements
  pub addresses_in : Scope → ℕ → Stmts → List ℕ
  addresses_in scope n NoStmt = []
  addresses_in scope n (AndStmt s ss) = addresses_by scope n s ++ addresses_in (extended scope n s) (n + declared s) ss

  -- those of an arm or a step
  pub addresses_arm : Scope → ℕ → MaybeStmt → List ℕ
  addresses_arm scope n Absent = []
  addresses_arm scope n (Present s) = addresses_by scope n s

-- ---- the variables of a function

-- a name that may be left out
abbrev pub or_empty : Option Text → Text
or_empty None = []
or_empty (Some x) = x

-- a parameter as a variable
abbrev pub as_variable : Parameter → Variable
as_variable p = record { called = or_empty p.called; type = p.type }

-- the parameters, and then the locals in the order of the text
abbrev pub variables : Function → List Variable
variables f = map as_variable f.parameters ++ locals f.body

-- the parameters from the n-th on, added to a scope
abbrev pub parameter_scope : ℕ → List Parameter → Scope → Scope
parameter_scope n [] scope = scope
parameter_scope n (p ∷ ps) scope = parameter_scope (suc n) ps (record { called = or_empty p.called; type = p.type; slot = n } ∷ scope)

-- the scope in which the body stands
abbrev pub outer_scope : Function → Scope
outer_scope f = parameter_scope 0 f.parameters []

-- the scope at a path of the body
abbrev pub scope_in_function : Function → Path → Scope
scope_in_function f p = scope_at (outer_scope f) (length f.parameters) f.body p

-- the variables that have an address
abbrev pub addressed : Function → List ℕ
addressed f = addresses_by (outer_scope f) (length f.parameters) f.body

-- a variable is a register where it is scalar and its address is never taken
abbrev pub is_register : Function → ℕ → Variable → Bool
is_register f n v = is_scalar v.type && not (holds_number (addressed f) n)
