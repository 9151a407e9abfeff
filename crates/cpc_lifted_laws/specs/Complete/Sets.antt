-- What the rules ask of the parts of statements: of values, places, tests and arguments. Each is stronger than what the meaning asks: a value
-- that can be assigned, say of an int to a pointer, need not be assignable.
use Rattle.std.specs.Prelude.{◌≡◌, Bool, true, false, List, [], ◌∷◌, Option, Some, None}
use Rattle.cpc_tree.specs.Syntax.{Ty, Expr, Exprs, NoExpr, AndExpr}
use Rattle.cpc_tree.specs.Typing.{Typed, APlace}
use Rattle.cpc_tree.specs.Primitives.{Primitive, Puts, RtDetach}
use Rattle.cpc_check_rules.specs.Scopes.{typed, takes_value, takes_typed}
use Rattle.cpc_check_rules.specs.Operators.{Where}
use Rattle.cpc_check_rules.specs.Calls.{Wanted, suits}
use Rattle.cpc_check_rules.specs.ExprRules.{expr_breaks}
use Rattle.cpc_check_rules.specs.StmtRules.{is_writable}
use Rattle.cpc_check_laws.proofs.Native.OnePlace.{expr_here}

-- an expression that breaks no rule, and its type
pub record Has (w : Where) (e : Expr) (d : Typed) : Type 0 where
  pub fine : expr_breaks w (expr_here e) ≡ []
  pub is_typed : typed w.scope e ≡ Some d

-- one that is assignable to a type
pub record Sets (w : Where) (t : Ty) (e : Expr) : Type 0 where
  pub type : Typed
  pub has : Has w e type
  pub takes : takes_typed t e type ≡ true

-- a place of a type to which something can be written
pub record Writes (w : Where) (t : Ty) (e : Expr) : Type 0 where
  pub has : Has w e (APlace t)
  pub writable : is_writable (APlace t) ≡ true

-- arguments that are assignable to the types of parameters
pub data AllSet (w : Where) : List Ty → Exprs → Type 0 where
  NoneSet : AllSet w [] NoExpr
  AndSet : (t : Ty) (ts : List Ty) (e : Expr) (es : Exprs) → Sets w t e → AllSet w ts es → AllSet w (t ∷ ts) (AndExpr e es)

-- a place to which a value of the type can be given, where there is one
abbrev pub Gives : Where → Option Expr → Ty → Type 0
Gives w None t = Unit {0}
Gives w (Some e) t = (u : Ty) × Writes w u e × (takes_value u false t ≡ true)

-- an argument that is as it is wanted, and no string
pub record Suits (w : Where) (t : Wanted) (e : Expr) : Type 0 where
  pub type : Typed
  pub has : Has w e type
  pub suits : suits w.scope t (expr_here e) type ≡ true

-- arguments that are as they are wanted
pub data AllSuit (w : Where) : List Wanted → Exprs → Type 0 where
  NoneSuits : AllSuit w [] NoExpr
  AndSuits : (t : Wanted) (ts : List Wanted) (e : Expr) (es : Exprs) → Suits w t e → AllSuit w ts es → AllSuit w (t ∷ ts) (AndExpr e es)

-- a primitive whose arguments are as they are told, one by one
abbrev pub is_simple : Primitive → Bool
is_simple Puts = false
is_simple RtDetach = false
is_simple prim = true
