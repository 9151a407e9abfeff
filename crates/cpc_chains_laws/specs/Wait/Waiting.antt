-- The cps statements of a typed program.
use Rattle.std.specs.Prelude.{◌≡◌, List, Option, Some, None}
use Rattle.cpc_base.specs.Bytes.{Text}
use Rattle.cpc_check_laws.specs.Sound.Typed.{AllGet, Detaches}
use Rattle.cpc_tree.specs.declared.program.Mode.TheVariants.{Cps}
use Rattle.cpc_tree.specs.Primitives.{Primitive, primitive_named}
use Rattle.cpc_tree.specs.Syntax.{Ty, Expr, ENamed, Exprs, Stmt, Call, Detach, Function, Program}
use Rattle.cpc_tree.specs.Typing.{Scope, AFunction, NotMeant, named, function_named, parameter_types}
use Rattle.cpc_meaning.specs.Ways.{AsCps, primitive_manner}
use Rattle.cpc_convert_routines.specs.Named.{IsCps}

-- a cps statement: a call of a cps function, of a primitive that waits, or a section
pub data Waiting (p : Program) (scope : Scope) : Stmt → Type 0 where
  CallsCps : (to : Option Expr) (x : Text) (es : Exprs) (r : Ty) (ps : List Ty) (g : Function) → named p scope x ≡ AFunction Cps r ps → function_named p x ≡ Some g → IsCps p g → AllGet p scope (parameter_types g) es → Waiting p scope (Call to (ENamed x) es)
  CallsWait : (to : Option Expr) (x : Text) (es : Exprs) (prim : Primitive) → named p scope x ≡ NotMeant → primitive_named x ≡ Some prim → primitive_manner (Some prim) ≡ AsCps → function_named p x ≡ None → Waiting p scope (Call to (ENamed x) es)
  Submits : (to : Option Expr) (x : Text) (es : Exprs) → Detaches p scope x es → Waiting p scope (Detach to x es)
