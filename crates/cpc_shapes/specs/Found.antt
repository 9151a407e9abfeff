-- What the code finds of types, as the definitions have it.
use Rattle.std.specs.Prelude.{Bool, false, if◌then◌else◌, List, [], ◌∷◌, Option, Some, None, is_some, bytes_eq}
use Rattle.cpc_base.specs.Bytes.{Text}
use Rattle.cpc_tree.specs.Syntax.{Ty, TyPointer, Variable, Program}
use Rattle.cpc_tree.specs.Typing.{Typed, APlace, size, target}
pub use Rattle.cpc_check_rules.specs.Operators.{used_of}

-- what the pointer of a sum or a difference points to
abbrev pub pointed : Ty → Ty → Option Ty
pointed (TyPointer t) u = Some t
pointed t u = target u

-- a type that is there is complete
abbrev pub is_measured : Program → Option Ty → Bool
is_measured p None = false
is_measured p (Some t) = is_some (size p t)

-- whether what the pointer of a sum or a difference points to is complete
abbrev pub can_move : Program → Ty → Ty → Bool
can_move p t u = is_measured p (pointed t u)

-- the type of a field among these, each of those before it complete
abbrev pub field_place : Program → List Variable → Text → Option Typed
field_place p [] x = None
field_place p (f ∷ fs) x = if bytes_eq f.called x then Some (APlace f.type) else (if is_some (size p f.type) then field_place p fs x else None)
