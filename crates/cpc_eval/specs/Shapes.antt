-- The types that the code finds, as the definitions have them.
use Rattle.std.specs.Prelude.{◌≡◌, ℕ, map, Option, Some, None, option_map}
use Rattle.cpc_tree.specs.Erase.{Names, type_of, parameter_of}
use Rattle.cpc_tree.specs.Syntax.{Ty, TyInt, TyPointer, Program}
use Rattle.cpc_tree.specs.Typing as T
use Rattle.cpc_tree.specs.Typing.{◌>>=◌}
use Rattle.cpc_base.specs.Bytes.{Text}
use Rattle.cpc_eval.specs.declared.shapes.Shape.{Shape}
use Rattle.cpc_eval.specs.declared.shapes.Shape.TheVariants as S
use Rattle.cpc_eval.specs.declared.shapes.Typed.{Typed}
use Rattle.cpc_eval.specs.declared.shapes.Typed.TheVariants as D

abbrev pub shape_of : Names → Shape → Ty
shape_of names (S.Given t) = type_of names t.now
shape_of names (S.Int kind) = TyInt kind
shape_of names (S.PointerTo t) = TyPointer (type_of names t.now)
shape_of names (S.CodeOf r ps) = T.function_type (type_of names r.now) (map T.parameter_type (map (parameter_of names) ps.now))

abbrev pub shapes_of : Names → Option Shape → Option Ty
shapes_of names o = option_map (shape_of names) o

-- the type of an expression
abbrev pub typed_of : Names → Typed → T.Typed
typed_of names (D.Value s) = T.AValue (shape_of names s)
typed_of names (D.Place t) = T.APlace (type_of names t.now)

abbrev pub types_of : Names → Option Typed → Option T.Typed
types_of names o = option_map (typed_of names) o

-- where the definition has something, the code has the same
abbrev pub Agrees : {A : Type 0} → Option A → Option A → Type 0
Agrees r (Some x) = r ≡ Some x
Agrees r None = Unit {0}

-- the offset and the type of a field of a type
abbrev pub field_among : Program → Option Ty → Text → Option (ℕ × Ty)
field_among p o x = do
  t ← o
  tag ← T.struct_tag t
  T.field p tag x
