-- What an expression is evaluated in, as the definitions have it.
use Rattle.std.specs.Prelude.{map, Option, Some, None}
use Rattle.cpc_base.specs.Bytes.{Text}
use Rattle.cpc_tree.specs.Erase.{Names, function_of}
use Rattle.cpc_tree.specs.Syntax.{Expr, EUnary, EBinary, EChoose, EIndex, EMember, EArrow}
use Rattle.cpc_tree.specs.Registers.{scope_in_function}
use Rattle.cpc_tree.specs.Typing as T
use Rattle.cpc_num.specs.declared.kinds.Op.{Op}
use Rattle.cpc_store.specs.Store.{Value}
use Rattle.cpc_meaning.specs.Answer.{Answer}
use Rattle.cpc_meaning.specs.Eval as E
use Rattle.cpc_native_points.specs.Seen.{path_of}
use Rattle.cpc_eval_values.specs.Shown.{value_of, store_of}
use Rattle.cpc_eval_index.specs.Indexed.{items_of}
use Rattle.cpc_eval_locals.specs.Held.{Held, local_in, capped_held}
use Rattle.cpc_eval_variables.specs.Told.{IsTold}
use Rattle.cpc_eval.specs.declared.around.Around.{Around}
use Rattle.cpc_eval.specs.declared.around.Slot.{Slot}
use Rattle.cpc_eval.specs.declared.around.Slot.TheVariants as S

abbrev pub slot_of : Names → Slot → E.Slot
slot_of names (S.Register v) = E.Register (value_of names v)
slot_of names (S.Boxed n) = E.Boxed n

abbrev pub context_of : Names → Around → E.Context
context_of names a = record {
  program = items_of names a.index.now;
  scope = scope_in_function (function_of names a.function.now) (path_of a.path.now);
  slots = map (slot_of names) a.slots.now;
  store = store_of names a.store.now;
}

-- names are told from each other, and from a parameter that has none
abbrev pub IsToldIn : Names → Around → Type 0
IsToldIn names a = IsTold names a.function.now.parameters.items

-- a local, or else an item
abbrev pub meant_or : Held → T.Meant → T.Meant
meant_or None m = m
meant_or (Some f) m = T.ALocal f.0 f.1

-- what a name stands for, the number of a local capped
abbrev pub meant_in : E.Context → Text → T.Meant
meant_in c x = meant_or (capped_held (local_in c.scope x)) (T.item_named 0 c.program x)

-- the type of an expression
abbrev pub type_in : E.Context → Expr → Option T.Typed
type_in c e = T.typing c.program c.scope e

-- the same, of an expression whose type depends on those of its parts, and else None
abbrev pub type_within : E.Context → Expr → Option T.Typed
type_within c (EUnary op a) = type_in c (EUnary op a)
type_within c (EBinary op a b) = type_in c (EBinary op a b)
type_within c (EChoose e a b) = type_in c (EChoose e a b)
type_within c (EIndex a b) = type_in c (EIndex a b)
type_within c (EMember a x) = type_in c (EMember a x)
type_within c (EArrow a x) = type_in c (EArrow a x)
type_within c _ = None

-- an operator on the values of two operands
abbrev pub operate_in : E.Context → Op → (left right : Expr) → Value → Value → Answer Value
operate_in c op a b v w = E.operate c.program c.store op (E.used_type c a) (E.used_type c b) v w
