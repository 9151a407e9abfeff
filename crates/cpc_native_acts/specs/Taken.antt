-- Arguments as primitives take them: one for each that is taken, of its kind, and set where it is to be set.
use Rattle.std.specs.Prelude.{◌≡◌, Bool, true, false, ◌&&◌, List, [], ◌∷◌, map, Option, Some}
use Rattle.std.specs.List.{All}
use Rattle.cpc_num.specs.declared.kinds.Kind.TheVariants.{UChar, Long}
use Rattle.cpc_tree.specs.Primitives as P
use Rattle.cpc_store.specs.Store.{ValueOf, Unset, Whole, suits}
use Rattle.cpc_store.specs.Seen.{seen}
use Rattle.cpc_store.specs.declared.values.Value as V
use Rattle.cpc_store.specs.declared.values.Value.TheVariants as W
use Rattle.cpc_eval_values.specs.declared.assignment.Taken.{Taken}
use Rattle.cpc_eval_values.specs.declared.assignment.Taken.TheVariants.{AnyInteger, SetOf, FreeOf}
use Rattle.cpc_eval_values.specs.Takes.{taken_of}
use Rattle.cpc_native_builtins.specs.declared.call.Call.{Call}
use Rattle.cpc_native_builtins.specs.declared.call.Call.TheVariants as C
use Rattle.cpc_tree.specs.PrimitiveNames.{primitive_of}

-- a value that is set
abbrev pub is_set : {C : Type 0} → ValueOf C → Bool
is_set Unset = false
is_set v = true

-- an integer of any kind
abbrev pub is_integer : {C : Type 0} → ValueOf C → Bool
is_integer (Whole kind z) = true
is_integer v = false

-- a value is one that is taken: an integer, a set value that such a cell may hold, or one that may be unset
abbrev pub is_taken_as : {C : Type 0} → Taken → ValueOf C → Bool
is_taken_as AnyInteger v = is_integer v
is_taken_as (SetOf scalar) v = is_set v && suits scalar v
is_taken_as (FreeOf scalar) v = suits scalar v

-- values are those that are taken, from left to right, one for each
abbrev pub are_taken : List (Option Taken) → List V.Value → Bool
are_taken [] [] = true
are_taken (Some t ∷ ts) (v ∷ vs) = is_taken_as t (seen v) && are_taken ts vs
are_taken _ _ = false

abbrev pub IsTaken : List P.Taken → List V.Value → Type 0
IsTaken ts vs = are_taken (map taken_of ts) vs ≡ true

-- a value of unsigned char
abbrev pub IsByte : V.Value → Type 0
IsByte (W.Int UChar z) = Unit {0}
IsByte _ = ⊥

-- a value of long
abbrev pub IsLong : V.Value → Type 0
IsLong (W.Int kind z) = kind ≡ Long
IsLong _ = ⊥

-- values are those with which a section is asked for: a set callback and its pointer, the code of a function, and any behind it;
-- or there are none, where none are written
abbrev pub is_detached : List V.Value → Bool
is_detached [] = true
is_detached (callback ∷ pointer ∷ W.Code f ∷ vs) = are_taken (map taken_of P.callback_and_pointer) (callback ∷ pointer ∷ [])
is_detached _ = false

-- the arguments with which a primitive is asked for: what it takes; of `cpc_puts` the bytes of its string, of `rt_detach` a section
abbrev pub IsAskedWith : P.Primitive → List V.Value → Type 0
IsAskedWith P.Puts vs = All IsByte vs
IsAskedWith P.RtDetach vs = is_detached vs ≡ true
IsAskedWith prim vs = IsTaken (P.takes_first prim) vs

-- those with which a primitive is called, or a function of the host, which takes set values of long
abbrev pub IsCalledWith : Call → List V.Value → Type 0
IsCalledWith (C.Builtin b) vs = IsAskedWith (primitive_of b) vs
IsCalledWith (C.Host x) vs = All IsLong vs
