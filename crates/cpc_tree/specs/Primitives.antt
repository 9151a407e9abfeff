-- The primitives of the language, and the arguments that they take.
use Rattle.std.specs.Prelude.{List, [], ◌∷◌, Option, Some, None, bytes_eq, codes, if◌then◌else◌}
use Rattle.cpc_base.specs.Bytes.{Text}
use Rattle.cpc_num.specs.declared.kinds.Kind.TheVariants.{Int, Long}
use Rattle.cpc_tree.specs.Syntax.{Ty, TyVoid, TyInt, TyCondvar, TyPointer}
use Rattle.cpc_tree.specs.Typing.{function_type}

-- the primitives of both dialects, of the dialect Cpc, and of the dialect Event
pub data Primitive : Type 0 where
  Print Putc Puts Now CondNew CondFree Signal SignalAll Exit Malloc Free : Primitive
  Yield Sleep IoWait Wait : Primitive
  RtFrame RtBox RtFrameFree RtUnbox RtReady RtWait RtSleep RtIo RtDetach : Primitive

-- the names of the primitives
abbrev pub primitives : List (Text × Primitive)
primitives =
    (codes "cpc_print", Print) ∷ (codes "cpc_putc", Putc) ∷ (codes "cpc_puts", Puts) ∷ (codes "cpc_now", Now)
    ∷ (codes "cpc_cond_new", CondNew) ∷ (codes "cpc_cond_free", CondFree) ∷ (codes "cpc_signal", Signal)
    ∷ (codes "cpc_signal_all", SignalAll) ∷ (codes "cpc_exit", Exit) ∷ (codes "malloc", Malloc) ∷ (codes "free", Free)
    ∷ (codes "cpc_yield", Yield) ∷ (codes "cpc_sleep", Sleep) ∷ (codes "cpc_io_wait", IoWait) ∷ (codes "cpc_wait", Wait)
    ∷ (codes "rt_frame", RtFrame) ∷ (codes "rt_box", RtBox) ∷ (codes "rt_frame_free", RtFrameFree) ∷ (codes "rt_unbox", RtUnbox)
    ∷ (codes "rt_ready", RtReady) ∷ (codes "rt_wait", RtWait) ∷ (codes "rt_sleep", RtSleep) ∷ (codes "rt_io", RtIo)
    ∷ (codes "rt_detach", RtDetach) ∷ []

-- the primitive of a name in a table
abbrev pub primitive_in : List (Text × Primitive) → Text → Option Primitive
primitive_in [] x = None
primitive_in (p ∷ ps) x = if bytes_eq p.0 x then Some p.1 else primitive_in ps x

-- the primitive of a name
abbrev pub primitive_named : Text → Option Primitive
primitive_named x = primitive_in primitives x

-- what a primitive takes: any integer, a set value of a type, or a value of a type that may be unset
pub data Taken : Type 0 where
  AnyInteger : Taken
  SetOf : Ty → Taken
  FreeOf : Ty → Taken

-- a set long
abbrev pub long : Taken
long = SetOf (TyInt Long)

-- a set int
abbrev pub int : Taken
int = SetOf (TyInt Int)

-- a set condition
abbrev pub condition : Taken
condition = SetOf TyCondvar

-- the type `void *`
abbrev pub any_pointer : Ty
any_pointer = TyPointer TyVoid

-- `cb` and `k`: a function of type `void (void *, int)`, and its pointer
abbrev pub callback_and_pointer : List Taken
callback_and_pointer = SetOf (function_type TyVoid (any_pointer ∷ TyInt Int ∷ [])) ∷ FreeOf any_pointer ∷ []

-- what a primitive takes; `cpc_puts` takes a string besides, `rt_detach` a function and what it takes
abbrev pub takes_first : Primitive → List Taken
takes_first Print = AnyInteger ∷ []
takes_first Putc = AnyInteger ∷ []
takes_first Puts = []
takes_first Now = []
takes_first CondNew = []
takes_first CondFree = condition ∷ []
takes_first Signal = condition ∷ []
takes_first SignalAll = condition ∷ []
takes_first Exit = int ∷ []
takes_first Malloc = long ∷ []
takes_first Free = SetOf any_pointer ∷ []
takes_first Yield = []
takes_first Sleep = long ∷ []
takes_first IoWait = int ∷ int ∷ []
takes_first Wait = condition ∷ []
takes_first RtFrame = long ∷ []
takes_first RtBox = long ∷ []
takes_first RtFrameFree = SetOf any_pointer ∷ []
takes_first RtUnbox = SetOf any_pointer ∷ []
takes_first RtReady = callback_and_pointer
takes_first RtWait = condition ∷ callback_and_pointer
takes_first RtSleep = long ∷ callback_and_pointer
takes_first RtIo = int ∷ int ∷ callback_and_pointer
takes_first RtDetach = callback_and_pointer
