-- What a step does to the live cells, as it is told before the step is made.
use Rattle.std.specs.Prelude.{◌≡◌, ℕ, ◌+◌, ◌-◌, ◌^◌, min, List, [], ◌∷◌, Option, Some, None}
use Rattle.cpc_tree.specs.Erase.{Names, function_of}
use Rattle.cpc_tree.specs.Typing.{function_named}
use Rattle.cpc_tree.specs.declared.program.Function as G
use Rattle.std.specs.Borrow.{Bor}
use Rattle.cpc_tree.specs.Syntax.{Function}
use Rattle.cpc_store.specs.declared.values.Class.{Class}
use Rattle.cpc_store.specs.declared.values.Class.TheVariants.{Auto, Heap, Frame as FrameClass}
use Rattle.cpc_store.specs.Store.{Value, Store, store_cells}
use Rattle.cpc_meaning.specs.Answer.{Answer, Gives, Faults, NoAnswer, ◌>>=◌, needed}
use Rattle.cpc_meaning.specs.Eval as E
use Rattle.cpc_meaning.specs.Act as M
use Rattle.cpc_meaning.specs.Plain.{asking}
use Rattle.cpc_meaning.specs.Requests.{Primitive, Asked, Builtin, Malloc, Free, RtFrame, RtBox, RtFrameFree, RtUnbox}
use Rattle.cpc_meaning.specs.Section.{allocated, freed}
use Rattle.cpc_eval_index.specs.declared.index.Index.{Index}
use Rattle.cpc_eval_index.specs.Indexed.{IsOwn}
use Rattle.cpc_native_changes.specs.declared.changes.Change.{Change}
use Rattle.cpc_native_changes.specs.declared.changes.Change.TheVariants as C
use Rattle.cpc_native_changes.specs.declared.changes.Told.{Told}
use Rattle.cpc_native_changes.specs.declared.changes.Told.TheVariants as T

-- a value arrives where the code asks
abbrev pub arrival : E.Context → M.Stood → Value → Answer M.Act
arrival c stood v = do
  f ← needed (asking stood)
  M.arrives c f (Some v)

-- a block of so many cells more, of which `2 ^ 64 - 1` tells every greater number
abbrev pub IsMaking : Change → (before after : ℕ) → Type 0
IsMaking (C.Makes n) before after = (more : ℕ) × (after ≡ before + more) × (n ≡ min more (2 ^ 64 - 1))
IsMaking change before after = ⊥

-- so many cells fewer; none where the pointer is null
abbrev pub IsFreeing : Change → (before after : ℕ) → Type 0
IsFreeing (C.Frees n) before after = after + n ≡ before
IsFreeing C.Stays before after = after ≡ before
IsFreeing change before after = ⊥

-- a block is made, where the pointer to it arrives
abbrev pub ArrivesSo : Change → (before after : ℕ) → Answer M.Act → Type 0
ArrivesSo change before after (Gives act) = IsMaking change before after
ArrivesSo change before after (Faults fault) = change ≡ C.Stays
ArrivesSo change before after NoAnswer = Unit {0}

-- the same, where its arrival is looked at before the block is there
abbrev pub MakesSo : E.Context → M.Stood → Change → Answer (Store × Value) → Type 0
MakesSo c stood change (Gives (t, v)) = ArrivesSo change (store_cells c.store) (store_cells t) (arrival c stood v)
MakesSo c stood change (Faults fault) = change ≡ C.Stays
MakesSo c stood change NoAnswer = Unit {0}

-- a block is freed
abbrev pub FreesSo : E.Context → Change → Answer (Store × Value) → Type 0
FreesSo c change (Gives (t, v)) = IsFreeing change (store_cells c.store) (store_cells t)
FreesSo c change (Faults fault) = change ≡ C.Stays
FreesSo c change NoAnswer = Unit {0}

-- what is asked: blocks are made or freed, and all else leaves as many cells
abbrev pub AsksSo : E.Context → M.Stood → Change → Asked → List Value → Type 0
AsksSo c stood change (Builtin Malloc) (v ∷ []) = MakesSo c stood change (allocated Heap v c.store)
AsksSo c stood change (Builtin RtFrame) (v ∷ []) = MakesSo c stood change (allocated FrameClass v c.store)
AsksSo c stood change (Builtin RtBox) (v ∷ []) = MakesSo c stood change (allocated Auto v c.store)
AsksSo c stood change (Builtin Free) (v ∷ []) = FreesSo c change (freed Heap v c.store)
AsksSo c stood change (Builtin RtFrameFree) (v ∷ []) = FreesSo c change (freed FrameClass v c.store)
AsksSo c stood change (Builtin RtUnbox) (v ∷ []) = FreesSo c change (freed Auto v c.store)
AsksSo c stood change asked vs = change ≡ C.Stays

-- the function that is entered
abbrev pub EntersSo : Names → Change → Function → Type 0
EntersSo names (C.Enters g) f = function_of names g.now ≡ f
EntersSo names change f = ⊥

-- the change that is told is that of the act, or none where it faults
abbrev pub Foresees : Names → E.Context → M.Stood → Change → Answer M.Act → Type 0
Foresees names c stood change (Gives (M.GoesOn h t slots)) = change ≡ C.Stays
Foresees names c stood change (Gives (M.Enters f vs)) = EntersSo names change f
Foresees names c stood change (Gives (M.Leaves v t)) = change ≡ C.Leaves
Foresees names c stood change (Gives (M.AsksFor r)) = AsksSo c stood change r.asked r.arguments
Foresees names c stood change (Faults fault) = change ≡ C.Stays
Foresees names c stood change NoAnswer = Unit {0}

-- ---- the parts of the code

-- the function that is entered is one of the program
abbrev pub EntersOwnly : Index → Change → Type 0
EntersOwnly index (C.Enters g) = IsOwn index g.now
EntersOwnly index change = Unit {0}

-- the class of the blocks that a primitive makes, if it makes any
abbrev pub maker : Primitive → Option Class
maker Malloc = Some Heap
maker RtFrame = Some FrameClass
maker RtBox = Some Auto
maker _ = None

-- the class of the blocks that a primitive frees, if it frees any
abbrev pub freer : Primitive → Option Class
freer Free = Some Heap
freer RtFrameFree = Some FrameClass
freer RtUnbox = Some Auto
freer _ = None

-- the one argument, as it is taken, if there is one and no fault comes
abbrev pub IsAlone : Option Value → Answer (List Value) → Type 0
IsAlone (Some v) (Gives vs) = vs ≡ v ∷ []
IsAlone None (Gives vs) = ⊥
IsAlone o (Faults fault) = o ≡ None
IsAlone o NoAnswer = Unit {0}

-- a change, with the function that is entered by its name
abbrev pub told_of : Change → Told
told_of C.Stays = T.Stays
told_of (C.Enters g) = T.Enters g.now.word.name
told_of C.Leaves = T.Leaves
told_of (C.Makes n) = T.Makes n
told_of (C.Frees n) = T.Frees n

-- the change that is told is that of the act, with the function that its name means
abbrev pub Tells : Names → E.Context → M.Stood → Told → Answer M.Act → Type 0
Tells names c stood (T.Enters x) a = (g : Bor G.Function) × (function_named c.program (names x) ≡ Some (function_of names g.now)) × Foresees names c stood (C.Enters g) a
Tells names c stood T.Stays a = Foresees names c stood C.Stays a
Tells names c stood T.Leaves a = Foresees names c stood C.Leaves a
Tells names c stood (T.Makes n) a = Foresees names c stood (C.Makes n) a
Tells names c stood (T.Frees n) a = Foresees names c stood (C.Frees n) a
