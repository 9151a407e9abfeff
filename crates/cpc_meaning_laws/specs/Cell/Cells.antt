-- Live cells: how many a call takes, and how many a step leaves.
use Rattle.std.specs.Prelude.{ℕ, ◌+◌, List, [], ◌∷◌, Option, Some, None}
use Rattle.cpc_tree.specs.Registers.{variables}
use Rattle.cpc_tree.specs.Syntax.{Variable, Function, Program}
use Rattle.cpc_tree.specs.Typing as T
use Rattle.cpc_store.specs.declared.values.Class.TheVariants.{Auto, Heap, Frame as FrameClass}
use Rattle.cpc_store.specs.Store.{Value, Store, size, store_cells}
use Rattle.cpc_meaning.specs.Answer.{Answer, Gives, Faults, NoAnswer}
use Rattle.cpc_meaning.specs.Eval.{Slot, Register, Boxed}
use Rattle.cpc_meaning.specs.Plain.{Form, Stack, Done, Went, Returned, Asks, plain, answered}
use Rattle.cpc_meaning.specs.Requests.{Asked, Builtin, Malloc, Free, RtFrame, RtBox, RtFrameFree, RtUnbox}
use Rattle.cpc_meaning.specs.Runs.{frames_registers}
use Rattle.cpc_meaning.specs.Section.{allocated, freed}

-- a number, or 0 where none is known
abbrev pub or_zero : Option ℕ → ℕ
or_zero None = 0
or_zero (Some n) = n

-- ---- calls

-- the cells of variables; a register is one, as is a scalar with a block
abbrev pub variables_cells : Program → List Variable → ℕ
variables_cells p [] = 0
variables_cells p (x ∷ xs) = or_zero (T.size p x.type) + variables_cells p xs

-- the cells that a call of a function takes
abbrev pub call_cells : Program → Function → ℕ
call_cells p f = variables_cells p (variables f)

-- the cells of a variable
abbrev pub slot_cells : Store → Slot → ℕ
slot_cells s (Register v) = 1
slot_cells s (Boxed n) = or_zero (size Auto n s)

-- the cells of the variables of a call
abbrev pub slots_cells : Store → List Slot → ℕ
slots_cells s [] = 0
slots_cells s (slot ∷ slots) = slot_cells s slot + slots_cells s slots

-- ---- steps

-- the cells of a store, and one for each register of a stack
abbrev pub code_cells : {P : Type 0} → Store → Stack P → ℕ
code_cells s k = store_cells s + frames_registers k.frames

-- what a step left; one that faults leaves what there was, and nothing is said of one that is stuck
abbrev pub done_cells : {P : Type 0} → (before : ℕ) → Answer (Done P) → Option ℕ
done_cells before (Gives (Went t k)) = Some (code_cells t k)
done_cells before (Gives (Returned v t)) = Some (store_cells t)
done_cells before (Gives (Asks r)) = None
done_cells before (Faults fault) = Some before
done_cells before NoAnswer = None

-- what is left once an act on the store is answered
abbrev pub acted_cells : {P : Type 0} → Form P → Store → Stack P → Answer (Store × Value) → Option ℕ
acted_cells p s k (Gives (t, v)) = done_cells (code_cells s k) (answered p t k v)
acted_cells p s k (Faults fault) = Some (code_cells s k)
acted_cells p s k NoAnswer = None

-- what is left once a request is answered; those that neither make nor free a block leave what there was
abbrev pub request_cells : {P : Type 0} → Form P → Store → Stack P → Asked → List Value → Option ℕ
request_cells p s k (Builtin Malloc) (v ∷ []) = acted_cells p s k (allocated Heap v s)
request_cells p s k (Builtin Free) (v ∷ []) = acted_cells p s k (freed Heap v s)
request_cells p s k (Builtin RtFrame) (v ∷ []) = acted_cells p s k (allocated FrameClass v s)
request_cells p s k (Builtin RtBox) (v ∷ []) = acted_cells p s k (allocated Auto v s)
request_cells p s k (Builtin RtFrameFree) (v ∷ []) = acted_cells p s k (freed FrameClass v s)
request_cells p s k (Builtin RtUnbox) (v ∷ []) = acted_cells p s k (freed Auto v s)
request_cells p s k asked vs = Some (code_cells s k)

-- what a step comes to leaves
abbrev pub after_plain : {P : Type 0} → Form P → Store → Stack P → Answer (Done P) → Option ℕ
after_plain p s k (Gives (Asks r)) = request_cells p s k r.asked r.arguments
after_plain p s k a = done_cells (code_cells s k) a

-- the live cells that a step of the code leaves, with what it asks for; nothing where the code or an act on a block is stuck
abbrev pub step_cells : {P : Type 0} → Form P → Store → Stack P → Option ℕ
step_cells p s k = after_plain p s k (plain p s k)
