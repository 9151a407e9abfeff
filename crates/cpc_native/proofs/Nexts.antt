-- The number that is told of the next step is that of the live cells that it leaves.
use Rattle.std.proofs.Common.{◌≡◌, ◌⊎◌, inl, inr, ℕ, ◌+◌, ◌<◌, ◌≤◌, ◌^◌, min, List, [], ◌∷◌, ◌++◌, Some, option_map, ◌∙◌, ap, subst, arith}
use Rattle.cpc_tree.specs.Erase.{Names, type_of, function_of}
use Rattle.cpc_tree.specs.Points as T
use Rattle.cpc_tree.specs.Syntax.{Program}
use Rattle.cpc_store.specs.Store as S
use Rattle.cpc_meaning.specs.Act as M
use Rattle.cpc_meaning.specs.Events.{Callback, callbacks}
use Rattle.cpc_meaning.specs.Eval as E
use Rattle.cpc_meaning.specs.Machine.{State, try_step}
use Rattle.cpc_meaning.specs.Plain as P
use Rattle.cpc_meaning.specs.Runs.{live_cells, registers, frames_registers}
use Rattle.cpc_meaning.specs.Trees.{trees}
use Rattle.cpc_eval_values.specs.Shown.{value_of, store_of}
use Rattle.cpc_eval_index.specs.Indexed.{items_of, IsOwn}
use Rattle.cpc_meaning_laws.specs.Cell.Cells.{code_cells, step_cells}
use Rattle.cpc_meaning_laws.proofs.Cell.Steps.{steps_leave}
use Rattle.cpc_meaning_laws.specs.Pointer.Made.{IsMadeCode}
use Rattle.cpc_native_frames.specs.declared.frame.Frame.{Frame}
use Rattle.cpc_native_frames.specs.Frames.{frame_of}
use Rattle.cpc_native_frames.specs.Made.{slots_of}
use Rattle.cpc_native_changes.specs.declared.changes.Change.{Change}
use Rattle.cpc_native_changes.specs.declared.changes.Change.TheVariants as C
use Rattle.cpc_native_acts.specs.Stood.{stood_of, context_in}
use Rattle.cpc_native_changes.specs.Foreseen.{Foresees}
use Rattle.cpc_native.specs.declared.machine.Machine.{Machine}
use Rattle.cpc_native.specs.Stacks.{frames_of, stack_of}
use Rattle.cpc_native.specs.Next.{FreesAlone, IsStateOf, LeavesSo, LeavesAtMost, IsCounted, greatest}
use Rattle.cpc_native.proofs.Frames.{frames_upon}
use Rattle.cpc_native.proofs.Foretold.{IsChange, IsFreeingOrNone, foretold, no_more}

-- what is counted is what a change leaves
counted_so : (names : Names) (p : Program) (s : S.Store) (slots : List E.Slot) (change : Change) (before after live result : ℕ) → before < 2 ^ 62 → live ≡ min before greatest
    → IsChange names p s slots change before after → IsCounted names p s slots live change result → result ≡ min after greatest
counted_so names p s slots C.Stays before after live result small e h k = omega (arith, small, e, h, k)
counted_so names p s slots (C.Enters f) before after live result small e h k = omega (arith, small, e, h, k)
counted_so names p s slots C.Leaves before after live result small e h k = let is = k h.0.0 h.0.1 in let left = h.1 in omega (arith, small, e, left, is)
counted_so names p s slots (C.Makes n) before after live result small e (more, is, told) k = omega (arith, small, e, is, told, k)
counted_so names p s slots (C.Frees n) before after live result small e h k = omega (arith, small, e, h, k)

-- where more is told than is live, no block is freed
adds_more : (names : Names) (p : Program) (s : S.Store) (slots : List E.Slot) (change : Change) (before live result : ℕ) → live ≡ min before greatest
    → IsCounted names p s slots live change result → before < result → IsFreeingOrNone change → ⊥
adds_more names p s slots C.Stays before live result e k more few = omega (arith, e, k, more)
adds_more names p s slots (C.Frees n) before live result e k more few = omega (arith, e, k, more)
adds_more names p s slots C.Leaves before live result e k more few = few
adds_more names p s slots (C.Enters f) before live result e k more few = few
adds_more names p s slots (C.Makes n) before live result e k more few = few

-- what is live in a state of a machine
pub live_is : (names : Names) (m : Machine) (s : State T.Point Callback) → IsStateOf names m s → S.store_cells (store_of names m.store) + frames_registers (stack_of names m).frames ≡ live_cells s
live_is names m s h =
    let stored : S.store_cells s.store ≡ S.store_cells (store_of names m.store) = ap S.store_cells h.store in
    let running : registers s.running ≡ registers (Some (stack_of names m)) = ap registers h.running in
    omega (arith, stored, running)

-- a change may free a block, or it does not
freeing_or_not : (change : Change) → IsFreeingOrNone change ⊎ (IsFreeingOrNone change → ⊥)
freeing_or_not C.Stays = inl tt
freeing_or_not (C.Frees n) = inl tt
freeing_or_not C.Leaves = inr (λ few. few)
freeing_or_not (C.Enters f) = inr (λ few. few)
freeing_or_not (C.Makes n) = inr (λ few. few)

module _ (names : Names) (m : Machine) (front : List Frame) (top : Frame) (calls : m.calls.frames.items ≡ front ++ top ∷ []) (own : IsOwn m.index top.function.now)
    (change : Change) (live result : ℕ) (s : State T.Point Callback) (h : IsStateOf names m s)
    (foreseen : Foresees names (context_in names m.index top m.store) (stood_of names top) change
    (M.act (context_in names m.index top m.store) (type_of names top.function.now.result) (option_map (value_of names) m.arriving) (stood_of names top)))
    (counted : IsCounted names (items_of names m.index) (store_of names m.store) (slots_of names top.slots.items) live change result) where
  -- the program, the store, and the stack with its first frame told apart
  abbrev program : Program
  program = items_of names m.index

  abbrev store : S.Store
  store = store_of names m.store

  abbrev stack : P.Stack T.Point
  stack = record { frames = frame_of names top ∷ frames_of names front; arriving = option_map (value_of names) m.arriving }

  stack_is : stack_of names m ≡ stack
  stack_is = ap (λ fs. record { frames = fs; arriving = option_map (value_of names) m.arriving }) (ap (frames_of names) calls ∙ frames_upon names front top)

  -- what is live in the state
  before_is : code_cells store stack ≡ live_cells s
  before_is =
      let stored : S.store_cells s.store ≡ S.store_cells store = ap S.store_cells h.store in
      let running : registers s.running ≡ registers (Some stack) = ap registers (h.running ∙ ap Some stack_is) in
      omega (arith, stored, running)

  -- the pointers of the state, and what is told of the next
  made : IsMadeCode store stack
  made = subst (λ u. IsMadeCode u stack) h.store (subst (λ k. IsMadeCode s.store k) stack_is h.made)

  told_so : (t : State T.Point Callback) → try_step (callbacks program) s ≡ Some t → step_cells (trees program) store stack ≡ Some (live_cells t)
  told_so t step = subst (λ u. step_cells (trees program) u stack ≡ Some (live_cells t)) h.store (steps_leave T.Point (trees program) s t stack (h.running ∙ ap Some stack_is) step)

  -- what the next state leaves, by the change
  left : (t : State T.Point Callback) → try_step (callbacks program) s ≡ Some t → (IsFreeingOrNone change → FreesAlone (trees program) store stack)
      → IsChange names program store (slots_of names top.slots.items) change (live_cells s) (live_cells t)
  left t step alone =
      subst (λ n. IsChange names program store (slots_of names top.slots.items) change n (live_cells t)) before_is
      (foretold names program store (frame_of names top) (frames_of names front) (function_of names top.function.now) (own names h.runs.spells.apart) (option_map (value_of names) m.arriving)
      made change (live_cells t) alone foreseen (told_so t step))

  at_most : (t : State T.Point Callback) → try_step (callbacks program) s ≡ Some t → IsFreeingOrNone change → live_cells t ≤ live_cells s
  at_most t step few =
      subst (λ n. live_cells t ≤ n) before_is
      (no_more names program store (frame_of names top) (frames_of names front) (function_of names top.function.now) (own names h.runs.spells.apart) (option_map (value_of names) m.arriving)
      made change (live_cells t) few foreseen (told_so t step))

  -- the number that was counted is told of the next state
  pub next_told : live ≡ min (live_cells s) greatest → FreesAlone (trees program) s.store (stack_of names m) → LeavesSo names m s result
  next_told e alone t step =
      counted_so names program store (slots_of names top.slots.items) change (live_cells s) (live_cells t) live result h.bounded e
      (left t step (λ few. subst (λ u. FreesAlone (trees program) u stack) h.store (subst (λ k. FreesAlone (trees program) s.store k) stack_is alone))) counted

  -- and, where it is more than is live now, so whatever is freed
  pub more_told : live ≡ min (live_cells s) greatest → live_cells s < result → LeavesSo names m s result
  more_told e more t step =
      counted_so names program store (slots_of names top.slots.items) change (live_cells s) (live_cells t) live result h.bounded e (left t step alone) counted
    where
      alone : IsFreeingOrNone change → FreesAlone (trees program) store stack
      alone few = absurd (adds_more names program store (slots_of names top.slots.items) change (live_cells s) live result e counted more few)

  -- within a cap, no more cells are left than it allows
  pub within_told : live ≡ min (live_cells s) greatest → (cap : ℕ) → cap < 2 ^ 62 → live_cells s ≤ cap → result ≤ cap → LeavesAtMost names m s cap
  within_told e cap small le told t step = by_change (freeing_or_not change)
    where
      by_change : IsFreeingOrNone change ⊎ (IsFreeingOrNone change → ⊥) → live_cells t ≤ cap
      by_change (inl few) = let less = at_most t step few in omega (arith, less, le)
      by_change (inr adds) =
          let is : result ≡ min (live_cells t) greatest = counted_so names program store (slots_of names top.slots.items) change (live_cells s) (live_cells t) live result h.bounded e (left t step (λ few. absurd (adds few))) counted in
          omega (arith, is, told, small)
