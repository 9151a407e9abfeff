-- What a step of the event machine leaves, and what a function adds that the loop takes up.
use Rattle.std.proofs.Common.{◌≡◌, ℕ, ◌+◌, pos, List, [], ◌∷◌, ◌++◌, map, Option, Some, Result, Ok, refl, sym, ap, ◌∙◌, subst, arith}
use Rattle.std.specs.Fmt.{signed_decimal}
use Rattle.cpc_base.specs.Bytes.{Text}
use Rattle.cpc_num.specs.declared.kinds.Fault.{Fault}
use Rattle.cpc_num.specs.declared.kinds.Kind.TheVariants.{Long}
use Rattle.cpc_tree.specs.Lists.{first_or, rest_of}
use Rattle.cpc_tree.specs.Trace.{Output, HostCall, Sleeping, Waiting, Awaiting, Failed}
use Rattle.cpc_tree.specs.Typing.{function_named}
use Rattle.cpc_store.specs.declared.values.Class.TheVariants.{Auto, Heap, Frame as FrameClass}
use Rattle.cpc_store.specs.Store.{Value, Unset, Whole, Cond, Code, Store, store_cells}
use Rattle.cpc_meaning.specs.Answer.{Answer, Gives, Faults, NoAnswer, ◌>>=◌, of_result, needed}
use Rattle.cpc_meaning.specs.Requests.{Asked, Builtin, Host, ToSpawn, Section, Primitive, Print, Putc, Puts, Now, CondNew, CondFree, Signal, SignalAll, Exit, Malloc, Free, RtFrame, RtBox, RtFrameFree, RtUnbox, RtReady, RtWait, RtSleep, RtIo, RtDetach}
use Rattle.cpc_meaning.specs.Act.{Act, GoesOn, Enters, Leaves, AsksFor, arrives}
use Rattle.cpc_meaning.specs.Plain.{Form, Frame, Stack, stack_of, Done, Went, Returned, Asks, asking, context, perform, plain, frames_answered, answered, make_frame}
use Rattle.cpc_meaning.specs.Slots.{call_slots}
use Rattle.cpc_meaning.specs.Agenda.{Agenda, cond_new, cond_free, signal, signal_all, ready_one, wait, sleep, io, section}
use Rattle.cpc_meaning.specs.Section.{allocated, freed}
use Rattle.cpc_meaning.specs.Copies.{copy_of}
use Rattle.cpc_meaning.specs.Machine.{State, marks, with_agenda, with_store, after_done, int_of, cond_of, byte_of, reply, replies, acts, primitive, ints_of, first_answer, ends, fault_function, asked_by, direction_of, submits, runs_on, code_step, step_running, settled}
use Rattle.cpc_meaning.specs.Events.{Callback, CallWith, event_primitive, callbacks_of}
use Rattle.cpc_meaning.specs.Start.{before_underscores}
use Rattle.cpc_meaning.specs.Runs.{slots_registers, frames_registers, registers, live_cells}
use Rattle.cpc_meaning.proofs.Functions.{gives_then}
use Rattle.cpc_meaning_laws.specs.Cell.Cells.{call_cells, code_cells, done_cells, acted_cells, request_cells, after_plain, step_cells}
use Rattle.cpc_meaning_laws.specs.Cell.Laws.{StepsLeave, TakingAdds}
use Rattle.cpc_meaning_laws.proofs.Cell.Calls.{call_takes}
use Rattle.cpc_meaning_laws.proofs.Cell.Going.{If, if_then, if_any, Arrived, arrives_keeps}

module _ {P : Type 0} (p : Form P) where
  -- ---- a value that is answered keeps the cells

  -- the stack goes on with as many cells
  abbrev WentWith : ℕ → Done P → Type 0
  WentWith n (Went t j) = code_cells t j ≡ n
  WentWith n _ = ⊥

  performed_keeps : (s : Store) (frame : Frame P) (below : List (Frame P)) (a : Act) → Arrived (context p s frame) a
      → If (WentWith (store_cells s + frames_registers (frame ∷ below))) (perform p s frame below a)
  performed_keeps s frame below (GoesOn h t slots) k =
      let cells : store_cells t ≡ store_cells s = k.0 in
      let same : slots_registers slots ≡ slots_registers frame.slots = k.1 in
      if_any (WentWith (store_cells s + frames_registers (frame ∷ below))) (needed (p.code.goes frame.function frame.point h)) _ (λ next. omega arith)
  performed_keeps s frame below (Enters f vs) k = absurd k
  performed_keeps s frame below (Leaves w t) k = absurd k
  performed_keeps s frame below (AsksFor r) k = absurd k

  frames_keep : (s : Store) (v : Value) (frames : List (Frame P)) → If (WentWith (store_cells s + frames_registers frames)) (frames_answered p s v frames)
  frames_keep s v [] = tt
  frames_keep s v (frame ∷ below) =
      let n = store_cells s + frames_registers (frame ∷ below) in
      if_any (WentWith n) (needed (asking (p.code.stood frame.function frame.point))) _ λ f.
      if_then (Arrived (context p s frame)) (WentWith n) (arrives (context p s frame) f (Some v)) _ (arrives_keeps (context p s frame) f (Some v)) (performed_keeps s frame below)

  answer_keeps : (s : Store) (k : Stack P) (v : Value) → If (WentWith (code_cells s k)) (answered p s k v)
  answer_keeps s k v = frames_keep s v k.frames

  -- ---- what is left, where this was there before

  -- a step leaves what was foretold, and one that faults what there was
  abbrev Left : (before : ℕ) → Option ℕ → Answer (State P Callback) → Type 0
  Left before o (Gives t) = o ≡ Some (live_cells t)
  Left before o (Faults fault) = o ≡ Some before
  Left before o NoAnswer = Unit {0}

  -- what there was is left
  abbrev Stays : ℕ → Answer (State P Callback) → Type 0
  Stays n a = Left n (Some n) a

  left_then : {A : Type 0} (n : ℕ) (a : Answer A) (f : A → Answer (State P Callback)) → ((x : A) → Stays n (f x)) → Stays n (a >>= f)
  left_then n (Gives x) f h = h x
  left_then n (Faults fault) f h = refl
  left_then n NoAnswer f h = tt

  -- a reply keeps the live cells
  reply_stays : (k : Stack P) (v : Value) (s : State P Callback) → Stays (code_cells s.store k) (reply p k v s)
  reply_stays k v s = go (answered p s.store k v) (answer_keeps s.store k v)
    where
      go : (a : Answer (Done P)) → If (WentWith (code_cells s.store k)) a → Stays (code_cells s.store k) (a >>= after_done s)
      go (Gives (Went t j)) h = ap Some (sym h)
      go (Gives (Returned w t)) h = tt
      go (Gives (Asks r)) h = tt
      go (Faults fault) h = refl
      go NoAnswer h = tt

  -- an act on the agenda keeps them
  acts_stay : (k : Stack P) (r : Result (Agenda Callback) Fault) (s : State P Callback) → Stays (code_cells s.store k) (acts p k r s)
  acts_stay k r s = left_then (code_cells s.store k) (of_result r) _ (λ a. reply_stays k Unset (with_agenda s a))

  -- an act on the store leaves what it is answered with
  replies_leave : (k : Stack P) (act : Answer (Store × Value)) (s : State P Callback) → Left (code_cells s.store k) (acted_cells p s.store k act) (replies p k act s)
  replies_leave k (Faults fault) s = refl
  replies_leave k NoAnswer s = tt
  replies_leave k (Gives (t, v)) s = go (answered p t k v)
    where
      go : (a : Answer (Done P)) → Left (code_cells s.store k) (done_cells (code_cells s.store k) a) (a >>= after_done (with_store s t))
      go (Gives (Went u j)) = refl
      go (Gives (Returned w u)) = tt
      go (Gives (Asks r)) = tt
      go (Faults fault) = refl
      go NoAnswer = tt

  -- ---- requests

  -- a section that is submitted leaves the store as it is
  submits_keeps : (f : Text) (vs : List Value) (item : Callback) (s : State P Callback) → If (λ (t : State P Callback). s.store ≡ t.store) (submits p f vs item s)
  submits_keeps f vs item s =
      if_any (λ (t : State P Callback). s.store ≡ t.store) (of_result (section item s.agenda)) _ λ a. if_any (λ (t : State P Callback). s.store ≡ t.store) (needed (function_named p.program f)) _ λ g.
      if_any (λ (t : State P Callback). s.store ≡ t.store) (copy_of p.program g (first_or Unset vs) s.store) _ (λ cells. refl)

  -- and is replied to
  submitted_stays : (k : Stack P) (f : Text) (vs : List Value) (item : Callback) (s : State P Callback) → Stays (code_cells s.store k) (submits p f vs item s >>= reply p k Unset)
  submitted_stays k f vs item s = go (submits p f vs item s) (submits_keeps f vs item s)
    where
      go : (a : Answer (State P Callback)) → If (λ (t : State P Callback). s.store ≡ t.store) a → Stays (code_cells s.store k) (a >>= reply p k Unset)
      go (Gives t) h = subst (λ u. Stays (code_cells u k) (reply p k Unset t)) (sym h) (reply_stays k Unset t)
      go (Faults fault) h = refl
      go NoAnswer h = tt

  -- the primitives of the dialect Event
  own_leaves : (prim : Primitive) (vs : List Value) (k : Stack P) (s : State P Callback) → Left (code_cells s.store k) (request_cells p s.store k (Builtin prim) vs) (event_primitive p prim vs k s)
  own_leaves RtFrame (v ∷ []) k s = replies_leave k (allocated FrameClass v s.store) s
  own_leaves RtBox (v ∷ []) k s = replies_leave k (allocated Auto v s.store) s
  own_leaves RtFrameFree (v ∷ []) k s = replies_leave k (freed FrameClass v s.store) s
  own_leaves RtUnbox (v ∷ []) k s = replies_leave k (freed Auto v s.store) s
  own_leaves RtReady (Code f ∷ x ∷ []) k s = acts_stay k (Ok (ready_one (CallWith f x) s.agenda)) s
  own_leaves RtWait (v ∷ Code f ∷ x ∷ []) k s =
      left_then (code_cells s.store k) (cond_of v) _ (λ c. acts_stay k (wait c (CallWith f x) s.agenda) (marks (Waiting c) s))
  own_leaves RtSleep (v ∷ Code f ∷ x ∷ []) k s =
      left_then (code_cells s.store k) (int_of v) _ (λ z. acts_stay k (sleep z (CallWith f x) s.agenda) (marks (Sleeping z) s))
  own_leaves RtIo (v ∷ w ∷ Code f ∷ x ∷ []) k s =
      left_then (code_cells s.store k) (int_of v) _ λ fd. left_then (code_cells s.store k) (int_of w) _ λ way.
      acts_stay k (Ok (io fd (direction_of way) (CallWith f x) s.agenda)) (marks (Awaiting fd (direction_of way)) s)
  own_leaves RtDetach (Code f ∷ x ∷ Code g ∷ vs) k s = submitted_stays k g vs (CallWith f x) s
  own_leaves _ vs k s = tt

  -- those of both machines
  primitive_leaves : (prim : Primitive) (vs : List Value) (k : Stack P) (s : State P Callback) → s.running ≡ Some k → Left (code_cells s.store k) (request_cells p s.store k (Builtin prim) vs) (primitive (callbacks_of p) prim vs k s)
  primitive_leaves Print (v ∷ []) k s h = left_then (code_cells s.store k) (int_of v) _ (λ z. reply_stays k Unset (marks (Output (signed_decimal z ++ 10 ∷ [])) s))
  primitive_leaves Putc (v ∷ []) k s h = reply_stays k Unset (marks (Output (byte_of v ∷ [])) s)
  primitive_leaves Puts vs k s h = reply_stays k Unset (marks (Output (map byte_of vs)) s)
  primitive_leaves Now [] k s h = reply_stays k (Whole Long (pos s.agenda.now)) s
  primitive_leaves CondNew [] k s h = reply_stays k (Cond s.agenda.conditions_made) (with_agenda s (cond_new s.agenda))
  primitive_leaves CondFree (v ∷ []) k s h = left_then (code_cells s.store k) (cond_of v) _ (λ c. acts_stay k (cond_free c s.agenda) s)
  primitive_leaves Signal (v ∷ []) k s h = left_then (code_cells s.store k) (cond_of v) _ (λ c. acts_stay k (signal c s.agenda) s)
  primitive_leaves SignalAll (v ∷ []) k s h = left_then (code_cells s.store k) (cond_of v) _ (λ c. acts_stay k (signal_all c s.agenda) s)
  primitive_leaves Exit (v ∷ []) k s h = left_then (code_cells s.store k) (int_of v) _ (λ z. ap (λ o. Some (store_cells s.store + registers o)) (sym h))
  primitive_leaves Malloc (v ∷ []) k s h = replies_leave k (allocated Heap v s.store) s
  primitive_leaves Free (v ∷ []) k s h = replies_leave k (freed Heap v s.store) s
  primitive_leaves prim vs k s h = own_leaves prim vs k s

  asked_leaves : (asked : Asked) (vs : List Value) (k : Stack P) (s : State P Callback) → s.running ≡ Some k → Left (code_cells s.store k) (request_cells p s.store k asked vs) (asked_by (callbacks_of p) k s asked vs)
  asked_leaves (Builtin prim) vs k s h = primitive_leaves prim vs k s h
  asked_leaves (Host x) vs k s h =
      left_then (code_cells s.store k) (ints_of vs) _ λ zs. let z = first_answer s.history.answers in
      reply_stays k (Whole Long z) (marks (HostCall x zs z) (record s { history = record s.history { answers = rest_of s.history.answers } }))
  asked_leaves (ToSpawn f) vs k s h = tt
  asked_leaves (Section f) vs k s h = tt

  -- ---- steps

  code_leaves : (k : Stack P) (s : State P Callback) → s.running ≡ Some k → Left (code_cells s.store k) (step_cells p s.store k) (code_step (callbacks_of p) s k)
  code_leaves k s h = go (plain p s.store k)
    where
      go : (a : Answer (Done P)) → Left (code_cells s.store k) (after_plain p s.store k a) (a >>= runs_on (callbacks_of p) s k)
      go (Gives (Went t j)) = refl
      go (Gives (Returned v t)) = let e : store_cells t ≡ store_cells t + 0 = omega arith in ap Some e
      go (Gives (Asks r)) = asked_leaves r.asked r.arguments k s h
      go (Faults fault) = refl
      go NoAnswer = tt

pub steps_leave : (P : Type 0) → StepsLeave P
steps_leave P p s t k is_k e =
    go (code_step (callbacks_of p) s k) (subst (λ o. settled (callbacks_of p) s (step_running (callbacks_of p) s o) ≡ Some t) is_k e) (code_leaves p k s is_k)
  where
    go : (a : Answer (State P Callback)) → settled (callbacks_of p) s a ≡ Some t → Left p (code_cells s.store k) (step_cells p s.store k) a → step_cells p s.store k ≡ Some (live_cells t)
    go (Gives u) f h = let i : u ≡ t = cc in h ∙ ap (λ u. Some (live_cells u)) i
    go (Faults fault) f h =
        let i : ends (Failed fault (before_underscores (fault_function s.running))) s ≡ t = cc in
        h ∙ ap (λ o. Some (store_cells s.store + registers o)) (sym is_k) ∙ ap (λ u. Some (live_cells u)) i
    go NoAnswer f h = absurd (cc)

-- ---- a function that is taken up

added : (live after registers taken before cells wanted : ℕ) → live ≡ after + (registers + 0) → taken ≡ after + registers → taken ≡ before + cells → cells ≡ wanted → live ≡ before + wanted
added live after registers taken before cells wanted e f g h = omega arith

pub taking_adds : (P T : Type 0) → TakingAdds P T
taking_adds P T p f g vs s t is_g e =
    let a = gives_then (needed (function_named p.program f)) _ t e in
    let named : needed (Some g) ≡ Gives a.0 = ap needed (sym is_g) ∙ a.1 in
    let same : a.0 ≡ g = cc in
    let b = gives_then (make_frame p a.0 vs s.store) _ t a.2 in
    let c = gives_then (call_slots p.program a.0 vs s.store) _ b.0 b.1 in
    let taken = call_takes p.program a.0 vs s.store c.0.1 c.0.0 c.1 in
    let made : (record { function = a.0.called; point = p.code.first a.0.called; slots = c.0.0 }, c.0.1) ≡ b.0 = cc in
    let next : record s { store = b.0.1; running = Some (stack_of b.0.0) } ≡ t = cc in
    let cells : store_cells c.0.1 + slots_registers c.0.0 ≡ store_cells b.0.1 + slots_registers b.0.0.slots = ap (λ (m : Frame P × Store). store_cells m.1 + slots_registers m.0.slots) made in
    let live : live_cells t ≡ store_cells b.0.1 + (slots_registers b.0.0.slots + 0) = ap live_cells (sym next) in
    let many : call_cells p.program a.0 ≡ call_cells p.program g = ap (call_cells p.program) same in
    added (live_cells t) (store_cells b.0.1) (slots_registers b.0.0.slots) (store_cells c.0.1 + slots_registers c.0.0) (store_cells s.store) (call_cells p.program a.0) (call_cells p.program g) live cells taken many
