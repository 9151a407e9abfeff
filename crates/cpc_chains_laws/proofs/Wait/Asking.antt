-- A line of a piece asks the event loop: for what the primitives of threads become there, and how the loop takes them.
use Rattle.std.proofs.Common.{◌≡◌, ℕ, suc, true, false, List, [], ◌∷◌, ◌++◌, Some, None, Ok, Err, refl, sym, ◌∙◌, ap, subst}
use Rattle.cpc_base.specs.Bytes.{Text}
use Rattle.cpc_num.specs.declared.kinds.Fault.{Fault}
use Rattle.cpc_tree.specs.Lists.{first_or, rest_of}
use Rattle.cpc_tree.specs.Points.{Point, Simple}
use Rattle.cpc_tree.specs.Points as P
use Rattle.cpc_tree.specs.Primitives.{Primitive, Yield, Sleep, IoWait, Wait, RtDetach, primitive_named, takes_first, callback_and_pointer}
use Rattle.cpc_tree.specs.Syntax.{Expr, Exprs, Call, Stmts, AndStmt, Function, Program}
use Rattle.cpc_tree.specs.Trace.{Submitted, Failed}
use Rattle.cpc_tree.specs.Typing.{Scope, function_named}
use Rattle.cpc_store.specs.Store.{Value, Unset, Whole, Cond, Code, Store}
use Rattle.cpc_meaning.specs.Act.{AsksFor, simple_act, puts_text}
use Rattle.cpc_meaning.specs.Agenda.{Agenda, section}
use Rattle.cpc_meaning.specs.Answer.{Answer, Gives, Faults}
use Rattle.cpc_meaning.specs.Copies.{copy_of}
use Rattle.cpc_meaning.specs.Eval.{Slot}
use Rattle.cpc_meaning.specs.Events.{Callback, CallWith, callbacks}
use Rattle.cpc_meaning.specs.Machine.{State, next, ends, asked_by, acts, reply, direction_of}
use Rattle.cpc_meaning.specs.Plain.{Frame as CallFrame, Stack}
use Rattle.cpc_meaning.specs.Requests.{Request, Builtin}
use Rattle.cpc_meaning.specs.Start.{before_underscores}
use Rattle.cpc_meaning.specs.Trees.{trees}
use Rattle.cpc_meaning.specs.Ways.{AsCps, primitive_manner}
use Rattle.cpc_convert_common.specs.Marks.{has_marks}
use Rattle.cpc_convert_flat_laws.specs.Flat.{point_at, LineAt}
use Rattle.cpc_convert_flat_laws.specs.Locals.{at}
use Rattle.cpc_convert_flat_laws.specs.Walks.{World, frame_at, at_line}
use Rattle.cpc_convert_flat_laws.proofs.AtLine.{line_path, line_found, line_scope, line_next}
use Rattle.cpc_convert_flat_laws.proofs.Steps.{step_asks, step_fails, step_faults, replied}
use Rattle.cpc_chains_event.specs.Lines.{runtime_name}
use Rattle.cpc_chains_laws.specs.Related.Waits.{Awaited, ATurn, ATime, ADescriptor, ACondition, awaited, put_waiting, wait_marks}
use Rattle.cpc_chains_laws.proofs.Related.Setting.{is_common}
use Rattle.cpc_chains_laws.proofs.Complete.Frames.{runtime}

-- ---- steps

module _ (q : Program) (w : World) (fn : Text) (g : Function) (body : Stmts) (below : List (CallFrame Point)) (is_g : function_named q fn ≡ Some g) (k : ℕ) (scope : Scope) (n : ℕ) (rest : Stmts) (slots : List Slot) (s : Store) (e : Expr) (es : Exprs) (l : LineAt g body k scope n (Call None e es) rest) where
  -- the stack that asks
  abbrev pub asking_stack : Stack Point
  asking_stack = record { frames = frame_at fn (P.Here (line_path g body k scope n (Call None e es) rest l)) slots ∷ below; arriving = None }

  -- the loop answers with nothing, in another world
  pub asked_step : (r : Request) (w' : World) → simple_act (at q scope slots s) g.result (Call None e es) ≡ Gives (AsksFor r)
      → asked_by (callbacks q) asking_stack (at_line w fn below k (AndStmt l.statement rest) slots s) r.asked r.arguments ≡ reply (trees q) asking_stack Unset (at_line w' fn below k (AndStmt l.statement rest) slots s)
      → next (callbacks q) (at_line w fn below k (AndStmt l.statement rest) slots s) ≡ Some (at_line w' fn below (suc k) rest slots s)
  asked_step r w' is_act is_answer =
      let x = Call None e es in
      let path = line_path g body k scope n x rest l in
      let is_found = line_found g body k scope n x rest l in
      let is_scope = line_scope g body k scope n x rest l _ in
      let is_next = line_next g body k scope n x rest l true refl refl in
      step_asks q w fn g below is_g slots s path scope is_scope (Simple x) is_found r (at_line w' fn below (suc k) rest slots s) is_act
      (is_answer ∙ replied q w' fn g below is_g slots s path scope is_scope None e es is_found Unset s s slots (point_at (suc k) rest) refl is_next)

  -- it refuses
  pub asked_fault : (r : Request) (fault : Fault) → simple_act (at q scope slots s) g.result (Call None e es) ≡ Gives (AsksFor r)
      → asked_by (callbacks q) asking_stack (at_line w fn below k (AndStmt l.statement rest) slots s) r.asked r.arguments ≡ Faults fault
      → next (callbacks q) (at_line w fn below k (AndStmt l.statement rest) slots s) ≡ Some (ends (Failed fault (before_underscores fn)) (at_line w fn below k (AndStmt l.statement rest) slots s))
  asked_fault r fault is_act is_answer =
      let x = Call None e es in
      step_fails q w fn g below is_g slots s (line_path g body k scope n x rest l) scope (line_scope g body k scope n x rest l _) (Simple x) (line_found g body k scope n x rest l) r fault is_act is_answer

  -- what is evaluated faults
  pub argument_fault : (fault : Fault) → simple_act (at q scope slots s) g.result (Call None e es) ≡ Faults fault
      → next (callbacks q) (at_line w fn below k (AndStmt l.statement rest) slots s) ≡ Some (ends (Failed fault (before_underscores fn)) (at_line w fn below k (AndStmt l.statement rest) slots s))
  argument_fault fault is_act =
      let x = Call None e es in
      step_faults q w fn g below is_g slots s (line_path g body k scope n x rest l) scope (line_scope g body k scope n x rest l _) (Simple x) (line_found g body k scope n x rest l) fault is_act

-- ---- primitives

-- what is known of one that waits, and of what it becomes
pub record IsWait (prim : Primitive) : Type 0 where
  pub takes : takes_first (runtime prim) ≡ takes_first prim ++ callback_and_pointer
  pub named : primitive_named (runtime_name (Some prim)) ≡ Some (runtime prim)
  pub plain : has_marks (runtime_name (Some prim)) ≡ false
  pub own : ¬ (prim ≡ RtDetach)
  pub its : ¬ (runtime prim ≡ RtDetach)
  pub text : (es : Exprs) → puts_text prim es ≡ None
  pub its_text : (es : Exprs) → puts_text (runtime prim) es ≡ None
  pub apart : is_common prim ≡ false
  pub asked : (q : Program) (vs : List Value) (x : Awaited) → awaited prim vs ≡ Some x → (k : Stack Point) (s : State Point Callback) (d : Text) (v : Value)
      → asked_by (callbacks q) k s (Builtin (runtime prim)) (vs ++ Code d ∷ v ∷ []) ≡ acts (trees q) k (put_waiting x (CallWith d v) s.agenda) (record s { trace = wait_marks x s.trace })

abbrev Asked : Program → Primitive → Stack Point → State Point Callback → Text → Value → List Value → Awaited → Type 0
Asked q prim k s d v vs x = asked_by (callbacks q) k s (Builtin (runtime prim)) (vs ++ Code d ∷ v ∷ []) ≡ acts (trees q) k (put_waiting x (CallWith d v) s.agenda) (record s { trace = wait_marks x s.trace })

yield_asked : (q : Program) (k : Stack Point) (s : State Point Callback) (d : Text) (v : Value) (vs : List Value) (x : Awaited) → awaited Yield vs ≡ Some x → Asked q Yield k s d v vs x
yield_asked q k s d v [] x e = let i : ATurn ≡ x = cc in subst (Asked q Yield k s d v []) i refl
yield_asked q k s d v (u ∷ vs) x e = absurd (cc)

sleep_asked : (q : Program) (k : Stack Point) (s : State Point Callback) (d : Text) (v : Value) (vs : List Value) (x : Awaited) → awaited Sleep vs ≡ Some x → Asked q Sleep k s d v vs x
sleep_asked q k s d v (Whole kind z ∷ []) x e = let i : ATime z ≡ x = cc in subst (Asked q Sleep k s d v (Whole kind z ∷ [])) i refl
sleep_asked q k s d v vs x e = absurd (cc)

io_asked : (q : Program) (k : Stack Point) (s : State Point Callback) (d : Text) (v : Value) (vs : List Value) (x : Awaited) → awaited IoWait vs ≡ Some x → Asked q IoWait k s d v vs x
io_asked q k s d v (Whole kind z ∷ Whole other y ∷ []) x e = let i : ADescriptor z (direction_of y) ≡ x = cc in subst (Asked q IoWait k s d v (Whole kind z ∷ Whole other y ∷ [])) i refl
io_asked q k s d v vs x e = absurd (cc)

wait_asked : (q : Program) (k : Stack Point) (s : State Point Callback) (d : Text) (v : Value) (vs : List Value) (x : Awaited) → awaited Wait vs ≡ Some x → Asked q Wait k s d v vs x
wait_asked q k s d v (Cond c ∷ []) x e = let i : ACondition c ≡ x = cc in subst (Asked q Wait k s d v (Cond c ∷ [])) i refl
wait_asked q k s d v vs x e = absurd (cc)

not_detach : (prim : Primitive) → is_common prim ≡ false → primitive_manner (Some prim) ≡ AsCps → ¬ (prim ≡ RtDetach)
not_detach prim a m e = let z = ap (λ p. primitive_manner (Some p)) (sym e) ∙ m in absurd (cc)

pub is_wait : (prim : Primitive) → primitive_manner (Some prim) ≡ AsCps → IsWait prim
is_wait Yield m = record { takes = refl; named = refl; plain = refl; own = not_detach Yield refl refl; its = λ e. absurd (cc); text = λ es. refl; its_text = λ es. refl; apart = refl; asked = λ q vs x e k s d v. yield_asked q k s d v vs x e }
is_wait Sleep m = record { takes = refl; named = refl; plain = refl; own = not_detach Sleep refl refl; its = λ e. absurd (cc); text = λ es. refl; its_text = λ es. refl; apart = refl; asked = λ q vs x e k s d v. sleep_asked q k s d v vs x e }
is_wait IoWait m = record { takes = refl; named = refl; plain = refl; own = not_detach IoWait refl refl; its = λ e. absurd (cc); text = λ es. refl; its_text = λ es. refl; apart = refl; asked = λ q vs x e k s d v. io_asked q k s d v vs x e }
is_wait Wait m = record { takes = refl; named = refl; plain = refl; own = not_detach Wait refl refl; its = λ e. absurd (cc); text = λ es. refl; its_text = λ es. refl; apart = refl; asked = λ q vs x e k s d v. wait_asked q k s d v vs x e }
is_wait prim m = absurd (cc)

-- ---- sections

module _ (q : Program) (k : Stack Point) (s : State Point Callback) (x d : Text) (v : Value) (vs : List Value) where
  abbrev Section : Answer (State Point Callback)
  Section = asked_by (callbacks q) k s (Builtin RtDetach) (Code d ∷ v ∷ Code x ∷ vs)

  -- one is submitted
  pub section_asked : (a : Agenda Callback) (g : Function) (cells : List Value) → section (CallWith d v) s.agenda ≡ Ok a → function_named q x ≡ Some g → copy_of q g (first_or Unset vs) s.store ≡ Gives cells
      → Section
      ≡ reply (trees q) k Unset
      (record s {
        agenda = a;
        jobs = s.jobs ++ record { number = s.agenda.sections_made; function = x; arguments = rest_of vs; cells = cells; pointer = first_or Unset vs } ∷ [];
        trace = s.trace ++ Submitted s.agenda.sections_made x ∷ [];
      })
  section_asked a g cells is_section found is_copy = simp (is_section, found, is_copy) refl

  -- the agenda refuses it
  pub section_refused : (fault : Fault) → section (CallWith d v) s.agenda ≡ Err fault → Section ≡ Faults fault
  section_refused fault is_section = simp (is_section) refl

  -- what it takes faults
  pub section_faults : (a : Agenda Callback) (g : Function) (fault : Fault) → section (CallWith d v) s.agenda ≡ Ok a → function_named q x ≡ Some g → copy_of q g (first_or Unset vs) s.store ≡ Faults fault → Section ≡ Faults fault
  section_faults a g fault is_section found is_copy = simp (is_section, found, is_copy) refl
