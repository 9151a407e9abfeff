-- The states of the threads and of the callbacks of a plain program that meet, and steps of running code from these.
use Rattle.std.proofs.Common.{◌≡◌, pos, true, List, [], ◌∷◌, ◌++◌, map, Option, Some, None, Result, ap, subst}
use Rattle.std.specs.Fmt.{signed_decimal}
use Rattle.cpc_base.specs.Bytes.{Text}
use Rattle.cpc_num.specs.declared.kinds.Fault.{Fault}
use Rattle.cpc_num.specs.declared.kinds.Kind.TheVariants.{Long}
use Rattle.cpc_tree.specs.Syntax.{Program}
use Rattle.cpc_tree.specs.Lists.{rest_of}
use Rattle.cpc_tree.specs.Typing.{function_named}
use Rattle.cpc_tree.specs.Points.{Point}
use Rattle.cpc_tree.specs.Trace.{Mark, Output, HostCall, Outcome, Exited}
use Rattle.cpc_store.specs.declared.values.Class.TheVariants.{Heap}
use Rattle.cpc_store.specs.Store.{Value, Unset, Whole, Cond, Store}
use Rattle.cpc_meaning.specs.Answer.{Answer, Gives, needed}
use Rattle.cpc_meaning.specs.Requests.{Asked, Builtin, Host, ToSpawn, Section, Primitive, Print, Putc, Puts, Now, CondNew, CondFree, Signal, SignalAll, Exit, Malloc, Free}
use Rattle.cpc_meaning.specs.Plain.{Form, Stack, stack_of, Done, Went, Returned, Asks, make_frame, plain, answered}
use Rattle.cpc_meaning.specs.Trees.{trees}
use Rattle.cpc_meaning.specs.Agenda.{Agenda}
use Rattle.cpc_meaning.specs.History.{History}
use Rattle.cpc_meaning.specs.Section.{allocated, freed}
use Rattle.cpc_meaning.specs.Machine.{State, marks, ends, with_agenda, after_done, reply, byte_of, replies, acts, int_of, cond_of, ints_of, first_answer, primitive, host_call, asked_by, runs_on, code_step}
use Rattle.cpc_meaning.specs.Start.{main_name}
use Rattle.cpc_meaning.specs.Threads.{Thread, Pending, starts_thread, thread_primitive, threads_of}
use Rattle.cpc_meaning.specs.Events.{Callback, CallMain, starts_callback, event_primitive, callbacks_of}
use Rattle.cpc_meaning.proofs.Agendas.{SameAgenda, SameResult, BothOk, BothErr, signals, signals_all, made, freed as released}
use Rattle.cpc_meaning.proofs.Meeting.{BothAnswer, BothGive, BothFault, BothStick, same_then, same_known}
use Rattle.cpc_check_laws.specs.Run.Plain.{is_shared, is_plain}
use Rattle.cpc_check_laws.proofs.Run.Asked.{is_answered, asks_answered}

-- the call of main
pub data OfMain : Thread Point → Callback → Type 0 where
  TheMain : OfMain (Pending main_name []) CallMain

-- states that differ in the items of their agendas alone, where no section is out
pub data StatesMeet : State Point (Thread Point) → State Point Callback → Type 0 where
  Meet : (s : Store) (k : Option (Stack Point)) (a : Agenda (Thread Point)) (b : Agenda Callback) (h : History) (tr : List Mark) (o : Outcome) → SameAgenda OfMain a b
      → StatesMeet (record { store = s; running = k; agenda = a; jobs = []; history = h; trace = tr; outcome = o }) (record { store = s; running = k; agenda = b; jobs = []; history = h; trace = tr; outcome = o })

abbrev pub Steps : Answer (State Point (Thread Point)) → Answer (State Point Callback) → Type 0
Steps = BothAnswer StatesMeet

pub agendas : (x : State Point (Thread Point)) (y : State Point Callback) → StatesMeet x y → SameAgenda OfMain x.agenda y.agenda
agendas _ _ (Meet s k a b h tr o g) = g

marks_meet : (m : Mark) (x : State Point (Thread Point)) (y : State Point Callback) → StatesMeet x y → StatesMeet (marks m x) (marks m y)
marks_meet m _ _ (Meet s k a b h tr o g) = Meet s k a b h (tr ++ m ∷ []) o g

agenda_meet : (x : State Point (Thread Point)) (y : State Point Callback) (a : Agenda (Thread Point)) (b : Agenda Callback) → StatesMeet x y → SameAgenda OfMain a b → StatesMeet (with_agenda x a) (with_agenda y b)
agenda_meet _ _ a b (Meet s k _ _ h tr o g) f = Meet s k a b h tr o f

pub ends_meet : (o : Outcome) (x : State Point (Thread Point)) (y : State Point Callback) → StatesMeet x y → StatesMeet (ends o x) (ends o y)
ends_meet o _ _ (Meet s k a b h tr o' g) = Meet s k a b h tr o g

done_meet : (x : State Point (Thread Point)) (y : State Point Callback) → StatesMeet x y → (d : Done Point) → Steps (after_done x d) (after_done y d)
done_meet _ _ (Meet s k a b h tr o g) (Went t j) = BothGive _ _ (Meet t (Some j) a b h tr o g)
done_meet _ _ (Meet s k a b h tr o g) (Returned v t) = BothStick
done_meet _ _ (Meet s k a b h tr o g) (Asks r) = BothStick

module _ (p : Program) where
  abbrev f : Form Point
  f = trees p

  reply_meet : (k : Stack Point) (v : Value) (x : State Point (Thread Point)) (y : State Point Callback) → StatesMeet x y → Steps (reply f k v x) (reply f k v y)
  reply_meet k v _ _ (Meet s k' a b h tr o g) = same_then _ _ (answered f s k v) (λ d. done_meet _ _ (Meet s k' a b h tr o g) d)

  acts_meet : (k : Stack Point) (u : Result (Agenda (Thread Point)) Fault) (w : Result (Agenda Callback) Fault) (x : State Point (Thread Point)) (y : State Point Callback) → SameResult OfMain u w → StatesMeet x y → Steps (acts f k u x) (acts f k w y)
  acts_meet k _ _ x y (BothOk a b g) m = reply_meet k Unset _ _ (agenda_meet x y a b m g)
  acts_meet k _ _ x y (BothErr fault) m = BothFault fault

  replied : (k : Stack Point) (act : Store → Answer (Store × Value)) (x : State Point (Thread Point)) (y : State Point Callback) → StatesMeet x y → Steps (replies f k (act x.store) x) (replies f k (act y.store) y)
  replied k act _ _ (Meet s k' a b h tr o g) = same_then _ _ (act s) (λ t. reply_meet k t.1 _ _ (Meet t.0 k' a b h tr o g))

  reply_equal : (k : Stack Point) (v w : Value) → v ≡ w → (x : State Point (Thread Point)) (y : State Point Callback) → StatesMeet x y → Steps (reply f k v x) (reply f k w y)
  reply_equal k v w e x y m = subst (λ u. Steps (reply f k v x) (reply f k u y)) e (reply_meet k v x y m)

  -- a shared primitive is none of either machine's own
  own_meet : (prim : Primitive) → is_shared prim ≡ true → (vs : List Value) (k : Stack Point) (x : State Point (Thread Point)) (y : State Point Callback) → Steps (thread_primitive f prim vs k x) (event_primitive f prim vs k y)
  own_meet Print e vs k x y = BothStick
  own_meet Putc e vs k x y = BothStick
  own_meet Puts e vs k x y = BothStick
  own_meet Now e vs k x y = BothStick
  own_meet CondNew e vs k x y = BothStick
  own_meet CondFree e vs k x y = BothStick
  own_meet Signal e vs k x y = BothStick
  own_meet SignalAll e vs k x y = BothStick
  own_meet Exit e vs k x y = BothStick
  own_meet Malloc e vs k x y = BothStick
  own_meet Free e vs k x y = BothStick
  own_meet _ e vs k x y = absurd cc

  primitive_meet : (prim : Primitive) → is_shared prim ≡ true → (vs : List Value) (k : Stack Point) (x : State Point (Thread Point)) (y : State Point Callback) → StatesMeet x y → Steps (primitive (threads_of f) prim vs k x) (primitive (callbacks_of f) prim vs k y)
  primitive_meet Print e (v ∷ []) k x y m = same_then _ _ (int_of v) (λ z. reply_meet k Unset _ _ (marks_meet (Output (signed_decimal z ++ 10 ∷ [])) x y m))
  primitive_meet Putc e (v ∷ []) k x y m = reply_meet k Unset _ _ (marks_meet (Output (byte_of v ∷ [])) x y m)
  primitive_meet Puts e vs k x y m = reply_meet k Unset _ _ (marks_meet (Output (map byte_of vs)) x y m)
  primitive_meet Now e [] k x y m = reply_equal k _ _ (ap (λ n. Whole Long (pos n)) (agendas x y m).now) x y m
  primitive_meet CondNew e [] k x y m = reply_equal k _ _ (ap (λ n. Cond n) (agendas x y m).conditions_made) _ _ (agenda_meet x y _ _ m (made OfMain _ _ (agendas x y m)))
  primitive_meet CondFree e (v ∷ []) k x y m = same_then _ _ (cond_of v) (λ c. acts_meet k _ _ x y (released OfMain c _ _ (agendas x y m)) m)
  primitive_meet Signal e (v ∷ []) k x y m = same_then _ _ (cond_of v) (λ c. acts_meet k _ _ x y (signals OfMain c _ _ (agendas x y m)) m)
  primitive_meet SignalAll e (v ∷ []) k x y m = same_then _ _ (cond_of v) (λ c. acts_meet k _ _ x y (signals_all OfMain c _ _ (agendas x y m)) m)
  primitive_meet Exit e (v ∷ []) k x y m = same_then _ _ (int_of v) (λ z. BothGive _ _ (ends_meet (Exited z) x y m))
  primitive_meet Malloc e (v ∷ []) k x y m = replied k (allocated Heap v) x y m
  primitive_meet Free e (v ∷ []) k x y m = replied k (freed Heap v) x y m
  primitive_meet prim e vs k x y m = own_meet prim e vs k x y

  host_meet : (x : Text) (vs : List Value) (k : Stack Point) (u : State Point (Thread Point)) (w : State Point Callback) → StatesMeet u w → Steps (host_call f x vs k u) (host_call f x vs k w)
  host_meet x vs k _ _ (Meet s k' a b h tr o g) =
      same_then _ _ (ints_of vs) (λ zs. reply_meet k (Whole Long (first_answer h.answers)) _ _ (Meet s k' a b (record h { answers = rest_of h.answers }) (tr ++ HostCall x zs (first_answer h.answers) ∷ []) o g))

  asked_meet : (asked : Asked) → is_answered asked ≡ true → (vs : List Value) (k : Stack Point) (x : State Point (Thread Point)) (y : State Point Callback) → StatesMeet x y → Steps (asked_by (threads_of f) k x asked vs) (asked_by (callbacks_of f) k y asked vs)
  asked_meet (Builtin prim) e vs k x y m = primitive_meet prim e vs k x y m
  asked_meet (Host n) e vs k x y m = host_meet n vs k x y m
  asked_meet (ToSpawn n) e vs k x y m = absurd cc
  asked_meet (Section n) e vs k x y m = absurd cc

  -- ---- a step of running code

  module _ (plain_program : is_plain p ≡ true) where
    runs_meet : (s : Store) (k : Stack Point) (d : Done Point) → plain f s k ≡ Gives d → (x : State Point (Thread Point)) (y : State Point Callback) → StatesMeet x y → Steps (runs_on (threads_of f) x k d) (runs_on (callbacks_of f) y k d)
    runs_meet s0 k (Went t j) i _ _ (Meet s k' a b h tr o g) = BothGive _ _ (Meet t (Some j) a b h tr o g)
    runs_meet s0 k (Returned v t) i _ _ (Meet s k' a b h tr o g) = BothGive _ _ (Meet t None a b h tr o g)
    runs_meet s0 k (Asks r) i x y m = asked_meet r.asked (asks_answered p plain_program s0 k r i) r.arguments k x y m

    pub code_step_meet : (k : Stack Point) (x : State Point (Thread Point)) (y : State Point Callback) → StatesMeet x y → Steps (code_step (threads_of f) x k) (code_step (callbacks_of f) y k)
    code_step_meet k _ _ (Meet s k' a b h tr o g) = same_known _ _ (plain f s k) (λ d i. runs_meet s k d i _ _ (Meet s k' a b h tr o g))

  -- ---- main is taken

  pub starts_meet : (x : Thread Point) (y : Callback) → OfMain x y → (v w : Value) (s : State Point (Thread Point)) (t : State Point Callback) → StatesMeet s t → Steps (starts_thread f x v s) (starts_callback f y w t)
  starts_meet _ _ TheMain v w _ _ (Meet s k a b h tr o g) =
      same_then _ _ (needed (function_named p main_name)) (λ fn. same_then _ _ (make_frame f fn [] s) (λ made.
      BothGive _ _ (Meet made.1 (Some (stack_of made.0)) a b h tr o g)))
