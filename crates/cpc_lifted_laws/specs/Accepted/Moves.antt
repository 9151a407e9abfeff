-- What the steps of threads do to the store, the running stack, the agenda and the sections that are out; and what it is for something to be kept.
use Rattle.std.specs.Prelude.{◌≡◌, ℕ, ℤ, true, List, [], ◌∷◌, ◌++◌, Option, Some, None, Ok}
use Rattle.cpc_base.specs.Bytes.{Text}
use Rattle.cpc_base.specs.declared.poll.Direction.{Direction}
use Rattle.cpc_store.specs.Store.{Value, Unset, Store}
use Rattle.cpc_tree.specs.Lists.{first_or, rest_of}
use Rattle.cpc_tree.specs.Primitives.{Primitive}
use Rattle.cpc_tree.specs.Syntax.{Function}
use Rattle.cpc_tree.specs.Trace.{Told}
use Rattle.cpc_tree.specs.Typing.{function_named}
use Rattle.cpc_meaning.specs.Agenda.{Due, Agenda, begin_round, ready_one, cond_new, cond_free, signal, signal_all, wait, sleep, io, section, poll}
use Rattle.cpc_meaning.specs.Answer.{Gives}
use Rattle.cpc_meaning.specs.Copies.{copy_of}
use Rattle.cpc_meaning.specs.Plain.{Form, Frame, Stack, stack_of, Went, Returned, make_frame, plain, answered, waiting}
use Rattle.cpc_meaning.specs.Requests.{Asked, Builtin, ToSpawn, Section}
use Rattle.cpc_meaning.specs.Section.{Job}
use Rattle.cpc_meaning.specs.Threads.{Thread, Pending, Suspended}
use Rattle.cpc_check_rules.specs.Calls.{gives_up}
use Rattle.cpc_convert_flat_laws.specs.Blocks.{lives}

-- ---- agendas

-- an agenda, and it after an act that neither adds nor takes an item
pub data Shuffled {T : Type 0} : Agenda T → Agenda T → Type 0 where
  MadeCondition : (a : Agenda T) → Shuffled a (cond_new a)
  FreedCondition : (c : ℕ) (a b : Agenda T) → cond_free c a ≡ Ok b → Shuffled a b
  Signalled : (c : ℕ) (a b : Agenda T) → signal c a ≡ Ok b → Shuffled a b
  SignalledAll : (c : ℕ) (a b : Agenda T) → signal_all c a ≡ Ok b → Shuffled a b
  BeganRound : (a : Agenda T) → a.round ≡ [] → Shuffled a (begin_round a)
  WasPolled : (told : Told) (vs : List Value) (a : Agenda T) → a.round ≡ [] → Shuffled a (begin_round (poll told vs a))

-- an agenda, and it with one more item
pub data Added {T : Type 0} (item : T) : Agenda T → Agenda T → Type 0 where
  IsReady : (a : Agenda T) → Added item a (ready_one item a)
  Sleeps : (z : ℤ) (a b : Agenda T) → sleep z item a ≡ Ok b → Added item a b
  AwaitsIo : (fd : ℤ) (way : Direction) (a : Agenda T) → Added item a (io fd way item a)
  WaitsOn : (c : ℕ) (a b : Agenda T) → wait c item a ≡ Ok b → Added item a b
  AwaitsSection : (a b : Agenda T) → section item a ≡ Ok b → Added item a b

-- ---- stores

-- the same blocks of variables are live
abbrev pub SameLives : Store → Store → Type 0
SameLives s t = (b : ℕ) → lives t.auto b ≡ lives s.auto b

-- ---- what is kept

-- Something of stores, running stacks, agendas and sections is kept by each move of the threads of a form, where what they ask is so, and so is
-- the result that is due to one that goes on.
pub record IsKept {P : Type 0} (p : Form P) (I : Store → Option (Stack P) → Agenda (Thread P) → List Job → Type 0) (Asked_so : Store → Stack P → Asked → List Value → Type 0) (Due_so : Value → Type 0) : Type 0 where
  -- running code
  pub went : (s t : Store) (k j : Stack P) (a : Agenda (Thread P)) (jobs : List Job) → plain p s k ≡ Gives (Went t j) → I s (Some k) a jobs → I t (Some j) a jobs
  pub returned : (s t : Store) (k : Stack P) (v : Value) (a : Agenda (Thread P)) (jobs : List Job) → plain p s k ≡ Gives (Returned v t) → I s (Some k) a jobs → I t None a jobs
  pub answered : (s t : Store) (k j : Stack P) (v : Value) (a : Agenda (Thread P)) (jobs : List Job) → answered p s k v ≡ Gives (Went t j) → I s (Some k) a jobs → I t (Some j) a jobs
  -- stores and agendas
  pub stores : (s t : Store) (o : Option (Stack P)) (a : Agenda (Thread P)) (jobs : List Job) → SameLives s t → I s o a jobs → I t o a jobs
  pub shuffled : (s : Store) (o : Option (Stack P)) (a b : Agenda (Thread P)) (jobs : List Job) → Shuffled a b → I s o a jobs → I s o b jobs
  -- threads that come, wait and go on
  pub spawned : (s : Store) (k : Stack P) (a : Agenda (Thread P)) (jobs : List Job) (f : Text) (vs : List Value) → Asked_so s k (ToSpawn f) vs → I s (Some k) a jobs → I s (Some k) (ready_one (Pending f vs) a) jobs
  pub suspended : (s : Store) (k j : Stack P) (a b : Agenda (Thread P)) (jobs : List Job) (prim : Primitive) (vs : List Value) → gives_up prim ≡ true → Asked_so s k (Builtin prim) vs → waiting p k ≡ Gives j → Added (Suspended j) a b → I s (Some k) a jobs → I s None b jobs
  pub submitted : (s : Store) (k j : Stack P) (a b : Agenda (Thread P)) (jobs : List Job) (f : Text) (g : Function) (vs cells : List Value)
      → waiting p k ≡ Gives j → Added (Suspended j) a b → function_named p.program f ≡ Some g → Asked_so s k (Section f) vs → copy_of p.program g (first_or Unset vs) s ≡ Gives cells → I s (Some k) a jobs
      → I s None b (jobs ++ record { number = a.sections_made; function = f; arguments = rest_of vs; cells = cells; pointer = first_or Unset vs } ∷ [])
  pub begun : (s t : Store) (a : Agenda (Thread P)) (jobs : List Job) (f : Text) (g : Function) (vs : List Value) (v : Value) (ds : List (Due (Thread P))) (frame : Frame P)
      → a.round ≡ record { item = Pending f vs; result = v } ∷ ds → function_named p.program f ≡ Some g → make_frame p g vs s ≡ Gives (frame, t) → I s None a jobs → I t (Some (stack_of frame)) (record a { round = ds }) jobs
  pub resumed : (s : Store) (k : Stack P) (v : Value) (a : Agenda (Thread P)) (jobs : List Job) (ds : List (Due (Thread P)))
      → a.round ≡ record { item = Suspended k; result = v } ∷ ds → Due_so v → I s None a jobs → I s (Some (record k { arriving = Some v })) (record a { round = ds }) jobs
