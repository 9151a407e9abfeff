-- Calls that are to begin have their arguments, and sections hold codes of native functions alone: in all states of the threads of split graphs.
use Rattle.std.proofs.Common.{◌≡◌, ℕ, zero, suc, Bool, true, false, cond, List, [], ◌∷◌, slice_get, Option, Some, None, Ok, Err, refl, subst}
use Rattle.std.specs.List.{All}
use Rattle.std.proofs.lemmas.List.Elements.{All-nil, All-cons, All-head, All-tail, All-push}
use Rattle.cpc_base.specs.Bytes.{Text}
use Rattle.cpc_store.specs.declared.values.Class.{Class}
use Rattle.cpc_store.specs.declared.values.Scalar.{Scalar}
use Rattle.cpc_store.specs.Store.{Value, Unset, At, Store, cells_of, load, load_cell, load_block, suits}
use Rattle.cpc_tree.specs.Lists.{first_or, rest_of}
use Rattle.cpc_tree.specs.Syntax.{Function, Program}
use Rattle.cpc_tree.specs.Typing.{function_named, parameter_types}
use Rattle.cpc_num.specs.declared.kinds.Fault.TheVariants as F
use Rattle.cpc_meaning_matching.specs.Systems.{run}
use Rattle.cpc_meaning.specs.Agenda.{Agenda, new_agenda}
use Rattle.cpc_meaning.specs.Answer.{Gives, of_result}
use Rattle.cpc_meaning.specs.Copies.{copied, pointed_layout, copy_of}
use Rattle.cpc_meaning.specs.History.{History}
use Rattle.cpc_meaning.specs.Machine.{State}
use Rattle.cpc_meaning.specs.Matching.{thread_system}
use Rattle.cpc_meaning.specs.Plain.{Form, Stack, Asks, plain}
use Rattle.cpc_meaning.specs.Requests.{Asked, Builtin, Host, ToSpawn, Section}
use Rattle.cpc_meaning.specs.Section.{Job}
use Rattle.cpc_meaning.specs.Start.{main_name}
use Rattle.cpc_meaning.specs.Threads.{Thread, Pending, Suspended}
use Rattle.cpc_meaning_laws.proofs.Pointer.Blocks.{Only, only_then, any_then}
use Rattle.cpc_check_laws.specs.Kept.Codes.{IsCode, IsCodeStore}
use Rattle.cpc_check_laws.specs.Kept.Fits.{FitAll}
use Rattle.cpc_check_laws.specs.Kept.Kept.{IsSteady}
use Rattle.cpc_check_laws.specs.Kept.Layers.{Holds}
use Rattle.cpc_check_laws.proofs.Kept.Agendas as A
use Rattle.cpc_check_laws.proofs.Kept.CodeActs.{DoneCode, plain_code}
use Rattle.cpc_check_laws.proofs.Kept.Steps.{DoneSo, plain_so}
use Rattle.cpc_lifted_laws.specs.Accepted.Known.{AreScalar, BeginsWell}
use Rattle.cpc_lifted_laws.specs.Accepted.Moves.{IsReady, IsKept}
use Rattle.cpc_lifted_laws.specs.Arrival.Arrivals.{AnyValue}
use Rattle.cpc_lifted_laws.proofs.Accepted.Agendas.{Lists, shuffled_lists, added_lists, later_lists}
use Rattle.cpc_lifted_laws.proofs.Accepted.Spawns.{Spawning, step_spawns}
use Rattle.cpc_lifted_laws.proofs.Accepted.Walk.{step_so}

-- a section holds codes of native or detached functions alone
pub record CodedJob (p : Program) (j : Job) : Type 0 where
  pub arguments : All (IsCode p) j.arguments
  pub cells : All (IsCode p) j.cells
  pub pointer : IsCode p j.pointer

-- ---- what is copied

value_at : (p : Program) (cells : List Value) (k : ℕ) (v : Value) → All (IsCode p) cells → slice_get cells k ≡ Some v → IsCode p v
value_at p [] k v h e = absurd (cc)
value_at p (x ∷ xs) zero v h e = let i : x ≡ v = cc in subst (IsCode p) i (All-head (IsCode p) x xs h)
value_at p (x ∷ xs) (suc k) v h e = value_at p xs k v (All-tail (IsCode p) x xs h) e

load_code : (p : Program) (wanted : Scalar) (c : Class) (n k : ℕ) (s : Store) → IsCodeStore p s → Only (IsCode p) (of_result (load wanted c n k s))
load_code p wanted c n k s h = go (cells_of c n s) refl
  where
    cell : (cells : List Value) → cells_of c n s ≡ Some cells → (o : Option Value) → slice_get cells k ≡ o → Only (IsCode p) (of_result (load_cell wanted o))
    cell cells e None i = tt
    cell cells e (Some v) i = kept (suits wanted v)
      where
        kept : (b : Bool) → Only (IsCode p) (of_result (cond b (Ok v) (Err F.Kind)))
        kept true = value_at p cells k v (h c n cells e) i
        kept false = tt

    go : (o : Option (List Value)) → cells_of c n s ≡ o → Only (IsCode p) (of_result (load_block wanted o k))
    go None e = tt
    go (Some cells) e = cell cells e (slice_get cells k) refl

copied_code : (p : Program) (scalars : List Scalar) (c : Class) (n k : ℕ) (s : Store) → IsCodeStore p s → Only (All (IsCode p)) (copied scalars c n k s)
copied_code p [] c n k s h = All-nil (IsCode p)
copied_code p (wanted ∷ more) c n k s h =
    only_then (IsCode p) (All (IsCode p)) (of_result (load wanted c n k s)) _ (load_code p wanted c n k s h) λ v i.
    only_then (All (IsCode p)) (All (IsCode p)) (copied more c n (suc k) s) _ (copied_code p more c n (suc k) s h) λ vs j. All-cons (IsCode p) v vs i j

copy_code : (p : Program) (f : Function) (v : Value) (s : Store) → IsCodeStore p s → Only (All (IsCode p)) (copy_of p f v s)
copy_code p f (At c n k) s h = any_then (All (IsCode p)) (pointed_layout p (parameter_types f)) _ λ scalars. copied_code p scalars c n k s h
copy_code p f _ s h = All-nil (IsCode p)

first_code : (p : Program) (vs : List Value) → All (IsCode p) vs → IsCode p (first_or Unset vs)
first_code p [] h = tt
first_code p (v ∷ vs) h = All-head (IsCode p) v vs h

rest_code : (p : Program) (vs : List Value) → All (IsCode p) vs → All (IsCode p) (rest_of vs)
rest_code p [] h = h
rest_code p (v ∷ vs) h = All-tail (IsCode p) v vs h

-- ---- moves

module _ {P : Type 0} (p : Form P) where
  abbrev Fine : Thread P → Type 0
  Fine x = BeginsWell p.program x

  -- items and sections, whatever the store and the running stack
  abbrev pub Begun : Store → Option (Stack P) → Agenda (Thread P) → List Job → Type 0
  Begun s o a jobs = Lists Fine a × All (CodedJob p.program) jobs

  -- the arguments of what is spawned fit scalar types, and those of a section are no codes of cps functions
  abbrev pub AskedWell : Store → Stack P → Asked → List Value → Type 0
  AskedWell s k (ToSpawn f) vs = (g : Function) → function_named p.program f ≡ Some g → FitAll (parameter_types g) vs × AreScalar (parameter_types g)
  AskedWell s k (Section f) vs = All (IsCode p.program) vs × IsCodeStore p.program s
  AskedWell s k asked vs = Unit {0}

  begun_kept : IsKept p Begun AskedWell AnyValue
  begun_kept = record {
    went = λ s t k j a jobs e h. h;
    returned = λ s t k v a jobs e h. h;
    answered = λ s t k j v a jobs e h. h;
    stores = λ s t o a jobs e h. h;
    shuffled = λ s o a b jobs move h. (shuffled_lists Fine a b move h.0, h.1);
    spawned = λ s k a jobs f vs asks h. (added_lists Fine (Pending f vs) a _ asks (IsReady a) h.0, h.1);
    suspended = λ s k j a b jobs prim vs gives asks e add h. (added_lists Fine (Suspended j) a b tt add h.0, h.1);
    submitted = λ s k j a b jobs f g vs cells e add is asks copy h. (
      added_lists Fine (Suspended j) a b tt add h.0,
      All-push (CodedJob p.program) jobs _ h.1
          (record { arguments = rest_code p.program vs asks.0; cells = subst (Only (All (IsCode p.program))) copy (copy_code p.program g (first_or Unset vs) s asks.1); pointer = first_code p.program vs asks.0 }),
    );
    begun = λ s t a jobs f g vs v ds frame e is made h. (later_lists Fine _ ds a e h.0, h.1);
    resumed = λ s k v a jobs ds e due h. (later_lists Fine _ ds a e h.0, h.1);
  }

  -- ---- runs

  -- what is spawned takes scalars
  abbrev pub SpawnsScalars : Type 0
  SpawnsScalars = (f : Text) → Spawning p f → (g : Function) → function_named p.program f ≡ Some g → AreScalar (parameter_types g)

  module _ (steady : IsSteady p) (spawns : SpawnsScalars) where
    asks_well : (s : State P (Thread P)) → Holds p.program s → (k : Stack P) → s.running ≡ Some k → (asked : Asked) (vs : List Value) → plain p s.store k ≡ Gives (Asks (record { asked = asked; arguments = vs })) → AskedWell s.store k asked vs
    asks_well s holds k e (ToSpawn f) vs i =
        let fit = (subst (Only (DoneSo p s.store k.frames)) i (plain_so p steady s.store k)).0 in
        λ g j. (fit g j, spawns f (step_spawns p s.store k.arriving k.frames f vs i) g j)
    asks_well s holds k e (Section f) vs i = (subst (Only (DoneCode p.program)) i (plain_code p s.store k holds.kept.codes (holds.kept.running k e).codes), holds.kept.codes)
    asks_well s holds k e (Builtin prim) vs i = tt
    asks_well s holds k e (Host x) vs i = tt

    module _ (main : (g : Function) → function_named p.program main_name ≡ Some g → FitAll (parameter_types g) [] × AreScalar (parameter_types g)) (h : History) (holds : (n : ℕ) → Holds p.program (run (thread_system p h) n)) where
      abbrev BegunState : State P (Thread P) → Type 0
      BegunState s = Begun s.store s.running s.agenda s.jobs

      opening_begun : BegunState (thread_system p h).opening
      opening_begun = (added_lists Fine (Pending main_name []) new_agenda _ main (IsReady new_agenda) (A.nothing_there Fine AnyValue tt), All-nil (CodedJob p.program))

      pub run_begun : (n : ℕ) → BegunState (run (thread_system p h) n)
      run_begun zero = opening_begun
      run_begun (suc n) = let s = run (thread_system p h) n in step_so p Begun AskedWell AnyValue begun_kept s (asks_well s (holds n)) (λ d ds e. tt) (run_begun n)
