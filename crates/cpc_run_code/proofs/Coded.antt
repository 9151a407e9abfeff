-- The machine of code, and its store by the texts of names.
use Rattle.std.proofs.Common.{◌≡◌, [], map, reverse, Result, Ok, Err, IfOk, ap, ◌∙◌}
use Rattle.std.specs.Result.{result_map_both}
use Rattle.cpc_base.specs.declared.names.Name.{Name}
use Rattle.cpc_num.specs.declared.kinds.Fault.{Fault}
use Rattle.cpc_tree.specs.Erase.{Names, Table, item_of, program_of}
use Rattle.cpc_tree.specs.Syntax.{Program}
use Rattle.cpc_tree.specs.declared.program.Program as GProgram
use Rattle.cpc_store.specs.Codes.{map_store}
use Rattle.cpc_store.specs.Seen.{result_with}
use Rattle.cpc_store.specs.Store.{StoreOf}
use Rattle.cpc_native.specs.Frames.{frame_of}
use Rattle.cpc_native.specs.Runs.{Runs as RunsOf}
use Rattle.cpc_run_code.specs.declared.code.Code.{Code}
use Rattle.cpc_base.specs.declared.stop.NoMemory.{NoMemory}
use Rattle.cpc_tree.specs.Points.{Point}
use Rattle.cpc_meaning.specs.Answer.{Answer}
use Rattle.cpc_meaning.specs.Plain as P
use Rattle.cpc_eval_values.specs.Meets.{Meets}
use Rattle.cpc_eval_values.specs.Shown.{store_of}
use Rattle.cpc_native.specs.declared.machine.Stepped.{Stepped}
use Rattle.cpc_native.specs.declared.machine.Stepped.TheVariants as X
use Rattle.cpc_native.specs.Stacks.{went, done_of as native_done, TellsRunning}
use Rattle.cpc_native.specs.Well.{Unchanged, EndsEmpty}
use Rattle.cpc_native.proofs.Same.{runs_same}
use Rattle.cpc_run_code.specs.Code.{stack_in, store_in, IsIdle, Given, EndsIdle, AskedIn, FaultsIn, StepIs, AnswerIs}

pub idle_frames : (names : Names) (m : Code) → IsIdle m → (stack_in names m).frames ≡ []
unfolding stack_in IsIdle
idle_frames names m h = ap (λ fs. reverse (map (frame_of names) fs)) h

-- a result with a store, by the texts of names
pub result_shown : {A : Type 0} (names : Names) (s : StoreOf Name) (r : Result A Fault) (t : Result (StoreOf Name) Fault) → result_with s r ≡ t → result_with (map_store names s) r ≡ result_map_both (map_store names) (λ fault. fault) t
result_shown names s (Ok x) t e = ap (result_map_both (map_store names) (λ fault. fault)) e
result_shown names s (Err fault) t e = ap (result_map_both (map_store names) (λ fault. fault)) e

-- what a program has to be, by its own table
runs_program : (names : Names) (p : GProgram.Program) → Given names p → RunsOf names p.names (program_of p)
runs_program names p given = record { spells = given.spelled.spells; told = λ x f e. record { each = given.spelled.unnamed x f e }; served = given.served; numbers = given.numbers }

pub runs_given : (names : Names) (p : GProgram.Program) (table : Table) (q : Program) → table ≡ p.names → q ≡ map (item_of names) p.items.items → Given names p → RunsOf names table q
runs_given names p table q e f given = runs_same names p.names table (program_of p) q e (f ∙ given.spelled.same) (runs_program names p given)

-- ---- parts of a result

pub if_ok : {A E : Type 0} (P Q R : A → Type 0) (r : Result A E) → ((x : A) → P x → Q x → R x) → IfOk r P → IfOk r Q → IfOk r R
if_ok P Q R (Ok a) f h k = f a h k
if_ok P Q R (Err e) f h k = h

-- ---- steps

pub ends_idle : (new : Code) (x : Stepped) → EndsEmpty x new.machine → EndsIdle x new
unfolding IsIdle
ends_idle new X.Went h = tt
ends_idle new (X.Returned v) h = h
ends_idle new (X.Asked r) h = tt
ends_idle new (X.Faulted fault f) h = tt

pub asked_in : (old new : Code) (x : Stepped) → ((names : Names) → TellsRunning names old.machine x) → Unchanged x old.machine new.machine → (names : Names) → AskedIn names old new x
unfolding stack_in store_in
asked_in old new X.Went told kept names = tt
asked_in old new (X.Returned v) told kept names = tt
asked_in old new (X.Asked r) told kept names = (kept.stack names, ap (store_of names) kept.store, told names)
asked_in old new (X.Faulted fault f) told kept names = told names

pub faults_in : (old new : Code) (x : Stepped) → Unchanged x old.machine new.machine → (names : Names) → FaultsIn names old new x
unfolding stack_in store_in
faults_in old new X.Went kept names = tt
faults_in old new (X.Returned v) kept names = tt
faults_in old new (X.Asked r) kept names = tt
faults_in old new (X.Faulted fault f) kept names = (kept.stack names, ap (store_of names) kept.store)

pub step_is : (names : Names) (new : Code) (r : Result Stepped NoMemory) (a : Answer (P.Done Point)) → IfOk r (λ x. Meets (native_done names new.machine x) a) → StepIs names new r a
unfolding stack_in store_in
step_is names new (Ok X.Went) a h = h
step_is names new (Ok (X.Returned v)) a h = h
step_is names new (Ok (X.Asked r)) a h = h
step_is names new (Ok (X.Faulted fault f)) a h = h
step_is names new (Err e) a h = h

pub answer_is : {A : Type 0} (names : Names) (new : Code) (r : Result A Fault) (a : Answer (P.Done Point)) → Meets (went names new.machine r) a → AnswerIs names new r a
unfolding stack_in store_in
answer_is names new (Ok x) a h = h
answer_is names new (Err fault) a h = h

-- what holds for names one by one
pub ok_names : {A E : Type 0} (Q : Names → Type 0) (R : Names → A → Type 0) (r : Result A E) → IfOk r (λ x. (names : Names) → Q names → R names x) → (names : Names) → Q names → IfOk r (R names)
ok_names Q R (Ok x) h names q = h names q
ok_names Q R (Err e) h names q = h
