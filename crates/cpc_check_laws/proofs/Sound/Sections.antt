-- Sections of a typed program come to an int or to a fault.
use Rattle.std.proofs.Common.{◌≡◌, ◌==◌, ℕ, zero, suc, pos, Bool, true, false, cond, List, [], ◌∷◌, ◌++◌, map, Option, Some, None, refl, sym, ◌∙◌, subst, arith}
use Rattle.std.specs.Prelude.{int_lt, unsigned_abs, replicate}
use Rattle.cpc_base.specs.Bytes.{Text}
use Rattle.cpc_base.specs.declared.stop.Dialect.{Dialect}
use Rattle.cpc_base.proofs.Truth.{by_false_true}
use Rattle.cpc_base.proofs.Lists.{some_is}
use Rattle.cpc_num.specs.declared.kinds.Fault.TheVariants as F
use Rattle.cpc_num.specs.declared.kinds.Kind.TheVariants.{Int}
use Rattle.cpc_tree.specs.declared.program.Mode.{Mode}
use Rattle.cpc_tree.specs.Syntax.{Ty, TyVoid, TyInt, TyPointer, Function, Program}
use Rattle.cpc_tree.specs.Lists.{is_empty, rest_of}
use Rattle.cpc_tree.specs.Typing.{function_named, parameter_types}
use Rattle.cpc_tree.specs.Points.{Point}
use Rattle.cpc_tree.specs.Primitives.{Primitive, Malloc, Free, FreeOf}
use Rattle.cpc_store.specs.declared.values.Class.{Class}
use Rattle.cpc_store.specs.declared.values.Class.TheVariants.{Static, Heap}
use Rattle.cpc_store.specs.declared.values.Scalar.{Scalar}
use Rattle.cpc_store.specs.Store.{Value, Unset, Whole, Null, At, Code, Cond, Store, alloc, free, next_block, cells_of, same_class, load, save}
use Rattle.cpc_meaning.specs.Answer.{Answer, Gives, Faults, NoAnswer, ◌>>=◌}
use Rattle.cpc_meaning.specs.Layout.{layout}
use Rattle.cpc_meaning.specs.Requests.{Asked, Builtin, section_takes}
use Rattle.cpc_meaning.specs.Plain.{Frame, Stack, Done, Went, Returned, Asks, stack_of, plain, answered, running_function}
use Rattle.cpc_meaning.specs.Trees.{trees}
use Rattle.cpc_meaning.specs.Section.{Job, SectionEnd, Gave, Broke, NoEnd, allocated, freed, section_asks, section_done, all_integers, section_gave, copy_left, section_next, section_run, copy_store, copy_pointer, section_from, section_frame, section_end}
use Rattle.cpc_meaning.specs.Copies.{copied, pointed_layout, copy_of, job_numbered, write_back, write_to, Collected, AllGave, OneFailed, NotClear, and_value, written, collected, collect_one, collect}
use Rattle.cpc_check_rules.specs.Operators.{is_detached}
use Rattle.cpc_check_rules.specs.Calls.{is_closed, gives}
use Rattle.cpc_check_laws.specs.Sound.Suits.{Comes, Suits}
use Rattle.cpc_check_laws.specs.Sound.Typed.{IsSection, TypedProgram}
use Rattle.cpc_meaning.proofs.Functions.{found_again}
use Rattle.cpc_check_laws.proofs.Sound.Answers.{no_some, comes_then, comes_as, comes_needed, comes_result}
use Rattle.cpc_check_laws.proofs.Sound.Copies.{IsLive, CopyStays, free_stays, alloc_stays}
use Rattle.cpc_check_laws.proofs.Sound.Requests.{AllSuit, IsWhole, AllTaken, PrimitiveGiven, IsRequest, AsksPrimitive, AsksHost, AsksSpawn, AsksSection}
use Rattle.cpc_check_laws.proofs.Sound.Frames.{given, Running, Asking, DoneOk, WentOk, entered, frame_comes, plain_comes, answer_comes}
use Rattle.cpc_check_laws.proofs.Sound.Agendas.{Each, each_append}

-- ---- acts on the store

-- an act that gives a value of a type
abbrev pub StoreActOk : Ty → Store → Store × Value → Type 0
StoreActOk t s r = CopyStays s r.0 × Suits t r.1

pub allocated_comes : (c : Class) (v : Value) (s : Store) → same_class c Static ≡ false → IsWhole v → Comes (StoreActOk (TyPointer TyVoid) s) (allocated c v s)
allocated_comes c (Whole kind n) s e h = go (int_lt n (pos 0))
  where
    go : (b : Bool) → Comes (StoreActOk (TyPointer TyVoid) s) (cond b (Faults F.Length) (Gives (alloc c (replicate (unsigned_abs n) Unset) s, At c (next_block c s) 0)))
    go true = tt
    go false = (alloc_stays c (replicate (unsigned_abs n) Unset) s e, tt)
allocated_comes c _ s e h = absurd h

pub freed_comes : (c : Class) (v : Value) (s : Store) → same_class c Static ≡ false → Comes (StoreActOk TyVoid s) (freed c v s)
freed_comes c v s e = comes_result (StoreActOk TyVoid s) (free c v s) _ (λ t h. (free_stays c v s t e h, tt))

-- ---- a run

abbrev EndOk : SectionEnd → Type 0
EndOk (Gave v cells) = Suits (TyInt Int) v
EndOk (Broke fault f) = Unit {0}
EndOk NoEnd = ⊥

gave_ok : (f : Text) (v : Value) (o : Option (List Value)) → IsLive o → Suits (TyInt Int) v → EndOk (section_gave f v o)
gave_ok f v None l h = absurd l
gave_ok f v (Some cells) l h = go (all_integers cells)
  where
    go : (b : Bool) → EndOk (cond b (Gave v cells) (Broke F.Kind f))
    go true = h
    go false = tt

-- the copy is live, where there is one
abbrev CopyLive : Bool → Store → Type 0
CopyLive true s = Unit {0}
CopyLive false s = IsLive (cells_of Static 0 s)

left_live : (no_copy : Bool) (s : Store) → CopyLive no_copy s → IsLive (copy_left no_copy s)
left_live true s h = tt
left_live false s h = h

live_stays : (no_copy : Bool) (s t : Store) → CopyStays s t → CopyLive no_copy s → CopyLive no_copy t
live_stays true s t h k = tt
live_stays false s t h k = h k

module _ (d : Dialect) (p : Program) (typed : TypedProgram d p) where
  -- a step that is done does not ask
  abbrev NextOk : Ty → Store → Done Point → Type 0
  NextOk R s (Went t k) = Running d p true R k.frames k.arriving × CopyStays s t
  NextOk R s (Returned v t) = Suits R v × CopyStays s t
  NextOk R s (Asks r) = ⊥

  -- an answer in another store
  answers_next : (R : Ty) (s : Store) (k : Stack Point) (t : Store) (v : Value) (r : Ty) → CopyStays s t → Suits r v → Asking d p true R r k.frames → Comes (NextOk R s) (answered (trees p) t k v)
  answers_next R s k t v r i j h = comes_as (WentOk d p true R t) (NextOk R s) (answered (trees p) t k v) (answer_comes d p typed true R r t k v h j) go
    where
      go : (x : Done Point) → WentOk d p true R t x → NextOk R s x
      go (Went u j) l = (l.0, λ m. l.1 (i m))
      go (Returned w u) l = absurd l
      go (Asks r) l = absurd l

  act_next : (R : Ty) (s : Store) (k : Stack Point) (prim : Primitive) (vs : List Value) → is_closed prim ≡ true → PrimitiveGiven p prim vs → Asking d p true R (gives prim) k.frames
      → Comes (NextOk R s) (section_asks (trees p) s k (Builtin prim) vs)
  act_next R s k Malloc (v ∷ []) e g h =
      comes_then (StoreActOk (TyPointer TyVoid) s) (NextOk R s) (allocated Heap v s) _ (allocated_comes Heap v s refl g.0) (λ r i. answers_next R s k r.0 r.1 (TyPointer TyVoid) i.0 i.1 h)
  act_next R s k Malloc [] e g h = absurd g
  act_next R s k Malloc (v ∷ w ∷ vs) e g h = absurd g.1
  act_next R s k Free (v ∷ []) e g h =
      comes_then (StoreActOk TyVoid s) (NextOk R s) (freed Heap v s) _ (freed_comes Heap v s refl) (λ r i. answers_next R s k r.0 r.1 TyVoid i.0 i.1 h)
  act_next R s k Free [] e g h = absurd g
  act_next R s k Free (v ∷ w ∷ vs) e g h = absurd g.1
  act_next R s k _ vs e g h = by_false_true e

  asks_next : (R : Ty) (s : Store) (k : Stack Point) (asked : Asked) (vs : List Value) (mode : Mode) (t : Ty) → is_detached mode ≡ true → IsRequest d p mode asked vs t → Asking d p true R t k.frames
      → Comes (NextOk R s) (section_asks (trees p) s k asked vs)
  asks_next R s k _ _ mode _ e (AsksPrimitive prim vs is_d closed g) h = act_next R s k prim vs (closed e) g h
  asks_next R s k _ _ mode _ e (AsksHost x vs apart w) h = by_false_true (sym apart ∙ e)
  asks_next R s k _ _ mode _ e (AsksSpawn x vs g is_open is_g w) h = by_false_true (sym is_open.not_detached ∙ e)
  asks_next R s k _ _ mode _ e (AsksSection x vs is_open w) h = by_false_true (sym is_open.not_detached ∙ e)

  done_next : (R : Ty) (s : Store) (k : Stack Point) (x : Done Point) → DoneOk d p true R s k.frames x → Comes (NextOk R s) (section_done (trees p) s k x)
  done_next R s k (Went t j) h = h
  done_next R s k (Returned v t) h = h
  done_next R s k (Asks r) h = asks_next R s k r.asked r.arguments h.0 h.2.0 (h.1 refl) h.2.1 h.2.2

  run_ok : (f : Text) (no_copy : Bool) (n : ℕ) (s : Store) (k : Stack Point) → Running d p true (TyInt Int) k.frames k.arriving → CopyLive no_copy s → EndOk (section_run (trees p) f no_copy n s k)
  run_ok f no_copy zero s k h l = tt
  run_ok f no_copy (suc n) s k h l =
      go (plain (trees p) s k >>= section_done (trees p) s k)
      (comes_then (DoneOk d p true (TyInt Int) s k.frames) (NextOk (TyInt Int) s) (plain (trees p) s k) (section_done (trees p) s k) (plain_comes d p typed true (TyInt Int) s k h) (done_next (TyInt Int) s k))
      (λ t j. run_ok f no_copy n t j)
    where
      go : (a : Answer (Done Point)) → Comes (NextOk (TyInt Int) s) a → ((t : Store) (j : Stack Point) → Running d p true (TyInt Int) j.frames j.arriving → CopyLive no_copy t → EndOk (section_run (trees p) f no_copy n t j))
          → EndOk (section_next (λ t j. section_run (trees p) f no_copy n t j) f no_copy (running_function k) a)
      go (Gives (Went t j)) i rest = rest t j i.0 (live_stays no_copy s t i.1 l)
      go (Gives (Returned v t)) i rest = gave_ok f v (copy_left no_copy t) (left_live no_copy t (live_stays no_copy s t i.1 l)) i.0
      go (Gives (Asks r)) i rest = absurd i
      go (Faults fault) i rest = tt
      go NoAnswer i rest = absurd i

  -- ---- jobs

  -- a job of a section's function, with arguments for its other parameters
  pub record JobOk (job : Job) : Type 0 where
    pub function : Function
    pub section : IsSection p job.function function
    pub arguments : AllSuit section.others job.arguments

  pointer_suits : (t : Ty) (cells : List Value) → Suits (TyPointer t) (copy_pointer cells)
  pointer_suits t [] = tt
  pointer_suits t (v ∷ vs) = tt

  copy_live : (cells : List Value) → CopyLive (is_empty cells) (copy_store cells)
  copy_live [] = tt
  copy_live (v ∷ vs) = tt

  named_again : (job : Job) (ok : JobOk job) → function_named p ok.function.called ≡ Some ok.function
  named_again job ok = found_again p job.function ok.function ok.section.is_function

  end_ok : (job : Job) (bound : ℕ) → JobOk job → EndOk (section_end (trees p) job bound)
  end_ok job bound ok =
      go (section_frame (trees p) job (function_named p job.function))
      (subst (λ o. Comes (entered d p typed true ok.function (copy_store job.cells)) (section_frame (trees p) job o)) (sym ok.section.is_function)
      (frame_comes d p typed true ok.function (copy_pointer job.cells ∷ job.arguments) (copy_store job.cells) (named_again job ok) (λ e. ok.section.detached)
      (given ok.function (copy_pointer job.cells ∷ job.arguments) (subst (λ us. AllSuit us (copy_pointer job.cells ∷ job.arguments)) (sym ok.section.parameters) (pointer_suits ok.section.cells job.cells, ok.arguments)))))
    where
      go : (a : Answer (Frame Point × Store)) → Comes (entered d p typed true ok.function (copy_store job.cells)) a → EndOk (section_from (trees p) job bound a)
      go (Gives (frame, s)) h = run_ok job.function (is_empty job.cells) bound s (stack_of frame) (ok.function, h.1, h.2, ok.section.result) (live_stays (is_empty job.cells) (copy_store job.cells) s h.3 (copy_live job.cells))
      go (Faults fault) h = tt
      go NoAnswer h = absurd h

  -- ---- sections that a poll names

  abbrev pub CollectedOk : Collected → Type 0
  CollectedOk (AllGave vs t) = Each (Suits (TyInt Int)) vs
  CollectedOk (OneFailed fault f) = Unit {0}
  CollectedOk NotClear = ⊥

  -- the job of a number
  pub record HasJob (jobs : List Job) (n : ℕ) : Type 0 where
    pub job : Job
    pub is_job : job_numbered jobs n ≡ Some job
    pub ok : JobOk job

  back_comes : (vs : List Value) (c : Class) (n k : ℕ) (s : Store) → Comes (λ (t : Store). Unit {0}) (write_back vs c n k s)
  back_comes [] c n k s = tt
  back_comes (v ∷ vs) c n k s = comes_result (λ (t : Store). Unit {0}) (save c n k v s) _ (λ t e. back_comes vs c n (suc k) t)

  write_comes : (v : Value) (cells : List Value) (s : Store) → Comes (λ (t : Store). Unit {0}) (write_to v cells s)
  write_comes (At c n k) cells s = back_comes cells c n k s
  write_comes Unset cells s = tt
  write_comes (Whole kind z) cells s = tt
  write_comes Null cells s = tt
  write_comes (Code f) cells s = tt
  write_comes (Cond n) cells s = tt

  and_ok : (v : Value) (c : Collected) → Suits (TyInt Int) v → CollectedOk c → CollectedOk (and_value v c)
  and_ok v (AllGave vs s) h k = (h, k)
  and_ok v (OneFailed fault f) h k = tt
  and_ok v NotClear h k = absurd k

  collected_ok : (rest : Store → Collected) (job : Job) (s : Store) (e : SectionEnd) → ((t : Store) → CollectedOk (rest t)) → EndOk e → CollectedOk (collected rest job s e)
  collected_ok rest job s (Gave v cells) h k = go (write_to job.pointer cells s) (write_comes job.pointer cells s)
    where
      go : (a : Answer Store) → Comes (λ (t : Store). Unit {0}) a → CollectedOk (written rest v job.function a)
      go (Gives t) i = and_ok v (rest t) k (h t)
      go (Faults fault) i = tt
      go NoAnswer i = absurd i
  collected_ok rest job s (Broke fault f) h k = tt
  collected_ok rest job s NoEnd h k = absurd k

  pub collect_ok : (bound : ℕ) (jobs : List Job) (ns : List ℕ) (s : Store) → Each (HasJob jobs) ns → CollectedOk (collect (trees p) bound jobs ns s)
  collect_ok bound jobs [] s h = tt
  collect_ok bound jobs (n ∷ ns) s h =
      subst (λ o. CollectedOk (collect_one (trees p) bound (λ t. collect (trees p) bound jobs ns t) s o)) (sym h.0.is_job)
      (collected_ok (λ t. collect (trees p) bound jobs ns t) h.0.job s (section_end (trees p) h.0.job bound) (λ t. collect_ok bound jobs ns t h.1) (end_ok h.0.job bound h.0.ok))

  -- ---- a section that is submitted

  copied_comes : (wanted : List Scalar) (c : Class) (n k : ℕ) (s : Store) → Comes (λ (vs : List Value). Unit {0}) (copied wanted c n k s)
  copied_comes [] c n k s = tt
  copied_comes (w ∷ ws) c n k s =
      comes_result (λ (vs : List Value). Unit {0}) (load w c n k s) _ (λ v e. comes_then (λ (vs : List Value). Unit {0}) (λ (vs : List Value). Unit {0}) (copied ws c n (suc k) s) _ (copied_comes ws c n (suc k) s) (λ vs h. tt))

  pub copy_comes : (x : Text) (f : Function) (v : Value) (s : Store) → IsSection p x f → Comes (λ (vs : List Value). Unit {0}) (copy_of p f v s)
  copy_comes x f (At c n k) s section =
      subst (λ us. Comes (λ (vs : List Value). Unit {0}) (pointed_layout p us >>= (λ scalars. copied scalars c n k s))) (sym section.parameters)
      (comes_needed (λ (vs : List Value). Unit {0}) (layout p section.cells) section.complete.0 _ section.complete.1 (copied_comes section.complete.0 c n k s))
  copy_comes x f Unset s section = tt
  copy_comes x f (Whole kind z) s section = tt
  copy_comes x f Null s section = tt
  copy_comes x f (Code g) s section = tt
  copy_comes x f (Cond n) s section = tt

  free_suit : (us : List Ty) (vs : List Value) → AllTaken p (map (λ t. FreeOf t) us) vs → AllSuit us vs
  free_suit [] [] h = tt
  free_suit (t ∷ us) (v ∷ vs) h = (h.0, free_suit us vs h.1)
  free_suit [] (v ∷ vs) h = absurd h
  free_suit (t ∷ us) [] h = absurd h

  rest_suit : (t : Ty) (us : List Ty) (vs : List Value) → AllTaken p (section_takes (TyPointer t ∷ us)) vs → AllSuit us (rest_of vs)
  rest_suit t us (v ∷ vs) h = free_suit us vs h.1
  rest_suit t us [] h = absurd h

  -- the job of a section with what it is given
  pub submitted_ok : (x : Text) (f : Function) (vs : List Value) (n : ℕ) (cells : List Value) (pointer : Value) → IsSection p x f → AllTaken p (section_takes (parameter_types f)) vs
      → JobOk (record { number = n; function = x; arguments = rest_of vs; cells = cells; pointer = pointer })
  submitted_ok x f vs n cells pointer section h =
      record { function = f; section = section; arguments = rest_suit section.cells section.others vs (subst (λ us. AllTaken p (section_takes us) vs) section.parameters h) }

  -- a job is found where there is one more
  pub more_jobs : (jobs more : List Job) (n : ℕ) → HasJob jobs n → HasJob (jobs ++ more) n
  more_jobs jobs more n h = record { job = h.job; is_job = go jobs h.is_job; ok = h.ok }
    where
      go : (js : List Job) → job_numbered js n ≡ Some h.job → job_numbered (js ++ more) n ≡ Some h.job
      go [] e = no_some h.job e
      go (j ∷ js) e = either (j.number == n) e (go js)
        where
          either : (b : Bool) → cond b (Some j) (job_numbered js n) ≡ Some h.job → (job_numbered js n ≡ Some h.job → job_numbered (js ++ more) n ≡ Some h.job) → cond b (Some j) (job_numbered (js ++ more) n) ≡ Some h.job
          either true e rest = e
          either false e rest = rest e

  numbered_ok : (jobs : List Job) (n : ℕ) (i : Job) → Each JobOk jobs → job_numbered jobs n ≡ Some i → JobOk i
  numbered_ok [] n i h e = no_some i e
  numbered_ok (j ∷ jobs) n i h e = go (j.number == n) e (numbered_ok jobs n i h.1)
    where
      go : (b : Bool) → cond b (Some j) (job_numbered jobs n) ≡ Some i → (job_numbered jobs n ≡ Some i → JobOk i) → JobOk i
      go true e rest = subst JobOk (some_is j i e) h.0
      go false e rest = rest e

  last_there : (jobs : List Job) (j : Job) → (i : Job) × (job_numbered (jobs ++ j ∷ []) j.number ≡ Some i)
  last_there [] j = (j, go (j.number == j.number) (let e : (j.number == j.number) ≡ true = grind arith in e))
    where
      go : (b : Bool) → b ≡ true → cond b (Some j) None ≡ Some j
      go true e = refl
      go false e = by_false_true e
  last_there (l ∷ jobs) j = go (l.number == j.number) (last_there jobs j)
    where
      go : (b : Bool) → (i : Job) × (job_numbered (jobs ++ j ∷ []) j.number ≡ Some i) → (i : Job) × (cond b (Some l) (job_numbered (jobs ++ j ∷ []) j.number) ≡ Some i)
      go true rest = (l, refl)
      go false rest = rest

  -- the job that was added last has its number
  pub last_job : (jobs : List Job) (j : Job) → Each JobOk jobs → JobOk j → HasJob (jobs ++ j ∷ []) j.number
  last_job jobs j h k = let i = last_there jobs j in record { job = i.0; is_job = i.1; ok = numbered_ok (jobs ++ j ∷ []) j.number i.0 (each_append JobOk jobs (j ∷ []) h (k, tt)) i.1 }
