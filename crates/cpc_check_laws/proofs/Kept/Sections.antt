-- Sections give ints, and what comes back of them points nowhere.
use Rattle.std.proofs.Common.{◌≡◌, ℕ, zero, suc, ◌==◌, Bool, true, false, cond, List, [], ◌∷◌, Option, Some, None, refl, subst}
use Rattle.std.specs.List.{All}
use Rattle.std.proofs.lemmas.List.Elements.{All-nil, All-cons, All-head, All-tail}
use Rattle.cpc_base.specs.Bytes.{Text}
use Rattle.cpc_base.proofs.Truth.{by_false_true}
use Rattle.cpc_num.specs.declared.kinds.Fault.TheVariants as F
use Rattle.cpc_tree.specs.Syntax.{Function, Program}
use Rattle.cpc_tree.specs.Lists.{is_empty}
use Rattle.cpc_tree.specs.Typing.{function_named, parameter_types}
use Rattle.cpc_store.specs.declared.values.Class.{Class}
use Rattle.cpc_store.specs.declared.values.Scalar.{Scalar}
use Rattle.cpc_store.specs.Store.{Value, Unset, Whole, Null, At, Code, Cond, Store, load, save}
use Rattle.cpc_meaning.specs.Answer.{Answer, Gives, Faults, NoAnswer, ◌>>=◌, of_result}
use Rattle.cpc_meaning.specs.Eval.{Slot}
use Rattle.cpc_meaning.specs.Slots.{call_slots}
use Rattle.cpc_meaning.specs.Requests.{Asked, Builtin, Host, ToSpawn, Section}
use Rattle.cpc_meaning.specs.Plain.{Form, Frame, Stack, stack_of, Done, Went, Returned, Asks, plain, answered, running_function}
use Rattle.cpc_meaning.specs.Section.{Job, SectionEnd, Gave, Broke, NoEnd, section_act, section_asks, section_done, all_integers, section_gave, copy_left, section_next, section_run, copy_store, copy_pointer, section_from, section_frame, section_end}
use Rattle.cpc_meaning.specs.Copies.{copied, pointed_layout, copy_of, job_numbered, write_back, write_to, Collected, AllGave, OneFailed, NotClear, and_value, written, collected, collect_one, collect}
use Rattle.cpc_meaning.proofs.Functions.{named_so}
use Rattle.cpc_meaning_laws.specs.Pointer.Made.{IsMade, IsMadeStore}
use Rattle.cpc_meaning_laws.proofs.Pointer.Blocks.{Only, only_then, any_then, only_as}
use Rattle.cpc_meaning_laws.proofs.Pointer.Values.{loaded_made}
use Rattle.cpc_meaning_laws.proofs.Pointer.Stores.{Onward, onward_self, onward_then, save_onward}
use Rattle.cpc_check_laws.specs.Kept.Codes.{IsCode, IsCodeStore}
use Rattle.cpc_check_laws.specs.Kept.Fits.{Fits, GivesInt, IsInt}
use Rattle.cpc_check_laws.specs.Kept.Kept.{IsSteady}
use Rattle.cpc_check_laws.proofs.Kept.Values.{IsNumber, number_made}
use Rattle.cpc_check_laws.proofs.Kept.Stores.{only_both, Stays, save_stays}
use Rattle.cpc_check_laws.proofs.Kept.Codes.{save_code}
use Rattle.cpc_check_laws.proofs.Kept.Steps.{IsFirst, IsNamed, DoneSo, plain_so, answered_so}

-- ---- integers

pub numbers : (vs : List Value) → all_integers vs ≡ true → All IsNumber vs
numbers [] e = All-nil IsNumber
numbers (Unset ∷ vs) e = All-cons IsNumber Unset vs tt (numbers vs e)
numbers (Whole kind z ∷ vs) e = All-cons IsNumber (Whole kind z) vs tt (numbers vs e)
numbers (Null ∷ vs) e = by_false_true e
numbers (At c n k ∷ vs) e = by_false_true e
numbers (Code f ∷ vs) e = by_false_true e
numbers (Cond n ∷ vs) e = by_false_true e

-- what a section comes to
abbrev pub SectionSo : SectionEnd → Type 0
SectionSo (Gave v cells) = IsInt v × All IsNumber cells
SectionSo (Broke fault f) = Unit {0}
SectionSo NoEnd = Unit {0}

gave_so : (f : Text) (v : Value) (o : Option (List Value)) → IsInt v → SectionSo (section_gave f v o)
gave_so f v None h = tt
gave_so f v (Some cells) h = go (all_integers cells) refl
  where
    go : (b : Bool) → all_integers cells ≡ b → SectionSo (cond b (Gave v cells) (Broke F.Kind f))
    go true e = (h, numbers cells e)
    go false e = tt

-- a section's function gives an int
abbrev pub JobGives : Program → Job → Type 0
JobGives p j = (g : Function) → function_named p j.function ≡ Some g → GivesInt g

-- ---- a run

module _ {P : Type 0} (p : Form P) (steady : IsSteady p) where
  module _ (f : Text) (g : Function) (is : function_named p.program f ≡ Some g) (gives : GivesInt g) (no_copy : Bool) where
    -- what a step comes to
    abbrev StepSo : Done P → Type 0
    StepSo (Went t j) = IsFirst f j.frames
    StepSo (Returned v t) = IsInt v
    StepSo (Asks r) = Unit {0}

    plainly : (s : Store) (frames : List (Frame P)) → IsFirst f frames → (done : Done P) → DoneSo p s frames done → StepSo done
    plainly s frames first (Went t j) h = h.2 f first
    plainly s frames first (Returned v t) h = subst (λ t. Fits t v) gives (h.1 f g first is)
    plainly s frames first (Asks r) h = tt

    asks_so : (s : Store) (k : Stack P) → IsFirst f k.frames → IsNamed p k.frames → (asked : Asked) (vs : List Value) → Only StepSo (section_asks p s k asked vs)
    asks_so s k first named (Builtin prim) vs =
        any_then StepSo (section_act s prim vs) _ λ r.
        only_as (DoneSo p r.0 k.frames) StepSo (answered p r.0 k r.1) (plainly r.0 k.frames first) (answered_so p steady r.0 k r.1 named)
    asks_so s k first named (Host x) vs = tt
    asks_so s k first named (ToSpawn x) vs = tt
    asks_so s k first named (Section x) vs = tt

    step_so : (s : Store) (k : Stack P) → IsFirst f k.frames → Only StepSo (plain p s k >>= section_done p s k)
    step_so s k first = only_then (DoneSo p s k.frames) StepSo (plain p s k) (section_done p s k) (plain_so p steady s k) go
      where
        go : (done : Done P) → DoneSo p s k.frames done → Only StepSo (section_done p s k done)
        go (Went t j) h = plainly s k.frames first (Went t j) h
        go (Returned v t) h = plainly s k.frames first (Returned v t) h
        go (Asks r) h = asks_so s k first h.1 r.asked r.arguments

    next_so : (next : Store → Stack P → SectionEnd) (running : Text) → ((t : Store) (j : Stack P) → IsFirst f j.frames → SectionSo (next t j)) → (a : Answer (Done P)) → Only StepSo a → SectionSo (section_next next f no_copy running a)
    next_so next running rest (Gives (Went t j)) h = rest t j h
    next_so next running rest (Gives (Returned v t)) h = gave_so f v (copy_left no_copy t) h
    next_so next running rest (Gives (Asks r)) h = tt
    next_so next running rest (Faults fault) h = tt
    next_so next running rest NoAnswer h = tt

    run_so : (n : ℕ) (s : Store) (k : Stack P) → IsFirst f k.frames → SectionSo (section_run p f no_copy n s k)
    run_so zero s k first = tt
    run_so (suc n) s k first = next_so (λ t j. section_run p f no_copy n t j) (running_function k) (run_so n) (plain p s k >>= section_done p s k) (step_so s k first)

  pub end_so : (job : Job) (bound : ℕ) → JobGives p.program job → SectionSo (section_end p job bound)
  end_so job bound gives = go (function_named p.program job.function) refl
    where
      go : (o : Option Function) → function_named p.program job.function ≡ o → SectionSo (section_from p job bound (section_frame p job o))
      go None e = tt
      go (Some g) e = made (call_slots p.program g (copy_pointer job.cells ∷ job.arguments) (copy_store job.cells))
        where
          made : (a : Answer (List Slot × Store)) → SectionSo (section_from p job bound (a >>= λ r. Gives (record { function = g.called; point = p.code.first g.called; slots = r.0 }, r.1)))
          made (Gives r) = run_so job.function g e (gives g e) (is_empty job.cells) bound r.1 (stack_of (record { function = g.called; point = p.code.first g.called; slots = r.0 })) (named_so p.program job.function g e)
          made (Faults fault) = tt
          made NoAnswer = tt

-- ---- what goes back

-- a store that came of s, in which no frame was made, and whose codes are of native or detached functions
abbrev pub Becomes : Program → Store → Store → Type 0
Becomes p s t = Onward s t × Stays s t × IsCodeStore p t

becomes_itself : (p : Program) (s : Store) → IsMadeStore s → IsCodeStore p s → Becomes p s s
becomes_itself p s made code = (onward_self s made, (λ e. e), code)

becomes_then : (p : Program) (s t u : Store) → Becomes p s t → Becomes p t u → Becomes p s u
becomes_then p s t u h k = (onward_then s t u h.0 k.0, (λ e. k.1 (h.1 e)), k.2)

number_code : (p : Program) (v : Value) → IsNumber v → IsCode p v
number_code p Unset h = tt
number_code p (Whole kind z) h = tt
number_code p Null h = absurd h
number_code p (At c n k) h = absurd h
number_code p (Code f) h = absurd h
number_code p (Cond n) h = absurd h

write_back_so : (p : Program) (vs : List Value) (c : Class) (n k : ℕ) (s : Store) → IsMadeStore s → IsCodeStore p s → All IsNumber vs → Only (Becomes p s) (write_back vs c n k s)
write_back_so p [] c n k s made code h = becomes_itself p s made code
write_back_so p (v ∷ vs) c n k s made code h =
    let number = All-head IsNumber v vs h in
    only_then (λ t. Onward s t × (Stays s t × IsCodeStore p t)) (Becomes p s) (of_result (save c n k v s)) _
    (only_both (Onward s) (λ t. Stays s t × IsCodeStore p t) (of_result (save c n k v s)) (save_onward c n k v s made (number_made s v number))
    (only_both (Stays s) (IsCodeStore p) (of_result (save c n k v s)) (save_stays c n k v s) (save_code p c n k v s code (number_code p v number)))) λ t on.
    only_as (Becomes p t) (Becomes p s) (write_back vs c n (suc k) t) (λ u i. becomes_then p s t u (on.0, on.1.0, on.1.1) i) (write_back_so p vs c n (suc k) t on.0.made on.1.1 (All-tail IsNumber v vs h))

write_to_so : (p : Program) (v : Value) (cells : List Value) (s : Store) → IsMadeStore s → IsCodeStore p s → All IsNumber cells → Only (Becomes p s) (write_to v cells s)
write_to_so p (At c n k) cells s made code h = write_back_so p cells c n k s made code h
write_to_so p Unset cells s made code h = becomes_itself p s made code
write_to_so p (Whole kind z) cells s made code h = becomes_itself p s made code
write_to_so p Null cells s made code h = becomes_itself p s made code
write_to_so p (Code f) cells s made code h = becomes_itself p s made code
write_to_so p (Cond n) cells s made code h = becomes_itself p s made code

-- what the sections that a poll names come to
abbrev pub CollectedSo : Program → Store → Collected → Type 0
CollectedSo p s (AllGave vs t) = All IsInt vs × Becomes p s t
CollectedSo p s (OneFailed fault f) = Unit {0}
CollectedSo p s NotClear = Unit {0}

and_so : (p : Program) (s t : Store) (v : Value) (x : Collected) → Becomes p s t → IsInt v → CollectedSo p t x → CollectedSo p s (and_value v x)
and_so p s t v (AllGave vs u) b h k = (All-cons IsInt v vs h k.0, becomes_then p s t u b k.1)
and_so p s t v (OneFailed fault f) b h k = tt
and_so p s t v NotClear b h k = tt

-- the section of a number is one of these
abbrev pub IfJob : (Job → Type 0) → Option Job → Type 0
IfJob So None = Unit {0}
IfJob So (Some j) = So j

pub numbered : (So : Job → Type 0) (jobs : List Job) (n : ℕ) → All So jobs → IfJob So (job_numbered jobs n)
numbered So [] n h = tt
numbered So (j ∷ jobs) n h = go (j.number == n) (numbered So jobs n (All-tail So j jobs h))
  where
    go : (b : Bool) → IfJob So (job_numbered jobs n) → IfJob So (cond b (Some j) (job_numbered jobs n))
    go true rest = All-head So j jobs h
    go false rest = rest

module _ {P : Type 0} (p : Form P) (steady : IsSteady p) where
  one_so : (bound : ℕ) (rest : Store → Collected) (s : Store) → IsMadeStore s → IsCodeStore p.program s → ((t : Store) → IsMadeStore t → IsCodeStore p.program t → CollectedSo p.program t (rest t))
      → (o : Option Job) → IfJob (JobGives p.program) o → CollectedSo p.program s (collect_one p bound rest s o)
  one_so bound rest s made code later None h = tt
  one_so bound rest s made code later (Some job) h = ended (section_end p job bound) (end_so p steady job bound h)
    where
      wrote : (v : Value) → IsInt v → (a : Answer Store) → Only (Becomes p.program s) a → CollectedSo p.program s (written rest v job.function a)
      wrote v n (Gives t) b = and_so p.program s t v (rest t) b n (later t b.0.made b.2)
      wrote v n (Faults fault) b = tt
      wrote v n NoAnswer b = tt

      ended : (e : SectionEnd) → SectionSo e → CollectedSo p.program s (collected rest job s e)
      ended (Gave v cells) k = wrote v k.0 (write_to job.pointer cells s) (write_to_so p.program job.pointer cells s made code k.1)
      ended (Broke fault f) k = tt
      ended NoEnd k = tt

  pub collect_so : (bound : ℕ) (jobs : List Job) (ns : List ℕ) (s : Store) → IsMadeStore s → IsCodeStore p.program s → All (JobGives p.program) jobs → CollectedSo p.program s (collect p bound jobs ns s)
  collect_so bound jobs [] s made code h = (All-nil IsInt, becomes_itself p.program s made code)
  collect_so bound jobs (n ∷ ns) s made code h =
      one_so bound (λ t. collect p bound jobs ns t) s made code (λ t on codes. collect_so bound jobs ns t on codes h) (job_numbered jobs n) (numbered (JobGives p.program) jobs n h)

-- ---- what is copied

copied_so : (scalars : List Scalar) (c : Class) (n k : ℕ) (s : Store) → IsMadeStore s → Only (All (IsMade s)) (copied scalars c n k s)
copied_so [] c n k s made = All-nil (IsMade s)
copied_so (wanted ∷ more) c n k s made =
    only_then (IsMade s) (All (IsMade s)) (of_result (load wanted c n k s)) _ (loaded_made s wanted c n k made) λ v h.
    only_then (All (IsMade s)) (All (IsMade s)) (copied more c n (suc k) s) _ (copied_so more c n (suc k) s made) λ vs i. All-cons (IsMade s) v vs h i

pub copy_so : (p : Program) (f : Function) (v : Value) (s : Store) → IsMadeStore s → Only (All (IsMade s)) (copy_of p f v s)
copy_so p f (At c n k) s made = any_then (All (IsMade s)) (pointed_layout p (parameter_types f)) _ λ scalars. copied_so scalars c n k s made
copy_so p f Unset s made = All-nil (IsMade s)
copy_so p f (Whole kind z) s made = All-nil (IsMade s)
copy_so p f Null s made = All-nil (IsMade s)
copy_so p f (Code g) s made = All-nil (IsMade s)
copy_so p f (Cond n) s made = All-nil (IsMade s)
