-- Sections come to the same in both: the code of detached functions is the same, and it runs in a store of its own.
use Rattle.std.proofs.Common.{◌≡◌, ℕ, zero, suc, ◌==◌, Bool, true, false, cond, slice_get, List, [], ◌∷◌, Option, Some, None, refl, sym, subst}
use Rattle.std.specs.List.{All}
use Rattle.std.proofs.lemmas.List.Elements.{All-nil, All-cons, All-head, All-tail}
use Rattle.cpc_base.specs.Bytes.{Text}
use Rattle.cpc_num.specs.declared.kinds.Fault.{Fault}
use Rattle.cpc_num.specs.declared.kinds.Fault.TheVariants as F
use Rattle.cpc_store.specs.declared.values.Class.{Class}
use Rattle.cpc_store.specs.declared.values.Class.TheVariants.{Static, Auto, Heap, Frame}
use Rattle.cpc_store.specs.Store.{Value, Unset, Whole, Null, At as Pointer, Code, Cond, Blocks, Store, empty_store, live, cells_of, save}
use Rattle.cpc_tree.specs.Lists.{is_empty}
use Rattle.cpc_tree.specs.Points.{Point, Found}
use Rattle.cpc_tree.specs.Registers.{variables}
use Rattle.cpc_tree.specs.Syntax.{Function}
use Rattle.cpc_tree.specs.Typing.{function_named}
use Rattle.cpc_meaning.specs.Answer.{Answer, ◌>>=◌, of_result}
use Rattle.cpc_meaning.specs.Copies.{Collected, and_value, write_back, write_to, written, collected, collect_one, collect, job_numbered}
use Rattle.cpc_meaning.specs.Eval.{Slot}
use Rattle.cpc_meaning.specs.Plain.{Frame as CallFrame, Stack, Done, make_frame, asking, context, answered, plain}
use Rattle.cpc_meaning.specs.Requests.{Asked, Builtin, Host, ToSpawn, Section, Malloc, Free}
use Rattle.cpc_meaning.specs.Section.{Job, SectionEnd, Gave, Broke, NoEnd, all_integers, section_asks, section_done, section_gave, copy_left, section_next, section_run, copy_store, copy_pointer, section_from, section_frame, section_end}
use Rattle.cpc_meaning.specs.Slots.{make_slots}
use Rattle.cpc_meaning.specs.Start.{before_underscores}
use Rattle.cpc_meaning.specs.Threads.{shown_in}
use Rattle.cpc_forms.specs.Split.{Position, InTree}
use Rattle.cpc_convert_image_laws.specs.Held.{IsShared, IsHeld, IsHeldSlot, IsHeldStore, beside}
use Rattle.cpc_convert_image_laws.specs.Native.{IsArrival, IsHeldIf}
use Rattle.cpc_convert_image_laws.specs.Relations.{Common, Found as FoundAlike, BothFound, NoneFound, Meets, BothGive, BothFault, Stuck, Answered, BothAnswer, Entered, SlotsMade, StoreBeside, InBoth}
use Rattle.cpc_convert_image_laws.specs.Stacks.{frame_of, Native, NoMore, OneMore, EntersAlike, NativePoint, DoneAlike, BothWent, BothReturned, BothAsked}
use Rattle.cpc_convert_image_laws.proofs.Answers.{meets_then}
use Rattle.cpc_convert_image_laws.proofs.Beside as S
use Rattle.cpc_convert_image_laws.proofs.Entering.{slots_beside}
use Rattle.cpc_convert_image_laws.proofs.Stacks.{native_step, native_answered}
use Rattle.cpc_convert_image_laws.proofs.Stores.{cells_none, cells_more, alloc_holds}
use Rattle.cpc_convert_image_laws.proofs.Example.{empty_held}
use Rattle.cpc_chains_laws.proofs.Related.Beginning.{framed}
use Rattle.cpc_chains_laws.proofs.Related.Setting.{Setting, from_form, to_form, CollectedAlike, BothGave, BothFailed, SourceStuck, HeldJob}

-- a point of a function that sections run, which is the same in both
abbrev pub InSection : Setting → Text → Position → Point → Type 0
InSection z f a b = (a ≡ InTree b) × z.sections f

-- what is known of the functions that sections run: they name no others
pub record SectionFacts (z : Setting) (pairs : Function → Function → Type 0) : Type 0 where
  pub common : Common z.sections pairs z.source z.target
  pub enters : (f g : Function) → pairs f g → EntersAlike (InSection z) (from_form z) (to_form z) f g
  pub shown : (f : Text) → z.sections f → before_underscores f ≡ shown_in z.source f
  pub points : (s : Store) (f : Text) (b : Point) (slots : List Slot) → z.sections f → NativePoint z.sections pairs (InSection z) (z.used f b) (from_form z) (to_form z) s f (InTree b) b slots
  pub written : (s : Store) (f : Text) (b : Point) (slots : List Slot) (g : Found) → z.sections f → asking ((from_form z).code.stood f (InTree b)) ≡ Some g → IsArrival (context (from_form z) s (frame_of f (InTree b) slots)) g

-- ---- integers

-- integers are held, whatever the codes
int_held : (C : Text → Type 0) (v : Value) (vs : List Value) → all_integers (v ∷ vs) ≡ true → IsHeld C v × (all_integers vs ≡ true)
int_held C Unset vs e = (tt, e)
int_held C (Whole kind z) vs e = (tt, e)
int_held C Null vs e = absurd (cc)
int_held C (Pointer c n k) vs e = absurd (cc)
int_held C (Code f) vs e = absurd (cc)
int_held C (Cond n) vs e = absurd (cc)

ints_held : (C : Text → Type 0) (vs : List Value) → all_integers vs ≡ true → All (IsHeld C) vs
ints_held C [] e = All-nil (IsHeld C)
ints_held C (v ∷ vs) e = let h = int_held C v vs e in All-cons (IsHeld C) v vs h.0 (ints_held C vs h.1)

-- ---- the ends of sections

-- the same integers, the same fault of a function that is shown alike; where the source is stuck nothing is said
data EndsAlike (z : Setting) : SectionEnd → SectionEnd → Type 0 where
  SameGave : (v : Value) (cells : List Value) → all_integers cells ≡ true → EndsAlike z (Gave v cells) (Gave v cells)
  SameBroke : (fault : Fault) (f : Text) → before_underscores f ≡ shown_in z.source f → EndsAlike z (Broke fault f) (Broke fault f)
  NothingSaid : (e : SectionEnd) → EndsAlike z NoEnd e

gave_alike : (z : Setting) (f : Text) (v : Value) (o : Option (List Value)) → before_underscores f ≡ shown_in z.source f → EndsAlike z (section_gave f v o) (section_gave f v o)
gave_alike z f v None shown = NothingSaid _
gave_alike z f v (Some cells) shown = go (all_integers cells) refl
  where
    go : (b : Bool) → all_integers cells ≡ b → EndsAlike z (cond b (Gave v cells) (Broke F.Kind f)) (cond b (Gave v cells) (Broke F.Kind f))
    go true e = SameGave v cells e
    go false e = SameBroke F.Kind f shown

left_alike : (no_copy : Bool) (s : Store) → copy_left no_copy (beside [] s) ≡ copy_left no_copy s
left_alike true s = refl
left_alike false s = refl

-- nothing below
data Bare : List (CallFrame Position) → List (CallFrame Point) → Type 0 where
  BareEnds : Bare [] []

bare_ends : (xs : List (CallFrame Position)) (ys : List (CallFrame Point)) → Bare xs ys → is_empty xs ≡ is_empty ys
bare_ends _ _ BareEnds = refl

-- ---- stores of sections

-- the store of a section holds integers alone
no_cells : (n : ℕ) → live {C = Text} (slice_get [] n) ≡ None
no_cells zero = refl
no_cells (suc n) = refl

empty_has : (class : Class) (n : ℕ) → cells_of class n (empty_store {C = Text}) ≡ None
empty_has Static n = no_cells n
empty_has Auto n = no_cells n
empty_has Heap n = no_cells n
empty_has Frame n = no_cells n

ints_cells : (C : Text → Type 0) (cells : List Value) → all_integers cells ≡ true → (k : ℕ) (v : Value) → slice_get cells k ≡ Some v → IsHeld C v
ints_cells C [] e = cells_none C
ints_cells C (v ∷ vs) e = let h = int_held C v vs e in cells_more C v vs h.0 (ints_cells C vs h.1)

copy_held : (C : Text → Type 0) (cells : List Value) → all_integers cells ≡ true → IsHeldStore C (copy_store cells)
copy_held C [] e = empty_held C
copy_held C (v ∷ vs) e = alloc_holds C Static (v ∷ vs) empty_store (empty_held C) (ints_cells C (v ∷ vs) e)

-- and it has no frames
copy_beside : (cells : List Value) → beside [] (copy_store cells) ≡ copy_store cells
copy_beside [] = refl
copy_beside (v ∷ vs) = refl

-- a section of a number
abbrev HeldIf : (z : Setting) → Option Job → Type 0
HeldIf z None = Unit {0}
HeldIf z (Some job) = HeldJob z job

numbered_held : (z : Setting) (jobs : List Job) (n : ℕ) → All (HeldJob z) jobs → HeldIf z (job_numbered jobs n)
numbered_held z [] n h = tt
numbered_held z (j ∷ js) n h = go (j.number == n) (numbered_held z js n (All-tail (HeldJob z) j js h))
  where
    go : (b : Bool) → HeldIf z (job_numbered js n) → HeldIf z (cond b (Some j) (job_numbered js n))
    go true others = All-head (HeldJob z) j js h
    go false others = others

module _ (z : Setting) (pairs : Function → Function → Type 0) (facts : SectionFacts z pairs) where
  abbrev Stacks : List (CallFrame Position) → List (CallFrame Point) → Type 0
  Stacks xs ys = Native z.sections (InSection z) Bare xs ys

  abbrev Alike : Done Position → Done Point → Type 0
  Alike = DoneAlike z.sections (InSection z) Bare []

  module _ (s : Store) (source : IsHeldStore z.sections s) (f : Text) (b : Point) (slots : List Slot) (xs : List (CallFrame Position)) (ys : List (CallFrame Point)) (inside : z.sections f) (held : All (IsHeldSlot z.sections) slots) (below : Stacks xs ys) (o : Option Value) where
    abbrev k : Stack Position
    k = record { frames = frame_of f (InTree b) slots ∷ xs; arriving = o }

    abbrev j : Stack Point
    j = record { frames = frame_of f b slots ∷ ys; arriving = o }

    answers_alike : (m n : Answer (Store × Value)) → Meets (Answered z.sections []) m n → Meets Alike (m >>= λ t. answered (from_form z) t.0 k t.1) (n >>= λ t. answered (to_form z) t.0 j t.1)
    answers_alike _ _ (BothGive _ _ (BothAnswer t v h i)) =
        native_answered z.sections pairs (InSection z) Bare bare_ends (from_form z) (to_form z) facts.common facts.enters [] t h f (InTree b) b slots xs ys held below (z.used f b) v (facts.points t f b slots inside)
        (λ g e. facts.written t f b slots g inside e) i
    answers_alike _ _ (BothFault fault) = BothFault fault
    answers_alike _ _ (Stuck n) = Stuck _

    asks_alike : (asked : Asked) (vs : List Value) → All (IsHeld z.sections) vs → Meets Alike (section_asks (from_form z) s k asked vs) (section_asks (to_form z) (beside [] s) j asked vs)
    asks_alike (Builtin Malloc) (v ∷ []) h = answers_alike _ _ (S.allocated_alike z.sections [] s source Heap v tt)
    asks_alike (Builtin Free) (v ∷ []) h = answers_alike _ _ (S.freed_alike z.sections [] s source Heap v tt (All-head (IsHeld z.sections) v [] h))
    asks_alike (Builtin prim) vs h = Stuck _
    asks_alike (Host x) vs h = Stuck _
    asks_alike (ToSpawn g) vs h = Stuck _
    asks_alike (Section g) vs h = Stuck _

    done_alike : (d : Done Position) (e : Done Point) → Alike d e → Meets Alike (section_done (from_form z) s k d) (section_done (to_form z) (beside [] s) j e)
    done_alike _ _ (BothWent t us vs p h l r) = BothGive _ _ (BothWent t us vs p h l r)
    done_alike _ _ (BothReturned v t h l) = BothGive _ _ (BothReturned v t h l)
    done_alike _ _ (BothAsked r h) = asks_alike r.asked r.arguments h

    step_alike : IsHeldIf z.sections o → Meets Alike (plain (from_form z) s k >>= section_done (from_form z) s k) (plain (to_form z) (beside [] s) j >>= section_done (to_form z) (beside [] s) j)
    step_alike hold =
        meets_then Alike Alike _ _ _ _
        (native_step z.sections pairs (InSection z) Bare bare_ends (from_form z) (to_form z) facts.common facts.enters [] s source f (InTree b) b slots xs ys held below (z.used f b) o (facts.points s f b slots inside) hold)
        done_alike

  -- ---- runs

  module _ (job : Text) (shown : before_underscores job ≡ shown_in z.source job) (no_copy : Bool) where
    abbrev Going : (Store → Stack Position → SectionEnd) → (Store → Stack Point → SectionEnd) → Type 0
    Going x y = (s : Store) (xs : List (CallFrame Position)) (ys : List (CallFrame Point)) (o : Option Value) → IsHeldStore z.sections s → IsHeldIf z.sections o → Stacks xs ys → EndsAlike z (x s (record { frames = xs; arriving = o })) (y (beside [] s) (record { frames = ys; arriving = o }))

    next_alike : (x : Store → Stack Position → SectionEnd) (y : Store → Stack Point → SectionEnd) → Going x y → (f : Text) → before_underscores f ≡ shown_in z.source f → (m : Answer (Done Position)) (n : Answer (Done Point)) → Meets Alike m n → EndsAlike z (section_next x job no_copy f m) (section_next y job no_copy f n)
    next_alike x y go f is_shown _ _ (BothGive _ _ (BothWent t us vs p h l r)) = go t us vs p h l r
    next_alike x y go f is_shown _ _ (BothGive _ _ (BothReturned v t h l)) = subst (λ cells. EndsAlike z (section_gave job v (copy_left no_copy t)) (section_gave job v cells)) (sym (left_alike no_copy t)) (gave_alike z job v (copy_left no_copy t) shown)
    next_alike x y go f is_shown _ _ (BothGive _ _ (BothAsked r h)) = NothingSaid _
    next_alike x y go f is_shown _ _ (BothFault fault) = SameBroke fault f is_shown
    next_alike x y go f is_shown _ _ (Stuck n) = NothingSaid _

    run_alike : (n : ℕ) → Going (λ s k. section_run (from_form z) job no_copy n s k) (λ s k. section_run (to_form z) job no_copy n s k)
    run_alike zero s xs ys o source hold stacks = SameBroke F.SectionSteps job shown
    run_alike (suc n) s _ _ o source hold (NoMore _ _ BareEnds) = NothingSaid _
    run_alike (suc n) s _ _ o source hold (OneMore f a b slots xs ys same held below) =
        subst (λ p. EndsAlike z (section_run (from_form z) job no_copy (suc n) s (record { frames = frame_of f p slots ∷ xs; arriving = o })) (section_run (to_form z) job no_copy (suc n) (beside [] s) (record { frames = frame_of f b slots ∷ ys; arriving = o }))) (sym same.0)
        (next_alike (λ s k. section_run (from_form z) job no_copy n s k) (λ s k. section_run (to_form z) job no_copy n s k) (run_alike n) f (facts.shown f same.1) _ _ (step_alike s source f b slots xs ys same.1 held below o hold))

  -- ---- from the first frame

  abbrev Ended : Job → ℕ → Answer (CallFrame Position × Store) → Answer (CallFrame Point × Store) → Type 0
  Ended job bound m n = EndsAlike z (section_from (from_form z) job bound m) (section_from (to_form z) job bound n)

  from_alike : (job : Job) (bound : ℕ) → before_underscores job.function ≡ shown_in z.source job.function → (f : Text) (a : Position) (b : Point) → InSection z f a b → (m n : Answer (List Slot × Store)) → Meets (Entered z.sections []) m n → Ended job bound (m >>= framed f a) (n >>= framed f b)
  from_alike job bound shown f a b same _ _ (BothGive _ _ (SlotsMade t slots h l)) = run_alike job.function shown (is_empty job.cells) bound t (frame_of f a slots ∷ []) (frame_of f b slots ∷ []) None h tt (OneMore f a b slots [] [] same l (NoMore [] [] BareEnds))
  from_alike job bound shown f a b same _ _ (BothFault fault) = SameBroke fault job.function shown
  from_alike job bound shown f a b same _ _ (Stuck n) = NothingSaid _

  -- what the function takes
  abbrev taken : Job → List Value
  taken job = copy_pointer job.cells ∷ job.arguments

  taken_held : (job : Job) → HeldJob z job → All (IsHeld z.sections) (taken job)
  taken_held job h = All-cons (IsHeld z.sections) (copy_pointer job.cells) job.arguments (pointer_held job.cells) (ints_held z.sections job.arguments h.arguments)
    where
      pointer_held : (cells : List Value) → IsHeld z.sections (copy_pointer cells)
      pointer_held [] = tt
      pointer_held (v ∷ vs) = tt

  end_alike : (job : Job) (bound : ℕ) → HeldJob z job → EndsAlike z (section_end (from_form z) job bound) (section_end (to_form z) job bound)
  end_alike job bound h = found (function_named z.source job.function) (function_named z.target job.function) (facts.common.codes job.function h.function)
    where
      shown : before_underscores job.function ≡ shown_in z.source job.function
      shown = facts.shown job.function h.function

      store : Store
      store = copy_store job.cells

      entered : (g g' : Function) → EntersAlike (InSection z) (from_form z) (to_form z) g g' → Ended job bound (make_frame (from_form z) g (taken job) store) (make_frame (to_form z) g' (taken job) store)
      entered g g' e =
          subst (λ y. Ended job bound (make_frame (from_form z) g (taken job) store) (make_slots z.target g' 0 (variables g') (taken job) store >>= framed y ((to_form z).code.first y))) e.called
          (subst (λ xs. Ended job bound (make_frame (from_form z) g (taken job) store) (make_slots z.target g' 0 xs (taken job) store >>= framed g.called ((to_form z).code.first g.called))) e.variables
          (subst (λ t. Ended job bound (make_frame (from_form z) g (taken job) store) (make_slots z.target g' 0 (variables g) (taken job) t >>= framed g.called ((to_form z).code.first g.called))) (copy_beside job.cells)
          (from_alike job bound shown g.called _ _ e.first _ _ (slots_beside z.sections z.source z.target facts.common.types g g' e.marks [] 0 (variables g) (taken job) store (copy_held z.sections job.cells h.cells) (taken_held job h)))))

      found : (u v : Option Function) → FoundAlike pairs u v → EndsAlike z (section_from (from_form z) job bound (section_frame (from_form z) job u)) (section_from (to_form z) job bound (section_frame (to_form z) job v))
      found _ _ NoneFound = NothingSaid _
      found _ _ (BothFound g g' r same) = entered g g' (facts.enters g g' r)

  -- ---- what is brought back

  module _ (bs : Blocks) where
    and_alike : (v : Value) (c d : Collected) → CollectedAlike z bs c d → CollectedAlike z bs (and_value v c) (and_value v d)
    and_alike v _ _ (BothGave vs t) = BothGave (v ∷ vs) t
    and_alike v _ _ (BothFailed fault f e) = BothFailed fault f e
    and_alike v _ _ (SourceStuck c) = SourceStuck _

    back_alike : (c : Class) → IsShared c → (n : ℕ) (cells : List Value) (m : ℕ) (s : Store) → all_integers cells ≡ true → IsHeldStore z.codes s → Meets (StoreBeside z.codes bs) (write_back cells c n m s) (write_back cells c n m (beside bs s))
    back_alike c d n [] m s ints source = BothGive _ _ (InBoth s source)
    back_alike c d n (v ∷ cells) m s ints source =
        let h = int_held z.codes v cells ints in
        meets_then (StoreBeside z.codes bs) (StoreBeside z.codes bs) (of_result (save c n m v s)) (of_result (save c n m v (beside bs s))) _ _ (S.saves z.codes bs s source c n m v d h.0)
        (more (λ t source. back_alike c d n cells (suc m) t h.1 source))
      where
        more : ((t : Store) → IsHeldStore z.codes t → Meets (StoreBeside z.codes bs) (write_back cells c n (suc m) t) (write_back cells c n (suc m) (beside bs t))) → (t u : Store) → StoreBeside z.codes bs t u → Meets (StoreBeside z.codes bs) (write_back cells c n (suc m) t) (write_back cells c n (suc m) u)
        more rest _ _ (InBoth t h) = rest t h

    to_alike : (p : Value) (cells : List Value) (s : Store) → IsHeld z.codes p → all_integers cells ≡ true → IsHeldStore z.codes s → Meets (StoreBeside z.codes bs) (write_to p cells s) (write_to p cells (beside bs s))
    to_alike (Pointer c n k) cells s held ints source = back_alike c held n cells k s ints source
    to_alike Unset cells s held ints source = BothGive _ _ (InBoth s source)
    to_alike (Whole kind z) cells s held ints source = BothGive _ _ (InBoth s source)
    to_alike Null cells s held ints source = BothGive _ _ (InBoth s source)
    to_alike (Code f) cells s held ints source = BothGive _ _ (InBoth s source)
    to_alike (Cond n) cells s held ints source = BothGive _ _ (InBoth s source)

    abbrev Rest : (Store → Collected) → (Store → Collected) → Type 0
    Rest x y = (t : Store) → IsHeldStore z.codes t → CollectedAlike z bs (x t) (y (beside bs t))

    written_alike : (v : Value) (f : Text) → before_underscores f ≡ shown_in z.source f → (x y : Store → Collected) → Rest x y → (m n : Answer Store) → Meets (StoreBeside z.codes bs) m n → CollectedAlike z bs (written x v f m) (written y v f n)
    written_alike v f shown x y rest _ _ (BothGive _ _ (InBoth t h)) = and_alike v (x t) (y (beside bs t)) (rest t h)
    written_alike v f shown x y rest _ _ (BothFault fault) = BothFailed fault f shown
    written_alike v f shown x y rest _ _ (Stuck n) = SourceStuck _

    collected_alike : (job : Job) → HeldJob z job → (x y : Store → Collected) → Rest x y → (s : Store) → IsHeldStore z.codes s → (d e : SectionEnd) → EndsAlike z d e → CollectedAlike z bs (collected x job s d) (collected y job (beside bs s) e)
    collected_alike job h x y rest s source _ _ (SameGave v cells ints) =
        written_alike v job.function (facts.shown job.function h.function) x y rest (write_to job.pointer cells s) (write_to job.pointer cells (beside bs s)) (to_alike job.pointer cells s h.pointer ints source)
    collected_alike job h x y rest s source _ _ (SameBroke fault f e) = BothFailed fault f e
    collected_alike job h x y rest s source _ _ (NothingSaid e) = SourceStuck _

    -- the sections that a poll names
    pub sections_alike : (bound : ℕ) (jobs : List Job) (ns : List ℕ) (s : Store) → IsHeldStore z.codes s → All (HeldJob z) jobs → CollectedAlike z bs (collect (from_form z) bound jobs ns s) (collect (to_form z) bound jobs ns (beside bs s))
    sections_alike bound jobs [] s source held = BothGave [] s
    sections_alike bound jobs (n ∷ ns) s source held = go (λ t source. sections_alike bound jobs ns t source held) (job_numbered jobs n) (numbered_held z jobs n held)
      where
        go : Rest (λ t. collect (from_form z) bound jobs ns t) (λ t. collect (to_form z) bound jobs ns t) → (o : Option Job) → HeldIf z o → CollectedAlike z bs (collect_one (from_form z) bound (λ t. collect (from_form z) bound jobs ns t) s o) (collect_one (to_form z) bound (λ t. collect (to_form z) bound jobs ns t) (beside bs s) o)
        go rest None h = SourceStuck _
        go rest (Some job) h = collected_alike job h _ _ rest s source (section_end (from_form z) job bound) (section_end (to_form z) job bound) (end_alike job bound h)
