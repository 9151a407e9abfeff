-- The rows, joined: for each step of the source, from states that stand for each other, at least one step of the target and at most so many.
use Rattle.std.proofs.Common.{◌≡◌, ℕ, ◌+◌, ◌≤◌, true, List, [], ◌∷◌, ◌++◌, Option, Some, None, option_map, refl, sym, ◌∙◌, ap, subst, arith}
use Rattle.std.specs.List.{All}
use Rattle.cpc_base.specs.Bytes.{Text}
use Rattle.cpc_store.specs.Store.{Value, Unset, Blocks, empty_store}
use Rattle.cpc_tree.specs.Points.{Point, Found}
use Rattle.cpc_tree.specs.Syntax.{Function}
use Rattle.cpc_tree.specs.Trace.{Outcome, Going, Ended, Exited, Failed, HistoryEnded, BadHistory, is_over}
use Rattle.cpc_tree.specs.Typing.{function_named}
use Rattle.cpc_meaning_matching.proofs.Paths.{path_wider}
use Rattle.cpc_meaning.specs.Act.{AtArrival, act}
use Rattle.cpc_meaning.specs.Agenda.{Agenda, begin_round}
use Rattle.cpc_meaning.specs.Answer.{NoAnswer}
use Rattle.cpc_meaning.specs.Eval.{Slot}
use Rattle.cpc_meaning.specs.Machine.{next, try_step, unless_over}
use Rattle.cpc_meaning.specs.Plain.{Frame as CallFrame, Stack, context}
use Rattle.cpc_meaning.specs.Runs.{slots_registers}
use Rattle.cpc_meaning.specs.Start.{main_name, globals, make_globals}
use Rattle.cpc_meaning.specs.Threads.{Thread, Pending, threads_of}
use Rattle.cpc_meaning.specs.Events.{Callback, CallMain}
use Rattle.cpc_forms.specs.Flow.{Place}
use Rattle.cpc_forms.specs.Split.{Position, InTree, InGraph}
use Rattle.cpc_lift_laws.specs.Lifted.{tidy}
use Rattle.cpc_convert_image_laws.specs.Held.{IsHeldSlot, beside}
use Rattle.cpc_convert_image_laws.specs.Native.{IsHeldIf}
use Rattle.cpc_convert_image_laws.specs.Relations.{Found as FoundAlike}
use Rattle.cpc_convert_image_laws.specs.Stacks.{frame_of, Native, NoMore, OneMore}
use Rattle.cpc_convert_flat_laws.specs.Blocks.{Owns}
use Rattle.cpc_chains_store_laws.specs.Driver.{driving}
use Rattle.cpc_lifted_laws.specs.Related.Bounds.{Bounds, Enough}
use Rattle.cpc_chains_laws.specs.Related.Fresh.{AllFresh}
use Rattle.cpc_lifted_laws.specs.Related.Cut.{Tagged, owned_in}
use Rattle.cpc_chains_laws.specs.Related.Running.{SamePoint, InPiece, AtNode, Under, Bottom, PieceWaits, RunningFor, NothingRuns, NativeRuns, PieceRuns}
use Rattle.cpc_chains_laws.proofs.Related.Beginning.{first_row, main_row}
use Rattle.cpc_chains_laws.proofs.Related.Entry.{EntryFacts}
use Rattle.cpc_chains_laws.proofs.Related.Idle.{idle_row}
use Rattle.cpc_chains_laws.proofs.Related.Inside.{PieceAt}
use Rattle.cpc_chains_laws.proofs.Related.Mains.{CpsMain, cps_main_row}
use Rattle.cpc_chains_laws.proofs.Related.Native.{native_row}
use Rattle.cpc_chains_laws.proofs.Related.Onwards.{Beside}
use Rattle.cpc_chains_laws.proofs.Related.Pieces.{piece_row}
use Rattle.cpc_chains_laws.proofs.Related.Relation.{Source, Target, Shared, AgendaFor, source_state, target_state, with_main, Related, MainIsReady, MainIsNext, Goes, IsOver}
use Rattle.cpc_chains_laws.proofs.Related.Rows.{RowFor}
use Rattle.cpc_chains_laws.proofs.Related.Setting.{Setting, from_form, NativeFacts, KeepsFacts, NativeAt, Known}
use Rattle.cpc_chains_laws.proofs.Related.Spawning.{SpawnAt, spawn_at_row}
use Rattle.cpc_chains_laws.proofs.Related.Standing.{here, acts_here, steps_by, no_step}

-- what is known where a native function runs: what stands there is the same in both, or something is spawned
pub data NativeDoes (z : Setting) (bounds : Bounds) (f : Text) (b : Point) (slots : List Slot) (ys : List (CallFrame Point)) (o : Option Value) (w : Shared) (bs : Blocks) (c : Agenda Callback) : Type 0 where
  Plainly : NativeAt z f b slots → NativeDoes z bounds f b slots ys o w bs c
  Spawning : SpawnAt z bounds f b slots ys o w bs c → NativeDoes z bounds f b slots ys o w bs c

-- how `main` is called: it is native, and stands for itself, or a cps function
pub data MainIs (z : Setting) (bounds : Bounds) : Type 0 where
  NativeMain : FoundAlike z.pairs (function_named z.source main_name) (function_named z.target main_name) → MainIs z bounds
  ACpsMain : CpsMain z bounds → MainIs z bounds

-- all that the rows ask of the two programs
pub record RowFacts (z : Setting) (bounds : Bounds) : Type 0 where
  pub native : NativeFacts z
  pub keeps : KeepsFacts z
  pub entry : EntryFacts z bounds
  pub main : MainIs z bounds
  -- the globals are the same
  pub globals : globals (make_globals z.target z.target empty_store) ≡ beside [] (globals (make_globals z.source z.source empty_store))
  -- native code
  pub natives : (f : Text) (b : Point) (slots : List Slot) (xs : List (CallFrame Position)) (ys : List (CallFrame Point)) (o : Option Value) (w : Shared) (bs : Blocks) (a : Agenda (Thread Position)) (c : Agenda Callback)
      → z.cut.whole f ≡ true → All (IsHeldSlot z.codes) slots → Known z (source_state w (Some (record { frames = frame_of f (InTree b) slots ∷ xs; arriving = o })) a) → NativeDoes z bounds f b slots ys o w bs c
  -- pieces
  pub pieces : (f : Text) (l : Place) (lower pointer result frame : Value) (w : Shared) (bs : Blocks) (c : Agenda Callback) (n : ℕ) (slots : List Slot) (o : Option Value) (piece : CallFrame Point) (o' : Option Value) (a : Agenda (Thread Position)) (below : List (CallFrame Position))
      → z.there f l n slots o lower piece o' → Beside z bs a c below lower → Known z (here z f (InGraph l n) slots o w a below) → PieceAt z bounds f l lower pointer result frame w bs c n slots o piece o'
  -- no piece has more registers than this
  pub thin : (f : Text) (l : Place) (n : ℕ) (slots : List Slot) (o : Option Value) (lower : Value) (piece : CallFrame Point) (o' : Option Value) → z.there f l n slots o lower piece o' → slots_registers piece.slots ≤ bounds.piece
  -- where a value arrives at a piece, an arrival stands in the source
  pub arrivals : (f : Text) (l : Place) (n : ℕ) (slots : List Slot) (v lower : Value) (piece : CallFrame Point) → z.there f l n slots (Some v) lower piece (Some v) → (g : Found) × ((from_form z).code.stood f (InGraph l n) ≡ AtArrival g)

-- nothing is not a state
no_state_at : (x : Source) → ¬ (None ≡ Some x)
no_state_at x e = absurd (cc)

module _ (z : Setting) (bounds : Bounds) (facts : RowFacts z bounds) (most : ℕ) (enough : Enough bounds most) where
  -- the step of the source
  abbrev StepsTo : Source → Source → Type 0
  StepsTo x x' = option_map (tidy z.kept) (next (threads_of (from_form z)) x) ≡ Some x'

  module _ (w : Shared) (bs : Blocks) (a : Agenda (Thread Position)) (tags : Agenda Tagged) (c : Agenda Callback) (g : AgendaFor z.cut bs a tags c) (fresh : AllFresh bs) (x' : Source) (known' : Known z x') where
    abbrev from : List (CallFrame Position) → Option Value → Source
    from xs o = source_state w (Some (record { frames = xs; arriving = o })) a

    abbrev to : List (CallFrame Point) → Option Value → Target
    to ys o = target_state w bs (Some (record { frames = ys; arriving = o })) c

    inside_row : (owned : List ℕ) → Owns bs (owned ++ owned_in tags) → (xs : List (CallFrame Position)) (o : Option Value) (ys : List (CallFrame Point)) (o' : Option Value) → InPiece z.codes z.cut z.there bs xs o ys o' owned → Known z (from xs o) → StepsTo (from xs o) x' → RowFor z bounds.rise (from xs o) x' most (to ys o')
    inside_row owned owns _ _ _ _ (AtNode f l n slots o lower piece o' there below saved _ waits chain pointer result frame) known e =
        let h : Beside z bs a c below lower = record { tags = tags; saved = saved; owned = owned; waits = waits; chain = chain; alike = g; owns = owns; fresh = fresh } in
        piece_row z facts.native facts.keeps bounds facts.entry most enough f l lower pointer result frame w bs c n slots o piece o' a below h (facts.pieces f l lower pointer result frame w bs c n slots o piece o' a below there h known) (facts.thin f l n slots o lower piece o' there) known x' known' e

    -- where a value is to arrive, and none does, the source is stuck
    stuck_row : (owned : List ℕ) (xs : List (CallFrame Position)) (ys : List (CallFrame Point)) → InPiece z.codes z.cut z.there bs xs (Some Unset) ys (Some Unset) owned → StepsTo (from xs None) x' → RowFor z bounds.rise (from xs None) x' most (to ys None)
    stuck_row owned _ _ (AtNode f l n slots _ lower piece _ there below saved _ waits chain pointer result frame) e =
        let at = facts.arrivals f l n slots Unset lower piece there in
        go at.0 at.1 (function_named z.source f) refl
      where
        go : (g : Found) → (from_form z).code.stood f (InGraph l n) ≡ AtArrival g → (k : Option Function) → function_named z.source f ≡ k → RowFor z bounds.rise (from (frame_of f (InGraph l n) slots ∷ below) None) x' most (to (piece ∷ driving pointer result frame ∷ []) None)
        go g stood None i = absurd (no_state_at x' (sym (ap (option_map (tidy z.kept)) (no_step z f (InGraph l n) slots None w a below i)) ∙ e))
        go g stood (Some k) i =
            let none : acts_here z f (InGraph l n) slots None w a below k ≡ NoAnswer = ap (λ s. act (context (from_form z) w.store (frame_of f (InGraph l n) slots)) k.result None s) stood in
            absurd (no_state_at x' (sym (ap (option_map (tidy z.kept)) (steps_by z f (InGraph l n) slots None w a below k i NoAnswer none)) ∙ e))

    -- what is below native frames takes the value
    below_row : (owned : List ℕ) → Owns bs (owned ++ owned_in tags) → (xs : List (CallFrame Position)) (ys : List (CallFrame Point)) (o : Option Value) → IsHeldIf z.codes o → Under z.codes z.cut z.there bs owned xs ys → Known z (from xs o) → StepsTo (from xs o) x' → RowFor z bounds.rise (from xs o) x' most (to ys o)
    below_row _ owns _ _ o held Bottom known e = absurd (no_state_at x' e)
    below_row _ owns _ _ None held (PieceWaits xs ys owned r) known e = stuck_row owned xs ys (r Unset tt) e
    below_row _ owns _ _ (Some v) held (PieceWaits xs ys owned r) known e = inside_row owned owns xs (Some v) ys (Some v) (r v held) known e

    -- native code at a point
    point_row : (owned : List ℕ) → Owns bs (owned ++ owned_in tags) → (f : Text) (b : Point) (slots : List Slot) (xs : List (CallFrame Position)) (ys : List (CallFrame Point)) (o : Option Value) → IsHeldIf z.codes o → z.cut.whole f ≡ true → All (IsHeldSlot z.codes) slots
        → Native z.codes (SamePoint z.cut) (Under z.codes z.cut z.there bs owned) xs ys → Known z (from (frame_of f (InTree b) slots ∷ xs) o) → StepsTo (from (frame_of f (InTree b) slots ∷ xs) o) x' → RowFor z bounds.rise (from (frame_of f (InTree b) slots ∷ xs) o) x' most (to (frame_of f b slots ∷ ys) o)
    point_row owned owns f b slots xs ys o hold same held stacks known e = go (facts.natives f b slots xs ys o w bs a c same held known)
      where
        go : NativeDoes z bounds f b slots ys o w bs c → RowFor z bounds.rise (from (frame_of f (InTree b) slots ∷ xs) o) x' most (to (frame_of f b slots ∷ ys) o)
        go (Plainly at) =
            path_wider most (let i = enough.goes in let j : 1 ≤ most = omega arith in j)
            (native_row z facts.native facts.keeps bs owned f b slots xs ys same held stacks at o hold w a tags c known.store (record { alike = g; owns = owns; fresh = fresh }) x' e)
        go (Spawning h) = spawn_at_row z facts.native facts.keeps bounds most enough f b slots xs ys o w bs owned a tags c h same held stacks g owns fresh x' e

    native_top : (owned : List ℕ) → Owns bs (owned ++ owned_in tags) → (xs : List (CallFrame Position)) (ys : List (CallFrame Point)) (o : Option Value) → IsHeldIf z.codes o → Native z.codes (SamePoint z.cut) (Under z.codes z.cut z.there bs owned) xs ys
        → Known z (from xs o) → StepsTo (from xs o) x' → RowFor z bounds.rise (from xs o) x' most (to ys o)
    native_top owned owns _ _ o hold (NoMore xs ys under) known e = below_row owned owns xs ys o hold under known e
    native_top owned owns _ _ o hold (OneMore f p b slots xs ys same held stacks) known e =
        subst (λ p. Known z (from (frame_of f p slots ∷ xs) o) → StepsTo (from (frame_of f p slots ∷ xs) o) x' → RowFor z bounds.rise (from (frame_of f p slots ∷ xs) o) x' most (to (frame_of f b slots ∷ ys) o)) (sym same.0)
        (λ known e. point_row owned owns f b slots xs ys o hold same.1 held stacks known e) known e

    -- whatever runs
    runs_row : (owned : List ℕ) → Owns bs (owned ++ owned_in tags) → (k : Option (Stack Position)) (j : Option (Stack Point)) → RunningFor z.codes z.cut z.there bs k j owned → Known z (source_state w k a) → StepsTo (source_state w k a) x' → RowFor z bounds.rise (source_state w k a) x' most (target_state w bs j c)
    runs_row _ owns _ _ NothingRuns known e =
        idle_row z facts.native facts.keeps bounds facts.entry most bounds.rise (let i = enough.begins in let j : 5 + bounds.begins ≤ most = omega arith in j) (let i = enough.begun in omega (arith, i)) enough.taken enough.less w bs a tags c g owns fresh x' known known' e
    runs_row _ owns _ _ (NativeRuns xs ys o owned stacks hold) known e = native_top owned owns xs ys o hold stacks known e
    runs_row _ owns _ _ (PieceRuns xs o ys o' owned r) known e = inside_row owned owns xs o ys o' r known e

  -- a state that is over has no step
  none_over : (o : Outcome) (u : Option Source) → is_over o ≡ true → unless_over o u ≡ None
  none_over Going u e = absurd (cc)
  none_over (Ended n) u e = refl
  none_over (Exited n) u e = refl
  none_over (Failed fault f) u e = refl
  none_over HistoryEnded u e = refl
  none_over (BadHistory n) u e = refl

  -- the call of `main`
  main_next : (w : Shared) (x' : Source) → Known z (source_state w None (begin_round (with_main (Pending main_name [])))) → Known z x' → StepsTo (source_state w None (begin_round (with_main (Pending main_name [])))) x' → MainIs z bounds
      → RowFor z bounds.rise (source_state w None (begin_round (with_main (Pending main_name [])))) x' most (target_state w [] None (begin_round (with_main CallMain)))
  main_next w x' known known' e (NativeMain found) = path_wider most (let i = enough.goes in let j : 1 ≤ most = omega arith in j) (main_row z facts.native facts.keeps w known.store found x' e)
  main_next w x' known known' e (ACpsMain main) = cps_main_row z facts.native facts.keeps bounds facts.entry most enough main w x' known known' e

  -- the row
  pub row : (x x' : Source) (y : Target) → StepsTo x x' → Known z x → Known z x' → Related z.codes z.cut z.there x y → RowFor z bounds.rise x x' most y
  row _ x' _ e known known' (MainIsReady w) = path_wider most (let i = enough.goes in let j : 1 ≤ most = omega arith in j) (first_row z facts.native facts.keeps w x' e)
  row _ x' _ e known known' (MainIsNext w) = main_next w x' known known' e facts.main
  row _ x' _ e known known' (Goes w bs k j owned a tags b runs g owns fresh) = runs_row w bs a tags b g fresh x' known' owned owns k j runs known e
  row x x' y e known known' (IsOver _ _ over trace outcome) = absurd (no_state_at x' (sym (ap (option_map (tidy z.kept)) (none_over x.outcome (try_step (threads_of (from_form z)) x) over)) ∙ e))
