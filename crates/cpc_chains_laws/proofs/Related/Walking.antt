-- Rows made of walks: to a state that stands for the next one of the source, and to a fault of both; and the row of a spawn in native code.
use Rattle.std.proofs.Common.{◌≡◌, ◌⊎◌, inl, ℕ, suc, ◌+◌, ◌≤◌, true, List, [], ◌∷◌, ◌++◌, length, Option, Some, None, option_map, refl, sym, ◌∙◌, ap, subst, arith}
use Rattle.std.specs.List.{All}
use Rattle.cpc_base.specs.Bytes.{Text}
use Rattle.cpc_num.specs.declared.kinds.Fault.{Fault}
use Rattle.cpc_store.specs.declared.values.Class.TheVariants.{Frame}
use Rattle.cpc_store.specs.Store.{Value, Null, Unset, At as Pointer, Blocks}
use Rattle.cpc_tree.specs.Syntax.{Program}
use Rattle.cpc_tree.specs.Points.{Point}
use Rattle.cpc_tree.specs.Trace.{Mark, Going, Failed, is_over}
use Rattle.cpc_meaning_matching.specs.Simulation.{Last}
use Rattle.cpc_meaning.specs.Agenda.{Agenda, ready_one}
use Rattle.cpc_meaning.specs.Eval.{Slot}
use Rattle.cpc_meaning.specs.Machine.{ends, next}
use Rattle.cpc_meaning.specs.Plain.{Frame as CallFrame}
use Rattle.cpc_meaning.specs.Start.{before_underscores}
use Rattle.cpc_meaning.specs.Threads.{Thread, Pending, threads_of}
use Rattle.cpc_meaning.specs.Events.{Callback, CallWith}
use Rattle.cpc_forms.specs.Split.{Position, InTree}
use Rattle.cpc_lift_laws.specs.Lifted.{tidy}
use Rattle.cpc_convert_image_laws.specs.Held.{IsHeldSlot}
use Rattle.cpc_convert_image_laws.specs.Stacks.{frame_of, Native, OneMore}
use Rattle.cpc_convert_flat_laws.specs.Blocks.{Owns}
use Rattle.cpc_chains_store_laws.specs.Chains.{frame_cells}
use Rattle.cpc_chains_store_laws.specs.Driver.{drive_name}
use Rattle.cpc_convert_flat_laws.specs.Walks.{Here, Quiet, Climb, Rest, Go, Rise, Walk, FaultsAfter}
use Rattle.cpc_convert_flat_laws.proofs.Walks.{whole_climb, climb_then}
use Rattle.cpc_chains_laws.specs.Related.Fresh.{AllFresh}
use Rattle.cpc_chains_laws.specs.Related.Items.{first_saved, driven}
use Rattle.cpc_lifted_laws.specs.Related.Cut.{Tagged, owned_in}
use Rattle.cpc_chains_laws.specs.Related.Running.{SamePoint, Under, NativeRuns}
use Rattle.cpc_chains_laws.proofs.Related.Relation.{Source, Target, Shared, AgendaFor, source_state, target_state, Related, Goes, IsOver}
use Rattle.cpc_chains_laws.proofs.Related.Setting.{Setting, from_form, NativeFacts, KeepsFacts}
use Rattle.cpc_chains_laws.proofs.Related.Tidy.{related_tidied}
use Rattle.cpc_chains_laws.proofs.Related.Fresh.{fresh_more}
use Rattle.cpc_chains_laws.proofs.Related.Rows.{RowFor, Midway, AtFirst, near_quiet, row_rises}
use Rattle.cpc_chains_laws.proofs.Related.Putting.{agenda_alloc, agenda_ready, owns_ready, pending_put, stacks_alloc}

-- a walk leads from a quiet state to a quiet one
climb_quiet : (q : Program) (trace : List Mark) (most n : ℕ) (s t : Here) → Quiet trace s → Climb q trace most n s t → Quiet trace t
climb_quiet q trace most _ s _ h (Rest _) = h
climb_quiet q trace most _ s t h (Go n _ r _ e quiet few more) = climb_quiet q trace most n r t quiet more

rise_quiet : (q : Program) (trace : List Mark) (n g : ℕ) (s t : Here) → Quiet trace s → Rise q trace n g s t → Quiet trace t
rise_quiet q trace n g s t h r = climb_quiet q trace _ n s t h (whole_climb n g s t r)

pub walk_quiet : (q : Program) (trace : List Mark) (n : ℕ) (s t : Here) → Quiet trace s → Walk q trace n s t → Quiet trace t
walk_quiet q trace n s t h w = rise_quiet q trace n n s t h w

-- a walk to a state that stands for the one to which the source steps
pub walk_row : (z : Setting) (k : ℕ) → NativeFacts z → KeepsFacts z → (x s x' : Source) (y t : Target) (n grown : ℕ) → x.outcome ≡ Going → next (threads_of (from_form z)) x ≡ Some s → Related z.codes z.cut z.there s t
    → option_map (tidy z.kept) (next (threads_of (from_form z)) x) ≡ Some x' → Rise z.target x.trace (suc n) grown y t → grown ≤ k → RowFor z k x x' (suc n) y
walk_row z k native keeps x s x' y t n grown going i r e walk le =
    let e' : Some (tidy z.kept s) ≡ Some x' = sym (ap (option_map (tidy z.kept)) i) ∙ e in
    let j : tidy z.kept s ≡ x' = cc in
    row_rises z k x x' y t n grown going walk le
    (subst (λ s. Related z.codes z.cut z.there s t) j (related_tidied z native keeps s t r))

-- some steps to a fault that the source has in this step
pub fault_row : (z : Setting) (k : ℕ) (x x' : Source) (y : Target) (f : Text) (fault : Fault) → x.outcome ≡ Going → Quiet x.trace y → x'.trace ≡ x.trace → x'.outcome ≡ Failed fault (before_underscores f)
    → (a : FaultsAfter z.target x.trace f fault y) → a.grown ≤ k → RowFor z k x x' (a.steps + 1) y
fault_row z k x x' y f fault going quiet same failed a le =
    let last = rise_quiet z.target x.trace a.steps a.grown y a.last quiet a.leads in
    climb_then {q = z.target} {trace = x.trace} (Related z.codes z.cut z.there x') (Midway z k x x' y) (λ u q few. AtFirst (near_quiet z x u going q) (omega (arith, few, le))) a.steps 1 y a.last
    (whole_climb a.steps a.grown y a.last a.leads)
    (Last 1 a.last (ends (Failed fault (before_underscores f)) a.last) a.faults (omega arith)
    (IsOver x' (ends (Failed fault (before_underscores f)) a.last) (ap is_over failed) (last.is_trace ∙ sym same) (sym failed)))

-- ---- spawns

-- A spawn of native code at this state: the source makes the call ready and goes on, and some steps of the target put the call's first
-- frame into a new block, make it ready, and come to the same point.
pub record Spawns (z : Setting) (k : ℕ) (f : Text) (b : Point) (slots : List Slot) (xs : List (CallFrame Position)) (ys : List (CallFrame Point)) (o : Option Value) (w : Shared) (bs : Blocks) (a : Agenda (Thread Position)) (c : Agenda Callback) : Type 0 where
  pub spawned : Text
  pub arguments : List Value
  pub onwards : Point
  pub steps : ℕ
  pub source : next (threads_of (from_form z)) (source_state w (Some (record { frames = frame_of f (InTree b) slots ∷ xs; arriving = o })) a)
      ≡ Some (source_state w (Some (record { frames = frame_of f (InTree onwards) slots ∷ xs; arriving = None })) (ready_one (Pending spawned arguments) a))
  pub grown : ℕ
  pub few : grown ≤ k
  pub leads : Rise z.target w.trace (suc steps) grown (target_state w bs (Some (record { frames = frame_of f b slots ∷ ys; arriving = o })) c)
      (target_state w (bs ++ Some (frame_cells (first_saved z.cut spawned arguments) Null Unset) ∷ []) (Some (record { frames = frame_of f onwards slots ∷ ys; arriving = None })) (ready_one (CallWith drive_name (Pointer Frame (length bs) 0)) c))

-- so both come to states that stand for each other
pub spawn_row : (z : Setting) (k : ℕ) → NativeFacts z → KeepsFacts z → (f : Text) (b : Point) (slots : List Slot) (xs : List (CallFrame Position)) (ys : List (CallFrame Point)) (o : Option Value) (w : Shared) (bs : Blocks) (owned : List ℕ) (a : Agenda (Thread Position)) (tags : Agenda Tagged) (c : Agenda Callback)
    → (h : Spawns z k f b slots xs ys o w bs a c) → z.cut.whole f ≡ true → All (IsHeldSlot z.codes) slots → Native z.codes (SamePoint z.cut) (Under z.codes z.cut z.there bs owned) xs ys → AgendaFor z.cut bs a tags c → Owns bs (owned ++ owned_in tags) → AllFresh bs
    → (x' : Source) → option_map (tidy z.kept) (next (threads_of (from_form z)) (source_state w (Some (record { frames = frame_of f (InTree b) slots ∷ xs; arriving = o })) a)) ≡ Some x'
    → RowFor z k (source_state w (Some (record { frames = frame_of f (InTree b) slots ∷ xs; arriving = o })) a) x' (suc h.steps) (target_state w bs (Some (record { frames = frame_of f b slots ∷ ys; arriving = o })) c)
spawn_row z k native keeps f b slots xs ys o w bs owned a tags c h same held stacks g owns fresh x' e =
    let cells = frame_cells (first_saved z.cut h.spawned h.arguments) Null Unset in
    let more : Blocks = bs ++ Some cells ∷ [] in
    let item = driven (Pointer Frame (length bs) 0) (length bs ∷ []) in
    walk_row z k native keeps _ _ x' _ _ h.steps h.grown refl h.source
    (Goes w more _ _ owned (ready_one (Pending h.spawned h.arguments) a) (ready_one item tags) (ready_one item.callback c)
    (NativeRuns (frame_of f (InTree h.onwards) slots ∷ xs) (frame_of f h.onwards slots ∷ ys) None owned
    (OneMore f (InTree h.onwards) h.onwards slots xs ys (refl, same) held (stacks_alloc z.codes z.cut z.there bs (Some cells) owned xs ys stacks)) tt)
    (agenda_ready z.cut more (Pending h.spawned h.arguments) item a tags c (pending_put z.cut bs h.spawned h.arguments) (agenda_alloc z.cut bs (Some cells) a tags c g))
    (owns_ready bs cells owned item.callback tags owns) (fresh_more bs (Some cells) refl fresh))
    e h.leads h.few
