-- What native code does at each of its points, and how a native `main` is found.
use Rattle.std.proofs.Common.{◌≡◌, true, false, List, ◌∷◌, Option, Some, refl, sym, ◌∙◌, ap, subst}
use Rattle.std.specs.List.{All}
use Rattle.cpc_base.specs.Bytes.{Text}
use Rattle.cpc_base.specs.declared.stop.Dialect.TheVariants as D
use Rattle.cpc_check_rules.specs.Calls.{gives_up}
use Rattle.cpc_check_laws.specs.Sound.Typed.{is_for}
use Rattle.cpc_store.specs.Store.{Value, Blocks}
use Rattle.cpc_tree.specs.Points.{Path, Point, Here, Arrival, End, Found, Simple, found}
use Rattle.cpc_tree.specs.Registers.{scope_in_function}
use Rattle.cpc_tree.specs.Syntax.{Exprs, Spawn, Function, Program}
use Rattle.cpc_tree.specs.Typing.{function_named}
use Rattle.cpc_meaning.specs.Act.{Stood, AtStatement}
use Rattle.cpc_meaning.specs.Agenda.{Agenda}
use Rattle.cpc_meaning.specs.Eval.{Slot}
use Rattle.cpc_meaning.specs.Events.{Callback}
use Rattle.cpc_meaning.specs.Plain.{Frame}
use Rattle.cpc_meaning.specs.Requests.{Primitive, Print, Putc, Puts, Now, CondNew, CondFree, Signal, SignalAll, Exit, Malloc, Free, Yield, Sleep, IoWait, Wait, RtFrame, RtBox, RtFrameFree, RtUnbox, RtReady, RtWait, RtSleep, RtIo, RtDetach, Asked, Builtin, Host, ToSpawn, Section}
use Rattle.cpc_meaning.specs.Start.{main_name}
use Rattle.cpc_meaning.specs.Threads.{Thread, is_cps_mode}
use Rattle.cpc_meaning.specs.Ways.{manner_of, arrives_later}
use Rattle.cpc_forms.specs.Split.{Position, InTree, split_form}
use Rattle.cpc_convert_image_laws.specs.Held.{IsHeldSlot}
use Rattle.cpc_convert_image_laws.specs.Relations as R
use Rattle.cpc_convert_image_laws.specs.Stacks.{frame_of}
use Rattle.cpc_convert_routines.specs.Kept.{kept_function}
use Rattle.cpc_chains_event.specs.Converted.{converted}
use Rattle.cpc_lifted_laws.specs.Accepted.Known.{Stays}
use Rattle.cpc_lifted_laws.specs.Accepted.Points.{IsAskedByNative}
use Rattle.cpc_lifted_laws.proofs.Accepted.Counts.{not_cps}
use Rattle.cpc_lifted_laws.specs.Related.Bounds.{Bounds}
use Rattle.cpc_chains_laws.specs.Related.Running.{Places, SamePoint}
use Rattle.cpc_chains_laws.proofs.Related.Joined.{NativeDoes, Plainly, Spawning, MainIs, NativeMain}
use Rattle.cpc_chains_laws.proofs.Related.Relation.{Shared, source_state}
use Rattle.cpc_chains_laws.proofs.Related.Setting.{Setting, Known, NativeAt, is_common, is_answered}
use Rattle.cpc_chains_laws.proofs.Related.Spawning.{SpawnAt}
use Rattle.cpc_lifted_laws.specs.Native.Convertible.{Convertible}
use Rattle.cpc_lifted_laws.specs.Native.Instance.{is_whole, StaysAs, cut_of, may_be_at, may_be}
use Rattle.cpc_chains_laws.proofs.Native.Instance.{setting_of}
use Rattle.cpc_chains_laws.proofs.Native.Names.{used_kept}
use Rattle.cpc_chains_laws.proofs.Native.Points.{Good, good_here, good_arrival, good_end, native_point}
use Rattle.cpc_lifted_laws.proofs.Native.Respawned.{Kind, ASpawn, Another, kind_of}
use Rattle.cpc_chains_laws.proofs.Native.Wholes.{kept_there, kept_named, wholes_are_found}

-- ---- what is asked

-- a primitive of the threads that does not wait is one of both machines
common : (prim : Primitive) → is_for D.Cpc prim ≡ true → gives_up prim ≡ false → is_common prim ≡ true
common Print c g = refl
common Putc c g = refl
common Puts c g = refl
common Now c g = refl
common CondNew c g = refl
common CondFree c g = refl
common Signal c g = refl
common SignalAll c g = refl
common Exit c g = refl
common Malloc c g = refl
common Free c g = refl
common Yield c g = absurd (cc)
common Sleep c g = absurd (cc)
common IoWait c g = absurd (cc)
common Wait c g = absurd (cc)
common RtFrame c g = absurd (cc)
common RtBox c g = absurd (cc)
common RtFrameFree c g = absurd (cc)
common RtUnbox c g = absurd (cc)
common RtReady c g = absurd (cc)
common RtWait c g = absurd (cc)
common RtSleep c g = absurd (cc)
common RtIo c g = absurd (cc)
common RtDetach c g = absurd (cc)

-- what native code asks for where it does not spawn is answered alike
answered_alike : (st : Stood) → ((g : Text) (es : Exprs) → st ≡ AtStatement (Simple (Spawn g es)) → ⊥) → (asked : Asked) → IsAskedByNative st asked → is_answered asked ≡ true
answered_alike st nothing (Builtin prim) k = common prim k.0 k.1
answered_alike st nothing (Host x) k = refl
answered_alike st nothing (ToSpawn f) k = absurd (nothing f k.0 k.1)
answered_alike st nothing (Section f) k = absurd k

-- ---- `main`

-- a native `main` is found in both
pub main_stays : (p : Program) (h : Convertible p) (there : Places) (fine : Frame Position → Option Value → Type 0) (given : Text → List Value → Type 0) (bounds : Bounds) → is_cps_mode h.main.function.mode ≡ false → MainIs (setting_of p there fine given) bounds
main_stays p h there fine given bounds c =
    let f = h.main.function in
    NativeMain (subst (λ o. R.Found (StaysAs p) o (function_named (converted p) main_name)) (sym h.main.named)
    (subst (λ u. R.Found (StaysAs p) (Some f) u) (sym (kept_named p h.names h.named main_name f h.main.named c))
    (R.BothFound f (kept_function f) (record { kept = kept_there p h.names main_name f h.main.named c; same = refl }) (record { result = refl; parameters = refl }))))

-- ---- points

module _ (p : Program) (h : Convertible p) (there : Places) (fine : Frame Position → Option Value → Type 0) (given : Text → List Value → Type 0) (bounds : Bounds) where
  abbrev z : Setting
  z = setting_of p there fine given

  module _ (f : Text) (fn : Function) (is : function_named p f ≡ Some fn) (c : is_cps_mode fn.mode ≡ false) (whole : is_whole p f ≡ true) where
    native_at : (b : Point) (slots : List Slot) → Good p h f fn is c b ((split_form p).code.stood f (InTree b)) → NativeAt z f b slots
    native_at b slots g = record {
      point = λ s.
          native_point p h f fn is c (Stays p) (StaysAs p) (SamePoint (cut_of p)) (record { kept = kept_there p h.names f fn is c; same = refl }) (λ b. (refl, whole)) b g
          (λ x u. used_kept (Stays p) p h.named ((split_form p).code.scope f (InTree b)) x u.used (λ mode r ps s i. s)) s slots;
      written = λ s k e. g.written slots s k e;
      asks = λ s o below r e. answered_alike ((split_form p).code.stood f (InTree b)) g.no_spawn r.asked (h.positions.asks (frame_of f (InTree b) slots) fn s o below r is (not_cps fn.mode c) e);
    }

  -- a spawn of native code is made by the spawner
  abbrev pub AllSpawn : Type 0
  AllSpawn =
      (f : Text) (fn : Function) (path : Path) (g : Text) (es : Exprs) (slots : List Slot) (xs : List (Frame Position)) (ys : List (Frame Point)) (o : Option Value) (w : Shared) (bs : Blocks) (a : Agenda (Thread Position)) (c : Agenda Callback)
      → function_named p f ≡ Some fn → is_cps_mode fn.mode ≡ false → found fn.body path ≡ Simple (Spawn g es)
      → All (IsHeldSlot (Stays p)) slots → Known z (source_state w (Some (record { frames = frame_of f (InTree (Here path)) slots ∷ xs; arriving = o })) a) → SpawnAt z bounds f (Here path) slots ys o w bs c

  -- no value arrives at a spawn
  no_arrival : {A : Type 0} (f : Text) (fn : Function) (path : Path) (g : Text) (es : Exprs) → function_named p f ≡ Some fn → found fn.body path ≡ Simple (Spawn g es) → may_be p f (InTree (Arrival path)) ≡ true → A
  no_arrival f fn path g es is e i =
      absurd (let j : may_be_at p (Some fn) (Arrival path) ≡ false = ap (λ s. arrives_later (manner_of p (scope_in_function fn path) s)) e in let k : true ≡ false = sym i ∙ (ap (λ o. may_be_at p o (Arrival path)) is ∙ j) in cc)

  module _ (spawns : AllSpawn) (stands : (frame : Frame Position) (o : Option Value) → fine frame o → may_be p frame.function frame.point ≡ true) where
    module _ (f : Text) (slots : List Slot) (xs : List (Frame Position)) (ys : List (Frame Point)) (o : Option Value) (w : Shared) (bs : Blocks) (a : Agenda (Thread Position)) (c : Agenda Callback) (whole : is_whole p f ≡ true) (held : All (IsHeldSlot (Stays p)) slots) where
      -- what is done at a point, in a state of which that is known
      abbrev At : Point → Type 0
      At b = Known z (source_state w (Some (record { frames = frame_of f (InTree b) slots ∷ xs; arriving = o })) a) → NativeDoes z bounds f b slots ys o w bs c

      module _ (fn : Function) (is : function_named p f ≡ Some fn) (stays : is_cps_mode fn.mode ≡ false) where
        here : (path : Path) (s : Found) → found fn.body path ≡ s → Kind s → At (Here path)
        here path _ e (ASpawn g es) known = Spawning (spawns f fn path g es slots xs ys o w bs a c is stays e held known)
        here path _ e (Another s same) known = Plainly (native_at f fn is stays whole (Here path) slots (good_here p h f fn is stays path s e same))

        arrival : (path : Path) (s : Found) → found fn.body path ≡ s → Kind s → At (Arrival path)
        arrival path _ e (ASpawn g es) known = no_arrival f fn path g es is e (stands (frame_of f (InTree (Arrival path)) slots) o (known.running (frame_of f (InTree (Arrival path)) slots) xs o refl))
        arrival path _ e (Another s same) known = Plainly (native_at f fn is stays whole (Arrival path) slots (good_arrival p h f fn is stays path s e same))

        at : (b : Point) → At b
        at (Here path) known = here path (found fn.body path) refl (kind_of fn.body path) known
        at (Arrival path) known = arrival path (found fn.body path) refl (kind_of fn.body path) known
        at End known = Plainly (native_at f fn is stays whole End slots (good_end p h f fn is stays))

    pub natives_do : (f : Text) (b : Point) (slots : List Slot) (xs : List (Frame Position)) (ys : List (Frame Point)) (o : Option Value) (w : Shared) (bs : Blocks) (a : Agenda (Thread Position)) (c : Agenda Callback)
        → is_whole p f ≡ true → All (IsHeldSlot (Stays p)) slots → Known z (source_state w (Some (record { frames = frame_of f (InTree b) slots ∷ xs; arriving = o })) a) → NativeDoes z bounds f b slots ys o w bs c
    natives_do f b slots xs ys o w bs a c whole held known = let found = wholes_are_found p h.names h.named f whole in at f slots xs ys o w bs a c whole held found.function found.named found.kept.mode b known
