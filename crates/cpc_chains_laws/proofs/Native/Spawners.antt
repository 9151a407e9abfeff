-- Spawns of native code: the spawner is called with the arguments, makes the first frame of the call, and makes it ready.
use Rattle.std.proofs.Common.{◌≡◌, ℕ, suc, ◌+◌, ◌*◌, ◌<◌, ◌≤◌, true, false, List, [], ◌∷◌, ◌++◌, map, length, slice_get, slice_set, option_map, Option, Some, None, refl, sym, ◌∙◌, ap, subst, codes, arith}
use Rattle.std.specs.List.{All}
use Rattle.cpc_base.specs.Bytes.{Text}
use Rattle.cpc_base.proofs.Lists.{length_of_map}
use Rattle.cpc_num.specs.declared.kinds.Kind.TheVariants.{Int}
use Rattle.cpc_check_rules.specs.Operators as O
use Rattle.cpc_check_laws.specs.Sound.Typed.{AllGet}
use Rattle.cpc_tree.specs.declared.program.Mode.{Mode}
use Rattle.cpc_tree.specs.declared.program.Mode.TheVariants.{Extern, Native, Cps, Detached}
use Rattle.cpc_store.specs.declared.values.Class.TheVariants.{Frame}
use Rattle.cpc_store.specs.Store.{Value, Unset, Null, At as Pointer, Blocks}
use Rattle.cpc_tree.specs.Points.{Path, Point, Here, Arrival, Simple, found, next_point}
use Rattle.cpc_tree.specs.Primitives.{Primitive, RtFrame, RtReady, primitive_named}
use Rattle.cpc_tree.specs.Registers.{outer_scope, scope_in_function, variables}
use Rattle.cpc_tree.specs.Syntax.{TyVoid, TyInt, TyPointer, TyStruct, AndTy, NoTy, ENamed, Exprs, Call, Spawn, Stmts, Function, Program}
use Rattle.cpc_tree.specs.Typing.{Local, Scope, AFunction, NotMeant, named, item_named, function_named, parameter_type, parameter_types}
use Rattle.cpc_meaning.specs.Act.{AtStatement, AtArrival, AsksFor, asks, spawns, calls_expr}
use Rattle.cpc_meaning.specs.Agenda.{Agenda, ready_one}
use Rattle.cpc_meaning.specs.Answer.{Gives, ◌>>=◌, needed}
use Rattle.cpc_meaning.specs.Eval.{Slot, Register, Context, values}
use Rattle.cpc_meaning.specs.Events.{Callback, CallWith}
use Rattle.cpc_meaning.specs.Plain.{Frame as CallFrame}
use Rattle.cpc_meaning.specs.Requests.{Request, ToSpawn, arguments}
use Rattle.cpc_meaning.specs.Runs.{slots_registers}
use Rattle.cpc_meaning.specs.Threads.{Thread, is_cps_mode}
use Rattle.cpc_meaning.specs.Trees.{trees, first_point, stood_at, scope_from, point_after}
use Rattle.cpc_meaning.specs.Ways.{only_if, way_from, goes_in_step, manner_of}
use Rattle.cpc_meaning.proofs.Functions.{gives_then}
use Rattle.cpc_meaning.proofs.SameValues.{at}
use Rattle.cpc_convert_common.specs.Marks.{has_marks}
use Rattle.cpc_convert_common.specs.Converted.{spawner_name}
use Rattle.cpc_convert_common.proofs.Marks.{marked_has}
use Rattle.cpc_convert_common.proofs.Respawn.{founds, respawned_found}
use Rattle.cpc_forms.specs.Flow.{Start}
use Rattle.cpc_forms.specs.Split.{Position, InTree, split_form}
use Rattle.cpc_convert_image_laws.specs.Held.{IsHeldSlot, beside}
use Rattle.cpc_convert_image_laws.specs.InPlace as P
use Rattle.cpc_meaning.specs.Names.{AllNamesAmong}
use Rattle.cpc_convert_image_laws.specs.Relations.{Meets, SpawnAct}
use Rattle.cpc_convert_image_laws.specs.Stacks.{frame_of}
use Rattle.cpc_convert_image_laws.proofs.Natives.{native_spawn}
use Rattle.cpc_chains_store_laws.specs.Chains.{frame_cells}
use Rattle.cpc_chains_store_laws.specs.Driver.{drive_name, code_field, next_field, any_pointer, DriverMeant}
use Rattle.cpc_chains_store_laws.specs.Driver as Lines
use Rattle.cpc_convert_flat_laws.specs.Flat.{Stands}
use Rattle.cpc_convert_flat_laws.specs.Structs.{ScalarFields}
use Rattle.cpc_convert_flat_laws.specs.Walks.{Walk, running}
use Rattle.cpc_chains_store_laws.proofs.Spawner.{spawner_walk}
use Rattle.cpc_chains_store_laws.proofs.Taking.{set_next}
use Rattle.cpc_convert_routines.specs.Kept.{kept_function}
use Rattle.cpc_chains_event.specs.Converted.{converted}
use Rattle.cpc_convert_routines.specs.Given.{AllFit}
use Rattle.cpc_chains_event.specs.Lines.{save_of}
use Rattle.cpc_convert_routines.specs.Named.{IsCps, TheStart}
use Rattle.cpc_convert_routines.specs.Names.{start_name, piece_name, frame_name}
use Rattle.cpc_chains_event.specs.Pieces.{parameter_of, spawner_function}
use Rattle.cpc_convert_routines.specs.Routines.{passed}
use Rattle.cpc_chains_event.proofs.Apart.{spawner_is}
use Rattle.cpc_chains_event.proofs.BoxesThere.{structs_there}
use Rattle.cpc_chains_event.proofs.Fields.{Rising, frame_fields, fields_behind, passed_rise}
use Rattle.cpc_chains_event.proofs.Lookups.{functions_found}
use Rattle.cpc_chains_event.proofs.Meanings.{items_meant}
use Rattle.cpc_lifted_laws.specs.Accepted.Known.{Stays, AreScalar}
use Rattle.cpc_lifted_laws.specs.Accepted.Points.{UsedName}
use Rattle.cpc_lifted_laws.proofs.Accepted.Functions.{scopes_mean_variables}
use Rattle.cpc_lifted_laws.specs.Related.Bounds.{Bounds}
use Rattle.cpc_chains_laws.specs.Related.Items.{first_saved}
use Rattle.cpc_chains_laws.specs.Related.Running.{Places}
use Rattle.cpc_chains_laws.proofs.Related.Relation.{Shared, source_state, world_of}
use Rattle.cpc_chains_laws.proofs.Related.Setting.{Setting, Known}
use Rattle.cpc_chains_laws.proofs.Related.Spawning.{SpawnerRuns, SpawnAt}
use Rattle.cpc_lifted_laws.specs.Native.Convertible.{Convertible}
use Rattle.cpc_lifted_laws.specs.Native.Instance.{StaysAs, cut_of}
use Rattle.cpc_chains_laws.proofs.Native.Codes.{codes_found}
use Rattle.cpc_chains_laws.proofs.Native.Instance.{setting_of}
use Rattle.cpc_chains_laws.proofs.Native.Names.{used_kept}
use Rattle.cpc_chains_laws.proofs.Native.Natives.{AllSpawn}
use Rattle.cpc_lifted_laws.proofs.Native.Respawned.{same_next, same_scope_from}
use Rattle.cpc_lifted_laws.proofs.Accepted.Pieces.{all_scalar}
use Rattle.cpc_chains_laws.proofs.Native.SpawnerCall.{passed_types, spawner_takes, passed_few, fit_all, same_number, all_registers, flat_saves, spawner_called, holds_all, saves_all}
use Rattle.cpc_chains_laws.proofs.Native.SpawnerScope.{no_plain, no_frame, no_driver, no_piece, frame_piece, past_both, unhidden}
use Rattle.cpc_chains_laws.proofs.Native.Wholes.{kept_named}

-- what is cps for the rules is so for the meaning
pub cps_mode : (m : Mode) → O.is_cps m ≡ true → is_cps_mode m ≡ true
cps_mode Cps e = refl
cps_mode Extern e = absurd (cc)
cps_mode Native e = absurd (cc)
cps_mode Detached e = absurd (cc)

-- the steps of a spawner are few
enough : (n v steps leads : ℕ) → n ≤ v → steps ≡ suc (suc (suc (suc n)) + 2) → 7 + 2 * v < leads → steps + 1 < leads
enough n v steps leads a b c = omega (arith, a, b, c)

-- ---- what is spawned

-- what is asked for is one request
request_same : (r s : Request) → Gives (AsksFor r) ≡ Gives (AsksFor s) → r ≡ s
request_same r s e = cc

-- and its arguments are those that it was asked with
pub asked_same : (g : Text) (us vs : List Value) → asks (ToSpawn g) us ≡ Gives (AsksFor (record { asked = ToSpawn g; arguments = vs })) → us ≡ vs
asked_same g us vs e = ap (λ (r : Request). r.arguments) (request_same (record { asked = ToSpawn g; arguments = us }) (record { asked = ToSpawn g; arguments = vs }) e)

-- the arguments of a spawn are converted
spawns_converted : (c : Context) (g : Text) (es : Exprs) (k : Function) (vs : List Value) → function_named c.program g ≡ Some k → spawns c g es ≡ Gives (AsksFor (record { asked = ToSpawn g; arguments = vs })) → (us : List Value) × (arguments (parameter_types k) us ≡ Gives vs)
spawns_converted c g es k vs is e =
    let i = sym (ap (λ o. needed o >>= λ t. values c es >>= λ us. arguments (parameter_types t) us >>= λ ws. asks (ToSpawn g) ws) is) ∙ e in
    let a = gives_then (values c es) (λ us. arguments (parameter_types k) us >>= λ ws. asks (ToSpawn g) ws) (AsksFor (record { asked = ToSpawn g; arguments = vs })) i in
    let b = gives_then (arguments (parameter_types k) a.0) (λ ws. asks (ToSpawn g) ws) (AsksFor (record { asked = ToSpawn g; arguments = vs })) a.2 in
    (a.0, b.1 ∙ ap (λ vs. Gives vs) (asked_same g b.0 vs b.2))

-- ---- spawners

module _ (p : Program) (h : Convertible p) (g : Function) (cps : IsCps p g) where
  abbrev q : Program
  q = converted p

  abbrev spawner : Function
  spawner = spawner_function g

  abbrev tag : Text
  tag = start_name g.called

  abbrev body : Stmts
  body = Lines.spawns frame_name tag code_field next_field tag (map save_of (passed g))

  unmarked : has_marks g.called ≡ false
  unmarked = h.named.unmarked _ cps.has

  rising : Rising 0 (passed g)
  rising = passed_rise p h.named g cps

  abbrev count : ℕ
  count = length (map parameter_of (passed g))

  abbrev top : Local
  top = record { called = frame_name; type = TyPointer (TyStruct tag); slot = count }

  abbrev scope_in : Scope
  scope_in = top ∷ outer_scope spawner

  stands : Stands spawner body 0 (outer_scope spawner) count body
  stands = record { is_body = refl; flat = flat_saves (ENamed frame_name) (map save_of (passed g)) _ refl; is_left = refl; is_scope = refl; is_count = refl }

  -- ---- names

  -- a primitive means nothing there
  primitive_means : (x : Text) (prim : Primitive) → primitive_named x ≡ Some prim → has_marks x ≡ false → item_named 0 q x ≡ NotMeant
  primitive_means x prim e m = let none = h.names.primitives x prim e in (items_meant p h.named).kept x m (ap P.is_cps none) ∙ none

  means_frame : named q scope_in (codes "rt_frame") ≡ NotMeant
  means_frame = past_both q top (passed g) (codes "rt_frame") refl (no_plain 0 (passed g) rising (codes "rt_frame") refl) ∙ primitive_means (codes "rt_frame") RtFrame refl refl

  means_ready : named q scope_in (codes "rt_ready") ≡ NotMeant
  means_ready = past_both q top (passed g) (codes "rt_ready") refl (no_plain 0 (passed g) rising (codes "rt_ready") refl) ∙ primitive_means (codes "rt_ready") RtReady refl refl

  means_driver : DriverMeant q scope_in
  means_driver = past_both q top (passed g) drive_name refl (no_driver 0 (passed g) rising) ∙ (items_meant p h.named).driver g cps

  means_piece : named q scope_in tag ≡ AFunction Native any_pointer (any_pointer ∷ [])
  means_piece = past_both q top (passed g) (piece_name g.called Start) (frame_piece g.called unmarked) (no_piece 0 (passed g) rising g.called unmarked) ∙ (items_meant p h.named).pieces g cps Start TheStart

  -- ---- the walk

  number : length (map save_of (passed g)) ≤ length (variables g)
  number = let a = passed_few g in let c = length_of_map save_of (passed g) in omega (arith, a, c)

  -- its registers and its steps, together
  pub spawner_fits : (steps registers leads : ℕ) → steps ≡ suc (suc (suc (suc (length (map save_of (passed g))))) + 2) → registers ≡ suc (length (passed g)) → 7 + 2 * length (variables g) < leads → registers + steps ≤ leads
  spawner_fits steps registers leads e i wide = let a = passed_few g in let c = length_of_map save_of (passed g) in omega (arith, a, c, e, i, wide)

  few : suc (suc (suc (length (map save_of (passed g))))) ≤ 258
  few = let a = passed_few g in let b = (h.names.functions g cps.has).few in let c = length_of_map save_of (passed g) in omega (arith, a, b, c)

  module _ (vs : List Value) (fits : AllFit (passed g) vs) (w : Shared) (bs : Blocks) (c : Agenda Callback) (frame : CallFrame Point) (others : List (CallFrame Point)) where
    abbrev slots : List Slot
    slots = map Register vs ++ Register Unset ∷ []

    abbrev pointed : List Slot
    pointed = slice_set slots count (Register (Pointer Frame (length bs) 0))

    pointed_is : (i : ℕ) → slice_get pointed (0 + i) ≡ slice_get (map Register vs ++ Register (Pointer Frame (length bs) 0) ∷ []) i
    pointed_is i =
        ap (λ n. slice_get (slice_set slots n (Register (Pointer Frame (length bs) 0))) (0 + i)) (sym (same_number (passed g) vs fits))
        ∙ (ap (λ ss. slice_get ss (0 + i)) (set_next (map Register vs) [] (Register Unset) (Register (Pointer Frame (length bs) 0)) ∙ append_nil (map Register vs ++ Register (Pointer Frame (length bs) 0) ∷ []))
        ∙ ap (slice_get (map Register vs ++ Register (Pointer Frame (length bs) 0) ∷ [])) (let z : 0 + i ≡ i = omega arith in z))
      where
        append_nil : (xs : List Slot) → xs ++ [] ≡ xs
        append_nil [] = refl
        append_nil (x ∷ xs) = ap (λ ys. x ∷ ys) (append_nil xs)

    abbrev steps : ℕ
    steps = suc (suc (suc (suc (length (map save_of (passed g))))) + 2)

    -- all slots are registers
    registers_of : (us : List Value) → slots_registers (map Register us ++ Register Unset ∷ []) ≡ suc (length (map Register us))
    registers_of [] = refl
    registers_of (u ∷ us) = let h = registers_of us in omega (arith, h)

    pub spawner_runs : (there : Places) (fine : CallFrame Position → Option Value → Type 0) (given : Text → List Value → Type 0) → (r : SpawnerRuns (setting_of p there fine given) spawner g.called vs w bs c frame others) × (r.steps ≡ steps) × (slots_registers r.entered ≡ suc (length (passed g)))
    spawner_runs there fine given =
        let struct = (structs_there p h.named).start g cps in
        let is_g = (functions_found p h.named).spawners g cps in
        let fields : ScalarFields (passed g) = fields_behind (TyInt Int) (passed g) (frame_fields (TyInt Int) 0 (passed g) refl rising) in (
          record {
            entered = slots;
            made = spawner_called g q (beside bs w.store) vs rising fits;
            steps = steps;
            leads =
                subst (λ a. Walk q w.trace steps (running (world_of w c) (beside bs w.store) (frame_of (spawner_name g.called) a slots ∷ frame ∷ others) None)
                (running (world_of w (ready_one (CallWith drive_name (Pointer Frame (length bs) 0)) c)) (beside (bs ++ Some (frame_cells (first_saved (cut_of p) g.called vs) Null Unset) ∷ []) w.store) (frame ∷ others) (Some Unset)))
                (sym (ap first_point is_g))
                (spawner_walk q (world_of w c) (spawner_name g.called) spawner body frame others is_g (outer_scope spawner) count (map Register vs) (beside bs w.store) frame_name tag code_field next_field tag (map save_of (passed g)) stands
                vs (same_number (passed g) vs fits) (all_registers vs) means_frame means_ready means_driver
                (struct.size ∙ ap (λ n. Some (suc (suc (suc n)))) (sym (length_of_map save_of (passed g)))) (let a = few in omega (arith, a))
                any_pointer any_pointer (any_pointer ∷ []) (AndTy any_pointer NoTy) means_piece (struct.field 0 _ refl) TyVoid (struct.field 1 _ refl)
                (saves_all q scope_in pointed tag (TyInt Int) (passed g) vs struct (holds_all q top pointed 0 (passed g) vs (Register (Pointer Frame (length bs) 0) ∷ []) [] fields (no_frame 0 (passed g) rising) fits pointed_is)));
          },
          refl,
          (let e = same_number (passed g) vs fits in let i = registers_of vs in let j = length_of_map parameter_of (passed g) in omega (arith, e, i, j)),
        )

-- ---- the point of a spawn

module _ (p : Program) (h : Convertible p) (there : Places) (fine : CallFrame Position → Option Value → Type 0) (given : Text → List Value → Type 0) (bounds : Bounds) (wide : (g : Function) → IsCps p g → 7 + 2 * length (variables g) < bounds.leads) where
  abbrev z : Setting
  z = setting_of p there fine given

  module _ (f : Text) (fn : Function) (path : Path) (k : Function) (es : Exprs) (slots : List Slot) (xs : List (CallFrame Position)) (ys : List (CallFrame Point)) (o : Option Value) (w : Shared) (bs : Blocks) (a : Agenda (Thread Position)) (c : Agenda Callback) (is : function_named p f ≡ Some fn) (stays : is_cps_mode fn.mode ≡ false) (e : found fn.body path ≡ Simple (Spawn k.called es)) (is_k : function_named p k.called ≡ Some k) (cps : IsCps p k) (held : All (IsHeldSlot (Stays p)) slots) (known : Known z (source_state w (Some (record { frames = frame_of f (InTree (Here path)) slots ∷ xs; arriving = o })) a)) where
    is_fn : function_named (converted p) f ≡ Some (kept_function fn)
    is_fn = kept_named p h.names h.named f fn is stays

    stood : (split_form p).code.stood f (InTree (Here path)) ≡ AtStatement (Simple (Spawn k.called es))
    stood = ap (λ o. stood_at o (Here path)) is ∙ ap (λ s. AtStatement s) e

    called : found (kept_function fn).body path ≡ Simple (Call None (ENamed (spawner_name k.called)) es)
    called = founds fn.body path ∙ ap respawned_found e

    abbrev scope_here : Scope
    scope_here = (split_form p).code.scope f (InTree (Here path))

    same_scope : scope_here ≡ (trees (converted p)).code.scope f (Here path)
    same_scope = ap (λ o. scope_from o (Here path)) is ∙ (sym (same_scope_from fn (Here path)) ∙ sym (ap (λ o. scope_from o (Here path)) is_fn))

    -- the spawner's name is that of no variable
    spawner_means : named (converted p) scope_here (spawner_name k.called) ≡ AFunction Native TyVoid (map parameter_type (map parameter_of (passed k)))
    spawner_means =
        unhidden p (converted p) scope_here (spawner_name k.called)
        (λ n t i.
        let plain = ((h.names.functions fn (h.names.there f fn is).0).plain n _ (scopes_mean_variables p f fn (InTree (Here path)) is (spawner_name k.called) n t i)).unmarked in
        let marked : has_marks (spawner_name k.called) ≡ true = ap has_marks (spawner_is k.called) ∙ marked_has k.called (codes "spawn") in
        let wrong : true ≡ false = sym marked ∙ plain in
        absurd (cc))
        ∙ (items_meant p h.named).spawners k cps

    -- what is spawned is typed
    typed : (t : Function) × (function_named p k.called ≡ Some t) × AllGet p scope_here (parameter_types t) es × (O.is_cps t.mode ≡ true)
    typed = (h.positions.typed f fn (InTree (Here path)) (Simple (Spawn k.called es)) is stood).1

    takes_scalar : AreScalar (parameter_types k)
    takes_scalar =
        let i : Some typed.0 ≡ Some k = sym typed.1 ∙ is_k in
        let j : typed.0 ≡ k = cc in
        all_scalar p scope_here (parameter_types k) es (subst (λ t. AllGet p scope_here (parameter_types t) es) j typed.2)

    beside_names : AllNamesAmong (UsedName p scope_here) es
    beside_names = (h.positions.known f fn (InTree (Here path)) (Simple (Spawn k.called es)) is stood).beside

    acts_alike : Meets (SpawnAct (Stays p) k.called (spawner_function k)) (spawns (at p scope_here slots w.store) k.called es) (calls_expr (at (converted p) scope_here slots (beside bs w.store)) (ENamed (spawner_name k.called)) es)
    acts_alike =
        native_spawn (Stays p) (StaysAs p) p (converted p) (record { types = (structs_there p h.named).types; codes = codes_found p h.names h.named }) (UsedName p scope_here) scope_here slots
        (λ x u. used_kept (Stays p) p h.named scope_here x u (λ mode r ps s i. s)) w.store known.store held bs k.called (spawner_name k.called) es (spawner_function k) TyVoid (map parameter_type (map parameter_of (passed k))) spawner_means ((functions_found p h.named).spawners k cps)
        (λ t i. let j : Some t ≡ Some k = sym i ∙ is_k in let l : t ≡ k = cc in ap parameter_types l ∙ spawner_takes k takes_scalar) beside_names

    -- control goes on alike
    goes_on : (to : Position) → option_map (λ b. InTree b) (next_point fn.body (Here path) true) ≡ Some to → (b : Point) × (to ≡ InTree b) × (next_point fn.body (Here path) true ≡ Some b)
    goes_on to i = go (next_point fn.body (Here path) true) i
      where
        go : (o : Option Point) → option_map (λ b. InTree b) o ≡ Some to → (b : Point) × (to ≡ InTree b) × (o ≡ Some b)
        go None i = absurd (cc)
        go (Some b) i = (b, let j : to ≡ InTree b = cc in j, refl)

    goes_there : (to : Position) → (split_form p).code.goes f (InTree (Here path)) true ≡ Some to → (b : Point) × (to ≡ InTree b) × ((trees (converted p)).code.goes f (Arrival path) true ≡ Some b)
    goes_there to i =
        let by_way = ap (λ o. option_map (λ b. InTree b) (way_from p o (Here path) true)) is ∙ ap (λ s. option_map (λ b. InTree b) (only_if (goes_in_step (manner_of p (scope_in_function fn path) s) s true) (next_point fn.body (Here path) true))) e in
        let on = goes_on to (sym by_way ∙ i) in
        (on.0, on.1, ap (λ o. point_after o (Arrival path) true) is_fn ∙ (same_next fn.body (Arrival path) true ∙ on.2))

    -- the arguments fit what is passed
    fitting : (vs : List Value) → spawns (at p scope_here slots w.store) k.called es ≡ Gives (AsksFor (record { asked = ToSpawn k.called; arguments = vs })) → AllFit (passed k) vs
    fitting vs i =
        let a = spawns_converted (at p scope_here slots w.store) k.called es k vs is_k i in
        fit_all (passed k) a.0 vs (ap (λ ts. arguments ts a.0) (passed_types k takes_scalar) ∙ a.1)

    pub spawn_at : SpawnAt z bounds f (Here path) slots ys o w bs c
    spawn_at = record {
      spawned = k.called;
      arguments = es;
      spawner = spawner_function k;
      is_spawn = stood;
      function = kept_function fn;
      is_function = is_fn;
      is_call = ap (λ o. stood_at o (Here path)) is_fn ∙ ap (λ s. AtStatement s) called;
      acts = subst (λ scope. Meets (SpawnAct (Stays p) k.called (spawner_function k)) (spawns (at p scope_here slots w.store) k.called es) (calls_expr (at (converted p) scope slots (beside bs w.store)) (ENamed (spawner_name k.called)) es)) same_scope acts_alike;
      back = Arrival path;
      is_back = refl;
      arrives = ap (λ o. stood_at o (Arrival path)) is_fn ∙ ap (λ s. AtArrival s) called;
      onwards = goes_there;
      runs = λ vs i.
          let r = spawner_runs p h k cps vs (fitting vs i) w bs c (frame_of f (Arrival path) slots) ys there fine given in
          (r.0, enough (length (map save_of (passed k))) (length (variables k)) r.0.steps bounds.leads (number p h k cps) r.1 (wide k cps), spawner_fits p h k cps _ _ bounds.leads r.1 r.2 (wide k cps));
    }

  -- each spawn of native code
  pub all_spawn : AllSpawn p h there fine given bounds
  all_spawn f fn path g es slots xs ys o w bs a c is stays e held known =
      let stood = ap (λ o. stood_at o (Here path)) is ∙ ap (λ s. AtStatement s) e in
      let typed = (h.positions.typed f fn (InTree (Here path)) (Simple (Spawn g es)) is stood).1 in
      let there_is = h.names.there g typed.0 typed.1 in
      let same : g ≡ typed.0.called = sym there_is.1 in
      spawn_at f fn path typed.0 es slots xs ys o w bs a c is stays (e ∙ ap (λ x. Simple (Spawn x es)) same) (ap (function_named p) there_is.1 ∙ typed.1) (record { has = there_is.0; mode = cps_mode typed.0.mode typed.3 }) held known
