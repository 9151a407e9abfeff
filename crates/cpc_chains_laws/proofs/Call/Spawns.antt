-- Spawns in pieces: the spawner is called with the arguments, makes the first frame of the call and makes it ready, and control goes on.
use Rattle.std.proofs.Common.{◌≡◌, ℕ, suc, ◌+◌, ◌*◌, ◌<◌, ◌≤◌, true, List, [], ◌∷◌, map, length, Option, Some, None, refl, sym, ◌∙◌, ap, subst, arith}
use Rattle.std.specs.List.{All}
use Rattle.cpc_base.specs.Bytes.{Text}
use Rattle.cpc_base.specs.declared.stop.Dialect.TheVariants as D
use Rattle.cpc_base.proofs.Lists.{length_of_map}
use Rattle.cpc_check_laws.specs.Sound.Typed.{AllGet, IsTyped}
use Rattle.cpc_store.specs.declared.values.Class.TheVariants.{Frame}
use Rattle.cpc_store.specs.Store.{Value, Unset, At as Pointer, Blocks}
use Rattle.cpc_tree.specs.Points.{Point, Arrival, Simple, enter}
use Rattle.cpc_tree.specs.Registers.{variables}
use Rattle.cpc_tree.specs.Syntax.{Ty, TyVoid, ENamed, Exprs, Stmt, Stmts, Call, Spawn, Function, Program}
use Rattle.cpc_tree.specs.Typing.{Scope, function_named, parameter_type, parameter_types}
use Rattle.cpc_meaning.specs.Act.{AtStatement, Act, Enters, AsksFor, act, asks, spawns, calls_expr}
use Rattle.cpc_meaning.specs.Agenda.{Agenda, ready_one}
use Rattle.cpc_meaning.specs.Answer.{Answer, Gives, ◌>>=◌, needed}
use Rattle.cpc_meaning.specs.Eval.{Slot, values}
use Rattle.cpc_meaning.specs.Events.{Callback, CallWith, callbacks}
use Rattle.cpc_meaning.specs.Machine.{next}
use Rattle.cpc_meaning.specs.Plain.{Frame as CallFrame, context}
use Rattle.cpc_meaning.specs.Requests.{Request, ToSpawn, arguments}
use Rattle.cpc_meaning.specs.Runs.{slots_registers}
use Rattle.cpc_meaning.specs.Start.{before_underscores}
use Rattle.cpc_meaning.specs.Threads.{shown_in}
use Rattle.cpc_meaning.specs.Trees.{trees}
use Rattle.cpc_meaning.specs.Ways.{InPlace}
use Rattle.cpc_meaning.proofs.Functions.{gives_then}
use Rattle.cpc_convert_common.specs.Converted.{spawner_name}
use Rattle.cpc_convert_image_laws.specs.Held.{IsHeldSlot, IsHeldStore, BoxesLive, beside}
use Rattle.cpc_convert_image_laws.specs.Images.{Readings, images}
use Rattle.cpc_meaning.specs.Names.{AllNamesAmong}
use Rattle.cpc_convert_image_laws.specs.Relations.{Meets, BothGive, BothFault, Stuck, SpawnAct, Spawned}
use Rattle.cpc_convert_image_laws.specs.Stacks.{frame_of}
use Rattle.cpc_convert_image_laws.proofs.Live.{read_live}
use Rattle.cpc_convert_image_laws.proofs.Statements.{spawn_alike}
use Rattle.cpc_forms.specs.Flow.{Place}
use Rattle.cpc_forms.specs.Split.{Position, InGraph, split_form}
use Rattle.cpc_chains_store_laws.specs.Driver.{drive_name, driving}
use Rattle.cpc_convert_flat_laws.specs.Flat.{point_at}
use Rattle.cpc_convert_flat_laws.specs.Locals.{at as Here_at}
use Rattle.cpc_convert_flat_laws.specs.Walks.{Rise, running, frame_at}
use Rattle.cpc_convert_flat_laws.proofs.AtLine.{line_path, line_found, line_scope, line_next}
use Rattle.cpc_convert_flat_laws.proofs.Steps.{step_enters}
use Rattle.cpc_convert_flat_laws.proofs.Walks.{stay, rise_one, rise_cons, rise_append}
use Rattle.cpc_convert_routines.specs.Given.{AllFit}
use Rattle.cpc_chains_event.specs.FlatLaws.{piece_count}
use Rattle.cpc_chains_event.specs.Lines.{Does, goes, save_of, node_lines}
use Rattle.cpc_convert_routines.specs.Named.{IsCps, IsOwner}
use Rattle.cpc_convert_routines.specs.Names.{piece_name}
use Rattle.cpc_chains_event.specs.Pieces.{parameter_of, spawner_function}
use Rattle.cpc_convert_routines.specs.Routines.{Routine, routine_of, passed, readings_of}
use Rattle.cpc_convert_routines.specs.Nodes.{has_row}
use Rattle.cpc_chains_event.specs.Rows.{Plain}
use Rattle.cpc_chains_event.proofs.Lookups.{functions_found}
use Rattle.cpc_lifted_laws.specs.Accepted.Known.{Stays, AreScalar}
use Rattle.cpc_lifted_laws.specs.Accepted.Points.{UsedName, StatementKnown}
use Rattle.cpc_lifted_laws.specs.Related.Bounds.{Bounds}
use Rattle.cpc_chains_laws.proofs.Related.Inside.{Sticks, Breaks, SpawnsOne, with_spawned}
use Rattle.cpc_chains_laws.proofs.Related.Relation.{Shared, world_of}
use Rattle.cpc_chains_laws.proofs.Related.Spawning.{SpawnerRuns}
use Rattle.cpc_lifted_laws.specs.Native.Convertible.{Convertible}
use Rattle.cpc_lifted_laws.specs.Native.Instance.{StaysAs}
use Rattle.cpc_lifted_laws.proofs.Accepted.Pieces.{all_scalar}
use Rattle.cpc_chains_laws.proofs.Native.SpawnerCall.{passed_types, spawner_takes, passed_few, fit_all}
use Rattle.cpc_chains_laws.proofs.Native.Spawners.{spawner_runs, cps_mode, asked_same}
use Rattle.cpc_lifted_laws.specs.Piece.Known.{CpsKnown}
use Rattle.cpc_chains_laws.specs.Piece.Known.{ProgramKnown}
use Rattle.cpc_chains_laws.specs.Piece.Rows.{RowAt, row_index}
use Rattle.cpc_chains_laws.specs.Piece.Stood.{NodeAt, LocalsStand, Stood}
use Rattle.cpc_chains_laws.proofs.Piece.Acting.{found_known, kept_here, source_act, lines_are, found_typed}
use Rattle.cpc_chains_laws.proofs.Piece.Environment.{InLocal, Used, names_mean}
use Rattle.cpc_chains_laws.proofs.Piece.Frames.{Target, code, body, scope, is_code}
use Rattle.cpc_chains_laws.proofs.Piece.Onwards.{z}
use Rattle.cpc_chains_laws.proofs.Piece.Places.{FirstLine}
use Rattle.cpc_chains_laws.proofs.Piece.Rowed.{DoesHere, standing_piece, row_puts, others, rest, first, first_fault, behind}
use Rattle.cpc_chains_laws.proofs.Piece.Uses.{names_kept_among, use_kept, IsKept, stood_is}
use Rattle.cpc_chains_laws.proofs.Call.Shown.{spawner_meant}
use Rattle.cpc_lifted_laws.proofs.Call.Steps.{arrival_goes}

-- the steps of a spawn are few
few_steps : (n v steps leads : ℕ) → n ≤ v → steps ≡ suc (suc (suc (suc n)) + 2) → 16 + 3 * v ≤ leads → steps + 1 < leads
few_steps n v steps leads a b c = omega (arith, a, b, c)

-- ---- what is spawned

module _ (p : Program) (facts : ProgramKnown p) (h : Convertible p) (fine : CallFrame Position → Option Value → Type 0) (given : Text → List Value → Type 0) (bounds : Bounds) (wide : (g : Function) → IsCps p g → 16 + 3 * length (variables g) ≤ bounds.leads) (f : Function) (known : CpsKnown p f) (enough : 5 + length (variables f) ≤ bounds.onward) (begins : 0 < bounds.leads) (l : Place) (owner : IsOwner (routine_of p f) l)
    (shown : before_underscores (piece_name f.called l) ≡ shown_in p f.called) (lower pointer result frame : Value)
    (n : ℕ) (at : NodeAt p f l n) (has : has_row (routine_of p f).split n ≡ true) (row : RowAt p (routine_of p f) l n)
    (w : Shared) (bs : Blocks) (c : Agenda Callback) (slots slots' : List Slot) (stands : LocalsStand p (routine_of p f) l slots slots' lower) (o : Option Value)
    (store : IsHeldStore (Stays p) w.store) (held : All (IsHeldSlot (Stays p)) slots) (live : BoxesLive w.store slots) (manner : at.node.manner ≡ InPlace) where
  abbrev r : Routine
  r = routine_of p f

  abbrev q : Program
  q = Target p f known l owner

  abbrev Names : Text → Type 0
  Names = Used p f known l owner n at slots slots' lower stands

  abbrev Doing : Answer Act → Type 0
  Doing u = DoesHere p fine given bounds f known enough begins l owner shown lower pointer result frame n at has row w bs c slots slots' o u

  abbrev sc : Scope
  sc = at.node.scope

  abbrev names : Readings
  names = readings_of r sc

  abbrev k : ℕ
  k = row_index p r l n row

  abbrev piece : CallFrame Point
  piece = standing_piece p fine given bounds f known enough begins l owner shown lower pointer result frame n at has row slots'

  -- a spawn of g
  module _ (g : Function) (named_g : function_named p g.called ≡ Some g) (cps : IsCps p g) (es : Exprs) (stood : at.node.stood ≡ AtStatement (Simple (Spawn g.called es))) where
    abbrev s : Stmt
    s = Spawn g.called es

    abbrev x : Stmt
    x = Call None (ENamed (spawner_name g.called)) (images names es)

    -- ---- its line

    lines : node_lines p r at.node ≡ Does x ∷ goes at.node.yes
    lines = lines_are p facts f known l owner n at slots slots' lower stands InPlace (AtStatement (Simple s)) manner stood

    abbrev left : Stmts
    left = rest p fine given bounds f known enough begins l owner shown lower pointer result frame n at has row (Plain x) (goes at.node.yes)

    abbrev more : List Stmt
    more = others p fine given bounds f known enough begins l owner shown lower pointer result frame n at has row (Plain x) (goes at.node.yes)

    line : FirstLine p f l n row x more left
    line = first p fine given bounds f known enough begins l owner shown lower pointer result frame n at has row (Plain x) (goes at.node.yes) (row_puts p fine given bounds f known enough begins l owner shown lower pointer result frame n at has row (Does x ∷ goes at.node.yes) lines) refl refl

    abbrev fn : Function
    fn = code p f known l owner

    abbrev bd : Stmts
    bd = body p f known l owner

    abbrev here : Scope
    here = scope p f known l owner

    abbrev count : ℕ
    count = piece_count p r l

    -- ---- what is asked

    known_here : StatementKnown p sc s
    known_here = found_known p facts f known l owner n at slots slots' lower stands (Simple s) stood

    argument_names : AllNamesAmong Names es
    argument_names =
        names_kept_among (UsedName p sc) Names sc (IsKept p f known l owner n at slots slots' lower stands) (use_kept p f known l owner n at slots slots' lower stands) es known_here.beside
        (kept_here p facts f known l owner n at slots slots' lower stands (AtStatement (Simple s)) stood)

    typed : IsTyped D.Cpc p f sc s
    typed = found_typed p facts f known l owner n at slots slots' lower stands (Simple s) stood

    takes_scalar : AreScalar (parameter_types g)
    takes_scalar =
        let i : Some typed.1.0 ≡ Some g = sym typed.1.1 ∙ named_g in
        let j : typed.1.0 ≡ g = cc in
        all_scalar p sc (parameter_types g) es (subst (λ t. AllGet p sc (parameter_types t) es) j typed.1.2)

    abbrev asked : Answer Act
    asked = spawns (Here_at p sc slots w.store) g.called es

    abbrev calls_there : Answer Act
    calls_there = calls_expr (Here_at q here slots' (beside bs w.store)) (ENamed (spawner_name g.called)) (images names es)

    alike : Meets (SpawnAct (Stays p) g.called (spawner_function g)) asked calls_there
    alike =
        spawn_alike (Stays p) (StaysAs p) (InLocal p f known l owner) p q facts.common Names names sc here slots slots' (names_mean p f known l owner n at slots slots' lower stands) w.store store held (λ y. read_live w.store slots (names y) live) bs
        g.called (spawner_name g.called) es (spawner_function g) TyVoid (map parameter_type (map parameter_of (passed g))) (spawner_meant p f known l owner g cps) ((functions_found p known.names).spawners g cps)
        (λ t i. let j : Some t ≡ Some g = sym i ∙ named_g in let e : t ≡ g = cc in ap parameter_types e ∙ spawner_takes g takes_scalar) argument_names

    -- the arguments are converted, and fit what is passed
    as_arguments : (vs : List Value) → asked ≡ Gives (AsksFor (record { asked = ToSpawn g.called; arguments = vs })) → (us : List Value) × (arguments (parameter_types g) us ≡ Gives vs)
    as_arguments vs e =
        let a : Request = record { asked = ToSpawn g.called; arguments = vs } in
        let i = sym (ap (λ o. needed o >>= λ t. values (Here_at p sc slots w.store) es >>= λ us. arguments (parameter_types t) us >>= λ ws. asks (ToSpawn g.called) ws) named_g) ∙ e in
        let b = gives_then (values (Here_at p sc slots w.store) es) (λ us. arguments (parameter_types g) us >>= λ ws. asks (ToSpawn g.called) ws) (AsksFor a) i in
        let d = gives_then (arguments (parameter_types g) b.0) (λ ws. asks (ToSpawn g.called) ws) (AsksFor a) b.2 in
        (b.0, d.1 ∙ ap (λ vs. Gives vs) (asked_same g.called d.0 vs d.2))

    fitting : (vs : List Value) → asked ≡ Gives (AsksFor (record { asked = ToSpawn g.called; arguments = vs })) → AllFit (passed g) vs
    fitting vs e = let a = as_arguments vs e in fit_all (passed g) a.0 vs (ap (λ ts. arguments ts a.0) (passed_types g takes_scalar) ∙ a.1)

    -- ---- the spawner runs

    module _ (vs : List Value) (fits : AllFit (passed g) vs) (is_act : calls_there ≡ Gives (Enters (spawner_function g) vs)) where
      -- where the piece waits for it
      abbrev back : CallFrame Point
      back = frame_at (piece_name f.called l) (Arrival (line_path fn bd k here count x left line.line)) slots'

      abbrev from : CallFrame Point
      from = frame_at (piece_name f.called l) (point_at (suc k) left) slots'

      abbrev blocks : Blocks
      blocks = with_spawned (z p fine given bounds) bounds f.called l lower pointer result frame w bs c n slots o piece None g.called vs

      abbrev ready : Agenda Callback
      ready = ready_one (CallWith drive_name (Pointer Frame (length bs) 0)) c

      abbrev runs : SpawnerRuns (z p fine given bounds) (spawner_function g) g.called vs w bs c back (driving pointer result frame ∷ [])
      runs = (spawner_runs p h g cps vs fits w bs c back (driving pointer result frame ∷ []) (Stood p) fine given).0

      first_enters : next (callbacks q) (running (world_of w c) (beside bs w.store) (piece ∷ driving pointer result frame ∷ []) None)
          ≡ Some (running (world_of w c) (beside bs w.store) (frame_of (spawner_function g).called ((trees q).code.first (spawner_function g).called) runs.entered ∷ back ∷ driving pointer result frame ∷ []) None)
      first_enters =
          subst (λ ss. next (callbacks q) (running (world_of w c) (beside bs w.store) (frame_at (piece_name f.called l) (point_at k ss) slots' ∷ driving pointer result frame ∷ []) None)
          ≡ Some (running (world_of w c) (beside bs w.store) (frame_of (spawner_function g).called ((trees q).code.first (spawner_function g).called) runs.entered ∷ back ∷ driving pointer result frame ∷ []) None)) (sym line.is_rest)
          (step_enters q (world_of w c) (piece_name f.called l) fn (driving pointer result frame ∷ []) (is_code p f known l owner) slots' (beside bs w.store) (line_path fn bd k here count x left line.line) here
          (line_scope fn bd k here count x left line.line (enter line.line.statement)) (Simple x) (line_found fn bd k here count x left line.line) (spawner_function g) vs (beside bs w.store) runs.entered is_act runs.made)

      last_arrives : next (callbacks q) (running (world_of w ready) (beside blocks w.store) (back ∷ driving pointer result frame ∷ []) (Some Unset)) ≡ Some (running (world_of w ready) (beside blocks w.store) (from ∷ driving pointer result frame ∷ []) None)
      last_arrives =
          arrival_goes q (piece_name f.called l) fn (driving pointer result frame ∷ []) (is_code p f known l owner) slots' (beside blocks w.store) (line_path fn bd k here count x left line.line) here (line_scope fn bd k here count x left line.line (enter line.line.statement))
          (Simple x) (line_found fn bd k here count x left line.line) (world_of w ready) Unset true (beside blocks w.store) slots' (point_at (suc k) left) refl (line_next fn bd k here count x left line.line true refl refl)

      -- the registers of the spawner, and its steps
      abbrev cells : ℕ
      cells = slots_registers runs.entered + (runs.steps + 0)

      leads : Rise q w.trace (suc (runs.steps + 1)) cells (running (world_of w c) (beside bs w.store) (piece ∷ driving pointer result frame ∷ []) None) (running (world_of w ready) (beside blocks w.store) (from ∷ driving pointer result frame ∷ []) None)
      leads =
          rise_cons (runs.steps + 1) (slots_registers runs.entered) (runs.steps + 0) _ _ _ (rise_one (slots_registers runs.entered) _ _ first_enters (record { is_trace = refl; goes = refl; runs = refl }) (omega arith))
          (rise_append runs.steps 1 runs.steps 0 _ _ _ runs.leads (rise_one 0 _ _ last_arrives (record { is_trace = refl; goes = refl; runs = refl }) (omega arith)))

      cells_few : cells ≤ bounds.leads
      cells_few =
          let few = passed_few g in
          let counted = length_of_map save_of (passed g) in
          let r = spawner_runs p h g cps vs fits w bs c back (driving pointer result frame ∷ []) (Stood p) fine given in
          let e = r.1 in
          let i = r.2 in
          let most = wide g cps in
          omega (arith, few, counted, e, i, most)

      within : runs.steps + 1 < bounds.leads
      within =
          let few = passed_few g in
          let counted = length_of_map save_of (passed g) in
          few_steps (length (map save_of (passed g))) (length (variables g)) runs.steps bounds.leads (omega (arith, few, counted)) (spawner_runs p h g cps vs fits w bs c back (driving pointer result frame ∷ []) (Stood p) fine given).1 (wide g cps)

      does_spawn : Doing (Gives (AsksFor (record { asked = ToSpawn g.called; arguments = vs })))
      does_spawn =
          SpawnsOne g.called vs
          (record {
            arguments = es;
            is_spawn = stood_is p f known l owner n at slots slots' lower stands ∙ stood;
            steps = runs.steps + 1;
            within = within;
            from = from;
            grown = cells;
            few = cells_few;
            leads = leads;
            onward = λ to e.
                behind p fine given bounds f known enough begins l owner shown lower pointer result frame n at has row (Plain x) true (row_puts p fine given bounds f known enough begins l owner shown lower pointer result frame n at has row (Does x ∷ goes at.node.yes) lines) refl refl slots slots' stands
                blocks w.store to e;
          })

    -- ---- by what the source does

    does : (u y : Answer Act) → Meets (SpawnAct (Stays p) g.called (spawner_function g)) u y → asked ≡ u → calls_there ≡ y → Doing u
    does _ _ (BothGive a b i) e d = given_both a b i e d
      where
        given_both : (a b : Act) → SpawnAct (Stays p) g.called (spawner_function g) a b → asked ≡ Gives a → calls_there ≡ Gives b → Doing (Gives a)
        given_both _ _ (Spawned vs all) e d = does_spawn vs (fitting vs e) d
    does _ _ (BothFault fault) e d =
        Breaks fault (piece_name f.called l) shown
        (record { steps = 0; grown = 0; last = _; leads = stay _; faults = first_fault p fine given bounds f known enough begins l owner shown lower pointer result frame n at has row x more left line (world_of w c) slots' (beside bs w.store) (Simple x) refl fault d }) begins (omega arith)
    does _ _ (Stuck y) e d = Sticks

    spawn_here : (result' : Ty) → Doing (act (context (split_form p) w.store (frame_of f.called (InGraph l n) slots)) result' o ((split_form p).code.stood f.called (InGraph l n)))
    spawn_here result' =
        subst Doing (sym (source_act p facts f known l owner n at slots slots' lower stands w result' o (AtStatement (Simple s)) stood)) (does asked calls_there alike refl refl)

  -- a spawn
  pub spawns_there : (g : Text) (es : Exprs) → at.node.stood ≡ AtStatement (Simple (Spawn g es)) → (result' : Ty) → Doing (act (context (split_form p) w.store (frame_of f.called (InGraph l n) slots)) result' o ((split_form p).code.stood f.called (InGraph l n)))
  spawns_there g es stood result' =
      let typed = (found_typed p facts f known l owner n at slots slots' lower stands (Simple (Spawn g es)) stood).1 in
      let there_is = h.names.there g typed.0 typed.1 in
      let same : g ≡ typed.0.called = sym there_is.1 in
      spawn_here typed.0 (ap (function_named p) there_is.1 ∙ typed.1) (record { has = there_is.0; mode = cps_mode typed.0.mode typed.3 }) es (stood ∙ ap (λ y. AtStatement (Simple (Spawn y es))) same) result'
