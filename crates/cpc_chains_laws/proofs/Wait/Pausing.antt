-- What a piece does before the row of a wait: it makes the frame of the arrival, and asks the event loop for the same wait with it.
use Rattle.std.proofs.Common.{◌≡◌, ℕ, ◌+◌, ◌<◌, ◌≤◌, true, List, [], ◌∷◌, ◌++◌, length, Option, Some, None, refl, sym, ◌∙◌, ap, subst}
use Rattle.std.specs.List.{All}
use Rattle.cpc_base.specs.Bytes.{Text}
use Rattle.cpc_tree.specs.Points.{Point, Simple}
use Rattle.cpc_tree.specs.Primitives.{Primitive, primitive_named}
use Rattle.cpc_tree.specs.Registers.{variables}
use Rattle.cpc_tree.specs.Syntax.{Ty, Expr, ENamed, Exprs, Stmt, Call, Stmts, Function, Program}
use Rattle.cpc_tree.specs.Typing.{NotMeant, named, function_named}
use Rattle.cpc_store.specs.declared.values.Class.TheVariants.{Frame}
use Rattle.cpc_store.specs.Store.{Value, At as Pointer, Code, Blocks}
use Rattle.cpc_meaning.specs.Act.{AtStatement, Act, AsksFor, act, simple_act, asks_with, calls_named}
use Rattle.cpc_meaning.specs.Agenda.{Agenda}
use Rattle.cpc_meaning.specs.Answer.{Answer, Gives}
use Rattle.cpc_meaning.specs.Eval.{Slot, Context, value}
use Rattle.cpc_meaning.specs.Events.{Callback}
use Rattle.cpc_meaning.specs.Machine.{acts}
use Rattle.cpc_meaning.specs.Plain.{Frame as CallFrame, Stack, context}
use Rattle.cpc_meaning.specs.Requests.{Request, Builtin}
use Rattle.cpc_meaning.specs.Start.{before_underscores}
use Rattle.cpc_meaning.specs.Threads.{shown_in}
use Rattle.cpc_meaning.specs.Trees.{trees}
use Rattle.cpc_meaning.specs.Ways.{AsCps, primitive_manner}
use Rattle.cpc_convert_image_laws.specs.Held.{IsHeldSlot, IsHeldStore, BoxesLive, beside}
use Rattle.cpc_convert_image_laws.specs.Images.{images, followed}
use Rattle.cpc_meaning.specs.Names.{AllNamesAmong}
use Rattle.cpc_convert_image_laws.specs.Relations.{Meets, BothGive, BothFault, Stuck, WaitAct, Waited}
use Rattle.cpc_convert_image_laws.specs.Stacks.{frame_of}
use Rattle.cpc_convert_image_laws.proofs.Live.{read_live}
use Rattle.cpc_convert_image_laws.proofs.Rows.{wait_alike}
use Rattle.cpc_forms.specs.Flow.{Place, At}
use Rattle.cpc_forms.specs.Split.{Position, InGraph, split_form}
use Rattle.cpc_graph_laws.proofs.Formed.{in_right}
use Rattle.cpc_lift_laws.specs.Used.{used_if, used_in, used_among}
use Rattle.cpc_chains_store_laws.specs.Driver.{drive_name, driving}
use Rattle.cpc_convert_flat_laws.specs.Flat.{LineAt}
use Rattle.cpc_convert_flat_laws.specs.Locals.{at as Here_at}
use Rattle.cpc_convert_flat_laws.specs.Walks.{Here}
use Rattle.cpc_convert_flat_laws.proofs.Fields.{held as holds}
use Rattle.cpc_chains_event.specs.FlatLaws.{piece_count}
use Rattle.cpc_chains_event.specs.Lines.{all_do, frame_lines, hands_nothing, runtime_name, wait_lines, waits_lines, cps_lines, node_lines}
use Rattle.cpc_chains_event.specs.LocalLaws.{StandsIn, piece_locals}
use Rattle.cpc_convert_routines.specs.Named.{IsOwner}
use Rattle.cpc_convert_routines.specs.Names.{piece_name, to_name}
use Rattle.cpc_chains_event.specs.Pieces.{called_so, to_frame, is_wait as waits_at}
use Rattle.cpc_convert_routines.specs.Routines.{Routine, routine_of, readings_of}
use Rattle.cpc_convert_routines.specs.Nodes.{has_row}
use Rattle.cpc_lifted_laws.specs.Accepted.Known.{Stays}
use Rattle.cpc_lifted_laws.specs.Accepted.Points.{UsedName}
use Rattle.cpc_lifted_laws.specs.Related.Bounds.{Bounds}
use Rattle.cpc_chains_laws.specs.Related.Waits.{wait_marks}
use Rattle.cpc_chains_laws.proofs.Related.Inside.{Sticks, Breaks, Pauses}
use Rattle.cpc_chains_laws.proofs.Related.Relation.{Shared, world_of}
use Rattle.cpc_lifted_laws.specs.Native.Instance.{StaysAs}
use Rattle.cpc_lifted_laws.specs.Piece.Known.{CpsKnown}
use Rattle.cpc_chains_laws.specs.Piece.Known.{ProgramKnown}
use Rattle.cpc_chains_laws.specs.Piece.Rows.{RowAt}
use Rattle.cpc_chains_laws.specs.Piece.Stood.{NodeAt, LocalsStand}
use Rattle.cpc_chains_laws.proofs.Piece.Acting.{found_known, kept_here, source_act, lines_are}
use Rattle.cpc_chains_laws.proofs.Piece.Environment.{InLocal, Used, names_mean}
use Rattle.cpc_chains_laws.proofs.Piece.Frames.{Target, code, body, scope, is_code}
use Rattle.cpc_chains_laws.proofs.Piece.Rowed.{DoesHere}
use Rattle.cpc_chains_laws.proofs.Piece.Scopes.{primitive_meant}
use Rattle.cpc_chains_laws.proofs.Piece.Uses.{names_kept_among, use_kept, IsKept}
use Rattle.cpc_chains_laws.proofs.Piece.Words.{wait_word}
use Rattle.cpc_lifted_laws.specs.Wait.Asked.{IsWide}
use Rattle.cpc_chains_laws.proofs.Wait.Asking.{asking_stack, asked_step, asked_fault, argument_fault, IsWait, is_wait}
use Rattle.cpc_chains_laws.proofs.Wait.Behind.{Behind, arrival_there}
use Rattle.cpc_chains_laws.proofs.Wait.Handing as H
use Rattle.cpc_chains_laws.proofs.Wait.Meant.{driver_meant}
use Rattle.cpc_chains_laws.proofs.Complete.Frames.{runtime}

module _ (p : Program) (facts : ProgramKnown p) (fine : CallFrame Position → Option Value → Type 0) (given : Text → List Value → Type 0) (bounds : Bounds) (wide : IsWide p bounds.leads) (f : Function) (known : CpsKnown p f) (enough : 5 + length (variables f) ≤ bounds.onward) (begins : 0 < bounds.leads) (l : Place) (owner : IsOwner (routine_of p f) l)
    (shown : before_underscores (piece_name f.called l) ≡ shown_in p f.called) (lower pointer result frame : Value)
    (n : ℕ) (at : NodeAt p f l n) (has : has_row (routine_of p f).split n ≡ true) (row : RowAt p (routine_of p f) l n)
    (w : Shared) (bs : Blocks) (c : Agenda Callback) (slots slots' : List Slot) (stands : LocalsStand p (routine_of p f) l slots slots' lower) (o : Option Value)
    (store : IsHeldStore (Stays p) w.store) (held : All (IsHeldSlot (Stays p)) slots) (live : BoxesLive w.store slots)
    (to : Option Expr) (x : Text) (es : Exprs) (prim : Primitive) (meant : named p at.node.scope x ≡ NotMeant) (is_prim : primitive_named x ≡ Some prim) (as_cps : primitive_manner (Some prim) ≡ AsCps) (no_function : function_named p x ≡ None)
    (stood : at.node.stood ≡ AtStatement (Simple (Call to (ENamed x) es))) (manner : at.node.manner ≡ AsCps) where
  abbrev r : Routine
  r = routine_of p f

  abbrev q : Program
  q = Target p f known l owner

  abbrev s : Stmt
  s = Call to (ENamed x) es

  abbrev here : Context
  here = Here_at p at.node.scope slots w.store

  abbrev Doing : Answer Act → Type 0
  Doing u = DoesHere p fine given bounds f known enough begins l owner shown lower pointer result frame n at has row w bs c slots slots' o u

  abbrev L : Text → Type 0
  L = UsedName p at.node.scope

  waiting : IsWait prim
  waiting = is_wait prim as_cps

  behind : Behind p f known l n at
  behind = arrival_there p f known l n at (Simple s) stood manner

  to_there : StandsIn (called_so to_name to_frame) (piece_locals p r l)
  to_there = wait_word p f known l owner n at has (ap (λ m. waits_at m at.node.stood) manner ∙ ap (waits_at AsCps) stood)

  -- what the piece asks
  abbrev asked : Expr
  asked = ENamed (runtime_name (Some prim))

  abbrev with_frame : Exprs
  with_frame = followed (images (readings_of r at.node.scope) es) (ENamed drive_name) (ENamed to_name)

  lines : node_lines p r at.node ≡ all_do (frame_lines r to_name (At behind.back) ++ (Call None asked with_frame ∷ hands_nothing ∷ []))
  lines =
      lines_are p facts f known l owner n at slots slots' lower stands AsCps (AtStatement (Simple s)) manner stood
      ∙ (ap (λ a. all_do (cps_lines p r (readings_of r at.node.scope) s a)) behind.is_arrival
      ∙ (ap (λ k. all_do (waits_lines r (readings_of r at.node.scope) (Some behind.back) x k es)) no_function ∙ ap (λ k. all_do (wait_lines r (readings_of r at.node.scope) (Some behind.back) k es)) is_prim))

  -- what the source does
  source_is : (result' : Ty) → act (context (split_form p) w.store (frame_of f.called (InGraph l n) slots)) result' o ((split_form p).code.stood f.called (InGraph l n)) ≡ asks_with here prim es None
  source_is result' =
      source_act p facts f known l owner n at slots slots' lower stands w result' o (AtStatement (Simple s)) stood
      ∙ (ap (λ m. calls_named here x es m (primitive_named x) (function_named p x)) meant
      ∙ (ap (λ k. calls_named here x es NotMeant k (function_named p x)) is_prim ∙ ap (asks_with here prim es) (waiting.text es)))

  -- ---- where the piece asks

  abbrev mid : Blocks
  mid = H.mid p fine given bounds wide f known enough begins l owner shown lower pointer result frame n at has row behind to_there.0 to_there.1 asked with_frame lines w bs c slots slots' stands o

  abbrev slots1 : List Slot
  slots1 = H.slots1 p fine given bounds wide f known enough begins l owner shown lower pointer result frame n at has row behind to_there.0 to_there.1 asked with_frame lines w bs c slots slots' stands o

  stands1 : LocalsStand p r l slots slots1 lower
  stands1 = H.stands1 p fine given bounds wide f known enough begins l owner shown lower pointer result frame n at has row behind to_there.0 to_there.1 asked with_frame lines w bs c slots slots' stands o

  abbrev there : Context
  there = Here_at q (scope p f known l owner) slots1 (beside mid w.store)

  abbrev Names : Text → Type 0
  Names = Used p f known l owner n at slots slots1 lower stands1

  named_there : AllNamesAmong Names es
  named_there =
      names_kept_among L Names at.node.scope (IsKept p f known l owner n at slots slots1 lower stands1) (use_kept p f known l owner n at slots slots1 lower stands1) es
      ((found_known p facts f known l owner n at slots slots1 lower stands1 (Simple s) stood).beside).1
      (λ k h. kept_here p facts f known l owner n at slots slots1 lower stands1 (AtStatement (Simple s)) stood k (in_right k (used_if at.node.scope to) _ (in_right k (used_in at.node.scope (ENamed x)) (used_among at.node.scope es) h)))

  abbrev does : Answer Act
  does = simple_act there (code p f known l owner).result (Call None asked with_frame)

  does_is : does ≡ asks_with there (runtime prim) with_frame None
  does_is =
      ap (λ m. calls_named there (runtime_name (Some prim)) with_frame m (primitive_named (runtime_name (Some prim))) (function_named q (runtime_name (Some prim)))) (primitive_meant p f known l (runtime_name (Some prim)) (runtime prim) waiting.plain waiting.named)
      ∙ (ap (λ k. calls_named there (runtime_name (Some prim)) with_frame NotMeant k (function_named q (runtime_name (Some prim)))) waiting.named ∙ ap (asks_with there (runtime prim) with_frame) (waiting.its_text with_frame))

  abbrev pointer_there : Value
  pointer_there = Pointer Frame (length bs) 0

  drives : value there (ENamed drive_name) ≡ Gives (Code drive_name)
  drives = let d = driver_meant p f known l owner in simp (d) refl

  alike : Meets (WaitAct (Stays p) prim (runtime prim) drive_name pointer_there) (asks_with here prim es None) (asks_with there (runtime prim) with_frame None)
  alike =
      wait_alike (Stays p) (StaysAs p) (InLocal p f known l owner) p q facts.common Names (readings_of r at.node.scope) at.node.scope (scope p f known l owner) slots slots1 (names_mean p f known l owner n at slots slots1 lower stands1)
      w.store store held (λ y. read_live w.store slots (readings_of r at.node.scope y) live) mid prim (runtime prim) es (ENamed drive_name) (ENamed to_name) drive_name pointer_there waiting.own waiting.its waiting.takes drives
      (holds q (scope p f known l owner) slots1 (beside mid w.store) to_name to_frame pointer_there (H.to1 p fine given bounds wide f known enough begins l owner shown lower pointer result frame n at has row behind to_there.0 to_there.1 asked with_frame lines w bs c slots slots' stands o)) refl named_there

  abbrev j : ℕ
  j = H.j p fine given bounds wide f known enough begins l owner shown lower pointer result frame n at has row behind to_there.0 to_there.1 asked with_frame lines w bs c slots slots' stands o

  abbrev rest : Stmts
  rest = H.rest p fine given bounds wide f known enough begins l owner shown lower pointer result frame n at has row behind to_there.0 to_there.1 asked with_frame lines w bs c slots slots' stands o

  abbrev line : LineAt (code p f known l owner) (body p f known l owner) j (scope p f known l owner) (piece_count p r l) (Call None asked with_frame) rest
  line = H.line p fine given bounds wide f known enough begins l owner shown lower pointer result frame n at has row behind to_there.0 to_there.1 asked with_frame lines w bs c slots slots' stands o

  abbrev stack : Stack Point
  stack = asking_stack q (world_of w c) (piece_name f.called l) (code p f known l owner) (body p f known l owner) (driving pointer result frame ∷ []) (is_code p f known l owner) j (scope p f known l owner) (piece_count p r l) rest slots1 (beside mid w.store) asked with_frame line

  abbrev state : Here
  state = H.asks_there p fine given bounds wide f known enough begins l owner shown lower pointer result frame n at has row behind to_there.0 to_there.1 asked with_frame lines w bs c slots slots' stands o (world_of w c) mid

  abbrev request : List Value → Request
  request vs = record { asked = Builtin (runtime prim); arguments = vs ++ Code drive_name ∷ pointer_there ∷ [] }

  -- it waits
  waits : (vs : List Value) → does ≡ Gives (AsksFor (request vs)) → Doing (Gives (AsksFor (record { asked = Builtin prim; arguments = vs })))
  waits vs is_act =
      Pauses prim vs waiting.apart
      (λ a is_awaited. record {
        prepares = H.prepared p fine given bounds wide f known enough begins l owner shown lower pointer result frame n at has row behind to_there.0 to_there.1 asked with_frame lines w bs c slots slots' stands o;
        waits = λ d put.
            H.has_asked p fine given bounds wide f known enough begins l owner shown lower pointer result frame n at has row behind to_there.0 to_there.1 asked with_frame lines w bs c slots slots' stands o (record w { trace = wait_marks a w.trace }) d
            (asked_step q (world_of w c) (piece_name f.called l) (code p f known l owner) (body p f known l owner) (driving pointer result frame ∷ []) (is_code p f known l owner) j (scope p f known l owner) (piece_count p r l) rest slots1 (beside mid w.store) asked with_frame line (request vs) (world_of (record w { trace = wait_marks a w.trace }) d) is_act
            (waiting.asked q vs a is_awaited stack state drive_name pointer_there ∙ ap (λ u. acts (trees q) stack u (record state { trace = wait_marks a w.trace })) put));
        faults = λ fault put.
            H.refuses p fine given bounds wide f known enough begins l owner shown lower pointer result frame n at has row behind to_there.0 to_there.1 asked with_frame lines w bs c slots slots' stands o fault
            (asked_fault q (world_of w c) (piece_name f.called l) (code p f known l owner) (body p f known l owner) (driving pointer result frame ∷ []) (is_code p f known l owner) j (scope p f known l owner) (piece_count p r l) rest slots1 (beside mid w.store) asked with_frame line (request vs) fault is_act
            (waiting.asked q vs a is_awaited stack state drive_name pointer_there ∙ ap (λ u. acts (trees q) stack u (record state { trace = wait_marks a w.trace })) put));
      })

  both : (u v : Answer Act) → Meets (WaitAct (Stays p) prim (runtime prim) drive_name pointer_there) u v → does ≡ v → Doing u
  both _ _ (BothGive _ _ (Waited vs m)) e = waits vs e
  both _ _ (BothFault fault) e =
      let a = H.faults_after p fine given bounds wide f known enough begins l owner shown lower pointer result frame n at has row behind to_there.0 to_there.1 asked with_frame lines w bs c slots slots' stands o fault
      (argument_fault q (world_of w c) (piece_name f.called l) (code p f known l owner) (body p f known l owner) (driving pointer result frame ∷ []) (is_code p f known l owner) j (scope p f known l owner) (piece_count p r l) rest slots1 (beside mid w.store) asked with_frame line fault e) in
      Breaks fault (piece_name f.called l) shown a.0 a.1 a.2
  both _ _ (Stuck v) e = Sticks

  -- the thread waits as in the source
  pub waits_there : (result' : Ty) → DoesHere p fine given bounds f known enough begins l owner shown lower pointer result frame n at has row w bs c slots slots' o (act (context (split_form p) w.store (frame_of f.called (InGraph l n) slots)) result' o ((split_form p).code.stood f.called (InGraph l n)))
  waits_there result' = subst Doing (sym (source_is result')) (both (asks_with here prim es None) (asks_with there (runtime prim) with_frame None) alike does_is)
