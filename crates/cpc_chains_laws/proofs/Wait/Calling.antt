-- What a piece does before the row of a call of a cps function: it enters it as the source does, or faults as the source does.
use Rattle.std.proofs.Common.{◌≡◌, ℕ, zero, suc, ◌+◌, ◌<◌, ◌≤◌, Bool, true, List, [], ◌∷◌, ◌++◌, map, length, slice_get, Option, Some, None, refl, sym, ◌∙◌, ap, subst, arith}
use Rattle.std.specs.List.{All}
use Rattle.cpc_base.specs.Bytes.{Text}
use Rattle.cpc_base.proofs.Truth.{and_both}
use Rattle.cpc_num.specs.declared.kinds.Fault.{Fault}
use Rattle.cpc_check_laws.specs.Sound.Typed.{AllGet}
use Rattle.cpc_tree.specs.declared.program.Mode.TheVariants.{Cps}
use Rattle.cpc_tree.specs.Points.{Simple}
use Rattle.cpc_tree.specs.Primitives.{primitive_named}
use Rattle.cpc_tree.specs.Registers.{as_variable, variables}
use Rattle.cpc_tree.specs.Syntax.{Ty, Expr, ENamed, Exprs, Stmt, Call, Variable, Parameter, Function, Program}
use Rattle.cpc_tree.specs.Typing.{AFunction, named, function_named, is_scalar, parameter_type, parameter_types}
use Rattle.cpc_store.specs.declared.values.Class.TheVariants.{Frame}
use Rattle.cpc_store.specs.Store.{Value, Unset, At as Pointer, Blocks}
use Rattle.cpc_meaning.specs.Act.{AtStatement, Act, Enters, act, calls_named}
use Rattle.cpc_meaning.specs.Agenda.{Agenda}
use Rattle.cpc_meaning.specs.Answer.{Answer, Gives, Faults, NoAnswer, ◌>>=◌}
use Rattle.cpc_meaning.specs.Eval.{Slot, Context, values}
use Rattle.cpc_meaning.specs.Events.{Callback}
use Rattle.cpc_meaning.specs.Plain.{Frame as CallFrame, context}
use Rattle.cpc_meaning.specs.Requests.{arguments}
use Rattle.cpc_meaning.specs.Start.{before_underscores}
use Rattle.cpc_meaning.specs.Threads.{shown_in, is_cps}
use Rattle.cpc_meaning.specs.Ways.{AsCps}
use Rattle.cpc_convert_image_laws.specs.Held.{IsHeld, IsHeldSlot, IsHeldStore, BoxesLive, beside}
use Rattle.cpc_meaning.specs.Names.{AllNamesAmong}
use Rattle.cpc_meaning.proofs.Chained.{then_assoc}
use Rattle.cpc_convert_image_laws.specs.OneByOne.{OneByOne}
use Rattle.cpc_convert_image_laws.specs.Stacks.{frame_of}
use Rattle.cpc_convert_image_laws.proofs.Acts.{arguments_alike}
use Rattle.cpc_convert_image_laws.proofs.Answers as A
use Rattle.cpc_convert_image_laws.proofs.Live.{read_live}
use Rattle.cpc_convert_image_laws.proofs.OneByOne.{one_by_one}
use Rattle.cpc_forms.specs.Flow.{Place, At}
use Rattle.cpc_forms.specs.Split.{Position, InGraph, split_form}
use Rattle.cpc_graph_laws.proofs.Formed.{in_right}
use Rattle.cpc_lift_laws.specs.Used.{used_if, used_in, used_among}
use Rattle.cpc_convert_flat_laws.specs.Addresses.{avoids, avoids_all, avoids_if}
use Rattle.cpc_chains_store_laws.specs.Chains.{frame_cells}
use Rattle.cpc_chains_store_laws.specs.Driver.{driving}
use Rattle.cpc_convert_flat_laws.specs.Locals.{at as Here_at}
use Rattle.cpc_convert_flat_laws.specs.Walks.{Walk, running, frame_at}
use Rattle.cpc_convert_flat_laws.proofs.Walks.{walk_as}
use Rattle.cpc_convert_routines.specs.Addressed.{bars, avoids_stood}
use Rattle.cpc_convert_routines.specs.Given.{ParametersAreScalar}
use Rattle.cpc_chains_event.specs.Lines.{all_do, call_lines, frame_lines, hands_over, cps_lines, waits_lines, node_lines}
use Rattle.cpc_chains_event.specs.LocalLaws.{StandsIn, piece_locals}
use Rattle.cpc_convert_routines.specs.Named.{IsCps, IsOwner}
use Rattle.cpc_convert_routines.specs.Names.{piece_name, start_name, to_name, under_name}
use Rattle.cpc_chains_event.specs.Pieces.{called_so, to_frame, is_wait, is_entry}
use Rattle.cpc_convert_routines.specs.Routines.{Routine, routine_of, readings_of}
use Rattle.cpc_convert_routines.specs.Nodes.{has_row}
use Rattle.cpc_chains_event.proofs.Calls.{arguments_given}
use Rattle.cpc_lifted_laws.specs.Accepted.Known.{Stays, AreScalar}
use Rattle.cpc_lifted_laws.specs.Accepted.Names.{HasNames}
use Rattle.cpc_lifted_laws.specs.Accepted.Points.{UsedName}
use Rattle.cpc_lifted_laws.proofs.Accepted.Pieces.{all_scalar}
use Rattle.cpc_lifted_laws.specs.Related.Bounds.{Bounds}
use Rattle.cpc_lifted_laws.specs.Related.Cut.{copied}
use Rattle.cpc_chains_laws.proofs.Related.Inside.{Sticks, Breaks, EntersCut}
use Rattle.cpc_chains_laws.proofs.Related.Relation.{Shared, world_of}
use Rattle.cpc_lifted_laws.specs.Native.Instance.{StaysAs, keeps_in}
use Rattle.cpc_lifted_laws.specs.Piece.Known.{CpsKnown}
use Rattle.cpc_chains_laws.specs.Piece.Known.{ProgramKnown}
use Rattle.cpc_chains_laws.specs.Piece.Rows.{RowAt, row_point}
use Rattle.cpc_chains_laws.specs.Piece.Stood.{NodeAt, LocalsStand}
use Rattle.cpc_chains_laws.proofs.Piece.Acting.{found_known, kept_here, source_act, lines_are}
use Rattle.cpc_chains_laws.proofs.Piece.Environment.{InLocal, Used, names_mean}
use Rattle.cpc_chains_laws.proofs.Piece.Frames.{Target, scope}
use Rattle.cpc_chains_laws.proofs.Piece.Rowed.{DoesHere}
use Rattle.cpc_chains_laws.proofs.Piece.Uses.{names_kept_among, use_kept, IsKept}
use Rattle.cpc_chains_laws.proofs.Piece.Words.{wait_word, entry_word}
use Rattle.cpc_lifted_laws.specs.Wait.Asked.{GivenWhereFit, IsWide}
use Rattle.cpc_chains_laws.proofs.Wait.Behind.{Behind, arrival_there}
use Rattle.cpc_chains_laws.proofs.Wait.Entering as E
use Rattle.cpc_lifted_laws.proofs.Wait.Given as G
use Rattle.cpc_chains_laws.proofs.Wait.Suiting.{arguments_convert}

-- ---- parameters

scalar_at : (more : List Variable) (ps : List Parameter) → AreScalar (map parameter_type ps) → (k : ℕ) (x : Variable) → k < length ps → slice_get (map as_variable ps ++ more) k ≡ Some x → is_scalar x.type ≡ true
scalar_at more [] h k x less e = absurd (omega (arith, less))
scalar_at more (q ∷ ps) h zero x less e = let i : as_variable q ≡ x = cc in ap (λ (v : Variable). is_scalar v.type) (sym i) ∙ h.0
scalar_at more (q ∷ ps) h (suc k) x less e = scalar_at more ps h.1 k x (omega (arith, less)) e

parameters_scalar : (g : Function) → AreScalar (parameter_types g) → ParametersAreScalar g
parameters_scalar g h k x less e = scalar_at _ g.parameters h k x less e

module _ (p : Program) (facts : ProgramKnown p) (names : HasNames p) (fine : CallFrame Position → Option Value → Type 0) (given : Text → List Value → Type 0) (fit : GivenWhereFit p given) (bounds : Bounds) (wide : IsWide p bounds.leads) (f : Function) (known : CpsKnown p f) (enough : 5 + length (variables f) ≤ bounds.onward) (begins : 0 < bounds.leads) (l : Place) (owner : IsOwner (routine_of p f) l)
    (shown : before_underscores (piece_name f.called l) ≡ shown_in p f.called) (lower pointer result frame : Value)
    (n : ℕ) (at : NodeAt p f l n) (has : has_row (routine_of p f).split n ≡ true) (row : RowAt p (routine_of p f) l n)
    (w : Shared) (bs : Blocks) (c : Agenda Callback) (slots slots' : List Slot) (stands : LocalsStand p (routine_of p f) l slots slots' lower) (o : Option Value)
    (store : IsHeldStore (Stays p) w.store) (held : All (IsHeldSlot (Stays p)) slots) (live : BoxesLive w.store slots)
    (to : Option Expr) (x : Text) (es : Exprs) (res : Ty) (ps : List Ty) (g : Function) (meant : named p at.node.scope x ≡ AFunction Cps res ps) (is_g : function_named p x ≡ Some g) (cps : IsCps p g) (gets : AllGet p at.node.scope (parameter_types g) es)
    (stood : at.node.stood ≡ AtStatement (Simple (Call to (ENamed x) es))) (manner : at.node.manner ≡ AsCps) where
  abbrev r : Routine
  r = routine_of p f

  abbrev q : Program
  q = Target p f known l owner

  abbrev s : Stmt
  s = Call to (ENamed x) es

  abbrev here : Context
  here = Here_at p at.node.scope slots w.store

  abbrev Doing : Answer Act → Type 0
  Doing u = DoesHere p fine given bounds f known enough begins l owner shown lower pointer result frame n at has row w bs c slots slots' o u

  abbrev L : Text → Type 0
  L = UsedName p at.node.scope

  behind : Behind p f known l n at
  behind = arrival_there p f known l n at (Simple s) stood manner

  few : length (variables g) ≤ 255
  few = (names.functions g cps.has).few

  -- the words for the two frames
  to_there : StandsIn (called_so to_name to_frame) (piece_locals p r l)
  to_there = wait_word p f known l owner n at has (ap (λ m. is_wait m at.node.stood) manner ∙ ap (is_wait AsCps) stood)

  under_there : StandsIn (called_so under_name to_frame) (piece_locals p r l)
  under_there = entry_word p f known l owner n at has (ap (is_entry p) stood ∙ (ap is_cps is_g ∙ cps.mode))

  lines : node_lines p r at.node ≡ all_do (frame_lines r under_name (At behind.back) ++ (call_lines g (readings_of r at.node.scope) es ++ (hands_over to_name ∷ [])))
  lines =
      lines_are p facts f known l owner n at slots slots' lower stands AsCps (AtStatement (Simple s)) manner stood
      ∙ (ap (λ a. all_do (cps_lines p r (readings_of r at.node.scope) s a)) behind.is_arrival ∙ ap (λ k. all_do (waits_lines r (readings_of r at.node.scope) (Some behind.back) x k es)) is_g)

  -- the names of the arguments are kept, for any locals
  abbrev Names : (ss : List Slot) → LocalsStand p r l slots ss lower → Text → Type 0
  Names ss st = Used p f known l owner n at slots ss lower st

  named_there : (ss : List Slot) (st : LocalsStand p r l slots ss lower) → AllNamesAmong (Names ss st) es
  named_there ss st =
      names_kept_among L (Names ss st) at.node.scope (IsKept p f known l owner n at slots ss lower st) (use_kept p f known l owner n at slots ss lower st) es
      ((found_known p facts f known l owner n at slots ss lower st (Simple s) stood).beside).1
      (λ k h. kept_here p facts f known l owner n at slots ss lower st (AtStatement (Simple s)) stood k (in_right k (used_if at.node.scope to) _ (in_right k (used_in at.node.scope (ENamed x)) (used_among at.node.scope es) h)))

  -- the address of no local is taken
  apart : avoids_all (λ y. bars (readings_of r at.node.scope y) y) es ≡ true
  apart =
      let L' : Text → Bool = λ y. bars (readings_of r at.node.scope y) y in
      let all = ap (avoids_stood L') (sym stood) ∙ known.addresses n at.node at.is_node in
      let rest = (and_both (avoids_if L' to) _ all).1 in
      (and_both (avoids L' (ENamed x)) (avoids_all L' es) rest).1

  abbrev ts : List Ty
  ts = parameter_types g

  abbrev arrived : Answer (List Value)
  arrived = values here es >>= arguments ts

  -- what the source does
  source_is : (result' : Ty) → act (context (split_form p) w.store (frame_of f.called (InGraph l n) slots)) result' o ((split_form p).code.stood f.called (InGraph l n)) ≡ (arrived >>= λ ws. Gives (Enters g ws))
  source_is result' =
      source_act p facts f known l owner n at slots slots' lower stands w result' o (AtStatement (Simple s)) stood
      ∙ (ap (λ m. calls_named here x es m (primitive_named x) (function_named p x)) meant ∙ (ap (λ k. calls_named here x es (AFunction Cps res ps) (primitive_named x) k) is_g
      ∙ then_assoc (values here es) (arguments ts) (λ ws. Gives (Enters g ws))))

  one : ¬ (arrived ≡ NoAnswer) → OneByOne here ts es arrived
  one = one_by_one here ts es (arguments_convert p f known l owner n at slots slots' lower stands (Simple s) stood w.store ts es gets (named_there slots' stands) apart)

  -- ---- the piece

  abbrev mid : Blocks
  mid = E.mid p fine given bounds f known enough begins l owner shown lower pointer result frame n at has row behind g cps few es gets under_there.0 under_there.1 to_there.0 to_there.1 lines slots slots' stands (world_of w c) bs w.store

  abbrev slots2 : List Slot
  slots2 = E.slots2 p fine given bounds f known enough begins l owner shown lower pointer result frame n at has row behind g cps few es gets under_there.0 under_there.1 to_there.0 to_there.1 lines slots slots' stands (world_of w c) bs w.store

  stands2 : LocalsStand p r l slots slots2 lower
  stands2 = E.stands2 p fine given bounds f known enough begins l owner shown lower pointer result frame n at has row behind g cps few es gets under_there.0 under_there.1 to_there.0 to_there.1 lines slots slots' stands (world_of w c) bs w.store

  scalar : AreScalar ts
  scalar = all_scalar p at.node.scope ts es gets

  -- the blocks of the setting
  abbrev saved_by : Option Function → Blocks
  saved_by k = bs ++ Some (frame_cells (record { piece = piece_name f.called (At behind.back); values = copied slots (keeps_in p k (At behind.back)) }) lower Unset) ∷ []

  enters : (vs : List Value) → arrived ≡ Gives vs → Doing (Gives (Enters g vs))
  enters vs is =
      let one_there = one (λ i. let z : Gives vs ≡ NoAnswer = sym is ∙ i in cc) in
      let number = 3 + length (E.gives p fine given bounds f known enough begins l owner shown lower pointer result frame n at has row behind g cps few es gets under_there.0 under_there.1 to_there.0 to_there.1 lines slots slots' stands) in
      let first = E.first_steps p fine given bounds f known enough begins l owner shown lower pointer result frame n at has row behind g cps few es gets under_there.0 under_there.1 to_there.0 to_there.1 lines slots slots' stands in
      let all_given = G.all_given (Stays p) (StaysAs p) (InLocal p f known l owner) p q facts.common (Names slots2 stands2) (readings_of r at.node.scope) at.node.scope (scope p f known l owner) slots slots2 (names_mean p f known l owner n at slots slots2 lower stands2)
      w.store store held (λ y. read_live w.store slots (readings_of r at.node.scope y) live) mid ts es arrived one_there (named_there slots2 stands2) vs is in
      let giving = (arguments_given p known.names g cps (parameters_scalar g scalar)).given (scope p f known l owner) slots2 (beside mid w.store) (readings_of r at.node.scope) es vs all_given in
      let walk = E.enters_walk p fine given bounds f known enough begins l owner shown lower pointer result frame n at has row behind g cps few es gets under_there.0 under_there.1 to_there.0 to_there.1 lines slots slots' stands (world_of w c) bs w.store vs giving in
      let most = E.enters_few p fine given bounds f known enough begins l owner shown lower pointer result frame n at has row behind g cps few es gets under_there.0 under_there.1 to_there.0 to_there.1 lines slots slots' stands (world_of w c) bs w.store in
      let wide_f = wide f known.found.cps in
      let wide_g = wide g cps in
      let fits = G.all_fit here ts es arrived one_there vs is in
      let held_all = (A.gives_then (All (IsHeld (Stays p))) arrived _ vs
      (arguments_alike (Stays p) (StaysAs p) (InLocal p f known l owner) p q facts.common (Names slots' stands) (readings_of r at.node.scope) at.node.scope (scope p f known l owner) slots slots' (names_mean p f known l owner n at slots slots' lower stands)
      w.store store held (λ y. read_live w.store slots (readings_of r at.node.scope y) live) bs ts es (named_there slots' stands)) is).1 in
      EntersCut g vs
      (record {
        named = known.names.found g cps.has;
        given = fit g vs cps fits scalar held_all;
        back = behind.back;
        is_back = behind.is_back;
        steps = first + number;
        within = omega (arith, most, wide_f, wide_g);
        leads =
            subst (λ k. Walk q w.trace (suc (first + number)) (running (world_of w c) (beside bs w.store) (frame_at (piece_name f.called l) (row_point p r l n row) slots' ∷ driving pointer result frame ∷ []) None)
            (running (world_of w c) (beside (saved_by k ++ Some (frame_cells (record { piece = start_name g.called; values = vs }) (Pointer Frame (length bs) 0) Unset) ∷ []) w.store) (driving pointer result frame ∷ []) (Some (Pointer Frame (length (saved_by k)) 0))))
            (sym known.found.named)
            (walk_as (first + (number + 1)) (suc (first + number)) _ _ (omega arith) walk);
      })

  breaks : (fault : Fault) → arrived ≡ Faults fault → Doing (Faults fault)
  breaks fault is =
      let one_there = one (λ i. let z : Faults fault ≡ NoAnswer = sym is ∙ i in cc) in
      let one_faults = G.one_faults (Stays p) (StaysAs p) (InLocal p f known l owner) p q facts.common (Names slots2 stands2) (readings_of r at.node.scope) at.node.scope (scope p f known l owner) slots slots2 (names_mean p f known l owner n at slots slots2 lower stands2)
      w.store store held (λ y. read_live w.store slots (readings_of r at.node.scope y) live) mid ts es arrived one_there (named_there slots2 stands2) fault is in
      let giving = (arguments_given p known.names g cps (parameters_scalar g scalar)).faults (scope p f known l owner) slots2 (beside mid w.store) (readings_of r at.node.scope) es fault one_faults in
      let a = E.enters_fault p fine given bounds f known enough begins l owner shown lower pointer result frame n at has row behind g cps few es gets under_there.0 under_there.1 to_there.0 to_there.1 lines slots slots' stands (world_of w c) bs w.store fault giving in
      let wide_f = wide f known.found.cps in
      let wide_g = wide g cps in
      let most = a.1 in
      let low = a.2 in
      Breaks fault (piece_name f.called l) shown a.0 (omega (arith, most, wide_f, wide_g)) (omega (arith, low, wide_f, wide_g))

  -- the call is entered as in the source
  pub enters_there : (result' : Ty) → DoesHere p fine given bounds f known enough begins l owner shown lower pointer result frame n at has row w bs c slots slots' o (act (context (split_form p) w.store (frame_of f.called (InGraph l n) slots)) result' o ((split_form p).code.stood f.called (InGraph l n)))
  enters_there result' = subst Doing (sym (source_is result')) (go arrived refl)
    where
      go : (u : Answer (List Value)) → arrived ≡ u → Doing (u >>= λ ws. Gives (Enters g ws))
      go (Gives vs) is = enters vs is
      go (Faults fault) is = breaks fault is
      go NoAnswer is = Sticks
