-- What a piece does before the row of a section: it makes the frame of the arrival, and submits the same section to the event loop with it.
use Rattle.std.proofs.Common.{◌≡◌, ℕ, ◌+◌, ◌<◌, ◌≤◌, true, false, List, [], ◌∷◌, ◌++◌, length, codes, Option, Some, None, refl, sym, ◌∙◌, ap, subst}
use Rattle.std.specs.List.{All}
use Rattle.std.proofs.lemmas.List.Elements.{All-head}
use Rattle.cpc_base.specs.Bytes.{Text}
use Rattle.cpc_check_rules.specs.Operators.{is_detached}
use Rattle.cpc_check_laws.specs.Sound.Typed.{Detaches}
use Rattle.cpc_tree.specs.declared.program.Mode.{Mode}
use Rattle.cpc_tree.specs.declared.program.Mode.TheVariants.{Native, Detached, Extern, Cps}
use Rattle.cpc_tree.specs.Lists.{first_or}
use Rattle.cpc_tree.specs.Points.{Point, Simple}
use Rattle.cpc_tree.specs.Primitives.{RtDetach, primitive_named}
use Rattle.cpc_tree.specs.Registers.{variables}
use Rattle.cpc_tree.specs.Syntax.{Ty, Expr, ENamed, Exprs, AndExpr, Stmt, Call, Detach, Stmts, FunctionItem, Function, Program}
use Rattle.cpc_tree.specs.Typing.{AFunction, named, item_named, function_named, parameter_types}
use Rattle.cpc_store.specs.declared.values.Class.TheVariants.{Frame}
use Rattle.cpc_store.specs.Store.{Value, Unset, At as Pointer, Code, Blocks}
use Rattle.cpc_meaning.specs.Act.{AtStatement, Act, AsksFor, act, simple_act, asks_with, calls_named, detaches}
use Rattle.cpc_meaning.specs.Agenda.{Agenda}
use Rattle.cpc_meaning.specs.Answer.{Answer, Gives, ◌>>=◌, needed}
use Rattle.cpc_meaning.specs.Copies.{copy_of}
use Rattle.cpc_meaning.specs.Eval.{Slot, Context, value}
use Rattle.cpc_meaning.specs.Events.{Callback}
use Rattle.cpc_meaning.specs.Plain.{Frame as CallFrame, Stack, context}
use Rattle.cpc_meaning.specs.Requests.{Request, Builtin, Section}
use Rattle.cpc_meaning.specs.Start.{before_underscores}
use Rattle.cpc_meaning.specs.Threads.{shown_in}
use Rattle.cpc_meaning.specs.Ways.{AsCps}
use Rattle.cpc_convert_common.specs.Marks.{has_marks}
use Rattle.cpc_convert_common.specs.Members.{Has}
use Rattle.cpc_convert_image_laws.specs.Held.{IsHeld, IsHeldSlot, IsHeldStore, BoxesLive, beside}
use Rattle.cpc_convert_image_laws.specs.Images.{images}
use Rattle.cpc_convert_image_laws.specs.InPlace.{is_cps}
use Rattle.cpc_meaning.specs.Names.{AllNamesAmong}
use Rattle.cpc_convert_image_laws.specs.Relations.{Found, BothFound, NoneFound, SameHead, Meets, BothGive, BothFault, Stuck, Same, SectionAct, Detached as Handed}
use Rattle.cpc_convert_image_laws.specs.Stacks.{frame_of}
use Rattle.cpc_convert_image_laws.proofs.Answers as A
use Rattle.cpc_convert_image_laws.proofs.Copies.{copy_alike}
use Rattle.cpc_convert_image_laws.proofs.Live.{read_live}
use Rattle.cpc_convert_image_laws.proofs.Rows.{section_alike}
use Rattle.cpc_forms.specs.Flow.{Place, At}
use Rattle.cpc_forms.specs.Split.{Position, InGraph, split_form}
use Rattle.cpc_graph_laws.proofs.Formed.{in_right}
use Rattle.cpc_lift_laws.specs.Used.{used_if, used_among}
use Rattle.cpc_chains_store_laws.specs.Driver.{drive_name, driving}
use Rattle.cpc_convert_flat_laws.specs.Flat.{LineAt}
use Rattle.cpc_convert_flat_laws.specs.Locals.{at as Here_at}
use Rattle.cpc_convert_flat_laws.specs.Walks.{Here}
use Rattle.cpc_convert_flat_laws.proofs.Fields.{held as holds}
use Rattle.cpc_chains_event.specs.FlatLaws.{piece_count}
use Rattle.cpc_chains_event.specs.Lines.{all_do, frame_lines, hands_nothing, cps_lines, node_lines}
use Rattle.cpc_chains_event.specs.LocalLaws.{StandsIn, piece_locals}
use Rattle.cpc_convert_routines.specs.Named.{IsOwner}
use Rattle.cpc_convert_routines.specs.Names.{piece_name, to_name}
use Rattle.cpc_chains_event.specs.Pieces.{called_so, to_frame, is_wait as waits_at}
use Rattle.cpc_convert_routines.specs.Routines.{Routine, routine_of, readings_of}
use Rattle.cpc_convert_routines.specs.Nodes.{has_row}
use Rattle.cpc_chains_event.proofs.Meanings.{items_meant}
use Rattle.cpc_chains_event.proofs.Scopes.{nothing_hidden}
use Rattle.cpc_lifted_laws.specs.Accepted.Known.{Stays}
use Rattle.cpc_lifted_laws.specs.Accepted.Names.{HasNames}
use Rattle.cpc_lifted_laws.specs.Accepted.Points.{UsedName}
use Rattle.cpc_lifted_laws.specs.Related.Bounds.{Bounds}
use Rattle.cpc_chains_laws.proofs.Related.Inside.{Sticks, Breaks, Submits, submitted}
use Rattle.cpc_chains_laws.proofs.Related.Relation.{Shared, world_of}
use Rattle.cpc_lifted_laws.specs.Native.Instance.{StaysAs}
use Rattle.cpc_lifted_laws.specs.Piece.Known.{CpsKnown}
use Rattle.cpc_chains_laws.specs.Piece.Known.{ProgramKnown}
use Rattle.cpc_chains_laws.specs.Piece.Rows.{RowAt}
use Rattle.cpc_chains_laws.specs.Piece.Stood.{NodeAt, LocalsStand}
use Rattle.cpc_chains_laws.proofs.Piece.Acting.{found_known, kept_here, source_act, lines_are}
use Rattle.cpc_chains_laws.proofs.Piece.Environment.{InLocal, Used, names_mean}
use Rattle.cpc_chains_laws.proofs.Piece.Frames.{Target, code, body, scope, is_code}
use Rattle.cpc_chains_laws.proofs.Piece.Onwards.{z}
use Rattle.cpc_chains_laws.proofs.Piece.Rowed.{DoesHere, standing_piece}
use Rattle.cpc_chains_laws.proofs.Piece.Scopes.{primitive_meant}
use Rattle.cpc_chains_laws.proofs.Piece.Uses.{names_kept_among, use_kept, IsKept}
use Rattle.cpc_chains_laws.proofs.Piece.Words.{wait_word}
use Rattle.cpc_lifted_laws.specs.Wait.Asked.{IsWide}
use Rattle.cpc_chains_laws.proofs.Wait.Asking.{asking_stack, asked_step, asked_fault, argument_fault, section_asked, section_refused, section_faults}
use Rattle.cpc_chains_laws.proofs.Wait.Behind.{Behind, arrival_there}
use Rattle.cpc_chains_laws.proofs.Wait.Handing as H
use Rattle.cpc_chains_laws.proofs.Wait.Meant.{driver_meant}

-- ---- functions of sections

detached_is : (m : Mode) → is_detached m ≡ true → m ≡ Detached
detached_is Detached e = refl
detached_is Native e = absurd (cc)
detached_is Extern e = absurd (cc)
detached_is Cps e = absurd (cc)

first_held : (C : Text → Type 0) (vs : List Value) → All (IsHeld C) vs → IsHeld C (first_or Unset vs)
first_held C [] h = tt
first_held C (v ∷ vs) h = All-head (IsHeld C) v vs h

-- what a function of the source is in the target
record FoundAs (R : Function → Function → Type 0) (u : Option Function) (g : Function) : Type 0 where
  pub function : Function
  pub is_there : u ≡ Some function
  pub head : SameHead g function

found_there : (R : Function → Function → Type 0) (o u : Option Function) (g : Function) → Found R o u → o ≡ Some g → FoundAs R u g
found_there R _ _ g (BothFound f f' r head) e = record { function = f'; is_there = refl; head = (let i : f ≡ g = cc in subst (λ k. SameHead k f') i head) }
found_there R _ _ g NoneFound e = absurd (cc)

module _ (p : Program) (facts : ProgramKnown p) (names : HasNames p) (fine : CallFrame Position → Option Value → Type 0) (given : Text → List Value → Type 0) (bounds : Bounds) (wide : IsWide p bounds.leads) (f : Function) (known : CpsKnown p f) (enough : 5 + length (variables f) ≤ bounds.onward) (begins : 0 < bounds.leads) (l : Place) (owner : IsOwner (routine_of p f) l)
    (shown : before_underscores (piece_name f.called l) ≡ shown_in p f.called) (lower pointer result frame : Value)
    (n : ℕ) (at : NodeAt p f l n) (has : has_row (routine_of p f).split n ≡ true) (row : RowAt p (routine_of p f) l n)
    (w : Shared) (bs : Blocks) (c : Agenda Callback) (slots slots' : List Slot) (stands : LocalsStand p (routine_of p f) l slots slots' lower) (o : Option Value)
    (store : IsHeldStore (Stays p) w.store) (held : All (IsHeldSlot (Stays p)) slots) (live : BoxesLive w.store slots)
    (to : Option Expr) (x : Text) (es : Exprs) (typed : Detaches p at.node.scope x es)
    (stood : at.node.stood ≡ AtStatement (Simple (Detach to x es))) (manner : at.node.manner ≡ AsCps) where
  abbrev r : Routine
  r = routine_of p f

  abbrev q : Program
  q = Target p f known l owner

  abbrev s : Stmt
  s = Detach to x es

  abbrev here : Context
  here = Here_at p at.node.scope slots w.store

  abbrev Doing : Answer Act → Type 0
  Doing u = DoesHere p fine given bounds f known enough begins l owner shown lower pointer result frame n at has row w bs c slots slots' o u

  abbrev L : Text → Type 0
  L = UsedName p at.node.scope

  behind : Behind p f known l n at
  behind = arrival_there p f known l n at (Simple s) stood manner

  to_there : StandsIn (called_so to_name to_frame) (piece_locals p r l)
  to_there = wait_word p f known l owner n at has (ap (λ m. waits_at m at.node.stood) manner ∙ ap (waits_at AsCps) stood)

  -- ---- the function of the section

  abbrev g : Function
  g = typed.function

  is_g : function_named p x ≡ Some g
  is_g = typed.section.is_function

  in_program : Has (FunctionItem g) p × (g.called ≡ x)
  in_program = names.there x g is_g

  item_is : item_named 0 p x ≡ AFunction Detached g.result (parameter_types g)
  item_is = ap (item_named 0 p) (sym in_program.1) ∙ ((names.functions g in_program.0).meant ∙ ap (λ m. AFunction m g.result (parameter_types g)) (detached_is g.mode typed.section.detached))

  unmarked : has_marks x ≡ false
  unmarked = ap has_marks (sym in_program.1) ∙ (names.items (FunctionItem g) in_program.0).unmarked

  not_cps : is_cps (item_named 0 p x) ≡ false
  not_cps = ap is_cps item_is

  stays : Stays p x
  stays = record { unmarked = unmarked; not_cps = not_cps }

  there_is : FoundAs (StaysAs p) (function_named q x) g
  there_is = found_there (StaysAs p) (function_named p x) (function_named q x) g (facts.common.codes x stays) is_g

  -- it means itself in the piece
  named_itself : named q (scope p f known l owner) x ≡ AFunction Detached g.result (parameter_types g)
  named_itself = nothing_hidden p q r l x unmarked ∙ ((items_meant p known.names).kept x unmarked not_cps ∙ item_is)

  -- ---- where the piece asks

  abbrev asked : Expr
  asked = ENamed (codes "rt_detach")

  abbrev with_frame : Exprs
  with_frame = AndExpr (ENamed drive_name) (AndExpr (ENamed to_name) (AndExpr (ENamed x) (images (readings_of r at.node.scope) es)))

  lines : node_lines p r at.node ≡ all_do (frame_lines r to_name (At behind.back) ++ (Call None asked with_frame ∷ hands_nothing ∷ []))
  lines = lines_are p facts f known l owner n at slots slots' lower stands AsCps (AtStatement (Simple s)) manner stood ∙ ap (λ a. all_do (cps_lines p r (readings_of r at.node.scope) s a)) behind.is_arrival

  abbrev mid : Blocks
  mid = H.mid p fine given bounds wide f known enough begins l owner shown lower pointer result frame n at has row behind to_there.0 to_there.1 asked with_frame lines w bs c slots slots' stands o

  abbrev slots1 : List Slot
  slots1 = H.slots1 p fine given bounds wide f known enough begins l owner shown lower pointer result frame n at has row behind to_there.0 to_there.1 asked with_frame lines w bs c slots slots' stands o

  stands1 : LocalsStand p r l slots slots1 lower
  stands1 = H.stands1 p fine given bounds wide f known enough begins l owner shown lower pointer result frame n at has row behind to_there.0 to_there.1 asked with_frame lines w bs c slots slots' stands o

  abbrev there : Context
  there = Here_at q (scope p f known l owner) slots1 (beside mid w.store)

  abbrev Names : Text → Type 0
  Names = Used p f known l owner n at slots slots1 lower stands1

  named_there : AllNamesAmong Names es
  named_there =
      names_kept_among L Names at.node.scope (IsKept p f known l owner n at slots slots1 lower stands1) (use_kept p f known l owner n at slots slots1 lower stands1) es
      ((found_known p facts f known l owner n at slots slots1 lower stands1 (Simple s) stood).beside).1
      (λ k h. kept_here p facts f known l owner n at slots slots1 lower stands1 (AtStatement (Simple s)) stood k (in_right k (used_if at.node.scope to) (used_among at.node.scope es) h))

  abbrev does : Answer Act
  does = simple_act there (code p f known l owner).result (Call None asked with_frame)

  does_is : does ≡ asks_with there RtDetach with_frame None
  does_is = ap (λ m. calls_named there (codes "rt_detach") with_frame m (primitive_named (codes "rt_detach")) (function_named q (codes "rt_detach"))) (primitive_meant p f known l (codes "rt_detach") RtDetach refl refl)

  abbrev pointer_there : Value
  pointer_there = Pointer Frame (length bs) 0

  drives : value there (ENamed drive_name) ≡ Gives (Code drive_name)
  drives = let d = driver_meant p f known l owner in simp (d) refl

  code_there : value there (ENamed x) ≡ Gives (Code x)
  code_there = let d = named_itself in simp (d) refl

  alike : Meets (SectionAct (Stays p) x drive_name pointer_there) (detaches here x es) (asks_with there RtDetach with_frame None)
  alike =
      section_alike (Stays p) (StaysAs p) (InLocal p f known l owner) p q facts.common Names (readings_of r at.node.scope) at.node.scope (scope p f known l owner) slots slots1 (names_mean p f known l owner n at slots slots1 lower stands1)
      w.store store held (λ y. read_live w.store slots (readings_of r at.node.scope y) live) mid x es (ENamed drive_name) (ENamed to_name) (ENamed x) drive_name pointer_there stays drives
      (holds q (scope p f known l owner) slots1 (beside mid w.store) to_name to_frame pointer_there (H.to1 p fine given bounds wide f known enough begins l owner shown lower pointer result frame n at has row behind to_there.0 to_there.1 asked with_frame lines w bs c slots slots' stands o)) code_there refl named_there

  abbrev j : ℕ
  j = H.j p fine given bounds wide f known enough begins l owner shown lower pointer result frame n at has row behind to_there.0 to_there.1 asked with_frame lines w bs c slots slots' stands o

  abbrev rest : Stmts
  rest = H.rest p fine given bounds wide f known enough begins l owner shown lower pointer result frame n at has row behind to_there.0 to_there.1 asked with_frame lines w bs c slots slots' stands o

  abbrev line : LineAt (code p f known l owner) (body p f known l owner) j (scope p f known l owner) (piece_count p r l) (Call None asked with_frame) rest
  line = H.line p fine given bounds wide f known enough begins l owner shown lower pointer result frame n at has row behind to_there.0 to_there.1 asked with_frame lines w bs c slots slots' stands o

  abbrev stack : Stack Point
  stack = asking_stack q (world_of w c) (piece_name f.called l) (code p f known l owner) (body p f known l owner) (driving pointer result frame ∷ []) (is_code p f known l owner) j (scope p f known l owner) (piece_count p r l) rest slots1 (beside mid w.store) asked with_frame line

  abbrev state : Here
  state = H.asks_there p fine given bounds wide f known enough begins l owner shown lower pointer result frame n at has row behind to_there.0 to_there.1 asked with_frame lines w bs c slots slots' stands o (world_of w c) mid

  abbrev request : List Value → Request
  request vs = record { asked = Builtin RtDetach; arguments = Code drive_name ∷ pointer_there ∷ Code x ∷ vs }

  -- what the section takes, in both
  abbrev cells_in : List Value → Answer (List Value)
  cells_in vs = needed (function_named p x) >>= λ (h : Function). copy_of p h (first_or Unset vs) w.store

  cells_are : (vs : List Value) → cells_in vs ≡ copy_of p g (first_or Unset vs) w.store
  cells_are vs = ap (λ k. needed k >>= λ (h : Function). copy_of p h (first_or Unset vs) w.store) is_g

  copies : (vs : List Value) → All (IsHeld (Stays p)) vs → Meets (Same (All (IsHeld (Stays p)))) (copy_of p g (first_or Unset vs) w.store) (copy_of q there_is.function (first_or Unset vs) (beside mid w.store))
  copies vs all = copy_alike (Stays p) mid w.store store p q facts.common.types g there_is.function there_is.head (first_or Unset vs) (first_held (Stays p) vs all)

  -- it is submitted
  submits : (vs : List Value) → All (IsHeld (Stays p)) vs → does ≡ Gives (AsksFor (request vs)) → Doing (Gives (AsksFor (record { asked = Section x; arguments = vs })))
  submits vs all is_act =
      Submits x vs
      (record {
        prepares = H.prepared p fine given bounds wide f known enough begins l owner shown lower pointer result frame n at has row behind to_there.0 to_there.1 asked with_frame lines w bs c slots slots' stands o;
        waits = λ d cells is_section is_cells.
            let its = (A.gives_then (All (IsHeld (Stays p))) _ _ cells (copies vs all) (sym (cells_are vs) ∙ is_cells)).0 in
            let left = submitted (z p fine given bounds) bounds f.called l lower pointer result frame w bs c n slots o (standing_piece p fine given bounds f known enough begins l owner shown lower pointer result frame n at has row slots') None x vs cells in
            H.has_asked p fine given bounds wide f known enough begins l owner shown lower pointer result frame n at has row behind to_there.0 to_there.1 asked with_frame lines w bs c slots slots' stands o left d
            (asked_step q (world_of w c) (piece_name f.called l) (code p f known l owner) (body p f known l owner) (driving pointer result frame ∷ []) (is_code p f known l owner) j (scope p f known l owner) (piece_count p r l) rest slots1 (beside mid w.store) asked with_frame line (request vs) (world_of left d) is_act
            (section_asked q stack state x drive_name pointer_there vs d there_is.function cells is_section there_is.is_there its));
        refused = λ fault is_section.
            H.refuses p fine given bounds wide f known enough begins l owner shown lower pointer result frame n at has row behind to_there.0 to_there.1 asked with_frame lines w bs c slots slots' stands o fault
            (asked_fault q (world_of w c) (piece_name f.called l) (code p f known l owner) (body p f known l owner) (driving pointer result frame ∷ []) (is_code p f known l owner) j (scope p f known l owner) (piece_count p r l) rest slots1 (beside mid w.store) asked with_frame line (request vs) fault is_act
            (section_refused q stack state x drive_name pointer_there vs fault is_section));
        faults = λ d fault is_section is_cells.
            let its = A.faults_then _ _ _ fault (copies vs all) (sym (cells_are vs) ∙ is_cells) in
            H.refuses p fine given bounds wide f known enough begins l owner shown lower pointer result frame n at has row behind to_there.0 to_there.1 asked with_frame lines w bs c slots slots' stands o fault
            (asked_fault q (world_of w c) (piece_name f.called l) (code p f known l owner) (body p f known l owner) (driving pointer result frame ∷ []) (is_code p f known l owner) j (scope p f known l owner) (piece_count p r l) rest slots1 (beside mid w.store) asked with_frame line (request vs) fault is_act
            (section_faults q stack state x drive_name pointer_there vs d there_is.function fault is_section there_is.is_there its));
      })

  both : (u v : Answer Act) → Meets (SectionAct (Stays p) x drive_name pointer_there) u v → does ≡ v → Doing u
  both _ _ (BothGive _ _ (Handed vs m)) e = submits vs m e
  both _ _ (BothFault fault) e =
      let a = H.faults_after p fine given bounds wide f known enough begins l owner shown lower pointer result frame n at has row behind to_there.0 to_there.1 asked with_frame lines w bs c slots slots' stands o fault (argument_fault q (world_of w c) (piece_name f.called l) (code p f known l owner) (body p f known l owner) (driving pointer result frame ∷ []) (is_code p f known l owner) j (scope p f known l owner) (piece_count p r l) rest slots1 (beside mid w.store) asked with_frame line fault e) in
      Breaks fault (piece_name f.called l) shown a.0 a.1 a.2
  both _ _ (Stuck v) e = Sticks

  -- the section is submitted as in the source
  pub submits_there : (result' : Ty) → DoesHere p fine given bounds f known enough begins l owner shown lower pointer result frame n at has row w bs c slots slots' o (act (context (split_form p) w.store (frame_of f.called (InGraph l n) slots)) result' o ((split_form p).code.stood f.called (InGraph l n)))
  submits_there result' = subst Doing (sym (source_act p facts f known l owner n at slots slots' lower stands w result' o (AtStatement (Simple s)) stood)) (both (detaches here x es) (asks_with there RtDetach with_frame None) alike does_is)
