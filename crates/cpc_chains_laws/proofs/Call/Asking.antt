-- Calls in place: of primitives that do not wait, and of the host. The piece asks for what the source asks, and takes the answer as it does.
use Rattle.std.proofs.Common.{◌≡◌, ℕ, suc, ◌+◌, ◌<◌, ◌≤◌, Bool, true, List, [], ◌∷◌, ◌++◌, length, Option, Some, None, refl, sym, ◌∙◌, ap, subst, arith}
use Rattle.std.specs.List.{All}
use Rattle.cpc_base.specs.Bytes.{Text}
use Rattle.cpc_base.specs.declared.stop.Dialect.TheVariants as D
use Rattle.cpc_check_laws.specs.Sound.Typed.{IsTyped}
use Rattle.cpc_store.specs.Store.{Value, Blocks, Store}
use Rattle.cpc_tree.specs.Lists.{holds_number}
use Rattle.cpc_tree.specs.Points.{Point, Found, Simple, enter}
use Rattle.cpc_tree.specs.Points as P
use Rattle.cpc_tree.specs.Registers.{slot_of, variables}
use Rattle.cpc_tree.specs.Syntax.{Ty, Expr, Exprs, Stmt, Stmts, Call, Function, Program}
use Rattle.cpc_tree.specs.Typing.{Scope}
use Rattle.cpc_meaning.specs.Act.{AtStatement, Act, GoesOn, AsksFor, act, arrives, deliver, calls_expr}
use Rattle.cpc_meaning.specs.Agenda.{Agenda}
use Rattle.cpc_meaning.specs.Answer.{Answer, Gives, Faults, ◌>>=◌}
use Rattle.cpc_meaning.specs.Eval.{Slot}
use Rattle.cpc_meaning.specs.Events.{Callback}
use Rattle.cpc_meaning.specs.Plain.{Frame as CallFrame, Went, Asks, asking, answered, context, frames_step}
use Rattle.cpc_meaning.specs.Requests.{Request}
use Rattle.cpc_meaning.specs.Start.{before_underscores}
use Rattle.cpc_meaning.specs.Threads.{shown_in}
use Rattle.cpc_meaning.specs.Trees.{trees}
use Rattle.cpc_meaning.specs.Ways.{InPlace, AsCps, manner_of}
use Rattle.cpc_meaning_laws.proofs.Pointer.Blocks.{Only}
use Rattle.cpc_convert_image_laws.specs.Held.{IsHeld, IsHeldSlot, IsHeldStore, IsLiveSlot, BoxesLive, beside}
use Rattle.cpc_convert_image_laws.specs.Images.{Readings, image, images, image_if, image_stmt}
use Rattle.cpc_meaning.specs.Names.{AllNames, AllNamesIf, AllNamesAmong}
use Rattle.cpc_convert_image_laws.specs.Relations.{Meets, BothGive, BothFault, Stuck, SameAct, BothGo, BothEnter, BothLeave, BothAsk}
use Rattle.cpc_convert_image_laws.specs.Stacks.{frame_of}
use Rattle.cpc_convert_image_laws.proofs.Acts.{arrives_alike}
use Rattle.cpc_convert_image_laws.proofs.Calls.{calls_expr_alike}
use Rattle.cpc_convert_image_laws.proofs.Live.{read_live}
use Rattle.cpc_forms.specs.Flow.{Place}
use Rattle.cpc_forms.specs.Split.{Position, InGraph, split_form}
use Rattle.cpc_graph_laws.proofs.Formed.{in_left, in_right}
use Rattle.cpc_lift_laws.specs.Used.{used_in, used_among, used_if}
use Rattle.cpc_chains_store_laws.specs.Driver.{driving}
use Rattle.cpc_convert_flat_laws.specs.Flat.{point_at}
use Rattle.cpc_convert_flat_laws.specs.Locals.{at as Here_at}
use Rattle.cpc_convert_flat_laws.proofs.Walks.{stay}
use Rattle.cpc_convert_flat_laws.specs.Walks.{frame_at}
use Rattle.cpc_convert_flat_laws.proofs.AtLine.{line_path, line_found, line_scope, line_next}
use Rattle.cpc_chains_event.specs.FlatLaws.{piece_count}
use Rattle.cpc_chains_event.specs.Lines.{Does, goes, node_lines}
use Rattle.cpc_convert_routines.specs.Named.{IsOwner}
use Rattle.cpc_convert_routines.specs.Names.{piece_name}
use Rattle.cpc_convert_routines.specs.Routines.{Routine, routine_of, readings_of}
use Rattle.cpc_convert_routines.specs.Nodes.{has_row}
use Rattle.cpc_chains_event.specs.Rows.{Plain}
use Rattle.cpc_lifted_laws.specs.Accepted.Known.{Stays}
use Rattle.cpc_lifted_laws.specs.Accepted.Points.{UsedName, StatementKnown, StaysItself}
use Rattle.cpc_lifted_laws.specs.Related.Bounds.{Bounds}
use Rattle.cpc_chains_laws.proofs.Related.Inside.{Sticks, Breaks, Requests, Replied, ReplyStuck, ReplyFaults, ReplyGoes}
use Rattle.cpc_chains_laws.proofs.Related.Relation.{Shared, world_of}
use Rattle.cpc_lifted_laws.specs.Native.Convertible.{Convertible}
use Rattle.cpc_lifted_laws.specs.Native.Instance.{StaysAs}
use Rattle.cpc_lifted_laws.specs.Piece.Known.{CpsKnown}
use Rattle.cpc_chains_laws.specs.Piece.Known.{ProgramKnown}
use Rattle.cpc_chains_laws.specs.Piece.Rows.{RowAt, row_index}
use Rattle.cpc_chains_laws.specs.Piece.Stood.{NodeAt, LocalsStand}
use Rattle.cpc_chains_laws.proofs.Piece.Acting.{given_only, found_known, kept_here, source_act, lines_are, found_typed}
use Rattle.cpc_chains_laws.proofs.Piece.Environment.{InLocal, Used, names_mean, scope_is, changed_stand}
use Rattle.cpc_chains_laws.proofs.Piece.Frames.{same_registers, Target, code, body, scope, is_code}
use Rattle.cpc_chains_laws.proofs.Piece.Onwards.{z}
use Rattle.cpc_chains_laws.proofs.Piece.Places.{FirstLine}
use Rattle.cpc_chains_laws.proofs.Piece.Rowed.{OnlyGoes, DoesHere, standing_piece, row_puts, others, rest, first, first_fault, behind}
use Rattle.cpc_chains_laws.proofs.Piece.Uses.{names_kept, names_kept_if, names_kept_among, use_kept, IsKept, stood_is}
use Rattle.cpc_chains_laws.proofs.Call.Calls.{IsRequest, placed_asks, call_itself}
use Rattle.cpc_chains_laws.proofs.Call.Framed.{nodes_have_manners}
use Rattle.cpc_lifted_laws.proofs.Call.Steps.{statement_asks, answer_goes, answer_faults}

-- what is asked stands at a statement
asked_is : (x y : Found) → asking (AtStatement x) ≡ Some y → x ≡ y
asked_is x y e = cc

module _ (p : Program) (facts : ProgramKnown p) (h : Convertible p) (fine : CallFrame Position → Option Value → Type 0) (given : Text → List Value → Type 0) (bounds : Bounds) (f : Function) (known : CpsKnown p f) (enough : 5 + length (variables f) ≤ bounds.onward) (begins : 0 < bounds.leads) (l : Place) (owner : IsOwner (routine_of p f) l)
    (shown : before_underscores (piece_name f.called l) ≡ shown_in p f.called) (lower pointer result frame : Value)
    (n : ℕ) (at : NodeAt p f l n) (has : has_row (routine_of p f).split n ≡ true) (row : RowAt p (routine_of p f) l n)
    (w : Shared) (bs : Blocks) (c : Agenda Callback) (slots slots' : List Slot) (stands : LocalsStand p (routine_of p f) l slots slots' lower) (o : Option Value)
    (store : IsHeldStore (Stays p) w.store) (held : All (IsHeldSlot (Stays p)) slots) (live : BoxesLive w.store slots) (manner : at.node.manner ≡ InPlace) where
  abbrev r : Routine
  r = routine_of p f

  abbrev q : Program
  q = Target p f known l owner

  abbrev Names : Text → Type 0
  Names = Used p f known l owner n at slots slots' lower stands

  abbrev Doing : Answer Act → Type 0
  Doing u = DoesHere p fine given bounds f known enough begins l owner shown lower pointer result frame n at has row w bs c slots slots' o u

  abbrev sc : Scope
  sc = at.node.scope

  abbrev names : Readings
  names = readings_of r sc

  abbrev k : ℕ
  k = row_index p r l n row

  abbrev piece : CallFrame Point
  piece = standing_piece p fine given bounds f known enough begins l owner shown lower pointer result frame n at has row slots'

  abbrev Kept : ℕ → Type 0
  Kept = IsKept p f known l owner n at slots slots' lower stands

  more_names : (x : Text) → UsedName p sc x → ((j : ℕ) → holds_number (slot_of sc x) j ≡ true → Kept j) → Names x
  more_names = use_kept p f known l owner n at slots slots' lower stands

  module _ (to : Option Expr) (g : Expr) (es : Exprs) (stood : at.node.stood ≡ AtStatement (Simple (Call to g es))) where
    abbrev s : Stmt
    s = Call to g es

    abbrev x : Stmt
    x = image_stmt names s

    -- ---- its line

    lines : node_lines p r at.node ≡ Does x ∷ goes at.node.yes
    lines = lines_are p facts f known l owner n at slots slots' lower stands InPlace (AtStatement (Simple s)) manner stood

    abbrev left : Stmts
    left = rest p fine given bounds f known enough begins l owner shown lower pointer result frame n at has row (Plain x) (goes at.node.yes)

    abbrev more : List Stmt
    more = others p fine given bounds f known enough begins l owner shown lower pointer result frame n at has row (Plain x) (goes at.node.yes)

    line : FirstLine p f l n row x more left
    line = first p fine given bounds f known enough begins l owner shown lower pointer result frame n at has row (Plain x) (goes at.node.yes) (row_puts p fine given bounds f known enough begins l owner shown lower pointer result frame n at has row (Does x ∷ goes at.node.yes) lines) refl refl

    abbrev fn : Function
    fn = code p f known l owner

    abbrev here : Scope
    here = scope p f known l owner

    -- what holds of the point of the line holds of the piece
    at_line : (Q : CallFrame Point → Type 0) → Q (frame_at (piece_name f.called l) (P.Here (line_path fn (body p f known l owner) k here (piece_count p r l) x left line.line)) slots') → Q piece
    at_line Q h = subst (λ ss. Q (frame_at (piece_name f.called l) (point_at k ss) slots')) (sym line.is_rest) h

    -- ---- what it does

    its_manner : manner_of p sc (Simple s) ≡ InPlace
    its_manner = sym (nodes_have_manners p f n at.node (Simple s) at.is_node stood) ∙ manner

    itself : StaysItself p sc s
    itself = call_itself p sc to g es (λ e. absurd (let i : InPlace ≡ AsCps = sym its_manner ∙ e in cc))

    known_here : StatementKnown p sc s
    known_here = found_known p facts f known l owner n at slots slots' lower stands (Simple s) stood

    typed : IsTyped D.Cpc p f sc s
    typed = found_typed p facts f known l owner n at slots slots' lower stands (Simple s) stood

    kept : (j : ℕ) → holds_number (used_if sc to ++ (used_in sc g ++ used_among sc es)) j ≡ true → Kept j
    kept = kept_here p facts f known l owner n at slots slots' lower stands (AtStatement (Simple s)) stood

    place_names : AllNamesIf Names to
    place_names = names_kept_if (UsedName p sc) Names sc Kept more_names to (known_here.names itself).0 (λ j i. kept j (in_left j (used_if sc to) (used_in sc g ++ used_among sc es) i))

    function_names : AllNames Names g
    function_names = names_kept (UsedName p sc) Names sc Kept more_names g (known_here.names itself).1 (λ j i. kept j (in_right j (used_if sc to) _ (in_left j (used_in sc g) (used_among sc es) i)))

    argument_names : AllNamesAmong Names es
    argument_names = names_kept_among (UsedName p sc) Names sc Kept more_names es (known_here.names itself).2 (λ j i. kept j (in_right j (used_if sc to) _ (in_right j (used_in sc g) (used_among sc es) i)))

    abbrev calls : Answer Act
    calls = calls_expr (Here_at p sc slots w.store) g es

    abbrev calls_there : Answer Act
    calls_there = calls_expr (Here_at q here slots' (beside bs w.store)) (image names g) (images names es)

    alike : Meets (SameAct (Stays p) (StaysAs p) (InLocal p f known l owner) bs slots slots') calls calls_there
    alike =
        calls_expr_alike (Stays p) (StaysAs p) (InLocal p f known l owner) p q facts.common Names names sc here slots slots' (names_mean p f known l owner n at slots slots' lower stands) w.store store held
        (λ y. read_live w.store slots (names y) live) bs g es (known_here.native slots w.store itself) function_names argument_names

    -- ---- the answer

    module _ (t : Store) (v : Value) (after : IsHeldStore (Stays p) t) (autos : t.auto ≡ w.store.auto) (is_held : IsHeld (Stays p) v) where
      abbrev Replying : Answer Act → Type 0
      Replying u = Replied (z p fine given bounds) bounds f.called l lower pointer result frame w bs c n slots o piece None t v u

      -- the boxes are those of the store before
      still_live : BoxesLive t slots
      still_live = subst (λ a. All (IsLiveSlot (record w.store { auto = a })) slots) (sym autos) live

      abbrev taken : Answer Act
      taken = deliver (Here_at p sc slots t) to v >>= λ u. Gives (GoesOn true u.1 u.0)

      abbrev taken_there : Answer Act
      taken_there = deliver (Here_at q here slots' (beside bs t)) (image_if names to) v >>= λ u. Gives (GoesOn true u.1 u.0)

      taken_alike : Meets (SameAct (Stays p) (StaysAs p) (InLocal p f known l owner) bs slots slots') taken taken_there
      taken_alike =
          arrives_alike (Stays p) (StaysAs p) (InLocal p f known l owner) p q facts.common Names names sc here slots slots' (names_mean p f known l owner n at slots slots' lower stands) t after held (λ y. read_live t slots (names y) still_live) bs
          to v (known_here.written slots t) place_names is_held

      goes_on : (d : Bool) (u : Store) (a b : List Slot) → LocalsStand p r l a b lower → d ≡ true → taken_there ≡ Gives (GoesOn d (beside bs u) b) → Replying (Gives (GoesOn d u a))
      goes_on d u a b stand is e =
          let bd = body p f known l owner in
          let j = piece_count p r l in
          ReplyGoes d u a (frame_at (piece_name f.called l) (point_at (suc k) left) b)
          (at_line (λ y. answered (trees q) (beside bs t) (record { frames = y ∷ driving pointer result frame ∷ []; arriving = None }) v ≡ Gives (Went (beside bs u) (record { frames = frame_at (piece_name f.called l) (point_at (suc k) left) b ∷ driving pointer result frame ∷ []; arriving = None })))
          (answer_goes q (piece_name f.called l) fn (driving pointer result frame ∷ []) (is_code p f known l owner) slots' (beside bs t) (line_path fn bd k here j x left line.line) here (line_scope fn bd k here j x left line.line (enter line.line.statement)) (Simple x)
          (line_found fn bd k here j x left line.line) None v d (beside bs u) b (point_at (suc k) left) e (line_next fn bd k here j x left line.line d refl refl)))
          (same_registers p r l slots a slots' b lower stands stand)
          (λ to i.
          behind p fine given bounds f known enough begins l owner shown lower pointer result frame n at has row (Plain x) true (row_puts p fine given bounds f known enough begins l owner shown lower pointer result frame n at has row (Does x ∷ goes at.node.yes) lines) refl refl a b stand bs u to
          (ap (λ h. (split_form p).code.goes f.called (InGraph l n) h) (sym is) ∙ i))

      replies_by : (u y : Answer Act) → OnlyGoes u → Meets (SameAct (Stays p) (StaysAs p) (InLocal p f known l owner) bs slots slots') u y → taken_there ≡ y → Replying u
      replies_by _ _ only (BothGive a b i) e = given_both a b i only e
        where
          given_both : (a b : Act) → SameAct (Stays p) (StaysAs p) (InLocal p f known l owner) bs slots slots' a b → OnlyGoes (Gives a) → taken_there ≡ Gives b → Replying (Gives a)
          given_both _ _ (BothGo d u a b _ _ changed) only e =
              let is = (only (GoesOn d u a) refl).2 in
              goes_on d u a b (changed_stand p f known l owner slots slots' a b lower changed stands) (cc) e
          given_both _ _ (BothEnter g g' vs _ _ _) only e = absurd (let i = (only _ refl).2 in cc)
          given_both _ _ (BothLeave u t _ _) only e = absurd (let i = (only _ refl).2 in cc)
          given_both _ _ (BothAsk rq _) only e = absurd (let i = (only _ refl).2 in cc)
      replies_by _ _ only (BothFault fault) e =
          let bd = body p f known l owner in
          let j = piece_count p r l in
          ReplyFaults fault
          (at_line (λ y. answered (trees q) (beside bs t) (record { frames = y ∷ driving pointer result frame ∷ []; arriving = None }) v ≡ Faults fault)
          (answer_faults q (piece_name f.called l) fn (driving pointer result frame ∷ []) (is_code p f known l owner) slots' (beside bs t) (line_path fn bd k here j x left line.line) here (line_scope fn bd k here j x left line.line (enter line.line.statement)) (Simple x)
          (line_found fn bd k here j x left line.line) None v fault e))
      replies_by _ _ only (Stuck y) e = ReplyStuck

      replies : (y : Found) → asking ((split_form p).code.stood f.called (InGraph l n)) ≡ Some y → Replying (arrives (context (split_form p) t (frame_of f.called (InGraph l n) slots)) y (Some v))
      replies y e =
          let is : Simple s ≡ y = asked_is (Simple s) y (ap asking (sym (stood_is p f known l owner n at slots slots' lower stands ∙ stood)) ∙ e) in
          subst (λ y. Replying (arrives (context (split_form p) t (frame_of f.called (InGraph l n) slots)) y (Some v))) is
          (subst (λ sc. Replying (arrives (Here_at p sc slots t) (Simple s) (Some v))) (sym (scope_is p f known l owner n at slots slots' lower stands))
          (replies_by taken taken_there (given_only (deliver (Here_at p sc slots t) to v)) taken_alike refl))

    -- ---- by what the source does

    asks_same : (a : Request) → calls_there ≡ Gives (AsksFor a) → frames_step (trees q) (beside bs w.store) None (piece ∷ driving pointer result frame ∷ []) ≡ Gives (Asks a)
    asks_same a e =
        let bd = body p f known l owner in
        let j = piece_count p r l in
        at_line (λ y. frames_step (trees q) (beside bs w.store) None (y ∷ driving pointer result frame ∷ []) ≡ Gives (Asks a))
        (statement_asks q (piece_name f.called l) fn (driving pointer result frame ∷ []) (is_code p f known l owner) slots' (beside bs w.store) (line_path fn bd k here j x left line.line) here (line_scope fn bd k here j x left line.line (enter line.line.statement)) (Simple x)
        (line_found fn bd k here j x left line.line) None a e)

    does : (u y : Answer Act) → Only IsRequest u → Meets (SameAct (Stays p) (StaysAs p) (InLocal p f known l owner) bs slots slots') u y → calls_there ≡ y → Doing u
    does _ _ only (BothGive a b i) e = given_both a b i only e
      where
        given_both : (a b : Act) → SameAct (Stays p) (StaysAs p) (InLocal p f known l owner) bs slots slots' a b → IsRequest a → calls_there ≡ Gives b → Doing (Gives a)
        given_both _ _ (BothGo d t us vs _ _ _) i e = absurd i
        given_both _ _ (BothEnter g g' vs _ _ _) i e = absurd i
        given_both _ _ (BothLeave v t _ _) i e = absurd i
        given_both _ _ (BothAsk a all) i e = Requests a i all (asks_same a e) (λ t v y after autos is_held asked. replies t v after autos is_held y asked)
    does _ _ only (BothFault fault) e =
        Breaks fault (piece_name f.called l) shown
        (record { steps = 0; grown = 0; last = _; leads = stay _; faults = first_fault p fine given bounds f known enough begins l owner shown lower pointer result frame n at has row x more left line (world_of w c) slots' (beside bs w.store) (Simple x) refl fault e }) begins (omega arith)
    does _ _ only (Stuck y) e = Sticks

    -- a call in place
    pub asks_there : (result' : Ty) → Doing (act (context (split_form p) w.store (frame_of f.called (InGraph l n) slots)) result' o ((split_form p).code.stood f.called (InGraph l n)))
    asks_there result' =
        subst Doing (sym (source_act p facts f known l owner n at slots slots' lower stands w result' o (AtStatement (Simple s)) stood))
        (does calls calls_there (placed_asks p h.names f.mode sc slots w.store to g es typed.0 its_manner typed.1) alike refl)
