-- Assignments and declarations in place: the piece assigns as the source does.
use Rattle.std.proofs.Common.{◌≡◌, ℕ, ◌+◌, ◌<◌, ◌≤◌, true, List, length, Option, Some, refl, sym, subst}
use Rattle.std.specs.List.{All}
use Rattle.cpc_base.specs.Bytes.{Text}
use Rattle.cpc_num.specs.declared.kinds.Op.{Op}
use Rattle.cpc_tree.specs.Points.{Simple}
use Rattle.cpc_tree.specs.Syntax.{Ty, Expr, ENamed, Declare, Assign, Function, Program}
use Rattle.cpc_store.specs.Store.{Value, Blocks}
use Rattle.cpc_meaning.specs.Act.{AtStatement, act, simple_act, right_side}
use Rattle.cpc_meaning.specs.Agenda.{Agenda}
use Rattle.cpc_meaning.specs.Eval.{Slot}
use Rattle.cpc_meaning.specs.Events.{Callback}
use Rattle.cpc_meaning.specs.Plain.{Frame as CallFrame, context}
use Rattle.cpc_meaning.specs.Start.{before_underscores}
use Rattle.cpc_meaning.specs.Threads.{shown_in}
use Rattle.cpc_meaning.specs.Ways.{InPlace}
use Rattle.cpc_convert_image_laws.specs.Held.{IsHeldSlot, IsHeldStore, BoxesLive}
use Rattle.cpc_convert_image_laws.specs.Images.{image_stmt}
use Rattle.cpc_convert_image_laws.specs.Stacks.{frame_of}
use Rattle.cpc_convert_image_laws.proofs.Live.{read_live}
use Rattle.cpc_convert_image_laws.proofs.Statements.{simple_alike}
use Rattle.cpc_forms.specs.Flow.{Place}
use Rattle.cpc_forms.specs.Split.{Position, InGraph, split_form}
use Rattle.cpc_tree.specs.Lists.{holds_number}
use Rattle.cpc_tree.specs.Registers.{slot_of, variables}
use Rattle.cpc_graph_laws.proofs.Formed.{in_left, in_right}
use Rattle.cpc_lift_laws.specs.Used.{used_in}
use Rattle.cpc_convert_flat_laws.specs.Locals.{at as Here_at}
use Rattle.cpc_convert_routines.specs.Named.{IsOwner}
use Rattle.cpc_convert_routines.specs.Names.{piece_name}
use Rattle.cpc_convert_routines.specs.Routines.{Routine, routine_of, readings_of}
use Rattle.cpc_convert_routines.specs.Nodes.{has_row}
use Rattle.cpc_lifted_laws.specs.Accepted.Known.{Stays}
use Rattle.cpc_lifted_laws.specs.Accepted.Points.{UsedName}
use Rattle.cpc_lifted_laws.specs.Related.Bounds.{Bounds}
use Rattle.cpc_chains_laws.proofs.Related.Relation.{Shared}
use Rattle.cpc_lifted_laws.specs.Native.Instance.{StaysAs}
use Rattle.cpc_lifted_laws.specs.Piece.Known.{CpsKnown}
use Rattle.cpc_chains_laws.specs.Piece.Known.{ProgramKnown}
use Rattle.cpc_chains_laws.specs.Piece.Rows.{RowAt}
use Rattle.cpc_chains_laws.specs.Piece.Stood.{NodeAt, LocalsStand}
use Rattle.cpc_chains_laws.proofs.Piece.Acting.{assigns_only, found_known, kept_here, source_act, lines_are}
use Rattle.cpc_chains_laws.proofs.Piece.Environment.{InLocal, Used, names_mean}
use Rattle.cpc_chains_laws.proofs.Piece.Frames.{Target, code, scope}
use Rattle.cpc_chains_laws.proofs.Piece.Rowed.{DoesHere, in_place}
use Rattle.cpc_chains_laws.proofs.Piece.Uses.{names_kept, use_kept, IsKept}

module _ (p : Program) (facts : ProgramKnown p) (fine : CallFrame Position → Option Value → Type 0) (given : Text → List Value → Type 0) (bounds : Bounds) (f : Function) (known : CpsKnown p f) (enough : 5 + length (variables f) ≤ bounds.onward) (begins : 0 < bounds.leads) (l : Place) (owner : IsOwner (routine_of p f) l)
    (shown : before_underscores (piece_name f.called l) ≡ shown_in p f.called) (lower pointer result frame : Value)
    (n : ℕ) (at : NodeAt p f l n) (has : has_row (routine_of p f).split n ≡ true) (row : RowAt p (routine_of p f) l n)
    (w : Shared) (bs : Blocks) (c : Agenda Callback) (slots slots' : List Slot) (stands : LocalsStand p (routine_of p f) l slots slots' lower) (o : Option Value)
    (store : IsHeldStore (Stays p) w.store) (held : All (IsHeldSlot (Stays p)) slots) (live : BoxesLive w.store slots) (manner : at.node.manner ≡ InPlace) where
  abbrev r : Routine
  r = routine_of p f

  abbrev Names : Text → Type 0
  Names = Used p f known l owner n at slots slots' lower stands

  more : (x : Text) → UsedName p at.node.scope x → ((k : ℕ) → holds_number (slot_of at.node.scope x) k ≡ true → IsKept p f known l owner n at slots slots' lower stands k) → Names x
  more = use_kept p f known l owner n at slots slots' lower stands

  abbrev There : Ty → Type 0
  There result' = DoesHere p fine given bounds f known enough begins l owner shown lower pointer result frame n at has row w bs c slots slots' o (act (context (split_form p) w.store (frame_of f.called (InGraph l n) slots)) result' o ((split_form p).code.stood f.called (InGraph l n)))

  -- an assignment
  pub assigns_there : (e : Expr) (op : Option Op) (v : Expr) → at.node.stood ≡ AtStatement (Simple (Assign e op v)) → (result' : Ty) → There result'
  assigns_there e op v stood result' =
      let s = Assign e op v in
      let known_here = found_known p facts f known l owner n at slots slots' lower stands (Simple s) stood in
      let kept = kept_here p facts f known l owner n at slots slots' lower stands (AtStatement (Simple s)) stood in
      let names = known_here.names tt in
      subst (DoesHere p fine given bounds f known enough begins l owner shown lower pointer result frame n at has row w bs c slots slots' o) (sym (source_act p facts f known l owner n at slots slots' lower stands w result' o (AtStatement (Simple s)) stood))
      (in_place p fine given bounds f known enough begins l owner shown lower pointer result frame n at has row (image_stmt (readings_of r at.node.scope) s)
      (lines_are p facts f known l owner n at slots slots' lower stands InPlace (AtStatement (Simple s)) manner stood) refl refl refl refl refl w bs c slots slots' stands o
      (simple_act (Here_at p at.node.scope slots w.store) result' s) (assigns_only (Here_at p at.node.scope slots w.store) e (right_side op e v))
      (simple_alike (Stays p) (StaysAs p) (InLocal p f known l owner) p (Target p f known l owner) facts.common Names (readings_of r at.node.scope) at.node.scope (scope p f known l owner) slots slots' (names_mean p f known l owner n at slots slots' lower stands) w.store store held (λ x. read_live w.store slots (readings_of r at.node.scope x) live) bs
      result' (code p f known l owner).result s (known_here.written slots w.store) (
        names_kept (UsedName p at.node.scope) Names at.node.scope (IsKept p f known l owner n at slots slots' lower stands) more e names.0 (λ k h. kept k (in_left k (used_in at.node.scope e) (used_in at.node.scope v) h)),
        names_kept (UsedName p at.node.scope) Names at.node.scope (IsKept p f known l owner n at slots slots' lower stands) more v names.1 (λ k h. kept k (in_right k (used_in at.node.scope e) (used_in at.node.scope v) h)),
      )))

  -- a declaration with a start
  pub declares_there : (x : Text) (t : Ty) (e : Expr) → at.node.stood ≡ AtStatement (Simple (Declare x t (Some e))) → (result' : Ty) → There result'
  declares_there x t e stood result' =
      let s = Declare x t (Some e) in
      let known_here = found_known p facts f known l owner n at slots slots' lower stands (Simple s) stood in
      let kept = kept_here p facts f known l owner n at slots slots' lower stands (AtStatement (Simple s)) stood in
      let names = known_here.names tt in
      subst (DoesHere p fine given bounds f known enough begins l owner shown lower pointer result frame n at has row w bs c slots slots' o) (sym (source_act p facts f known l owner n at slots slots' lower stands w result' o (AtStatement (Simple s)) stood))
      (in_place p fine given bounds f known enough begins l owner shown lower pointer result frame n at has row (image_stmt (readings_of r at.node.scope) s)
      (lines_are p facts f known l owner n at slots slots' lower stands InPlace (AtStatement (Simple s)) manner stood) refl refl refl refl refl w bs c slots slots' stands o
      (simple_act (Here_at p at.node.scope slots w.store) result' s) (assigns_only (Here_at p at.node.scope slots w.store) (ENamed x) e)
      (simple_alike (Stays p) (StaysAs p) (InLocal p f known l owner) p (Target p f known l owner) facts.common Names (readings_of r at.node.scope) at.node.scope (scope p f known l owner) slots slots' (names_mean p f known l owner n at slots slots' lower stands) w.store store held (λ x. read_live w.store slots (readings_of r at.node.scope x) live) bs
      result' (code p f known l owner).result s (known_here.written slots w.store) (
        more x names.0 (λ k h. kept k (in_left k (slot_of at.node.scope x) (used_in at.node.scope e) h)),
        names_kept (UsedName p at.node.scope) Names at.node.scope (IsKept p f known l owner n at slots slots' lower stands) more e names.1 (λ k h. kept k (in_right k (slot_of at.node.scope x) (used_in at.node.scope e) h)),
      )))
