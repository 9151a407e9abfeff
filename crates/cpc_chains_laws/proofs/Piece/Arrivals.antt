-- Where the value of a cps statement arrives: the piece of its leader assigns it from a local, if it has a place.
use Rattle.std.proofs.Common.{◌≡◌, ℕ, ◌+◌, ◌<◌, ◌≤◌, true, false, List, ◌++◌, length, slice_get, Option, Some, None, refl, sym, ◌∙◌, ap, subst}
use Rattle.std.specs.List.{All}
use Rattle.cpc_base.specs.Bytes.{Text}
use Rattle.cpc_tree.specs.Points.{Found, Simple, Test, Nothing}
use Rattle.cpc_tree.specs.Registers.{variables}
use Rattle.cpc_tree.specs.Syntax.{Ty, Expr, ENamed, Assign, Call, Detach, Spawn, Function, Program}
use Rattle.cpc_tree.specs.Lists.{holds_number}
use Rattle.cpc_tree.specs.Typing.{Scope}
use Rattle.cpc_store.specs.Store.{Value, Blocks, Store}
use Rattle.cpc_meaning.specs.Act.{AtArrival, Act, GoesOn, act, assign, deliver, target_of}
use Rattle.cpc_meaning.specs.Agenda.{Agenda}
use Rattle.cpc_meaning.specs.Answer.{Answer, Gives, ◌>>=◌, needed}
use Rattle.cpc_meaning.specs.Eval.{Slot, Register, Context}
use Rattle.cpc_meaning.specs.Events.{Callback}
use Rattle.cpc_meaning.specs.Plain.{Frame as CallFrame, context}
use Rattle.cpc_meaning.specs.Start.{before_underscores}
use Rattle.cpc_meaning.specs.Threads.{shown_in}
use Rattle.cpc_meaning.specs.Ways.{AsCps}
use Rattle.cpc_convert_image_laws.specs.Held.{IsHeld, IsHeldSlot, IsHeldStore, BoxesLive}
use Rattle.cpc_convert_image_laws.specs.Images.{image}
use Rattle.cpc_convert_image_laws.specs.InPlace.{IsWritten, IsWrittenIf}
use Rattle.cpc_meaning.specs.Names.{AllNames, AllNamesIf}
use Rattle.cpc_convert_image_laws.specs.Stacks.{frame_of}
use Rattle.cpc_convert_image_laws.proofs.Live.{read_live}
use Rattle.cpc_convert_image_laws.proofs.Rows.{arrival_alike}
use Rattle.cpc_forms.specs.Flow.{Place, At}
use Rattle.cpc_forms.specs.Graph.{at_node}
use Rattle.cpc_forms.specs.Split.{Position, InGraph, split_form}
use Rattle.cpc_lift_laws.specs.Used.{used_place}
use Rattle.cpc_convert_flat_laws.specs.Locals.{at as Here_at}
use Rattle.cpc_convert_routines.specs.Arriving.{arriving_type}
use Rattle.cpc_chains_event.specs.Lines.{arrival_lines}
use Rattle.cpc_chains_event.specs.LocalLaws.{piece_locals}
use Rattle.cpc_convert_routines.specs.Named.{IsOwner}
use Rattle.cpc_convert_routines.specs.Names.{piece_name, value_name}
use Rattle.cpc_convert_routines.specs.Taken.{takes_stood, takes_value, has_place}
use Rattle.cpc_chains_event.specs.Pieces.{loaded, words_of, begun, called_so}
use Rattle.cpc_convert_routines.specs.Routines.{Routine, routine_of, locals_of, variable_if, readings_of}
use Rattle.cpc_convert_routines.specs.Nodes.{has_row}
use Rattle.cpc_lifted_laws.specs.Accepted.Known.{Stays}
use Rattle.cpc_lifted_laws.specs.Accepted.Points.{UsedName, FoundKnown, in_scope}
use Rattle.cpc_lifted_laws.specs.Related.Bounds.{Bounds}
use Rattle.cpc_chains_laws.proofs.Related.Inside.{Sticks}
use Rattle.cpc_chains_laws.proofs.Related.Relation.{Shared}
use Rattle.cpc_lifted_laws.specs.Native.Instance.{StaysAs}
use Rattle.cpc_lifted_laws.specs.Piece.Known.{CpsKnown}
use Rattle.cpc_chains_laws.specs.Piece.Known.{ProgramKnown}
use Rattle.cpc_chains_laws.specs.Piece.Rows.{RowAt}
use Rattle.cpc_chains_laws.specs.Piece.Stood.{NodeAt, LocalsStand, Arrives, NoneArrives, OneArrives}
use Rattle.cpc_chains_laws.proofs.Piece.Acting.{given_only, kept_here, source_act, lines_are}
use Rattle.cpc_chains_laws.proofs.Piece.Environment.{InLocal, Used, names_mean, scope_is}
use Rattle.cpc_chains_laws.proofs.Piece.Frames.{Target, scope}
use Rattle.cpc_chains_laws.proofs.Piece.Passes.{passes_there}
use Rattle.cpc_chains_laws.proofs.Piece.Rowed.{DoesHere, in_place}
use Rattle.cpc_chains_laws.proofs.Piece.Scopes.{meant}
use Rattle.cpc_chains_laws.proofs.Piece.Uses.{names_kept, use_kept, IsKept, stood_is}

-- the place for a value that arrives is known
place_known : (p : Program) (sc : Scope) (x : Found) (e : Expr) → target_of x ≡ Some (Some e) → FoundKnown p sc x → AllNames (UsedName p sc) e × ((slots : List Slot) (t : Store) → IsWritten (in_scope p sc slots t) e)
place_known p sc (Simple (Call to (ENamed y) es)) e i k = let same : to ≡ Some e = cc in (subst (AllNamesIf (UsedName p sc)) same (k.beside).0, λ slots t. subst (IsWrittenIf (in_scope p sc slots t)) same (k.written slots t))
place_known p sc (Simple (Call to f es)) e i k = let same : to ≡ Some e = cc in (subst (AllNamesIf (UsedName p sc)) same (k.beside).0, λ slots t. subst (IsWrittenIf (in_scope p sc slots t)) same (k.written slots t))
place_known p sc (Simple (Detach to f es)) e i k = let same : to ≡ Some e = cc in (subst (AllNamesIf (UsedName p sc)) same (k.beside).0, λ slots t. subst (IsWrittenIf (in_scope p sc slots t)) same (k.written slots t))
place_known p sc (Simple (Spawn f es)) e i k = absurd (cc)
place_known p sc (Simple s) e i k = absurd (cc)
place_known p sc (Test t) e i k = absurd (cc)
place_known p sc Nothing e i k = absurd (cc)

-- where the value that arrives stands among the locals
pub value_index : (p : Program) (r : Routine) (l : Place) → takes_value r l ≡ true → slice_get (piece_locals p r l) 3 ≡ Some (called_so value_name (arriving_type p r l))
value_index p r l takes = ap (λ b. slice_get (variable_if b (called_so value_name (arriving_type p r l)) (locals_of r (loaded r l) ++ (words_of p r l ++ locals_of r (begun r l)))) 0) takes

module _ (p : Program) (facts : ProgramKnown p) (fine : CallFrame Position → Option Value → Type 0) (given : Text → List Value → Type 0) (bounds : Bounds) (f : Function) (known : CpsKnown p f) (enough : 5 + length (variables f) ≤ bounds.onward) (begins : 0 < bounds.leads) (l : Place) (owner : IsOwner (routine_of p f) l)
    (shown : before_underscores (piece_name f.called l) ≡ shown_in p f.called) (lower pointer result frame : Value)
    (n : ℕ) (at : NodeAt p f l n) (has : has_row (routine_of p f).split n ≡ true) (row : RowAt p (routine_of p f) l n)
    (w : Shared) (bs : Blocks) (c : Agenda Callback) (slots slots' : List Slot) (stands : LocalsStand p (routine_of p f) l slots slots' lower)
    (store : IsHeldStore (Stays p) w.store) (held : All (IsHeldSlot (Stays p)) slots) (live : BoxesLive w.store slots)
    (x : Found) (stood : at.node.stood ≡ AtArrival x) where
  abbrev r : Routine
  r = routine_of p f

  abbrev Names : Text → Type 0
  Names = Used p f known l owner n at slots slots' lower stands

  abbrev There : Option Value → Ty → Type 0
  There o result' = DoesHere p fine given bounds f known enough begins l owner shown lower pointer result frame n at has row w bs c slots slots' o (act (context (split_form p) w.store (frame_of f.called (InGraph l n) slots)) result' o ((split_form p).code.stood f.called (InGraph l n)))

  abbrev ctx : Context
  ctx = Here_at p at.node.scope slots w.store

  -- what is done with a value, by its place
  abbrev with_target : Value → Option (Option Expr) → Answer Act
  with_target v t = needed t >>= λ y. deliver ctx y v >>= λ w. Gives (GoesOn true w.1 w.0)

  abbrev Doing : Option Value → Answer Act → Type 0
  Doing o u = DoesHere p fine given bounds f known enough begins l owner shown lower pointer result frame n at has row w bs c slots slots' o u

  -- where none arrives the source is stuck
  pub none_there : (result' : Ty) → There None result'
  none_there result' = subst (DoesHere p fine given bounds f known enough begins l owner shown lower pointer result frame n at has row w bs c slots slots' None) (sym (source_act p facts f known l owner n at slots slots' lower stands w result' None (AtArrival x) stood)) Sticks

  module _ (v : Value) (is_held : IsHeld (Stays p) v) (arrives : Arrives p r l n slots' (Some v)) (manner : at.node.manner ≡ AsCps) where
    taken : (e : Expr) → target_of x ≡ Some (Some e) → (i : ℕ) × (slice_get (piece_locals p r l) i ≡ Some (called_so value_name (arriving_type p r l))) × (slice_get slots' i ≡ Some (Register v))
    taken e is = by (Some v) refl arrives
      where
        takes : l ≡ At n → takes_value r l ≡ true
        takes same =
            ap (takes_value r) same
            ∙ (ap (at_node false (λ node. takes_stood node.manner node.stood)) at.is_node ∙ (ap (λ m. takes_stood m at.node.stood) manner ∙ (ap (takes_stood AsCps) stood ∙ ap has_place is)))

        by : (o : Option Value) → o ≡ Some v → Arrives p r l n slots' o → (i : ℕ) × (slice_get (piece_locals p r l) i ≡ Some (called_so value_name (arriving_type p r l))) × (slice_get slots' i ≡ Some (Register v))
        by _ i NoneArrives = absurd (cc)
        by _ i (OneArrives u same there) =
            let value : u ≡ v = cc in
            let index = value_index p r l (takes same) in
            (3, index, subst (λ z. slice_get slots' 3 ≡ Some (Register z)) value (there (takes same) 3 index))

    place_there : (e : Expr) → target_of x ≡ Some (Some e) → Doing (Some v) (assign ctx e v >>= λ w. Gives (GoesOn true w.1 w.0))
    place_there e is =
        let at_local = taken e is in
        let place = place_known p at.node.scope x e is
        (subst (λ sc. FoundKnown p sc x) (scope_is p f known l owner n at slots slots' lower stands) (facts.positions.arriving f.called f (InGraph l n) x known.found.named (stood_is p f known l owner n at slots slots' lower stands ∙ stood))) in
        let kept = kept_here p facts f known l owner n at slots slots' lower stands (AtArrival x) stood in
        in_place p fine given bounds f known enough begins l owner shown lower pointer result frame n at has row (Assign (image (readings_of r at.node.scope) e) None (ENamed value_name))
        (lines_are p facts f known l owner n at slots slots' lower stands at.node.manner (AtArrival x) refl stood ∙ ap (λ t. arrival_lines (readings_of r at.node.scope) t at.node.yes) is) refl refl refl refl refl w bs c slots slots' stands (Some v)
        (assign ctx e v >>= λ w. Gives (GoesOn true w.1 w.0)) (given_only (assign ctx e v))
        (arrival_alike (Stays p) (StaysAs p) (InLocal p f known l owner) p (Target p f known l owner) facts.common Names (readings_of r at.node.scope) at.node.scope (scope p f known l owner) slots slots' (names_mean p f known l owner n at slots slots' lower stands) w.store store held
        (λ y. read_live w.store slots (readings_of r at.node.scope y) live) bs e v value_name at_local.0 (arriving_type p r l) ((meant p f known l owner).meant (Target p f known l owner) at_local.0 (called_so value_name (arriving_type p r l)) at_local.1) at_local.2 (place.1 slots w.store)
        (names_kept (UsedName p at.node.scope) Names at.node.scope (IsKept p f known l owner n at slots slots' lower stands) (use_kept p f known l owner n at slots slots' lower stands) e place.0 (λ k h. kept k (ap (λ t. holds_number (used_place at.node.scope t) k) is ∙ h))) is_held)

    -- a value arrives
    pub one_there : (result' : Ty) → There (Some v) result'
    one_there result' =
        subst (DoesHere p fine given bounds f known enough begins l owner shown lower pointer result frame n at has row w bs c slots slots' (Some v)) (sym (source_act p facts f known l owner n at slots slots' lower stands w result' (Some v) (AtArrival x) stood))
        (go (target_of x) refl)
      where
        go : (t : Option (Option Expr)) → target_of x ≡ t → Doing (Some v) (with_target v (target_of x))
        go None e = subst (Doing (Some v)) (ap (with_target v) (sym e)) Sticks
        go (Some None) e =
            subst (Doing (Some v)) (ap (with_target v) (sym e))
            (passes_there p facts fine given bounds f known enough begins l owner shown lower pointer result frame n at has row w bs c slots slots' stands (Some v)
            (lines_are p facts f known l owner n at slots slots' lower stands at.node.manner (AtArrival x) refl stood ∙ ap (λ t. arrival_lines (readings_of r at.node.scope) t at.node.yes) e))
        go (Some (Some y)) e = subst (Doing (Some v)) (ap (with_target v) (sym e)) (place_there y e)
