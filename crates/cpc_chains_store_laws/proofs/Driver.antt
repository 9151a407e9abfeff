-- The driver step by step: from a callback to the piece of its frame, and from what a piece gives to the next one, or to nothing.
use Rattle.std.proofs.Common.{◌≡◌, ℕ, ◌<◌, true, List, [], ◌∷◌, length, slice_get, slice_set, Some, None, refl, ap}
use Rattle.cpc_base.specs.Bytes.{Text}
use Rattle.cpc_num.specs.declared.kinds.Kind.TheVariants.{Int}
use Rattle.cpc_tree.specs.Syntax.{Ty, TyInt, TyPointer, TyStruct, Expr, EArrow, Exprs, NoExpr, AndExpr, Function, Program}
use Rattle.cpc_tree.specs.Typing.{Scope, used, code_parameters, function_named, field, same_type, function_type, parameter_types}
use Rattle.cpc_tree.specs.Points.{Nth, Point, Arrival, End, Simple}
use Rattle.cpc_tree.specs.Points as P
use Rattle.cpc_tree.specs.Registers.{scope_in_function}
use Rattle.cpc_store.specs.declared.values.Class.TheVariants.{Frame}
use Rattle.cpc_store.specs.Store.{Value, Unset, Null, At, Code, Store, blocks, with_blocks, cells_of}
use Rattle.cpc_meaning.specs.Answer.{Gives}
use Rattle.cpc_meaning.specs.Eval.{Slot, Context, and_then, value, values, used_type, assigned}
use Rattle.cpc_meaning.specs.Act.{Enters, calls_value, callee}
use Rattle.cpc_meaning.specs.Requests.{arguments}
use Rattle.cpc_meaning.specs.Agenda.{Due}
use Rattle.cpc_meaning.specs.Slots.{call_slots}
use Rattle.cpc_meaning.specs.Trees.{first_point}
use Rattle.cpc_meaning.specs.Machine.{next}
use Rattle.cpc_meaning.specs.Events.{Callback, CallWith, callbacks}
use Rattle.cpc_convert_flat_laws.specs.Locals.{PointsTo, at}
use Rattle.cpc_convert_flat_laws.specs.Walks.{World, running, idle, frame_at, in_function}
use Rattle.cpc_chains_store_laws.specs.Driver.{drive_name, frame_tag, code_field, value_field, piece_type, taken_name, taken, takes_up, drive_function, drive_slots, drive_test, drive_call, DriverFacts, with_round}
use Rattle.cpc_convert_flat_laws.proofs.Fields.{named_pointer, field_value, field_typed, field_assign}
use Rattle.cpc_convert_flat_laws.proofs.Steps.{step_enters}

-- a call of a value
pub call_enters : (c : Context) (e : Expr) (es : Exprs) (v : Value) (t : Ty) (vs ws : List Value) (f : Function) → value c e ≡ Gives v → used_type c e ≡ Some t → values c es ≡ Gives vs
    → arguments (code_parameters t) vs ≡ Gives ws → callee c.program t v ≡ Gives f → calls_value c e es ≡ Gives (Enters f ws)
call_enters c e es v t vs ws f is_value is_type are_values are_arguments is_callee = simp (is_value, is_type, are_values, are_arguments, is_callee) refl

module _ (q : Program) (facts : DriverFacts q) where
  code_there : field q frame_tag code_field ≡ Some (0, piece_type)
  code_there = facts.struct.field 0 _ refl

  value_there : field q frame_tag value_field ≡ Some (2, TyInt Int)
  value_there = facts.struct.field 2 _ refl

  abbrev test_scope : Scope
  test_scope = scope_in_function drive_function drive_test

  -- the frame that the driver has taken, as a pointer
  frame_pointer : (p r : Value) (b : ℕ) (s : Store) → PointsTo q test_scope (drive_slots p r (At Frame b 0)) s taken frame_tag b
  frame_pointer p r b s = named_pointer q test_scope (drive_slots p r (At Frame b 0)) s taken_name frame_tag b (record { slot = 2; is_local = refl; is_slot = refl })

  -- its code
  frame_code : (p r : Value) (b : ℕ) (s : Store) (cells : List Value) (piece : Text) → cells_of Frame b s ≡ Some cells → slice_get cells 0 ≡ Some (Code piece)
      → value (at q test_scope (drive_slots p r (At Frame b 0)) s) (EArrow taken code_field) ≡ Gives (Code piece)
  frame_code p r b s cells piece live is_code =
      field_value q test_scope (drive_slots p r (At Frame b 0)) s taken frame_tag b (frame_pointer p r b s) cells live code_field 0 piece_type code_there (Code piece) refl is_code refl

  module _ (w : World) (s : Store) where
    -- the callback is taken
    pub drive_taken : (ds : List (Due Callback)) (p v r : Value) → w.agenda.round ≡ record { item = CallWith drive_name p; result = v } ∷ ds → assigned (TyInt Int) v ≡ Gives r
        → next (callbacks q) (idle w s) ≡ Some (in_function (with_round w ds) drive_name [] (P.Here (Nth 0 ∷ [])) (drive_slots p r Unset) s)
    drive_taken ds p v r is_round is_int = simp (is_round, is_int, facts.function) refl

    -- `struct frame__ *f__ = k__;`
    pub drive_declares : (b : ℕ) (r u : Value) → next (callbacks q) (in_function w drive_name [] (P.Here (Nth 0 ∷ [])) (drive_slots (At Frame b 0) r u) s)
        ≡ Some (in_function w drive_name [] (P.Here (Nth 1 ∷ [])) (drive_slots (At Frame b 0) r (At Frame b 0)) s)
    drive_declares b r u = simp (facts.function) refl

    -- `f__->value__ = r__;`
    pub drive_writes : (p r r' : Value) (b : ℕ) (cells : List Value) → cells_of Frame b s ≡ Some cells → 2 < length cells → assigned (TyInt Int) r ≡ Gives r'
        → next (callbacks q) (in_function w drive_name [] (P.Here (Nth 1 ∷ [])) (drive_slots p r (At Frame b 0)) s)
        ≡ Some (in_function w drive_name [] (P.Here drive_test) (drive_slots p r (At Frame b 0)) (with_blocks Frame (slice_set (blocks Frame s) b (Some (slice_set cells 2 r'))) s))
    drive_writes p r r' b cells live inside fits =
        let a = field_assign q test_scope (drive_slots p r (At Frame b 0)) s taken frame_tag b (frame_pointer p r b s) cells live value_field 2 (TyInt Int) value_there r r' inside fits in
        simp (facts.function, a) refl

    -- `f__ != 0`
    pub drive_tests : (p r : Value) (b : ℕ) → next (callbacks q) (in_function w drive_name [] (P.Here drive_test) (drive_slots p r (At Frame b 0)) s)
        ≡ Some (in_function w drive_name [] (P.Here drive_call) (drive_slots p r (At Frame b 0)) s)
    drive_tests p r b = simp (facts.function) refl

    pub drive_stops : (p r : Value) → next (callbacks q) (in_function w drive_name [] (P.Here drive_test) (drive_slots p r Null) s)
        ≡ Some (in_function w drive_name [] End (drive_slots p r Null) s)
    drive_stops p r = simp (facts.function) refl

    -- `f__ = f__->code__(f__);`
    pub drive_calls : (p r : Value) (b : ℕ) (cells : List Value) (piece : Text) (f : Function) (entered : List Slot) (t : Store) → cells_of Frame b s ≡ Some cells → slice_get cells 0 ≡ Some (Code piece)
        → function_named q piece ≡ Some f → same_type piece_type (function_type f.result (parameter_types f)) ≡ true → call_slots q f (At Frame b 0 ∷ []) s ≡ Gives (entered, t)
        → next (callbacks q) (in_function w drive_name [] (P.Here drive_call) (drive_slots p r (At Frame b 0)) s)
        ≡ Some (running w t (frame_at f.called (first_point (function_named q f.called)) entered ∷ frame_at drive_name (Arrival drive_call) (drive_slots p r (At Frame b 0)) ∷ []) None)
    drive_calls p r b cells piece f entered t live is_code is_f is_piece is_call =
        let c = frame_code p r b s cells piece live is_code in
        let ty = field_typed q test_scope (drive_slots p r (At Frame b 0)) s taken frame_tag b (frame_pointer p r b s) cells live code_field 0 piece_type code_there in
        let used_as : used_type (at q test_scope (drive_slots p r (At Frame b 0)) s) (EArrow taken code_field) ≡ Some piece_type = ap (λ o. and_then o used) ty in
        let called : callee q piece_type (Code piece) ≡ Gives f = simp (is_f, is_piece) refl in
        step_enters q w drive_name drive_function [] facts.function (drive_slots p r (At Frame b 0)) s drive_call test_scope refl (Simple takes_up) refl f (At Frame b 0 ∷ []) t entered
        (call_enters (at q test_scope (drive_slots p r (At Frame b 0)) s) (EArrow taken code_field) (AndExpr taken NoExpr) (Code piece) piece_type (At Frame b 0 ∷ []) (At Frame b 0 ∷ []) f c used_as refl refl called) is_call

    -- what a piece gives arrives
    pub drive_arrives : (p r f v v' : Value) → assigned (TyPointer (TyStruct frame_tag)) v ≡ Gives v' → next (callbacks q) (running w s (frame_at drive_name (Arrival drive_call) (drive_slots p r f) ∷ []) (Some v))
        ≡ Some (in_function w drive_name [] (P.Here drive_test) (drive_slots p r v') s)
    drive_arrives p r f v v' fits = simp (facts.function, fits) refl

    -- the end
    pub drive_ends : (p r f : Value) → next (callbacks q) (in_function w drive_name [] End (drive_slots p r f) s) ≡ Some (idle w s)
    drive_ends p r f = simp (facts.function) refl
