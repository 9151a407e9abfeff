-- Pieces: they are called with registers alone, and they give a pointer to the driver, which goes on.
use Rattle.std.proofs.Common.{◌≡◌, ◌+◌, ◌≤◌, ℕ, zero, suc, true, not, ◌&&◌, List, [], ◌∷◌, ◌++◌, length, map, Some, refl, ◌∙◌, ap, arith}
use Rattle.cpc_base.specs.Bytes.{Text}
use Rattle.cpc_num.specs.declared.kinds.Kind.TheVariants.{Int}
use Rattle.cpc_tree.specs.Syntax.{TyInt, Expr, Return, Stmts, AndStmt, Variable, Function, Program}
use Rattle.cpc_tree.specs.Typing.{Scope, function_named, is_scalar}
use Rattle.cpc_tree.specs.Lists.{rest_of, holds_number}
use Rattle.cpc_tree.specs.Points.{Point, Simple}
use Rattle.cpc_tree.specs.Registers.{variables, addressed}
use Rattle.cpc_store.specs.declared.values.Class.TheVariants.{Frame}
use Rattle.cpc_store.specs.Store.{Value, Unset, Null, At, Store}
use Rattle.cpc_meaning.specs.Answer.{Gives}
use Rattle.cpc_meaning.specs.Eval.{Slot, Register, value, assigned}
use Rattle.cpc_meaning.specs.Agenda.{Due}
use Rattle.cpc_meaning.specs.Slots.{call_slots, make_slots, free_slots}
use Rattle.cpc_meaning.specs.Plain.{Frame as CallFrame}
use Rattle.cpc_meaning.specs.Events.{Callback, CallWith}
use Rattle.cpc_chains_store_laws.specs.Chains.{Saved, frame_cells, Top}
use Rattle.cpc_convert_flat_laws.specs.Flat.{LineAt}
use Rattle.cpc_convert_flat_laws.specs.Locals.{at, register_slots, AreRegisters, NoneAre, AndRegister, Scalars, NoScalars, AndScalar, blank}
use Rattle.cpc_meaning.proofs.Stores.{save_there}
use Rattle.cpc_meaning.proofs.Functions.{scalar_size, register_scalar}
use Rattle.cpc_store.proofs.CellLemmas.{store_cells-save}
use Rattle.cpc_meaning_laws.specs.Cell.Cells.{call_cells}
use Rattle.cpc_meaning_laws.proofs.Cell.Calls.{call_takes, leaving_gives_back}
use Rattle.cpc_convert_flat_laws.specs.Walks.{World, at_line, Rise, Walk, Finishes, running, idle}
use Rattle.cpc_chains_store_laws.specs.Driver.{drive_name, DriverFacts, with_round, driving, entered, patched, IsPiece}
use Rattle.cpc_convert_flat_laws.proofs.AtLine.{line_path, line_found, line_scope}
use Rattle.cpc_convert_flat_laws.proofs.Steps.{step_returns}
use Rattle.cpc_convert_flat_laws.proofs.Walks.{rise_one, rise_cons, level_cons, walk_one, walk_cons}
use Rattle.cpc_convert_flat_laws.proofs.Fits.{assigned_fits}
use Rattle.cpc_chains_store_laws.proofs.Chains.{chain_patched}
use Rattle.cpc_chains_store_laws.proofs.Driver.{drive_taken, drive_declares, drive_writes, drive_tests, drive_calls, drive_arrives, drive_stops, drive_ends}

-- ---- calls of functions whose variables are registers

make_registers : (q : Program) (f : Function) (n : ℕ) (xs : List Variable) (vs : List Value) (s : Store) → AreRegisters f n xs → make_slots q f n xs vs s ≡ Gives (register_slots (length xs) vs, s)
make_registers q f _ _ vs s (NoneAre n) = refl
make_registers q f _ _ vs s (AndRegister n x xs e more) =
    let size_is = scalar_size q x.type (register_scalar f n x e) in
    let others = make_registers q f (suc n) xs (rest_of vs) s more in
    simp (size_is, e, others) refl

-- a call makes no block, where all variables are registers
pub registers_call : (q : Program) (f : Function) (vs : List Value) (s : Store) → AreRegisters f 0 (variables f) → call_slots q f vs s ≡ Gives (register_slots (length (variables f)) vs, s)
registers_call q f vs s r = make_registers q f 0 (variables f) vs s r

-- scalar variables are registers where no address is taken
pub registers_unaddressed : (f : Function) (n : ℕ) (xs : List Variable) → addressed f ≡ [] → Scalars xs → AreRegisters f n xs
registers_unaddressed f n _ none NoScalars = NoneAre n
registers_unaddressed f n _ none (AndScalar x xs e more) =
    AndRegister n x xs (ap (λ ns. is_scalar x.type && not (holds_number ns n)) none ∙ ap (λ b. b && true) e) (registers_unaddressed f (suc n) xs none more)

pub blank_slots : (n : ℕ) → register_slots n [] ≡ blank n []
blank_slots zero = refl
blank_slots (suc n) = ap (λ xs. Register Unset ∷ xs) (blank_slots n)

-- and none is freed
pub free_registers : (vs : List Value) (more : List Slot) (s : Store) → free_slots (map Register vs ++ more) s ≡ free_slots more s
free_registers [] more s = refl
free_registers (v ∷ vs) more s = free_registers vs more s

pub free_blank : (n : ℕ) (more : List Slot) (s : Store) → free_slots (blank n more) s ≡ free_slots more s
free_blank zero more s = refl
free_blank (suc n) more s = free_blank n more s

-- ---- a piece gives a pointer

module _ (q : Program) (w : World) (fn : Text) (g : Function) (body : Stmts) (frame : CallFrame Point) (others : List (CallFrame Point)) (is_g : function_named q fn ≡ Some g) where
  -- `return e;`
  pub return_step : (k : ℕ) (scope : Scope) (n : ℕ) (rest : Stmts) (slots : List Slot) (s : Store) (e : Expr) (l : LineAt g body k scope n (Return (Some e)) rest) (u v : Value) (t : Store)
      → value (at q scope slots s) e ≡ Gives u → assigned g.result u ≡ Gives v → free_slots slots s ≡ Gives t
      → Walk q w.trace 1 (at_line w fn (frame ∷ others) k (AndStmt l.statement rest) slots s) (running w t (frame ∷ others) (Some v))
  return_step k scope n rest slots s e l u v t is_value is_assigned is_free =
      let x = Return (Some e) in
      let few = leaving_gives_back slots s t is_free in
      walk_one _ _
      (step_returns q w fn g (frame ∷ others) is_g slots s (line_path g body k scope n x rest l) scope (line_scope g body k scope n x rest l _) (Simple x) (line_found g body k scope n x rest l) v t frame others refl (simp (is_value, is_assigned, is_free) refl))
      (record { is_trace = refl; goes = refl; runs = refl })
      (omega (arith, few))

-- ---- the driver goes on

module _ (q : Program) (facts : DriverFacts q) (w : World) (s : Store) (f : Saved) (fs : List Saved) (b : ℕ) (next v : Value) (owned : List ℕ) (top : Top s.frames f fs b next v owned) (piece : Function) (is_piece : IsPiece q f.piece piece) where
  -- a callback is taken: the result is written to the frame, and its piece is entered
  pub drive_begins : (ds : List (Due Callback)) (x r : Value) → w.agenda.round ≡ record { item = CallWith drive_name (At Frame b 0); result = x } ∷ ds → assigned (TyInt Int) x ≡ Gives r
      → (slots : List Slot) (t : Store) → call_slots q piece (At Frame b 0 ∷ []) (patched s b f next r) ≡ Gives (slots, t)
      → Rise q w.trace 5 (3 + call_cells q piece) (idle w s) (entered q (with_round w ds) t piece slots (At Frame b 0) r (At Frame b 0))
  drive_begins ds x r is_round is_int slots t is_call =
      let w' = with_round w ds in
      let p = At Frame b 0 in
      let s' = patched s b f next r in
      let written = store_cells-save Frame b 2 r s s' (save_there Frame b 2 r s (frame_cells f next v) top.cells refl) in
      let taken = call_takes q piece (At Frame b 0 ∷ []) s' t slots is_call in
      rise_cons 4 3 (call_cells q piece) _ _ _ (rise_one 3 _ _ (drive_taken q facts w s ds p x r is_round is_int) (record { is_trace = refl; goes = refl; runs = refl }) (omega arith))
      (level_cons 3 (call_cells q piece) _ _ _ (rise_one 0 _ _ (drive_declares q facts w' s b r Unset) (record { is_trace = refl; goes = refl; runs = refl }) (omega arith))
      (level_cons 2 (call_cells q piece) _ _ _ (rise_one 0 _ _ (drive_writes q facts w' s p r r b (frame_cells f next v) top.cells (omega arith) (assigned_fits (TyInt Int) x r is_int)) (record { is_trace = refl; goes = refl; runs = refl }) (omega (arith, written)))
      (level_cons 1 (call_cells q piece) _ _ _ (rise_one 0 _ _ (drive_tests q facts w' s' p r b) (record { is_trace = refl; goes = refl; runs = refl }) (omega arith))
      (rise_one (call_cells q piece) _ _ (drive_calls q facts w' s' p r b (frame_cells f next r) f.piece piece slots t (chain_patched s.frames f fs b next v r owned top).cells refl is_piece.found is_piece.type is_call) (record { is_trace = refl; goes = refl; runs = refl }) (omega (arith, taken))))))

  -- a piece gave this frame: its piece is entered
  pub drive_goes_on : (p r k : Value) (slots : List Slot) (t : Store) → call_slots q piece (At Frame b 0 ∷ []) s ≡ Gives (slots, t)
      → Rise q w.trace 3 (call_cells q piece) (running w s (driving p r k ∷ []) (Some (At Frame b 0))) (entered q w t piece slots p r (At Frame b 0))
  drive_goes_on p r k slots t is_call =
      let taken = call_takes q piece (At Frame b 0 ∷ []) s t slots is_call in
      level_cons 2 (call_cells q piece) _ _ _ (rise_one 0 _ _ (drive_arrives q facts w s p r k (At Frame b 0) (At Frame b 0) refl) (record { is_trace = refl; goes = refl; runs = refl }) (omega arith))
      (level_cons 1 (call_cells q piece) _ _ _ (rise_one 0 _ _ (drive_tests q facts w s p r b) (record { is_trace = refl; goes = refl; runs = refl }) (omega arith))
      (rise_one (call_cells q piece) _ _ (drive_calls q facts w s p r b (frame_cells f next v) f.piece piece slots t top.cells refl is_piece.found is_piece.type is_call) (record { is_trace = refl; goes = refl; runs = refl }) (omega (arith, taken))))

-- a piece gave null: nothing runs
pub drive_finishes : (q : Program) (facts : DriverFacts q) (w : World) (s : Store) (p r k : Value) → Finishes q w.trace 2 (running w s (driving p r k ∷ []) (Some Null)) (idle w s)
drive_finishes q facts w s p r k = record {
  before = _;
  leads =
      walk_cons 1 _ _ _ (walk_one _ _ (drive_arrives q facts w s p r k Null Null refl) (record { is_trace = refl; goes = refl; runs = refl }) (omega arith))
      (walk_one _ _ (drive_stops q facts w s p r) (record { is_trace = refl; goes = refl; runs = refl }) (omega arith));
  last = drive_ends q facts w s p r Null;
}
