-- A value is written to the frame below, if there is one.
use Rattle.std.proofs.Common.{◌≡◌, ℕ, suc, List, [], pos, Some, None, refl, arith}
use Rattle.cpc_base.specs.Bytes.{Text}
use Rattle.cpc_num.specs.declared.kinds.Kind.TheVariants.{Int}
use Rattle.cpc_tree.specs.Syntax.{Ty, TyPointer, Expr, ENamed, EArrow, Assign, Stmts, AndStmt, Function, Program, TyStruct}
use Rattle.cpc_tree.specs.Typing.{Scope, function_named}
use Rattle.cpc_tree.specs.Points.{Point}
use Rattle.cpc_store.specs.declared.values.Class.{Class}
use Rattle.cpc_store.specs.declared.values.Class.TheVariants.{Frame}
use Rattle.cpc_store.specs.Store.{Value, Null, Whole, At, Store}
use Rattle.cpc_meaning.specs.Answer.{Gives}
use Rattle.cpc_meaning.specs.Eval.{Slot, value, assigned}
use Rattle.cpc_meaning.specs.Plain.{Frame as CallFrame}
use Rattle.cpc_chains_store_laws.specs.Chains.{Saved, frame_cells, Top}
use Rattle.cpc_convert_flat_laws.specs.Flat.{LineAt}
use Rattle.cpc_convert_flat_laws.specs.Locals.{Holds, at}
use Rattle.cpc_chains_store_laws.specs.Driver.{value_field, head_fields, is_set, patches, patched}
use Rattle.cpc_convert_flat_laws.specs.Walks.{World, Walk, at_line}
use Rattle.cpc_convert_flat_laws.specs.Structs.{IsStruct}
use Rattle.cpc_convert_flat_laws.proofs.Fields.{named_pointer, field_assign}
use Rattle.cpc_convert_flat_laws.proofs.Jumps.{fails_step, then_step}

-- ---- the frame below

pub set_true : (q : Program) (scope : Scope) (slots : List Slot) (s : Store) (x : Text) (t : Ty) (c : Class) (b i : ℕ) → Holds q scope slots x t (At c b i) → value (at q scope slots s) (is_set x) ≡ Gives (Whole Int (pos 1))
set_true q scope slots s x t c b i h = simp (h.is_local, h.is_slot) refl

pub set_false : (q : Program) (scope : Scope) (slots : List Slot) (s : Store) (x : Text) (t : Ty) → Holds q scope slots x t Null → value (at q scope slots s) (is_set x) ≡ Gives (Whole Int (pos 0))
set_false q scope slots s x t h = simp (h.is_local, h.is_slot) refl

module _ (q : Program) (w : World) (fn : Text) (g : Function) (body : Stmts) (below : List (CallFrame Point)) (is_g : function_named q fn ≡ Some g) (k : ℕ) (scope : Scope) (n : ℕ) (rest : Stmts) (slots : List Slot) (s : Store) where
  -- there is no frame below
  pub patch_none : (next : Text) (e : Expr) (l : LineAt g body k scope n (patches next e) rest) → (t : Ty) → Holds q scope slots next t Null
      → Walk q w.trace 1 (at_line w fn below k (AndStmt l.statement rest) slots s) (at_line w fn below (suc k) rest slots s)
  patch_none next e l t h = fails_step q w fn g body below is_g k scope n rest slots s (is_set next) _ l (Whole Int (pos 0)) (set_false q scope slots s next t h) refl

  -- a value is written to the frame below
  pub patch_frame : (next tag : Text) (e : Expr) (l : LineAt g body k scope n (patches next e) rest) → (u : Ty) (b : ℕ) → Holds q scope slots next (TyPointer (TyStruct tag)) (At Frame b 0) → IsStruct q tag (head_fields u [])
      → (f : Saved) (fs : List Saved) (lower old : Value) (owned : List ℕ) → Top s.frames f fs b lower old owned → (v v' : Value) → value (at q scope slots s) e ≡ Gives v → assigned u v ≡ Gives v'
      → Walk q w.trace 2 (at_line w fn below k (AndStmt l.statement rest) slots s) (at_line w fn below (suc k) rest slots (patched s b f lower v'))
  patch_frame next tag e l u b h struct f fs lower old owned top v v' is_value fits =
      let points = named_pointer q scope slots s next tag b h in
      let a = field_assign q scope slots s (ENamed next) tag b points (frame_cells f lower old) top.cells value_field 2 u (struct.field 2 _ refl) v v' (omega arith) fits in
      then_step q w fn g body below is_g k scope n rest slots s (is_set next) (Assign (EArrow (ENamed next) value_field) None e) l (Whole Int (pos 1)) (set_true q scope slots s next (TyPointer (TyStruct tag)) Frame b 0 h) refl refl
      (patched s b f lower v') slots (simp (is_value, a) refl)
