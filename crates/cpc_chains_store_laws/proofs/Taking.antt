-- A frame is taken up: its fields are loaded into locals, one declaration for each.
use Rattle.std.proofs.Common.{◌≡◌, ℕ, zero, suc, ◌+◌, false, cond, List, [], ◌∷◌, ◌++◌, length, map, slice_get, slice_set, bytes_eq, Some, refl, sym, ◌∙◌, ap, subst, arith}
use Rattle.cpc_base.specs.Bytes.{Text}
use Rattle.cpc_base.proofs.Lists.{append_empty}
use Rattle.cpc_tree.specs.Syntax.{Ty, TyPointer, TyStruct, Expr, ENamed, EArrow, Declare, Stmts, AndStmt, Function, Program}
use Rattle.cpc_tree.specs.Typing.{Scope, ALocal, named, function_named}
use Rattle.cpc_tree.specs.Points.{Point}
use Rattle.cpc_store.specs.declared.values.Class.TheVariants.{Frame}
use Rattle.cpc_store.specs.Store.{Value, Unset, At, Store, cells_of}
use Rattle.cpc_meaning.specs.Answer.{Gives}
use Rattle.cpc_meaning.specs.Eval.{Slot, Register, value, assigned}
use Rattle.cpc_meaning.specs.Plain.{Frame as CallFrame}
use Rattle.cpc_meaning.proofs.Functions.{text_same}
use Rattle.cpc_convert_flat_laws.specs.Flat.{before, Stands}
use Rattle.cpc_convert_flat_laws.specs.Walks.{World, at_line, Rise}
use Rattle.cpc_convert_flat_laws.specs.Locals.{at, Load, loads_one, Holds, Loading, NoLoading, AndLoading, loaded_scope, blank}
use Rattle.cpc_convert_flat_laws.proofs.Fields.{named_pointer, field_value}
use Rattle.cpc_convert_flat_laws.proofs.Asking.{local_assign}
use Rattle.cpc_convert_flat_laws.proofs.Walks.{stay, level_cons}
use Rattle.cpc_convert_flat_laws.proofs.Flat.{passed}
use Rattle.cpc_convert_flat_laws.proofs.LineSteps.{declare_step}

-- ---- slots

pub get_front : (done more : List Slot) (i : ℕ) (x : Slot) → slice_get done i ≡ Some x → slice_get (done ++ more) i ≡ Some x
get_front [] more i x e = absurd (cc)
get_front (y ∷ done) more zero x e = e
get_front (y ∷ done) more (suc i) x e = get_front done more i x e

pub get_next : (done more : List Slot) (x : Slot) → slice_get (done ++ x ∷ more) (length done) ≡ Some x
get_next [] more x = refl
get_next (y ∷ done) more x = get_next done more x

pub set_next : (done more : List Slot) (x y : Slot) → slice_set (done ++ x ∷ more) (length done) y ≡ (done ++ y ∷ []) ++ more
set_next [] more x y = refl
set_next (z ∷ done) more x y = ap (λ xs. z ∷ xs) (set_next done more x y)

pub slots_one : (done more : List Slot) (x : Slot) → (done ++ x ∷ []) ++ more ≡ done ++ x ∷ more
slots_one [] more x = refl
slots_one (y ∷ done) more x = ap (λ xs. y ∷ xs) (slots_one done more x)

pub slots_length : (done : List Slot) (x : Slot) → length (done ++ x ∷ []) ≡ suc (length done)
slots_length [] x = refl
slots_length (y ∷ done) x = ap suc (slots_length done x)

-- a name is not hidden by a variable of another name
pub not_hidden : (q : Program) (scope : Scope) (x e : Text) (t u : Ty) (n i : ℕ) → bytes_eq x e ≡ false → named q scope e ≡ ALocal i u → named q (record { called = x; type = t; slot = n } ∷ scope) e ≡ ALocal i u
not_hidden q scope x e t u n i d is = ap (λ b. cond b (ALocal n t) (named q scope e)) d ∙ is

-- ---- loads

module _ (q : Program) (w : World) (fn : Text) (g : Function) (body : Stmts) (below : List (CallFrame Point)) (is_g : function_named q fn ≡ Some g) (s : Store) where
  -- a local that begins with a value is declared, in the first slot that is blank
  pub local_step : (k : ℕ) (scope : Scope) (n : ℕ) (rest : Stmts) (done more : List Slot) (x : Text) (t : Ty) (e : Expr) (u v : Value) → length done ≡ n → Stands g body k scope n (AndStmt (Declare x t (Some e)) rest)
      → value (at q (record { called = x; type = t; slot = n } ∷ scope) (done ++ Register Unset ∷ more) s) e ≡ Gives u → assigned t u ≡ Gives v
      → Rise q w.trace 1 0 (at_line w fn below k (AndStmt (Declare x t (Some e)) rest) (done ++ Register Unset ∷ more) s) (at_line w fn below (suc k) rest ((done ++ Register v ∷ []) ++ more) s)
  local_step k scope n rest done more x t e u v len st is_value fits =
      let slots = done ++ Register Unset ∷ more in
      let inner : Scope = record { called = x; type = t; slot = n } ∷ scope in
      let h : Holds q inner slots x t Unset = record {
        slot = length done;
        is_local = ap (λ b. cond b (ALocal n t) (named q scope x)) (text_same x) ∙ ap (λ m. ALocal m t) (sym len);
        is_slot = get_next done more (Register Unset);
      } in
      let a = local_assign q inner slots s x t Unset u v h fits in
      declare_step q w fn g body below is_g k scope n rest slots s x t e st u _ s is_value (a ∙ ap (λ xs. Gives (xs, s)) (set_next done more (Register Unset) (Register v)))

  -- as many steps as there are fields
  pub loads_walk : (tag e : Text) (b : ℕ) (cells : List Value) → cells_of Frame b s ≡ Some cells → (k : ℕ) (scope : Scope) (n : ℕ) (rest : Stmts) (done more : List Slot) (i : ℕ) (ls : List Load) (vs : List Value)
      → length done ≡ n → named q scope e ≡ ALocal i (TyPointer (TyStruct tag)) → slice_get done i ≡ Some (Register (At Frame b 0)) → Loading q tag e cells ls vs
      → Stands g body k scope n (before (map (loads_one e) ls) rest)
      → Rise q w.trace (length ls) 0 (at_line w fn below k (before (map (loads_one e) ls) rest) (done ++ blank (length ls) more) s)
      (at_line w fn below (k + length ls) rest ((done ++ map Register vs) ++ more) s)
  loads_walk tag e b cells live k scope n rest done more i _ _ len is_e is_slot NoLoading st =
      let start = at_line w fn below k rest (done ++ more) s in
      subst (λ xs. Rise q w.trace 0 0 start (at_line w fn below (k + 0) rest (xs ++ more) s)) (sym (append_empty done))
      (subst (λ j. Rise q w.trace 0 0 start (at_line w fn below j rest (done ++ more) s)) (let z : k ≡ k + 0 = omega arith in z) (stay _))
  loads_walk tag e b cells live k scope n rest done more i _ _ len is_e is_slot (AndLoading l t j v ls vs apart is_field sc is_cell fits fits' others) st =
      let left = before (map (loads_one e) ls) rest in
      let inner : Scope = record { called = l.variable; type = l.type; slot = n } ∷ scope in
      let slots = done ++ Register Unset ∷ blank (length ls) more in
      let is_e' = not_hidden q scope l.variable e l.type (TyPointer (TyStruct tag)) n i apart is_e in
      let h : Holds q inner slots e (TyPointer (TyStruct tag)) (At Frame b 0) = record { slot = i; is_local = is_e'; is_slot = get_front done _ i (Register (At Frame b 0)) is_slot } in
      let points = named_pointer q inner slots s e tag b h in
      let is_value = field_value q inner slots s (ENamed e) tag b points cells live l.field j t is_field v sc is_cell fits in
      let first = local_step k scope n left done (blank (length ls) more) l.variable l.type (EArrow (ENamed e) l.field) v v len st is_value fits' in
      let st' = passed g body k scope n (loads_one e l) left st in
      let st1 : Stands g body (suc k) inner (suc n) left = subst (λ m. Stands g body (suc k) inner m left) (let z : n + 1 ≡ suc n = omega arith in z) st' in
      let done' = done ++ Register v ∷ [] in
      let more' = loads_walk tag e b cells live (suc k) inner (suc n) rest done' more i ls vs (slots_length done (Register v) ∙ ap suc len) is_e' (get_front done (Register v ∷ []) i (Register (At Frame b 0)) is_slot) others st1 in
      let start = at_line w fn below k (AndStmt (loads_one e l) left) slots s in
      subst (λ xs. Rise q w.trace (suc (length ls)) 0 start (at_line w fn below (k + suc (length ls)) rest (xs ++ more) s)) (slots_one done (map Register vs) (Register v))
      (subst (λ j. Rise q w.trace (suc (length ls)) 0 start (at_line w fn below j rest ((done' ++ map Register vs) ++ more) s)) (let z : suc k + length ls ≡ k + suc (length ls) = omega arith in z)
      (level_cons (length ls) 0 _ _ _ first more'))

-- ---- what holds behind the loads

-- the position behind them
pub past_loads : (g : Function) (body : Stmts) (e : Text) (k : ℕ) (scope : Scope) (n : ℕ) (rest : Stmts) (ls : List Load) → Stands g body k scope n (before (map (loads_one e) ls) rest)
    → Stands g body (k + length ls) (loaded_scope scope n ls) (n + length ls) rest
past_loads g body e k scope n rest [] st =
    subst (λ m. Stands g body (k + 0) scope m rest) (let z : n ≡ n + 0 = omega arith in z) (subst (λ j. Stands g body j scope n rest) (let z : k ≡ k + 0 = omega arith in z) st)
past_loads g body e k scope n rest (l ∷ ls) st =
    let inner : Scope = record { called = l.variable; type = l.type; slot = n } ∷ scope in
    let left = before (map (loads_one e) ls) rest in
    let st1 : Stands g body (suc k) inner (suc n) left = subst (λ m. Stands g body (suc k) inner m left) (let z : n + 1 ≡ suc n = omega arith in z) (passed g body k scope n (loads_one e l) left st) in
    let st2 = past_loads g body e (suc k) inner (suc n) rest ls st1 in
    subst (λ m. Stands g body (k + suc (length ls)) (loaded_scope inner (suc n) ls) m rest) (let z : suc n + length ls ≡ n + suc (length ls) = omega arith in z)
    (subst (λ j. Stands g body j (loaded_scope inner (suc n) ls) (suc n + length ls) rest) (let z : suc k + length ls ≡ k + suc (length ls) = omega arith in z) st2)
