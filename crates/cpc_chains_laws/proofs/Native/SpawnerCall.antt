-- The call of a spawner: its variables are registers that hold the arguments, each found by its name.
use Rattle.std.proofs.Common.{◌≡◌, ℕ, suc, ◌+◌, ◌≤◌, true, cond, List, [], ◌∷◌, ◌++◌, map, length, slice_get, Some, refl, sym, ◌∙◌, ap, subst, arith}
use Rattle.cpc_base.specs.Bytes.{Text}
use Rattle.cpc_store.specs.Store.{Value, Unset, Store}
use Rattle.cpc_tree.specs.Points.{locals_in, declared}
use Rattle.cpc_tree.specs.Registers.{as_variable, variables, addresses_in, addressed, parameter_scope, or_empty}
use Rattle.cpc_tree.specs.Syntax.{Ty, TyPointer, TyStruct, Expr, ENamed, Stmts, NoStmt, AndStmt, Variable, Parameter, Function, Program}
use Rattle.cpc_tree.specs.Typing.{Local, Scope, ALocal, named, field, parameter_type, parameter_types}
use Rattle.cpc_meaning.specs.Answer.{Gives}
use Rattle.cpc_meaning.specs.Eval.{Slot, Register, assigned}
use Rattle.cpc_meaning.specs.Requests.{arguments}
use Rattle.cpc_meaning.specs.Slots.{call_slots}
use Rattle.cpc_meaning.proofs.Functions.{text_same, gives_then}
use Rattle.cpc_convert_flat_laws.specs.Boxes.{AllRegisters, NoSlot, AndSlot}
use Rattle.cpc_chains_store_laws.specs.Driver.{head_fields, readies}
use Rattle.cpc_convert_flat_laws.specs.Flat.{before, are_flat}
use Rattle.cpc_convert_flat_laws.specs.Locals.{Save, Saving, saves_one, register_slots, Scalars, NoScalars, AndScalar}
use Rattle.cpc_convert_flat_laws.specs.Structs.{NotCalled, NotSo, ScalarFields, AndField, IsStruct}
use Rattle.cpc_convert_flat_laws.proofs.Fits.{assigned_fits}
use Rattle.cpc_chains_store_laws.proofs.Pieces.{registers_call, registers_unaddressed}
use Rattle.cpc_convert_flat_laws.proofs.Structs.{type_of}
use Rattle.cpc_convert_routines.specs.Given.{AllFit, NoneFit, OneFits, AllHold, NoneHold, OneHolds}
use Rattle.cpc_chains_event.specs.Lines.{save_of}
use Rattle.cpc_convert_routines.specs.Names.{start_name, frame_name, variable_name}
use Rattle.cpc_chains_event.specs.Pieces.{parameter_of, spawner_function}
use Rattle.cpc_convert_routines.specs.Routines.{variable_if, passed_from, passed}
use Rattle.cpc_chains_event.proofs.Fields.{Rising, NoneRises, OneRises, passed_length}
use Rattle.cpc_chains_event.proofs.Filling.{saving_from}
use Rattle.cpc_lifted_laws.specs.Accepted.Known.{AreScalar}
use Rattle.cpc_chains_laws.proofs.Native.SpawnerScope.{past}

-- ---- what is passed

-- then all are passed
types_passed : (k : ℕ) (ps : List Parameter) (rest : List Variable) → AreScalar (map parameter_type ps) → map type_of (passed_from k (length ps) (map as_variable ps ++ rest)) ≡ map parameter_type ps
types_passed k [] rest h = refl
types_passed k (x ∷ ps) rest h =
    ap (λ b. map type_of (variable_if b (record { called = variable_name k (or_empty x.called); type = x.type }) (passed_from (suc k) (length ps) (map as_variable ps ++ rest)))) h.0 ∙ ap (λ ts. x.type ∷ ts) (types_passed (suc k) ps rest h.1)

pub passed_types : (f : Function) → AreScalar (parameter_types f) → map type_of (passed f) ≡ parameter_types f
passed_types f h = types_passed 0 f.parameters _ h

types_taken : (xs : List Variable) → map parameter_type (map parameter_of xs) ≡ map type_of xs
types_taken [] = refl
types_taken (x ∷ xs) = ap (λ ts. x.type ∷ ts) (types_taken xs)

-- the spawner takes what the function does
pub spawner_takes : (f : Function) → AreScalar (parameter_types f) → parameter_types f ≡ parameter_types (spawner_function f)
spawner_takes f h = sym (types_taken (passed f) ∙ passed_types f h)

-- no more are passed than there are variables
pub passed_few : (f : Function) → length (passed f) ≤ length (variables f)
passed_few f = passed_length 0 (length f.parameters) (variables f)

-- ---- arguments

-- arguments that were converted fit
pub fit_all : (xs : List Variable) (us vs : List Value) → arguments (map type_of xs) us ≡ Gives vs → AllFit xs vs
fit_all [] [] vs e = let i : [] ≡ vs = cc in subst (AllFit []) i NoneFit
fit_all (x ∷ xs) (u ∷ us) vs e =
    let g = gives_then (assigned x.type u) _ vs e in
    let k = gives_then (arguments (map type_of xs) us) _ vs g.2 in
    let i : g.0 ∷ k.0 ≡ vs = let j = k.2 in cc in
    subst (AllFit (x ∷ xs)) i (OneFits x g.0 xs k.0 (assigned_fits x.type u g.0 g.1) (fit_all xs us k.0 k.1))
fit_all [] (u ∷ us) vs e = absurd (cc)
fit_all (x ∷ xs) [] vs e = absurd (cc)

-- one for each that is passed
pub same_number : (xs : List Variable) (vs : List Value) → AllFit xs vs → length (map Register vs) ≡ length (map parameter_of xs)
same_number _ _ NoneFit = refl
same_number _ _ (OneFits x v xs vs h more) = ap suc (same_number xs vs more)

pub all_registers : (vs : List Value) → AllRegisters (map Register vs ++ Register Unset ∷ [])
all_registers [] = AndSlot Unset [] NoSlot
all_registers (v ∷ vs) = AndSlot v _ (all_registers vs)

-- ---- its lines

-- what the lines that save have: they are flat, declare nothing and take no address
pub flat_saves : (e : Expr) (ps : List Save) (rest : Stmts) → are_flat rest ≡ true → are_flat (before (map (saves_one e) ps) rest) ≡ true
flat_saves e [] rest h = h
flat_saves e (p ∷ ps) rest h = flat_saves e ps rest h

locals_saves : (e : Expr) (ps : List Save) (rest : Stmts) → locals_in (before (map (saves_one e) ps) rest) ≡ locals_in rest
locals_saves e [] rest = refl
locals_saves e (p ∷ ps) rest = locals_saves e ps rest

addresses_saves : (scope : Scope) (x : Text) (n : ℕ) (ps : List Save) (rest : Stmts) → ((m : ℕ) → addresses_in scope m rest ≡ []) → addresses_in scope n (before (map (saves_one (ENamed x)) ps) rest) ≡ []
addresses_saves scope x n [] rest h = h n
addresses_saves scope x n (p ∷ ps) rest h = addresses_saves scope x (n + declared (saves_one (ENamed x) p)) ps rest h

module _ (f : Function) where
  abbrev pub g : Function
  g = spawner_function f

  -- its own variable
  abbrev pub own : Variable
  own = record { called = frame_name; type = TyPointer (TyStruct (start_name f.called)) }

  abbrev saves : List Save
  saves = map save_of (passed f)

  variables_are : variables g ≡ map as_variable (map parameter_of (passed f)) ++ own ∷ []
  variables_are = ap (λ ls. map as_variable (map parameter_of (passed f)) ++ own ∷ ls) (locals_saves (ENamed frame_name) saves (AndStmt (readies frame_name) NoStmt))

  takes_none : addressed g ≡ []
  takes_none = addresses_saves _ frame_name _ saves (AndStmt (readies frame_name) NoStmt) (λ m. refl)

  scalars_of : (low : ℕ) (xs : List Variable) → Rising low xs → Scalars (map as_variable (map parameter_of xs) ++ own ∷ [])
  scalars_of low _ (NoneRises _) = AndScalar own [] refl NoScalars
  scalars_of low _ (OneRises _ k x t vs l hk hx s r) = AndScalar _ _ s (scalars_of (suc k) vs r)

  slots_are : (xs : List Variable) (vs : List Value) → AllFit xs vs → register_slots (length (map as_variable (map parameter_of xs) ++ own ∷ [])) vs ≡ map Register vs ++ Register Unset ∷ []
  slots_are _ _ NoneFit = refl
  slots_are _ _ (OneFits x v xs vs h more) = ap (λ ss. Register v ∷ ss) (slots_are xs vs more)

  -- the call makes no block, and its registers hold the arguments
  pub spawner_called : (q : Program) (s : Store) (vs : List Value) → Rising 0 (passed f) → AllFit (passed f) vs → call_slots q g vs s ≡ Gives (map Register vs ++ Register Unset ∷ [], s)
  spawner_called q s vs rising fits =
      registers_call q g vs s (registers_unaddressed g 0 (variables g) takes_none (subst Scalars (sym variables_are) (scalars_of 0 (passed f) rising)))
      ∙ ap (λ ss. Gives (ss, s)) (ap (λ ys. register_slots (length ys) vs) variables_are ∙ slots_are (passed f) vs fits)

-- ---- what its variables hold

pub holds_all : (q : Program) (top : Local) (slots : List Slot) (k : ℕ) (xs : List Variable) (vs : List Value) (more : List Slot) (scope : Scope) → ScalarFields xs → NotCalled top.called xs → AllFit xs vs
    → ((i : ℕ) → slice_get slots (k + i) ≡ slice_get (map Register vs ++ more) i) → AllHold q (top ∷ parameter_scope k (map parameter_of xs) scope) slots xs vs
holds_all q top slots k _ _ more scope distinct apart NoneFit at = NoneHold
holds_all q top slots k _ _ more scope (AndField _ _ sc none distinct) (NotSo _ _ differs apart) (OneFits x v xs vs fit fits) at =
    let here : Local = record { called = x.called; type = x.type; slot = k } in
    OneHolds x v xs vs (record {
      slot = k;
      is_local = ap (λ b. cond b (ALocal top.slot top.type) (named q (parameter_scope (suc k) (map parameter_of xs) (here ∷ scope)) x.called)) differs
          ∙ (past q x.called (suc k) xs (here ∷ scope) none ∙ ap (λ b. cond b (ALocal k x.type) (named q scope x.called)) (text_same x.called));
      is_slot = ap (slice_get slots) (let z : k ≡ k + 0 = omega arith in z) ∙ at 0;
    }) fit (holds_all q top slots (suc k) xs vs more (here ∷ scope) distinct apart fits (λ i. ap (slice_get slots) (let z : suc k + i ≡ k + suc i = omega arith in z) ∙ at (suc i)))

-- they are saved in the fields of a frame behind its head
pub saves_all : (q : Program) (scope : Scope) (slots : List Slot) (tag : Text) (t : Ty) (xs : List Variable) (vs : List Value) → IsStruct q tag (head_fields t xs) → AllHold q scope slots xs vs → Saving q scope slots tag 3 (map save_of xs) vs
saves_all q scope slots tag t xs vs s all =
    saving_from q scope slots tag 3 xs vs (λ i x e. s.field (suc (suc (suc i))) x e ∙ ap (λ n. Some (n, x.type)) (let z : suc (suc (suc i)) ≡ 3 + i = omega arith in z)) all
